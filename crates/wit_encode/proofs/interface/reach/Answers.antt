use Rattle.std.proofs.Common.{rules, ◌≡◌, refl, sym, ap, ◌∙◌, ◌&&◌, true, Option, Some, None}
use Rattle.std.proofs.lemmas.Option.{slice_get_read}
use Rattle.wit_model.specs.{Lookup.type_at, Text.optional_text}
use Rattle.wit_model.specs.declared.model.TypeDef.{TypeDef}
use Rattle.encode_types.specs.{Known.known_slot, Room.fits_type_name}
use Rattle.std.specs.Option.{option_map_or}
use Rattle.comp_bytes.specs.{Held.fits_added, Fits.fits_length, Fits.fits_given}
use Rattle.wit_encode.specs.Instance.{around_at}
use Rattle.wit_encode.proofs.Importing.{source-listed, source-alias, made-slot, made-reaches}
use Rattle.wit_encode.proofs.interface.reach.Goals.{After-index, After-make_alias}
use Rattle.base_lemmas.proofs.Options.{some_is}
use Rattle.wit_encode.proofs.interface.reach.Goals as goal

pub unreachable-requires : goal.unreachable-requires
unreachable-requires c = source-listed c.args.resolve.now (around_at c.args.outer.now c.args.foreign.now) c.args.interface.0 c.args.id.0 c.requires.source
    (sym c.instance_around.ensures ∙ c.in_default.is)

there : (c : After-index) → type_at c.args.resolve.now c.args.id.0 ≡ Some c.index.result.now
there c = slice_get_read _ _ _ _ refl c.requires.in_range c.index.ensures

pub unreachable-requires-in_default-name : goal.unreachable-requires-in_default-name
unreachable-requires-in_default-name c =
    let same = some_is c.index.result.now c.requires.source.def (sym (there (goal.at.unreachable-requires-in_default-name c).After-index) ∙ c.requires.source.there) in
    c.in_default-name.not-Some c.requires.source.name (ap (λ (d : TypeDef). d.name) same ∙ c.requires.source.named_)

first : (c : After-make_alias) → known_slot c.args.foreign.now.known.entries c.args.id.0 ≡ None
first c = sym c.slot_around.ensures ∙ c.in-None.is

pub returns-in-Some-name : goal.returns-in-Some-name
returns-in-Some-name c =
    let is-alias = source-alias c.args.resolve.now (around_at c.args.outer.now c.args.foreign.now) c.args.interface.0 c.in-Some-instance_around.instance c.args.id c.index.result.now
    c.in-Some-name.name c.deref.result.now c.requires.source (slice_get_read _ _ _ _ refl c.requires.in_range c.index.ensures) c.in-Some-name.is c.deref.ensures
    (sym c.instance_around.ensures ∙ c.in-Some-instance_around.is) (first c) in
    record {
      slot = made-slot c.make_alias.result c.args.resolve.now c.args.outer.now c.make_alias.new.outer c.args.foreign.now c.make_alias.new.known c.args.id c.in-Some-instance_around.instance
          c.deref.result.now (first (goal.at.returns-in-Some-name c).After-make_alias) c.make_alias.ensures.ok c.make_alias.ensures.listed;
      reaches = made-reaches c.make_alias.result c.args.resolve.now c.args.outer.now c.make_alias.new.outer c.args.foreign.now c.make_alias.new.known c.args.id c.in-Some-instance_around.instance
          c.deref.result.now is-alias c.make_alias.ensures.made c.make_alias.ensures.listed c.make_alias.ensures.err c.make_alias.ensures.same;
      err = search rules;
      size = λ h.
          let def = there (goal.at.returns-in-Some-name c).After-index in
          let named : fits_type_name c.args.resolve.now c.args.id.0 ≡ fits_length c.deref.result.now =
          ap (λ (o : Option TypeDef). option_map_or (λ d. fits_given (optional_text d.name)) o true) def ∙ ap (λ n. fits_given (optional_text n)) c.in-Some-name.is ∙ ap fits_length
          (sym c.deref.ensures) in
          ap (λ b. b && fits_added c.make_alias.new.outer 1) named ∙ c.make_alias.ensures.size h;
      refuses = search rules;
    }
