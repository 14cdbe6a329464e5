use Rattle.std.proofs.Common.{inl, sym, ap, ◌∙◌, subst, arith, Option, Some, rules, refl}
use Rattle.std.proofs.lemmas.Option.{slice_get_within}
use Rattle.wit_encode.{proofs.Placed.inside-called, proofs.BytesWritten.imported-more, proofs.BytesWritten.when-ok}
use Rattle.wit_encode.proofs.Importing.{import-refused, imported, imported-stands, import-source, none-outside}
use Rattle.wit_encode.proofs.Refusing.{alias-inside, alias-outside, held-inside, on-size, kept-inside}
use Rattle.wit_encode.specs.declared.interface.OpenInterface.{OpenInterface}
use Rattle.encode_types.specs.{Scope.IsImportable, Known.Around, Known.GrowsAround, Known.ReachesAround}
use Rattle.wit_encode.specs.Instance.{defined_in, definitions_with, encoder_scope, scope_with, inner_contents, place_in, around_at, around_of}
use Rattle.encode_types.proofs.Around.{reaches-grows}
use Rattle.base_lemmas.proofs.Options.{at_err}
use Rattle.wit_encode.proofs.interface.InstanceEncoderOfTypeEncodingMapsValtypeEncoder.import_type.Goals as goal

pub reach-requires-clause-in_range : goal.reach-requires-clause-in_range
reach-requires-clause-in_range c = slice_get_within c.args.self.now.resolve.now.types.items c.args.id.0 c.requires.def c.requires.there

pub reach-requires-clause-source : goal.reach-requires-clause-source
reach-requires-clause-source c = import-source c.args.self.now.resolve.now c.args.self.now.outer c.args.self.now.inner c.in-Some.current c.in-Some.is c.args.interface.0 c.args.id.0 c.requires

pub unreachable-requires : goal.unreachable-requires
unreachable-requires c = none-outside c.args.self.now.resolve.now c.args.self.now.outer c.args.interface.0 c.args.id.0
    (subst (λ (o : Option OpenInterface). IsImportable (encoder_scope c.args.self.now.resolve.now c.args.self.now.outer o) c.args.interface.0 c.args.id.0) c.in-None.is c.requires)

pub returns : goal.returns
returns c =
    let e₀ = c.args.self.now in let inner = c.alias_inside.new.inner in let around = around_at c.reach.new.outer c.reach.new.foreign in
    let imports = imported c.alias_inside.result e₀.resolve.now e₀.outer c.reach.new.outer e₀.inner c.in-Some.current c.reach.new.foreign inner c.in-Some.is c.args.interface.0 c.args.id
    c.in_ok-slot-in-Some.slot c.requires c.reach.ensures.reaches c.in_ok-slot-in-Some.ensures.slot c.alias_inside.ensures.ok c.alias_inside.ensures.err in
    record {
      ok = imported-stands c.alias_inside.result e₀.resolve.now e₀.outer c.reach.new.outer e₀.inner c.in-Some.current c.reach.new.foreign inner c.in-Some.is c.args.id.0 imports;
      grows =
          let g = imports.grows in
          record {
            kept = g.kept;
            more = g.more;
            around_ = subst (λ (o : Option OpenInterface). GrowsAround e₀.resolve.now (around_of e₀.outer o) around) (sym c.in-Some.is) (reaches-grows c.reach.ensures.reaches);
            own_ = inside-called c.alias_inside.result e₀.inner c.in-Some.current (record { interface = c.in-Some.current.interface; declared = inner; foreign = c.reach.new.foreign }) _ c.in-Some.is
                refl c.alias_inside.ensures.ok c.alias_inside.ensures.err;
          };
      reaches = subst (λ (o : Option OpenInterface). ReachesAround e₀.resolve.now c.args.id (around_of e₀.outer o) around) (sym c.in-Some.is) c.reach.ensures.reaches;
      imports = record { each = λ n h. inl h };
      scope_stays = imports.scope_stays;
      maps_stay = search rules;
      counts = imports.counted;
      err = import-refused c.alias_inside.result e₀.resolve.now e₀.outer c.reach.new.outer e₀.inner c.in-Some.current c.reach.new.foreign inner c.in-Some.is c.args.interface.0 c.args.id
          c.in_ok-slot-in-Some.slot c.requires c.reach.ensures.reaches c.in_ok-slot-in-Some.ensures.slot c.alias_inside.ensures.err;
      held = held-inside e₀.outer e₀.inner c.in-Some.current inner c.in-Some.is c.alias_inside.ensures.held;
      written = when-ok c.alias_inside.result _ _ (λ i made def at. record {
        extent = imported-more (around_at e₀.outer c.in-Some.current.foreign) around e₀.inner c.in-Some.current inner c.in_ok-slot-in-Some.slot def c.reach.ensures.reaches at c.in-Some.is made.1;
      }) c.alias_inside.ensures.ok;
      size = λ h. record {
        lacks = inl (alias-inside e₀.resolve.now inner c.args.id.0 c.in_ok-slot-in-Some.slot (c.alias_inside.ensures.size h));
        held = kept-inside e₀.outer e₀.inner c.in-Some.current inner c.in-Some.is (on-size c.alias_inside.result _ c.alias_inside.ensures.err h);
      };
      refuses = search rules;
    }

pub returns-in_err-slot-in-Some : goal.returns-in_err-slot-in-Some
returns-in_err-slot-in-Some c = record {
  ok = search rules;
  grows = search rules;
  reaches = subst (λ (o : Option OpenInterface). ReachesAround c.args.self.now.resolve.now c.args.id (around_of c.args.self.now.outer o) (around_at c.reach.new.outer c.reach.new.foreign))
      (sym c.in-Some.is) c.reach.ensures.reaches;
  imports = record { each = λ n h. inl h };
  scope_stays = ap (λ (z : Around). scope_with c.args.self.now.resolve.now (Some c.in-Some.current.interface) z
      (inner_contents (place_in c.args.self.now.resolve.now (Some c.in-Some.current.interface)) z.declared c.in-Some.current.declared)) c.in_err-slot-in-Some.ensures.err
      ∙ ap (encoder_scope c.args.self.now.resolve.now c.args.self.now.outer) (sym c.in-Some.is);
  maps_stay = search rules;
  counts = search rules;
  err = at_err _ (ap (λ (z : Around). definitions_with (inner_contents (place_in c.args.self.now.resolve.now (Some c.in-Some.current.interface)) z.declared c.in-Some.current.declared))
      c.in_err-slot-in-Some.ensures.err
      ∙ ap (defined_in c.args.self.now.resolve.now c.args.self.now.outer) (sym c.in-Some.is));
  held = held-inside c.args.self.now.outer c.args.self.now.inner c.in-Some.current c.in-Some.current.declared c.in-Some.is (omega arith);
  written = search rules;
  size = λ h. record {
    lacks = alias-outside c.args.self.now.resolve.now c.reach.new.outer (Some (record c.in-Some.current { foreign = c.reach.new.foreign })) c.args.id.0 (c.reach.ensures.size (search rules));
    held = kept-inside c.args.self.now.outer c.args.self.now.inner c.in-Some.current c.in-Some.current.declared c.in-Some.is refl;
  };
  refuses = search rules;
}
