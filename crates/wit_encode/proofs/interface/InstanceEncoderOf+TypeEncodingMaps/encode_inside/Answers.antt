use Rattle.std.proofs.Common.{◌≡◌, sym, subst, ap, ◌∙◌, ◌++◌, ◌∷◌, [], List, map, Option, Some, rules, refl, length}
use Rattle.wit_model.specs.declared.model.Function.{Function}
use Rattle.encode_types.specs.declared.maps.TypeEncodingMaps.{TypeEncodingMaps}
use Rattle.wit_encode.specs.declared.interface.OpenInterface.{OpenInterface}
use Rattle.encode_types.specs.{Fits.CanEncode, Maps.MapsAgree, Distinct.AddsFunctions, Aliases.AliasesMet, MetKinds.referred}
use Rattle.wit_encode.specs.Instance.{Contents, SlotsStand, stands_inside, encoder_scope, contents_of, definitions_with, CanEncodeFunction, Continues, placed_function, meaning_of, exports_in, opened, own_of, around_of, around_at}
use Rattle.wit_encode.specs.{Encoders.declared_inside, Places.StandInOrder}
use Rattle.wit_encode.proofs.{Referring.interface-kinds, Counting.Began, Counting.Counted, Counting.closed-counts, Counting.declares-few, Refusing.no-room, Opening.closed, Opening.closed-instance, Opening.listed-there, Opening.opened-exports, Opening.opened-with, BytesWritten.taken}
use Rattle.wit_encode.proofs.interface.InstanceEncoderOf+TypeEncodingMaps.encode_inside.Goals.{After-new-2, In-Some, In_ok-outcome-in-Some}
use Rattle.base_lemmas.proofs.Bools.{left_of as first_true}
use Rattle.wit_model.specs.declared.model.«Type».TheVariants as ty
use Rattle.wit_encode.proofs.interface.InstanceEncoderOf+TypeEncodingMaps.encode_inside.Goals as goal

begun : (c : After-new-2)
    → ◌≡◌ {A = Option OpenInterface} (Some (record { interface = c.args.interface; declared = c.new-2.result; foreign = c.replace-foreign.result })) (opened c.args.interface c.args.self.now.foreign)
begun c = opened-with c.args.interface c.new-2.result c.replace-foreign.result c.args.self.now.foreign c.new-2.ensures c.replace-foreign.ensures.value

pub encode_parts-outcome-requires-clause-types : goal.encode_parts-outcome-requires-clause-types
encode_parts-outcome-requires-clause-types c = λ t h. subst (λ (o : Option OpenInterface). CanEncode c.args.self.now.resolve.now (encoder_scope c.args.self.now.resolve.now c.args.self.now.outer o)
    (ty.Id t ∷ [])) (sym (begun (goal.at.encode_parts-outcome-requires-clause-types c).After-new-2)) (c.requires.types t h)

pub encode_parts-outcome-requires-clause-functions : goal.encode_parts-outcome-requires-clause-functions
encode_parts-outcome-requires-clause-functions c = λ f h. subst (λ (o : Option OpenInterface). CanEncodeFunction c.args.self.now.resolve.now
    (encoder_scope c.args.self.now.resolve.now c.args.self.now.outer o) f.2.now) (sym (begun (goal.at.encode_parts-outcome-requires-clause-functions c).After-new-2)) (c.requires.functions f h)

continued : (c : In-Some)
    → Continues c.args.self.now.resolve.now c.args.self.now.resolve.now c.args.self.now.outer c.encode_parts-outcome.new.self.outer (opened c.args.interface c.args.self.now.foreign)
    c.encode_parts-outcome.new.self.inner c.replace-saved.new.dest c.encode_parts-outcome.new.self.maps
continued c =
    let after = c.encode_parts-outcome.new.self in
    subst (λ (o : Option OpenInterface). Continues c.args.self.now.resolve.now c.args.self.now.resolve.now c.args.self.now.outer after.outer o after.inner c.replace-saved.new.dest after.maps)
    (opened-with c.args.interface c.new-2.result c.replace-foreign.result c.args.self.now.foreign c.new-2.ensures c.replace-foreign.ensures.value) c.encode_parts-outcome.ensures.continues.continues

around-grown : (c : In-Some)
    → AliasesMet c.args.self.now.resolve.now (Some c.args.interface) (referred c.args.types.now (map (λ f. f.2.now) c.args.functions.now)) (around_at c.args.self.now.outer c.args.self.now.foreign)
    (around_at c.encode_parts-outcome.new.self.outer c.in-Some.current.foreign)
around-grown c =
    let after = c.encode_parts-outcome.new.self in
    let ts = referred c.args.types.now (map (λ f. f.2.now) c.args.functions.now) in
    subst (λ (o : Option OpenInterface). AliasesMet c.args.self.now.resolve.now (Some c.args.interface) ts (around_at c.args.self.now.outer c.args.self.now.foreign) (around_of after.outer o))
    (sym c.replace-inner.ensures.value ∙ c.in-Some.is)
    (subst (λ (o : Option OpenInterface). AliasesMet c.args.self.now.resolve.now (own_of o) ts (around_of c.args.self.now.outer o) (around_of after.outer after.inner))
    (opened-with c.args.interface c.new-2.result c.replace-foreign.result c.args.self.now.foreign c.new-2.ensures c.replace-foreign.ensures.value) c.encode_parts-outcome.ensures.aliases)

began : (c : In-Some) → Began c.replace-saved.new.dest
began c =
    let same = c.replace-saved.ensures.after in
    record {
      numbers = ap (λ (m : TypeEncodingMaps). m.id_to_index.entries) same ∙ c.new.ensures.ids;
      kinds = ap (λ (m : TypeEncodingMaps). m.def_to_index.entries) same ∙ c.new.ensures.kinds;
      keys = ap (λ (m : TypeEncodingMaps). m.func_type_map.entries) same ∙ c.new.ensures.functions;
    }

counted : (c : In_ok-outcome-in-Some) → Began c.replace-saved.new.dest
    → Continues c.args.self.now.resolve.now c.args.self.now.resolve.now c.args.self.now.outer c.encode_parts-outcome.new.self.outer (opened c.args.interface c.args.self.now.foreign)
    c.encode_parts-outcome.new.self.inner c.replace-saved.new.dest c.encode_parts-outcome.new.self.maps
    → Counted c.args.self.now.resolve.now c.args.interface (stands_inside c.args.self.now.resolve.now c.args.interface c.encode_parts-outcome.new.self.outer c.in-Some.current.declared)
    c.encode_parts-outcome.new.self.maps (map (λ f. f.2.now) c.args.functions.now) c.args.types.now c.in-Some.current.declared
counted c new continues =
    let start = c.args.self.now.outer in let own = c.args.interface in let is = sym c.replace-inner.ensures.value ∙ c.in-Some.is in let first = c.replace-saved.new.dest in
    let known = c.args.self.now.foreign in let more = c.in_ok-outcome-in-Some.ensures in let ts = c.args.types.now in let r = c.args.self.now.resolve.now in
    let after = c.encode_parts-outcome.new.self in
    let fs : List Function = map (λ f. f.2.now) c.args.functions.now in
    let there = closed r start after.outer own known after.inner c.in-Some.current _ _ is c.encode_parts-outcome.ensures.continues.inside continues in
    closed-counts r c.requires.valid start after.outer own known after.inner c.in-Some.current _ _ fs ts is new
    (interface-kinds r _ (Some own) first after.maps _ _ ts fs new more.counts more.learns more.known c.encode_parts-outcome.ensures.continues.continues.agree.once c.requires.valid)
    (subst (λ (o : Option OpenInterface). AddsFunctions r (encoder_scope r start o) first after.maps (definitions_with (contents_of r start o))
    (definitions_with (contents_of r after.outer after.inner)) fs) (opened-with own c.new-2.result c.replace-foreign.result known c.new-2.ensures c.replace-foreign.ensures.value) more.counts)
    (subst (λ (z : Contents). MapsAgree r after.maps (SlotsStand z.slots)) there.at continues.agree) (first_true _ _ there.sound) more.defined

pub returns : goal.returns
returns c =
    let r = c.args.self.now.resolve.now in let start = c.args.self.now.outer in let own = c.args.interface in let is = sym c.replace-inner.ensures.value ∙ c.in-Some.is in
    let first = c.replace-saved.new.dest in let ts = c.args.types.now in let after = c.encode_parts-outcome.new.self in
    let new = began (goal.at.returns c).In-Some in
    let continues = continued (goal.at.returns c).In-Some in
    let made = counted c new continues in
    record {
      closed = search rules;
      resolve = search rules;
      reaches = around-grown (goal.at.returns c).In-Some;
      maps = search rules;
      ok =
          let shows = subst (λ (o : Option OpenInterface). (contents_of r after.outer after.inner).shown.functions ≡ (contents_of r start o).shown.functions
          ++ map (λ f. meaning_of r (placed_function f)) c.args.functions.now) (begun (goal.at.returns c).After-new-2) c.in_ok-outcome-in-Some.ensures.shows in
          closed-instance r c.requires.valid start after.outer own c.requires.listed.def (listed-there r own ts c.requires.listed) c.args.self.now.foreign after.inner c.in-Some.current _ _ _ is
          c.encode_parts-outcome.ensures.continues.inside continues shows c.in_ok-outcome-in-Some.ensures.exported;
      function_types = made.keys;
      value_types = made.types;
      few = declares-few r own ts c.args.functions.now first after.maps after.outer after.inner c.new-2.result c.in-Some.current new c.new-2.ensures is
          c.in_ok-outcome-in-Some.ensures.learns.only c.in_ok-outcome-in-Some.ensures.held made.known;
      places = subst (λ (o : Option OpenInterface). StandInOrder (declared_inside o)) is (c.in_ok-outcome-in-Some.ensures.places c.new-2.ensures);
      written = taken r own _ _ first after.maps start after.outer after.inner c.new-2.result c.in-Some.current new.numbers c.new-2.ensures is
          c.encode_parts-outcome.ensures.continues.continues.agree.once c.in_ok-outcome-in-Some.ensures.learns.only c.in_ok-outcome-in-Some.ensures.written.extent;
      size = search rules;
      refuses = search rules;
    }

pub returns-in_err-outcome-in-Some-clause-reaches : goal.returns-in_err-outcome-in-Some-clause-reaches
returns-in_err-outcome-in-Some-clause-reaches c = around-grown (goal.at.returns-in_err-outcome-in-Some-clause-reaches c).In-Some

pub encode_parts-outcome-requires-clause-begins : goal.encode_parts-outcome-requires-clause-begins
encode_parts-outcome-requires-clause-begins c = record {
  packages_ = search rules;
  agree = search rules;
  valid = c.requires.valid;
  listed = search rules;
  fresh = search rules;
  unshown = subst (λ (o : Option OpenInterface). exports_in c.args.self.now.resolve.now c.args.self.now.outer o ≡ []) (sym (begun (goal.at.encode_parts-outcome-requires-clause-begins c).After-new-2))
      (opened-exports c.args.self.now.resolve.now c.args.self.now.outer c.args.interface c.args.self.now.foreign);
}

pub returns-in_err-outcome-in-Some-clause-size : goal.returns-in_err-outcome-in-Some-clause-size
returns-in_err-outcome-in-Some-clause-size c = λ h.
    let after = c.encode_parts-outcome.new.self in
    no-room after.outer after.inner refl (ap length c.new-2.ensures) (began (goal.at.returns-in_err-outcome-in-Some-clause-size c).In-Some).keys c.encode_parts-outcome.ensures.continues.packages_
    (λ full. record {
      after = around_at c.encode_parts-outcome.new.self.outer c.in-Some.current.foreign;
      grown = around-grown (goal.at.returns-in_err-outcome-in-Some-clause-size c).In-Some;
      full = full;
    }) (c.encode_parts-outcome.ensures.size (search rules))
