use Rattle.std.proofs.Common.{◌≡◌, sym, subst, ◌∙◌, ℕ, ◌++◌, ◌∷◌, [], false, Some, arith, List, length, take, get_or}
use Rattle.std.proofs.lemmas.List.{take_more, length-take}
use Rattle.std.specs.{Option.is_some, BTreeMap.get, BTreeMap.Updates, Ordering.nat_cmp}
use Rattle.wit_model.specs.declared.model.TypeId.{TypeId}
use Rattle.wit_encode.specs.Order.{ArePlaces}
use Rattle.wit_encode.proofs.Ordering.{places-same, places-more}
use Rattle.wit_encode.proofs.order.places_of.Goals.{then-not-contains_key+in_ok-insert, else-not-contains_key}
use Rattle.wit_encode.proofs.order.places_of.Goals as goal

pub loop-place-preserved : goal.loop-place-preserved
loop-place-preserved c =
    let t : TypeId = get_or c.args.types.now c.loop-place.place (record { 0 = 0 }) in
    subst (λ (ts : List TypeId). ArePlaces ts c.if-not-contains_key.places) (sym (take_more c.args.types.now c.loop-place.place (record { 0 = 0 }) c.loop-place-test.true))
    (elim c.if-not-contains_key.branch [
      | then-not-contains_key+in_ok-insert w ↦
          let lacks : is_some (get nat_cmp c.loop-place.places t.0) ≡ false = sym c.contains_key.ensures ∙ w.if-not-contains_key.true in
          let n : c.loop-place.place ≡ length (take c.loop-place.place c.args.types.now) = let l = c.loop-place-test.true in omega (arith, length-take {A = TypeId}) in
          subst (ArePlaces (take c.loop-place.place c.args.types.now ++ t ∷ [])) (sym w.places-is)
          (places-more (take c.loop-place.place c.args.types.now) c.loop-place.places t c.loop-place.invariant w.insert.new.self lacks
          (subst (λ (k : ℕ). Updates nat_cmp c.loop-place.places w.insert.new.self t.0 (Some k)) n w.in_ok-insert.ensures.updates))
      | else-not-contains_key w ↦ subst (ArePlaces (take c.loop-place.place c.args.types.now ++ t ∷ [])) (sym w.places-is)
          (places-same (take c.loop-place.place c.args.types.now) c.loop-place.places t c.loop-place.invariant (sym c.contains_key.ensures ∙ w.if-not-contains_key.false))
    ])
