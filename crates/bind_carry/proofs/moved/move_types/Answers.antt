use Rattle.std.proofs.Common.{arith, ◌≡◌, ◌<◌, ◌≤◌, ◌+◌, ◌∙◌, sym, ap, subst, suc, drop, get_or, length, ◌∷◌, slice_get}
use Rattle.std.proofs.lemmas.List.{drop_all, drop_more}
use Rattle.std.specs.Vec.Iter.{into_iter_items}
use Rattle.bind_carry.specs.{Moved.AreMovedSoFar, Fates.copied_types, Fates.IsCopiedType}
use Rattle.bind_carry.proofs.{Counting.types_counted, Moving.fate_moved, Moving.fate_room, Moving.no_types, Moving.all_moved, Moving.none_moved}
use Rattle.bind_carry.specs.declared.fate.Fate.TheVariants as fate
use Rattle.bind_carry.proofs.moved.move_types.Goals as goal

pub loop-def-init : goal.loop-def-init
loop-def-init c =
    let fates = c.args.fates.now in
    let defs = c.args.defs.items in
    let few = types_counted defs fates c.requires.count in
    let room = c.requires.room in
    let all : into_iter_items c.into_iter-def-iterator.result ≡ defs = c.into_iter-def-iterator.ensures.into_iter_gives.0 in
    let long = ap length all in
    record {
      left = omega (arith, long);
      moved = subst (λ l. AreMovedSoFar (IsCopiedType c.args.types.now) (copied_types defs fates) (copied_types l fates) c.args.places.now c.args.places.now 0) (sym all)
          (none_moved (IsCopiedType c.args.types.now) (copied_types defs fates) c.args.places.now (omega (arith, few, room)));
      below = λ n d at. c.requires.below n d (ap (λ l. slice_get l n) (sym all) ∙ at);
    }

pub move_one-place-requires-clause-below : goal.move_one-place-requires-clause-below
move_one-place-requires-clause-below c = c.loop-def.invariant.below 0 c.in-Some.def (ap (λ is. slice_get is 0) c.in-Some.ensures.steps.0)

pub move_one-place-requires-clause-room : goal.move_one-place-requires-clause-room
move_one-place-requires-clause-room c is =
    let fates = c.args.fates.now in
    let n = c.loop-def.number in
    let f = get_or fates n fate.Left in
    let ns = into_iter_items c.next.new.self in
    let all = c.loop-def.invariant.left in
    let long = ap length c.in-Some.ensures.steps.0 in
    let count = c.requires.count in
    let within : n < length fates = omega (arith, all, long, count) in
    let at_fate : drop n fates ≡ f ∷ drop (n + 1) fates = drop_more fates n fate.Left within in
    fate_room c.args.types.now (copied_types c.args.defs.items fates) (drop (n + 1) fates) c.in-Some.def ns _ c.args.places.now c.loop-def.places c.loop-def.place f
    (λ i. copied_types (c.in-Some.ensures.steps.0 i) (at_fate i)) is c.loop-def.invariant.moved

pub loop-def-preserved : goal.loop-def-preserved
loop-def-preserved c =
    let fates = c.args.fates.now in
    let n = c.loop-def.number in
    let f = get_or fates n fate.Left in
    let ns = into_iter_items c.next.new.self in
    let step : into_iter_items c.loop-def.def-iterator ≡ c.in-Some.def ∷ ns = c.in-Some.ensures.steps.0 in
    let all = c.loop-def.invariant.left in
    let long = ap length step in
    let count = c.requires.count in
    let within : n < length fates = omega (arith, all, long, count) in
    let at_fate : drop n fates ≡ f ∷ drop (n + 1) fates = drop_more fates n fate.Left within in
    record {
      left = omega (arith, all, long);
      moved = fate_moved c.args.types.now (copied_types c.args.defs.items fates) (drop (n + 1) fates) c.in-Some.def ns _ c.args.places.now c.loop-def.places c.loop-def.place f
          c.move_one-place.new.places c.move_one-place.result (λ i. copied_types (step i) (at_fate i)) c.move_one-place.ensures c.loop-def.invariant.moved;
      below = λ m d at. c.loop-def.invariant.below (suc m) d (ap (λ is. slice_get is (suc m)) step ∙ at);
    }

pub returns : goal.returns
returns c =
    let fates = c.args.fates.now in
    let n = c.loop-def.number in
    let all = c.loop-def.invariant.left in
    let it = c.loop-def.def-iterator in
    let long : length (into_iter_items it) ≡ 0 = sym it.rest.ok.0 ∙ c.in-None.ensures.steps.0 in
    let count = c.requires.count in
    let past : length fates ≤ n = omega (arith, all, long, count) in
    all_moved (IsCopiedType c.args.types.now) (copied_types c.args.defs.items fates) _ c.args.places.now c.loop-def.places c.loop-def.place
    (no_types (into_iter_items it) (drop n fates) (drop_all n fates past)) c.loop-def.invariant.moved
