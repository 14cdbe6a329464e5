use Rattle.std.proofs.Common.{arith, ◌≡◌, ◌<◌, ◌≤◌, ◌+◌, ◌∙◌, sym, ap, subst, suc, Bool, drop, length, ◌∷◌, slice_get}
use Rattle.std.proofs.lemmas.List.{drop_all, drop_more}
use Rattle.std.specs.Vec.Iter.{into_iter_items}
use Rattle.bind_carry.specs.{Moved.AreMovedSoFar, Whole.kept, Whole.IsInterfaceCarried}
use Rattle.bind_carry.proofs.{Counting.kept_few, Moving.all_moved, Moving.flag_moved, Moving.none_moved, Moving.place_there}
use Rattle.bind_carry.proofs.whole.move_interfaces.Goals as goal

pub loop-interface-init : goal.loop-interface-init
loop-interface-init c =
    let flags = c.args.carried.now.copied_interfaces.items in
    let xs = c.args.interfaces.items in
    let few = kept_few flags xs in
    let room = c.requires.room in
    let all : into_iter_items c.into_iter-interface-iterator.result ≡ xs = c.into_iter-interface-iterator.ensures.into_iter_gives.0 in
    let long = ap length all in
    record {
      left = omega (arith, long);
      moved = subst (λ l. AreMovedSoFar (IsInterfaceCarried c.args.carried.now c.args.types.now) (kept flags xs) (kept flags l) c.args.places.now c.args.places.now 0) (sym all)
          (none_moved (IsInterfaceCarried c.args.carried.now c.args.types.now) (kept flags xs) c.args.places.now (omega (arith, few, room)));
      below = λ n i at. c.requires.below n i (ap (λ l. slice_get l n) (sym all) ∙ at);
    }

pub index-is_carried-requires : goal.index-is_carried-requires
index-is_carried-requires c =
    let all = c.loop-interface.invariant.left in
    let long = ap length c.in-Some.ensures.steps.0 in
    let count = c.requires.count in
    omega (arith, all, long, count)

pub move_one-place-requires-clause-below : goal.move_one-place-requires-clause-below
move_one-place-requires-clause-below c = c.loop-interface.invariant.below 0 c.in-Some.interface (ap (λ is. slice_get is 0) c.in-Some.ensures.steps.0)

pub move_one-place-requires-clause-room : goal.move_one-place-requires-clause-room
move_one-place-requires-clause-room c set =
    let P = IsInterfaceCarried c.args.carried.now c.args.types.now in
    let flags = c.args.carried.now.copied_interfaces.items in
    let n = c.loop-interface.number in
    let b = c.index-is_carried.result.now in
    let x = c.in-Some.interface in
    let ns = into_iter_items c.next.new.self in
    let all = c.loop-interface.invariant.left in
    let long = ap length c.in-Some.ensures.steps.0 in
    let count = c.requires.count in
    let within : n < length flags = omega (arith, all, long, count) in
    let at_flag : drop n flags ≡ b ∷ drop (n + 1) flags = drop_more flags n b within ∙ ap (λ (q : Bool). q ∷ drop (n + 1) flags) (sym c.index-is_carried.ensures) in
    let left : kept (drop n flags) (into_iter_items c.loop-interface.interface-iterator) ≡ x ∷ kept (drop (n + 1) flags) ns =
    (λ i. kept (at_flag i) (c.in-Some.ensures.steps.0 i)) ∙ ap (λ (q : Bool). kept (q ∷ drop (n + 1) flags) (x ∷ ns)) set in
    place_there P (kept flags c.args.interfaces.items) _ (kept (drop (n + 1) flags) ns) c.args.places.now c.loop-interface.places c.loop-interface.place x left c.loop-interface.invariant.moved

pub loop-interface-preserved : goal.loop-interface-preserved
loop-interface-preserved c =
    let P = IsInterfaceCarried c.args.carried.now c.args.types.now in
    let flags = c.args.carried.now.copied_interfaces.items in
    let n = c.loop-interface.number in
    let b = c.index-is_carried.result.now in
    let x = c.in-Some.interface in
    let ns = into_iter_items c.next.new.self in
    let step : into_iter_items c.loop-interface.interface-iterator ≡ x ∷ ns = c.in-Some.ensures.steps.0 in
    let all = c.loop-interface.invariant.left in
    let long = ap length step in
    let count = c.requires.count in
    let within : n < length flags = omega (arith, all, long, count) in
    let at_flag : drop n flags ≡ b ∷ drop (n + 1) flags = drop_more flags n b within ∙ ap (λ (q : Bool). q ∷ drop (n + 1) flags) (sym c.index-is_carried.ensures) in
    let left : kept (drop n flags) (into_iter_items c.loop-interface.interface-iterator) ≡ kept (b ∷ drop (n + 1) flags) (x ∷ ns) = λ i. kept (at_flag i) (step i) in
    record {
      left = omega (arith, all, long);
      moved = flag_moved P (kept flags c.args.interfaces.items) b (drop (n + 1) flags) x ns _ c.args.places.now c.loop-interface.places c.move_one-place.new.places c.loop-interface.place
          c.move_one-place.result left c.move_one-place.ensures.moved c.move_one-place.ensures.left c.loop-interface.invariant.moved;
      below = λ m i at. c.loop-interface.invariant.below (suc m) i (ap (λ is. slice_get is (suc m)) step ∙ at);
    }

pub returns : goal.returns
returns c =
    let flags = c.args.carried.now.copied_interfaces.items in
    let n = c.loop-interface.number in
    let all = c.loop-interface.invariant.left in
    let it = c.loop-interface.interface-iterator in
    let long : length (into_iter_items it) ≡ 0 = sym it.rest.ok.0 ∙ c.in-None.ensures.steps.0 in
    let count = c.requires.count in
    let past : length flags ≤ n = omega (arith, all, long, count) in
    all_moved (IsInterfaceCarried c.args.carried.now c.args.types.now) (kept flags c.args.interfaces.items) _ c.args.places.now c.loop-interface.places c.loop-interface.place
    (ap (λ l. kept l (into_iter_items c.loop-interface.interface-iterator)) (drop_all n flags past)) c.loop-interface.invariant.moved
