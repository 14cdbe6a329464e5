use Rattle.std.proofs.Common.{◌≡◌, ◌∙◌, ap, arith, length, ℕ}
use Rattle.bind_carry.specs.BoundGains.{are_types_below}
use Rattle.bind_carry.proofs.SecondInitial.{second_long}
use Rattle.bind_unite.proofs.bound.bind_types.Goals as goal

pub unify_types-requires-clause-types : goal.unify_types-requires-clause-types
unify_types-requires-clause-types c v at =
    let other = c.args.bound.other.now in
    let long : length c.in_ok-fates.fates.items ≡ length other.types.items =
    ap length c.in_ok-fates.ensures.fates ∙ second_long other c.args.bound.world.0 c.args.bound.other_world.0 c.args.copied.now c.args.interfaces.now other.types.items c.args.first.fates.now
    c.args.first.types.now c.requires.fates c.requires.types
    in
    let here : length c.deref_mut.result.now ≡ length other.types.items = ap length c.deref_mut.ensures.value ∙ long in
    ap (λ (k : ℕ). are_types_below k v.imports.entries) here ∙ c.requires.imports v at

pub settle-requires : goal.settle-requires
settle-requires c =
    let other = c.args.bound.other.now in
    let long : length c.in_ok-fates.fates.items ≡ length other.types.items =
    ap length c.in_ok-fates.ensures.fates ∙ second_long other c.args.bound.world.0 c.args.bound.other_world.0 c.args.copied.now c.args.interfaces.now other.types.items c.args.first.fates.now
    c.args.first.types.now c.requires.fates c.requires.types
    in
    let here : length c.deref_mut.result.now ≡ length other.types.items = ap length c.deref_mut.ensures.value ∙ long in
    let types : length c.deref.result.now ≡ length other.types.items = ap length c.deref.ensures.value in
    let before = c.deref_mut.ensures.len in
    let after = c.deref-2.ensures.len in
    omega (arith, here, types, before, after)
