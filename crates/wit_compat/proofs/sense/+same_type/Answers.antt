use Rattle.std.proofs.Common.{rules, refl, subst, ◌<◌, get_or}
use Rattle.wit_model.specs.declared.model.«Type».TheVariants as ty
use Rattle.compat_meaning.specs.TwoSides.{rank}
use Rattle.compat_meaning.proofs.Sided.{all_parts, never, not_same, part_differs, part_more, part_there, parts_said}
use Rattle.wit_compat.proofs.sense.+same_type.Goals as goal

pub loop-i-init : goal.loop-i-init
loop-i-init t c = record { same = refl; kept = c.requires.pairs }

pub same_type-requires : goal.same_type-requires
same_type-requires t c =
    let w = parts_said c.args.left.now.resolve.now c.args.right.now.resolve.now c.args.a c.args.b _ _ _ _ c.in_ok-known.ensures c.in-Parts.is
    c.deref-x-items.ensures.value in
    let p = part_there _ _ _ _ _ _ w c.loop-i.i c.index.result.now c.loop-i-test.true c.index.ensures in (
      subst (λ z. rank (get_or c.deref-x-items.result.now c.loop-i.i ty.Bool) < z) c.decreases p.0,
      (c.requires.left, (c.requires.right, (p.1, (p.2, c.loop-i.invariant.kept)))),
    )

pub returns-then-not-branch-clause-exact : goal.returns-then-not-branch-clause-exact
returns-then-not-branch-clause-exact t c =
    never _ (part_differs _ _ _ _ _ _ (parts_said c.args.left.now.resolve.now c.args.right.now.resolve.now c.args.a c.args.b _ _ _ _ c.in_ok-known.ensures c.in-Parts.is c.deref-x-items.ensures.value)
    c.loop-i.i c.index.result.now c.loop-i-test.true c.index.ensures (not_same _ c.in_ok-same_type-in-Parts.ensures.exact (search rules)))

pub loop-i-preserved : goal.loop-i-preserved
loop-i-preserved t c =
    let w = parts_said c.args.left.now.resolve.now c.args.right.now.resolve.now c.args.a c.args.b _ _ _ _ c.in_ok-known.ensures c.in-Parts.is
    c.deref-x-items.ensures.value in
    record {
      same = part_more _ _ _ _ _ _ w c.loop-i.i c.index.result.now c.loop-i-test.true c.index.ensures c.loop-i.invariant.same (c.in_ok-same_type-in-Parts.ensures.exact.0 (search rules));
      kept = c.same_type.ensures.kept;
    }

pub remember-requires-clause-same : goal.remember-requires-clause-same
remember-requires-clause-same t c = all_parts _ _ _ _ _ _ (parts_said c.args.left.now.resolve.now c.args.right.now.resolve.now c.args.a c.args.b _ _ _ _ c.in_ok-known.ensures c.in-Parts.is
    c.deref-x-items.ensures.value) c.loop-i.i (search rules) c.loop-i.invariant.same

pub remember-requires-clause-pairs : goal.remember-requires-clause-pairs
remember-requires-clause-pairs t c = c.loop-i.invariant.kept

pub returns-in_ok-remember-in-Parts-clause-exact : goal.returns-in_ok-remember-in-Parts-clause-exact
returns-in_ok-remember-in-Parts-clause-exact t c = (
  λ h. all_parts _ _ _ _ _ _ (parts_said c.args.left.now.resolve.now c.args.right.now.resolve.now c.args.a c.args.b _ _ _ _ c.in_ok-known.ensures c.in-Parts.is c.deref-x-items.ensures.value)
      c.loop-i.i (search rules) c.loop-i.invariant.same,
  λ same. refl,
)
