use Rattle.std.proofs.Common.{rules}
use Rattle.wit_model.specs.Types.{type_tree}
use Rattle.compat_meaning.proofs.{Sided.never}
use Rattle.wit_compat.proofs.{Signatures.shapes_same, Signatures.signatures_exact}
use Rattle.wit_compat.proofs.sense.same_signatures.Goals as goal

pub returns-then-not-branch-clause-exact : goal.returns-then-not-branch-clause-exact
returns-then-not-branch-clause-exact c = never _ (λ e. c.in_ok-same_shapes.ensures.differ (search rules)
    (shapes_same (type_tree c.args.left.now.resolve.now) (type_tree c.args.right.now.resolve.now) _ _ e))

pub same_types-requires-clause-xs : goal.same_types-requires-clause-xs
same_types-requires-clause-xs c = rw (c.deref.ensures.value, c.in_ok-xs.ensures) c.requires.f

pub same_types-requires-clause-ys : goal.same_types-requires-clause-ys
same_types-requires-clause-ys c = rw (c.deref-2.ensures.value, c.in_ok-ys.ensures) c.requires.g

pub returns-clause-exact : goal.returns-clause-exact
returns-clause-exact c = signatures_exact (type_tree c.args.left.now.resolve.now) (type_tree c.args.right.now.resolve.now) _ _ _ (c.in_ok-same_shapes.ensures.same (search rules))
    (rw (c.deref.ensures.value, c.in_ok-xs.ensures, c.deref-2.ensures.value, c.in_ok-ys.ensures) at c.in_ok-same.ensures.exact)
