use Rattle.std.proofs.Common.{rules}
use Rattle.compat_meaning.proofs.{Sided.never, Sided.not_same}
use Rattle.wit_compat.proofs.{Members.members_exact, Members.types_back}
use Rattle.base_lemmas.proofs.Options.{if_ok as in_ok}
use Rattle.wit_compat.proofs.interfaces.same_members.Goals as goal

pub returns-then-not-branch-clause-exact : goal.returns-then-not-branch-clause-exact
returns-then-not-branch-clause-exact c =
    never _ (λ same. not_same _ c.in_ok-same_named_types.ensures.exact (search rules) (types_back c.args.left.now.resolve.now c.args.right.now.resolve.now c.args.a.now c.args.b.now same))

pub returns-clause-exact : goal.returns-clause-exact
returns-clause-exact c = in_ok _ _ (λ y. members_exact c.args.left.now.resolve.now c.args.right.now.resolve.now c.args.a.now c.args.b.now y (c.in_ok-same_named_types.ensures.exact.0 (search rules)))
    c.same_functions.result c.same_functions.ensures.exact
