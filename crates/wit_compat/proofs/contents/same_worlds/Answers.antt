use Rattle.std.proofs.Common.{rules}
use Rattle.compat_meaning.proofs.{Sided.never, Sided.not_same}
use Rattle.wit_compat.proofs.{WorldContents.contents_exact, WorldContents.imports_back}
use Rattle.base_lemmas.proofs.Options.{if_ok as in_ok}
use Rattle.wit_compat.proofs.contents.same_worlds.Goals as goal

pub returns-then-not-branch-clause-exact : goal.returns-then-not-branch-clause-exact
returns-then-not-branch-clause-exact c =
    never _ (λ same. not_same _ c.in_ok-same_lists.ensures.exact (search rules) (imports_back c.args.left.now.resolve.now c.args.right.now.resolve.now c.args.a.now c.args.b.now same))

pub returns-clause-exact : goal.returns-clause-exact
returns-clause-exact c = in_ok _ _ (λ y. contents_exact c.args.left.now.resolve.now c.args.right.now.resolve.now c.args.a.now c.args.b.now y (c.in_ok-same_lists.ensures.exact.0 (search rules)))
    c.same_lists-2.result c.same_lists-2.ensures.exact
