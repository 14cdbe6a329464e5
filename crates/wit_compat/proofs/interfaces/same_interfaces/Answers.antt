use Rattle.std.proofs.{Common.refl, lemmas.Option.slice_get_read}
use Rattle.compat_meaning.proofs.{Ranges.has_types}
use Rattle.wit_compat.proofs.{Members.interfaces_exact}
use Rattle.base_lemmas.proofs.Options.{if_ok as in_ok}
use Rattle.wit_compat.proofs.interfaces.same_interfaces.Goals as goal

pub same_members-requires-clause-a : goal.same_members-requires-clause-a
same_members-requires-clause-a c = has_types c.args.left.now.resolve.now c.requires.left.valid c.args.a.0 c.index-interface.result.now
    (slice_get_read _ _ _ _ refl c.requires.a c.index-interface.ensures)

pub same_members-requires-clause-b : goal.same_members-requires-clause-b
same_members-requires-clause-b c = has_types c.args.right.now.resolve.now c.requires.right.valid c.args.b.0 c.index-other.result.now (slice_get_read _ _ _ _ refl c.requires.b c.index-other.ensures)

pub returns-clause-exact : goal.returns-clause-exact
returns-clause-exact c = in_ok _ _ (λ y. interfaces_exact c.args.left.now.resolve.now c.args.right.now.resolve.now c.args.a.0 c.args.b.0 c.index-interface.result.now c.index-other.result.now y
    (slice_get_read _ _ _ _ refl c.requires.a c.index-interface.ensures) (slice_get_read _ _ _ _ refl c.requires.b c.index-other.ensures)) c.same_members.result c.same_members.ensures.exact
