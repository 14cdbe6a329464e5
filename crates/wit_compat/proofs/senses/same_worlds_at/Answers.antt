use Rattle.std.proofs.{Common.refl, lemmas.Option.slice_get_read}
use Rattle.compat_meaning.proofs.{Ranges.has_items}
use Rattle.wit_compat.proofs.{WorldContents.worlds_exact}
use Rattle.base_lemmas.proofs.Options.{if_ok as in_ok}
use Rattle.wit_compat.proofs.senses.same_worlds_at.Goals as goal

pub same_worlds-requires-clause-a : goal.same_worlds-requires-clause-a
same_worlds-requires-clause-a c = has_items c.args.left.now.resolve.now c.requires.left.valid c.args.a.0 c.index-world.result.now (slice_get_read _ _ _ _ refl c.requires.a c.index-world.ensures)

pub same_worlds-requires-clause-b : goal.same_worlds-requires-clause-b
same_worlds-requires-clause-b c = has_items c.args.right.now.resolve.now c.requires.right.valid c.args.b.0 c.index-other.result.now (slice_get_read _ _ _ _ refl c.requires.b c.index-other.ensures)

pub returns-clause-exact : goal.returns-clause-exact
returns-clause-exact c = in_ok _ _ (worlds_exact c.args.left.now.resolve.now c.args.right.now.resolve.now c.args.a.0 c.args.b.0 c.index-world.result.now c.index-other.result.now
    (slice_get_read _ _ _ _ refl c.requires.a c.index-world.ensures) (slice_get_read _ _ _ _ refl c.requires.b c.index-other.ensures)) c.same_worlds.result c.same_worlds.ensures.exact
