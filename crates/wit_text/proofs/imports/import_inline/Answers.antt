use Rattle.std.proofs.Common.{map}
use Rattle.text_trees.specs.{Seen.cut, TreesSeen.member_of}
use Rattle.wit_text.specs.Sides.{text_of_world}
use Rattle.wit_text.proofs.{EntryLaws.continues_inline, EntryLaws.grows_inline, Walking.on_ok}
use Rattle.wit_text.proofs.imports.import_inline.Goals as goal

pub returns-clause-keeps : goal.returns-clause-keeps
returns-clause-keeps c = on_ok _ _ c.add_stated.result (λ _. grows_inline c.in_ok-number.ensures.added) c.add_stated.ensures.adds

pub returns-clause-adds : goal.returns-clause-adds
returns-clause-adds c =
    on_ok _ _ c.add_stated.result
    (λ adds. continues_inline c.args.prefix.now (cut (text_of_world c.args.given.now) c.args.name)
    (map (member_of (text_of_world c.args.given.now)) c.args.members.now) c.in_ok-number.number c.requires.among
    c.in_ok-number.ensures.grows.defs c.in_ok-number.ensures.puts c.in_ok-number.ensures.added adds)
    c.add_stated.ensures.adds
