use Rattle.text_trees.specs.{Seen.cut, TreesSeen.path_of}
use Rattle.wit_text.specs.Sides.{imports_in, text_of_world}
use Rattle.wit_text.proofs.{EntryLaws.extends_label, PathLaws.imports_put, Walking.on_ok}
use Rattle.wit_text.proofs.imports.import_label.Goals as goal

pub returns : goal.returns
returns c =
    on_ok _ _ c.add_stated.result
    (λ adds. extends_label c.requires.given (imports_in c.args.given.now) c.args.prefix.now (cut (text_of_world c.args.given.now) c.args.name)
    (path_of (text_of_world c.args.given.now) c.args.path) c.in_ok-id.id c.number_of-number.result c.requires.among c.in_ok-id.ensures.means
    c.number_of-number.ensures (imports_put c.in_ok-put_imports.ensures) adds)
    c.add_stated.ensures.adds
