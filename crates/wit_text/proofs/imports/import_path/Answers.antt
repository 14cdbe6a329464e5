use Rattle.wit_text.specs.Sides.{imports_in, text_of_world}
use Rattle.text_trees.specs.TreesSeen.{path_of, prefix_of}
use Rattle.wit_text.proofs.{EntryLaws.extends_path, PathLaws.import_there, PathLaws.imports_put, Walking.on_ok}
use Rattle.wit_text.proofs.imports.import_path.Goals as goal

pub returns : goal.returns
returns c =
    on_ok _ _ c.put_import.result
    (λ puts. extends_path c.requires.given (imports_in c.args.given.now) c.requires.given.imports
    (prefix_of (text_of_world c.args.given.now) c.args.prefix.now) (path_of (text_of_world c.args.given.now) c.args.path) c.in_ok-id.id c.requires.among
    c.in_ok-id.ensures.means (imports_put puts) (import_there c.in_ok-id.id puts))
    c.put_import.ensures
