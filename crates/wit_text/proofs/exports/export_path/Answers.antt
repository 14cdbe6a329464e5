use Rattle.text_trees.specs.TreesSeen.{path_of, prefix_of}
use Rattle.wit_text.specs.Sides.{exports_in, text_of_world}
use Rattle.wit_text.proofs.{EntryLaws.extends_path, EntryLaws.front_is_there, PathLaws.export_put, PathLaws.export_there, Walking.on_ok}
use Rattle.wit_text.proofs.exports.export_path.Goals as goal

pub returns : goal.returns
returns c =
    let side = exports_in c.args.given.now in
    let prefix = prefix_of (text_of_world c.args.given.now) c.args.prefix.now in
    let path = path_of (text_of_world c.args.given.now) c.args.path in
    let front = front_is_there c.requires.given side c.requires.given.exports prefix path c.in_ok-id.id c.requires.among c.in_ok-id.ensures.means in
    on_ok _ _ c.put_export.result
    (λ puts. extends_path c.requires.given side c.requires.given.exports prefix path c.in_ok-id.id c.requires.among c.in_ok-id.ensures.means
    (export_put c.in_ok-id.id puts front) (export_there c.in_ok-id.id puts))
    c.put_export.ensures
