use Rattle.std.proofs.Common.{◌∷◌, [], subst}
use Rattle.std.specs.List.{filter_map}
use Rattle.text_trees.specs.TreesSeen.{world_member_of}
use Rattle.text_shown.specs.ShowsWorlds.{import_of}
use Rattle.wit_text.specs.Sides.{imports_in, text_of_world, AreAmong}
use Rattle.wit_text.proofs.imports.add_import.Goals as goal

pub import_extern-requires-clause-among : goal.import_extern-requires-clause-among
import_extern-requires-clause-among c =
    subst (λ m. AreAmong (filter_map import_of (world_member_of (text_of_world c.args.given.now) m ∷ [])) (imports_in c.args.given.now).all)
    c.in-WorldImport.is c.requires.among
