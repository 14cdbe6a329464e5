use Rattle.std.proofs.Common.{◌∷◌, [], subst}
use Rattle.std.specs.List.{filter_map}
use Rattle.text_trees.specs.TreesSeen.{world_member_of}
use Rattle.text_shown.specs.ShowsWorlds.{export_of}
use Rattle.wit_text.specs.Sides.{exports_in, text_of_world, AreAmong}
use Rattle.wit_text.proofs.exports.add_export.Goals as goal

pub export_extern-requires-clause-among : goal.export_extern-requires-clause-among
export_extern-requires-clause-among c =
    subst (λ m. AreAmong (filter_map export_of (world_member_of (text_of_world c.args.given.now) m ∷ [])) (exports_in c.args.given.now).all)
    c.in-WorldExport.is c.requires.among
