use Rattle.std.proofs.Common.{◌∙◌, sym}
use Rattle.text_plain.proofs.ScopeLaws.{path_copied}
use Rattle.text_plain.proofs.WorldLaws.{meant}
use Rattle.text_plain.proofs.worlds.world_of.Goals as goal

pub returns-in-Some : goal.returns-in-Some
returns-in-Some c = meant c.args.worlds.now c.args.scope.now c.args.path c.copy_path-moved.result c.key_of_path-key.result c.in-Some.number c.requires.index c.requires.placed
    (path_copied c.args.scope.now.place _ _ c.moving_in.result c.moving_in.ensures c.args.path c.copy_path-moved.result c.copy_path-moved.ensures) c.key_of_path-key.ensures
    (sym c.get.ensures.value ∙ (sym c.copied.ensures ∙ c.in-Some.is))
