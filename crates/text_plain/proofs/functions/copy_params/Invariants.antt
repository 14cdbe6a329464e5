use Rattle.std.proofs.Common.{◌≡◌, map, take}
use Rattle.text_trees.specs.TreesSeen.{param_of}
use Rattle.text_plain.specs.Moved.{moved_param}
use Rattle.text_plain.specs.Moves.{on_name, text_from, text_to}
use Rattle.text_plain.proofs.functions.copy_params.Given as goal

abbrev pub invariant-loop-param : goal.invariant-loop-param
invariant-loop-param l = map (param_of (text_to l.moving)) l.copy.items
    ≡ map (moved_param (on_name l.moving)) (map (param_of (text_from l.moving)) (take l.param-index l.params))
