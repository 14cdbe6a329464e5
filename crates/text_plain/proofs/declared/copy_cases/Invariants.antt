use Rattle.std.proofs.Common.{◌≡◌, map, take}
use Rattle.text_trees.specs.TreesSeen.{case_of}
use Rattle.text_plain.specs.Moved.{moved_case}
use Rattle.text_plain.specs.Moves.{on_name, text_from, text_to}
use Rattle.text_plain.proofs.declared.copy_cases.Given as goal

abbrev pub invariant-loop-case : goal.invariant-loop-case
invariant-loop-case l = map (case_of (text_to l.moving)) l.copy.items
    ≡ map (moved_case (on_name l.moving)) (map (case_of (text_from l.moving)) (take l.case-index l.cases))
