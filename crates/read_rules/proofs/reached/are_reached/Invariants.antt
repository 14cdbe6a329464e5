use Rattle.std.proofs.Common.{◌≡◌, ◌≤◌, ℕ, true, length, map, drop}
use Rattle.wit_model.specs.Uses.{has}
use Rattle.plan_meaning.specs.NumberedWorlds.{are_reached}
use Rattle.read_rules.specs.{Reached.numbered_import, Tables.numbered_tables, Views.numbered_view}
use Rattle.read_rules.proofs.ReachedLaws.{used_behind}
use Rattle.read_rules.proofs.reached.are_reached.Given as goal

-- those behind are reached, and what they use is known
abbrev pub invariant-back : goal.invariant-back
invariant-back l = record {
  within : l.left ≤ length l.imports;
  used : (n : ℕ) → has l.used.keys n ≡ has (used_behind (numbered_tables l.tables) (numbered_view l.exported) (drop l.left l.imports)) n;
  reached : are_reached (numbered_tables l.tables) (map numbered_import (drop l.left l.imports)) (numbered_view l.exported) ≡ true;
}

abbrev pub decreases-back : goal.decreases-back
decreases-back l = l.left
