use Rattle.std.proofs.Common.{◌≡◌, drop}
use Rattle.read_follow.specs.Scopes.{find_slot}
use Rattle.read_follow.proofs.name_tables.first_slot.Given as goal

-- what is left decides
abbrev pub invariant-loop-shown : goal.invariant-loop-shown
invariant-loop-shown l = find_slot l.name (drop l.shown-index l.types) ≡ find_slot l.name l.types
