use Rattle.read_follow.proofs.NameTableLaws.{IsTableBehind}
use Rattle.read_follow.proofs.name_tables.slots_by_name.Given as goal

-- the slots of the types behind those that are left
abbrev pub invariant-loop-shown : goal.invariant-loop-shown
invariant-loop-shown l = IsTableBehind l.shown-iterator.iter.rest.now l.types l.slots
