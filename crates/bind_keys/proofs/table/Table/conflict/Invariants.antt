use Rattle.wit_model.specs.Text.{optional_text}
use Rattle.bind_meaning.specs.Clash.{EncodingFault}
use Rattle.bind_clash.specs.Faults.{IsLeastFault}
use Rattle.bind_keys.specs.Tables.{IsTable, whole_entries}
use Rattle.bind_keys.proofs.Conflicts.{least_from}
use Rattle.bind_keys.proofs.table.Table.conflict.Given as goal

-- with the entries that are left comes the least of all
abbrev pub invariant-loop-key : goal.invariant-loop-key
invariant-loop-key l = IsTable l.other.fronts l.key-iterator
    × IsLeastFault (EncodingFault l.self.encodings l.other.encodings) (least_from l.self.encodings (optional_text l.least) (whole_entries l.other.fronts l.key-iterator))
