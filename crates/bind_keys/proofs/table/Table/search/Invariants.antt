use Rattle.std.proofs.Common.{◌≡◌}
use Rattle.bind_keys.specs.{Keys.function_key, Encodings.encoding_under, Tables.IsTable, Tables.whole_entries}
use Rattle.bind_keys.proofs.Kept.{among}
use Rattle.bind_keys.proofs.table.Table.search.Given as goal

-- what is looked for is among the entries that are left, or nowhere
abbrev pub invariant-loop-own : goal.invariant-loop-own
invariant-loop-own l = IsTable l.self.fronts l.own-iterator
    × (encoding_under l.self.encodings (function_key l.resolve l.key l.func) ≡ among l.resolve l.key l.func (whole_entries l.self.fronts l.own-iterator))
