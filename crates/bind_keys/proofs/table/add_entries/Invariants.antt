use Rattle.std.proofs.Common.{◌≡◌, ◌≤◌, length}
use Rattle.indexmap.specs.IndexMap.{insert_all, spare}
use Rattle.bind_keys.specs.Tables.{all_renumbered}
use Rattle.bind_keys.specs.contracts.table.KeyPartialEq.TheImpl as equality
use Rattle.bind_keys.proofs.table.add_entries.Given as goal

-- there is room for the entries that are left, which still have to be put
abbrev pub invariant-loop-key : goal.invariant-loop-key
invariant-loop-key l = (length l.key-iterator ≤ spare l.entries) × (insert_all equality.ghosts.eq l.entries.entries (all_renumbered l.numbers l.key-iterator)
    ≡ insert_all equality.ghosts.eq l.fn.entries.entries (all_renumbered l.numbers l.fn.more.entries))
