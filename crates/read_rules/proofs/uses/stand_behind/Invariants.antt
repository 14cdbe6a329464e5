use Rattle.std.proofs.Common.{◌≡◌, ◌++◌, List, map, drop}
use Rattle.plan_meaning.specs.NumberedWorlds.{NumberedSeen, stand_earlier}
use Rattle.read_rules.specs.{Scopes.numbered_seen, Tables.numbered_tables}
use Rattle.read_rules.proofs.uses.stand_behind.Given as goal

-- whatever comes behind, those that are left decide
abbrev pub invariant-loop-item : goal.invariant-loop-item
invariant-loop-item l = (rest : List NumberedSeen)
    → stand_earlier (numbered_tables l.tables) l.earlier.keys (map numbered_seen (drop l.item-index l.items) ++ rest) ≡ stand_earlier (numbered_tables l.tables) l.initial.earlier.keys
    (map numbered_seen l.items ++ rest)
