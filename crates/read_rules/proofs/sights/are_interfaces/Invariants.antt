use Rattle.std.proofs.Common.{◌≡◌, map, drop}
use Rattle.std.specs.List.{list_all}
use Rattle.plan_meaning.specs.NumberedMembers.{are_interfaces}
use Rattle.read_rules.specs.{Sights.numbered_sight, Sights.shows_interface, Tables.known_in, Tables.numbered_tables}
use Rattle.read_rules.proofs.sights.are_interfaces.Given as goal

-- those that are left decide
abbrev pub invariant-loop-sight : goal.invariant-loop-sight
invariant-loop-sight l = list_all (λ s. shows_interface l.tables (numbered_sight s)) (drop l.sight-index l.sights)
    ≡ are_interfaces (numbered_tables l.tables) (known_in l.tables) (map numbered_sight l.sights)
