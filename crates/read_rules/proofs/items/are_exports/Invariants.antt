use Rattle.std.proofs.Common.{◌≡◌, map, drop}
use Rattle.std.specs.List.{list_all}
use Rattle.read_rules.specs.{Scopes.numbered_seen, Worlds.are_exports, Worlds.may_be_exported}
use Rattle.read_rules.proofs.items.are_exports.Given as goal

-- those that are left decide
abbrev pub invariant-loop-export : goal.invariant-loop-export
invariant-loop-export l = list_all (λ s. may_be_exported l.tables l.home (numbered_seen s)) (drop l.export-index l.exports) ≡ are_exports l.tables l.home (map numbered_seen l.exports)
