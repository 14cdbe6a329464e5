use Rattle.std.proofs.Common.{take}
use Rattle.std.specs.List.{flat_map}
use Rattle.text_plain.specs.Worlds.{AddsWorlds, worlds_of_scope}
use Rattle.text_plain.proofs.worlds.add_scopes.Given as goal

-- the worlds of the scopes so far are added
abbrev pub invariant-loop-scope : goal.invariant-loop-scope
invariant-loop-scope l = AddsWorlds l.fn.worlds (flat_map worlds_of_scope (take l.scope-index l.scopes)) l.worlds
