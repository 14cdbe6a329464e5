use Rattle.std.proofs.Common.{take}
use Rattle.text_plain.specs.Worlds.{AddsWorlds, worlds_of_scopes}
use Rattle.text_plain.proofs.worlds.worlds_of.Given as goal

-- the worlds of the texts so far are added
abbrev pub invariant-loop-text : goal.invariant-loop-text
invariant-loop-text l = AddsWorlds l.initial.worlds (worlds_of_scopes (take l.text-index l.texts)) l.worlds
