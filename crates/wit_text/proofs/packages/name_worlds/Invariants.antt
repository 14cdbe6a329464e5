use Rattle.wit_text.specs.Listed.{AreWorldsListed, KeepsInterfaces}
use Rattle.wit_text.proofs.packages.name_worlds.Given as goal

abbrev pub invariant-loop-own : goal.invariant-loop-own
invariant-loop-own l = KeepsInterfaces l.initial.packages l.packages × AreWorldsListed l.sources l.own l.packages
