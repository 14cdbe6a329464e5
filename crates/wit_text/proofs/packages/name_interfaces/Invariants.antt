use Rattle.wit_text.specs.Listed.{AreListed, KeepsWorlds}
use Rattle.wit_text.proofs.packages.name_interfaces.Given as goal

abbrev pub invariant-loop-own : goal.invariant-loop-own
invariant-loop-own l = KeepsWorlds l.initial.packages l.packages × AreListed l.sources l.interfaces.numbers.items l.own l.packages
