use Rattle.wit_text.proofs.StageLaws.{OwnSoFar}
use Rattle.wit_text.proofs.worlds.add_own.Given as goal

abbrev pub invariant-loop-name : goal.invariant-loop-name
invariant-loop-name l = OwnSoFar l.own.entries l.name-iterator l.initial.imports.entries l.imports.entries
