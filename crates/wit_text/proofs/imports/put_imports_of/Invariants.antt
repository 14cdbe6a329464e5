use Rattle.wit_text.specs.Sides.{imports_in, AddsPaths}
use Rattle.wit_text.proofs.imports.put_imports_of.Given as goal

abbrev pub invariant-loop-need : goal.invariant-loop-need
invariant-loop-need l = AddsPaths l.given l.interfaces (imports_in l.given) l.initial.imports.entries l.imports.entries
