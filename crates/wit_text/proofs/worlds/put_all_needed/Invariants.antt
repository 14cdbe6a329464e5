use Rattle.wit_text.specs.Sides.{imports_in, AddsPaths}
use Rattle.wit_text.proofs.worlds.put_all_needed.Given as goal

abbrev pub invariant-loop-member : goal.invariant-loop-member
invariant-loop-member l = AddsPaths l.given l.interfaces (imports_in l.given) l.initial.imports.entries l.imports.entries
