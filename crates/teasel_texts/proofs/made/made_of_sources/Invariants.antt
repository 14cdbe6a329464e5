use Rattle.teasel_texts.specs.Made.{AreTaken}
use Rattle.teasel_texts.proofs.made.made_of_sources.Given as goal

-- those that came are taken
abbrev pub invariant-loop-source : goal.invariant-loop-source
invariant-loop-source l = AreTaken l.yielded l.made.items
