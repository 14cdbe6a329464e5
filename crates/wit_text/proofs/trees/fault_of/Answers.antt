use Rattle.std.proofs.Common.{subst}
use Rattle.text_trees.specs.Reads.{RefusesText}
use Rattle.wit_text.proofs.trees.fault_of.Goals as goal

pub returns-in-Wanted : goal.returns-in-Wanted
returns-in-Wanted c = λ text h. c.place-in-Wanted.ensures text (c.why_of.ensures text c.in-Wanted.at (subst (RefusesText text) c.in-Wanted.is h))
