use Rattle.text_types.specs.Kept.{defs_of, Grows}
use Rattle.wit_text.specs.{MadeInterfaces.GrowsInterfaces, SoFar.AreWorldsSoFar}
use Rattle.wit_text.proofs.read.worlds_of.Given as goal

abbrev pub invariant-loop-number : goal.invariant-loop-number
invariant-loop-number l =
    Grows l.initial.types l.types × GrowsInterfaces l.initial.interfaces l.interfaces
    × AreWorldsSoFar l.around.sources.now l.interfaces (defs_of l.types) l.worlds.items l.number
