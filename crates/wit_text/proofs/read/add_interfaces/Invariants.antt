use Rattle.std.proofs.Common.{take}
use Rattle.text_types.specs.Kept.{defs_of}
use Rattle.wit_text.specs.SoFar.{AreMadeSoFar}
use Rattle.wit_text.proofs.read.add_interfaces.Given as goal

abbrev pub invariant-loop-own : goal.invariant-loop-own
invariant-loop-own l = AreMadeSoFar l.sources (take l.own-index l.order) l.interfaces (defs_of l.types)
