use Rattle.std.proofs.Common.{◌≡◌, take}
use Rattle.wit_text.specs.Mains.{numbers_of}
use Rattle.wit_text.proofs.read.mains_of.Given as goal

abbrev pub invariant-loop-main : goal.invariant-loop-main
invariant-loop-main l = numbers_of l.mains.items ≡ take l.main-index l.sources.mains.items
