use Rattle.std.proofs.Common.{take}
use Rattle.std.specs.List.{AllZip}
use Rattle.wit_text.specs.Listed.{IsBarePackage}
use Rattle.wit_text.proofs.packages.bare_packages.Given as goal

abbrev pub invariant-loop-source : goal.invariant-loop-source
invariant-loop-source l = AllZip (IsBarePackage l.sources) (take l.source-index l.sources.packages.items) l.packages.items
