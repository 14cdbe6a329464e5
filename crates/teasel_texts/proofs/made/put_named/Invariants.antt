use Rattle.std.proofs.Common.{◌≡◌, ◌++◌, take}
use Rattle.witc_read.specs.Packages.{bytes_of}
use Rattle.teasel_texts.specs.Made.{bytes_in}
use Rattle.teasel_texts.proofs.made.put_named.Given as goal

abbrev pub invariant-loop-text : goal.invariant-loop-text
invariant-loop-text l = bytes_of l.named.items ≡ bytes_of l.fn.named.items ++ bytes_in (take l.text-index l.texts)
