use Rattle.std.proofs.Common.{◌≡◌, map, take}
use Rattle.text_plain.specs.FilesSeen.{file_of}
use Rattle.wit_text.specs.Mains.{files_of}
use Rattle.wit_text.proofs.read.sources_of.Given as goal

abbrev pub invariant-loop-file : goal.invariant-loop-file
invariant-loop-file l = files_of l.sources.items ≡ map (file_of l.whole) (take l.file-index l.files)
