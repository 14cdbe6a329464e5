use Rattle.std.proofs.Common.{◌≡◌, take}
use Rattle.teasel_run.specs.Runs.{bytes_of}
use Rattle.teasel_words.specs.Given.{texts_of}
use Rattle.teasel_run.proofs.run.texts_of.Given as goal

abbrev pub invariant-loop-word : goal.invariant-loop-word
invariant-loop-word l = texts_of l.texts.items ≡ bytes_of (take l.word-index l.words)
