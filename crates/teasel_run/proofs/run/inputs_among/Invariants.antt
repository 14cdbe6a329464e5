use Rattle.std.proofs.Common.{◌≤◌, count_by, take}
use Rattle.teasel_run.specs.Runs.{is_input}
use Rattle.teasel_words.specs.Given.{texts_of}
use Rattle.teasel_run.proofs.run.inputs_among.Given as goal

abbrev pub invariant-loop-name : goal.invariant-loop-name
invariant-loop-name l = l.count ≤ count_by is_input (texts_of (take l.name-index l.names))
