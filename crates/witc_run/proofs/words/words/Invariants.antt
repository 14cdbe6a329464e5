use Rattle.std.proofs.Common.{◌≤◌, vec_len}
use Rattle.witc_run.proofs.words.words.Given as goal

abbrev pub invariant-loop-i : goal.invariant-loop-i
invariant-loop-i g l = vec_len l.words ≤ l.i
