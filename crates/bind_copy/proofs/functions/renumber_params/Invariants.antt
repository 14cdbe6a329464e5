use Rattle.std.proofs.Common.{◌≡◌, true, length}
use Rattle.bind_copy.specs.Copies.{are_params_below, AreWrittenSoFar, IsParamUnder}
use Rattle.bind_copy.proofs.functions.renumber_params.Given as goal

-- the parameters so far have their new numbers
abbrev pub invariant-loop-param : goal.invariant-loop-param
invariant-loop-param l = AreWrittenSoFar (IsParamUnder l.types) (λ ps. are_params_below (length l.types) ps ≡ true) l.initial.params l.params l.param-index
