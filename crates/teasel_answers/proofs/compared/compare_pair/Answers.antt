use Rattle.std.proofs.Common.{refl}
use Rattle.std.proofs.lemmas.Result.{err_from_is_err_and}
use Rattle.teasel_messages.specs.Reasons.{for_memory}
use Rattle.teasel_answers.proofs.compared.compare_pair.Goals as goal

pub returns-in_err-tell_pair-clause-refused : goal.returns-in_err-tell_pair-clause-refused
returns-in_err-tell_pair-clause-refused c =
    let p = err_from_is_err_and c.from_residual-in_err-tell_pair.result c.from_residual-in_err-tell_pair.ensures.1 in
    rw (p.1, p.2) (for_memory refl)
