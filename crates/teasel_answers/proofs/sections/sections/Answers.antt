use Rattle.std.proofs.Common.{subst}
use Rattle.teasel_answers.specs.Refusals.{HasNoList, no_list}
use Rattle.teasel_messages.proofs.ReasonLaws.{refused-by}
use Rattle.teasel_answers.proofs.sections.sections.Goals as goal

pub returns-in-Err-clause-refused : goal.returns-in-Err-clause-refused
returns-in-Err-clause-refused c = refused-by _ _ _ (λ other. no_list (subst HasNoList c.deref.ensures.value (c.in-Err.ensures other))) c.of_error.ensures
