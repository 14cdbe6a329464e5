use Rattle.std.proofs.Common.{sym, ◌∙◌}
use Rattle.teasel_messages.proofs.ReasonLaws.{refused-by}
use Rattle.teasel_answers.proofs.compared.reason.Goals as goal

pub returns-else-is_no-clause-refused : goal.returns-else-is_no-clause-refused
returns-else-is_no-clause-refused c = refused-by _ _ _ (λ other. (other, sym c.is_no.ensures ∙ c.if-is_no.false)) c.refusal_of.ensures
