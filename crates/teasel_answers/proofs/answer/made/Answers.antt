use Rattle.teasel_answers.specs.Forms.{refused}
use Rattle.teasel_messages.proofs.ReasonLaws.{refused-by}
use Rattle.teasel_answers.proofs.answer.made.Goals as goal

pub returns-in-Err-clause-refused : goal.returns-in-Err-clause-refused
returns-in-Err-clause-refused c = refused-by _ _ _ (λ other. refused c.in-Err.error other c.in-Err.ensures.refused) c.refusal_of.ensures
