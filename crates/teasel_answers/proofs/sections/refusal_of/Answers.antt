use Rattle.std.proofs.Common.{sym, ◌∙◌}
use Rattle.teasel_messages.proofs.ReasonLaws.{refused-by}
use Rattle.teasel_answers.proofs.sections.refusal_of.Goals as goal

pub returns-then-is_module : goal.returns-then-is_module
returns-then-is_module c = refused-by _ _ _ (λ other. sym c.placed.ensures ∙ other) c.of_error.ensures
