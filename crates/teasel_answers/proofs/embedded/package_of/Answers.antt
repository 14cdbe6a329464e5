use Rattle.std.proofs.Common.{subst, List, None, ℕ}
use Rattle.teasel_answers.specs.{Forms.RefusesShown, Forms.refused, Refusals.no_bytes}
use Rattle.teasel_answers.specs.declared.forms.Form.TheVariants.{Wasm}
use Rattle.teasel_messages.proofs.ReasonLaws.{refused-by}
use Rattle.teasel_answers.proofs.embedded.package_of.Goals as goal

pub returns-in-Err-clause-refused : goal.returns-in-Err-clause-refused
returns-in-Err-clause-refused c = refused-by _ _ _ (λ other. no_bytes (refused c.in-Err.error other
    (subst (λ (xs : List ℕ). RefusesShown Wasm None xs c.in-Err.error) c.deref-2.ensures.value c.in-Err.ensures.refused))) c.refusal_of.ensures
