use Rattle.std.proofs.Common.{◌≡◌, false, subst, List, ℕ}
use Rattle.base_lemmas.proofs.Options.{err_said as err-said}
use Rattle.teasel_answers.specs.{Answers.is_answer_no, Refusals.ComparesNoPair, Refusals.no_next, Refusals.no_prev, Refusals.refused_pair}
use Rattle.teasel_messages.proofs.ReasonLaws.{refused-by}
use Rattle.teasel_messages.specs.{Reasons.RefusedFor, Reasons.for_reason, Reasons.is_memory, declared.refusal.Refusal.Refusal}
use Rattle.witc_texts.specs.Worlds.{ComparesBytes, RefusesCompared}
use Rattle.witc_texts.specs.declared.comparison.Compared.{Compared}
use Rattle.teasel_answers.proofs.compared.compare.Goals as goal

pub returns-in-Err-clause-refused : goal.returns-in-Err-clause-refused
returns-in-Err-clause-refused c =
    let bytes = c.args.input.now.bytes.items in
    err-said (RefusedFor ((is_memory c.in-Err.error ≡ false) × (is_answer_no c.in-Err.error ≡ false))) (RefusedFor (ComparesNoPair bytes c.args.prev.now c.args.next.now))
    (λ (r : Refusal) is. refused-by _ _ _ (λ both. refused_pair c.in-Err.error both.0 both.1
    (subst (λ (xs : List ℕ). RefusesCompared xs c.args.prev.now c.args.next.now c.in-Err.error) c.deref.ensures.value c.in-Err.ensures.refused)) is) c.reason.result c.reason.ensures.refused

pub returns-in-Ok-NoPrev-clause-refused : goal.returns-in-Ok-NoPrev-clause-refused
returns-in-Ok-NoPrev-clause-refused c =
    let there = subst (λ (xs : List ℕ). ComparesBytes xs c.args.prev.now c.args.next.now c.in-Ok-NoPrev.field-0) c.deref.ensures.value c.in-Ok-NoPrev.ensures.compared in
    for_reason (no_prev (subst (λ (k : Compared). ComparesBytes c.args.input.now.bytes.items c.args.prev.now c.args.next.now k) c.in-Ok-NoPrev.field-0-is there))

pub returns-in-Ok-NoNew-clause-refused : goal.returns-in-Ok-NoNew-clause-refused
returns-in-Ok-NoNew-clause-refused c =
    let there = subst (λ (xs : List ℕ). ComparesBytes xs c.args.prev.now c.args.next.now c.in-Ok-NoNew.field-0) c.deref.ensures.value c.in-Ok-NoNew.ensures.compared in
    for_reason (no_next (subst (λ (k : Compared). ComparesBytes c.args.input.now.bytes.items c.args.prev.now c.args.next.now k) c.in-Ok-NoNew.field-0-is there))
