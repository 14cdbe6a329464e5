use Rattle.std.proofs.Common.{sym, subst, ◌∙◌, List, ℕ, Vec}
use Rattle.std.specs.declared.alloc.Global.{Global}
use Rattle.witc_texts.specs.Stripped.{StripsBytes}
use Rattle.witc_texts.proofs.StrippedLaws.{part-left, whole-left}
use Rattle.teasel_answers.specs.{Checks.RefusesModule, Refusals.refused}
use Rattle.teasel_messages.proofs.ReasonLaws.{refused-by}
use Rattle.teasel_answers.proofs.embedded.stripped.Goals as goal

pub returns-in-Ok-Some-clause-strips : goal.returns-in-Ok-Some-clause-strips
returns-in-Ok-Some-clause-strips c =
    let bytes = c.args.input.now.bytes.items in
    let left = part-left c.deref.result.now c.in-Ok-Some.field-0 c.in-Ok-Some.text c.in-Ok-Some.field-0-is c.in-Ok-Some.ensures.stripped in
    record {
      whole = c.if-not-input.false;
      yes = c.answered.ensures.0;
      strips = subst (λ (v : Vec ℕ Global). StripsBytes bytes v.items) (sym c.answered.ensures.1) (subst (λ (xs : List ℕ). StripsBytes xs c.in-Ok-Some.text.items) c.deref.ensures.value left);
    }

pub returns-in_ok-from_slice-in-Ok-None-clause-strips : goal.returns-in_ok-from_slice-in-Ok-None-clause-strips
returns-in_ok-from_slice-in-Ok-None-clause-strips c =
    let bytes = c.args.input.now.bytes.items in
    let copy = c.in_ok-from_slice-in-Ok-None.field-0 in
    let left = whole-left c.deref.result.now c.in-Ok-None.field-0 c.in-Ok-None.field-0-is c.in-Ok-None.ensures.stripped in
    let same = c.in_ok-from_slice-in-Ok-None.ensures.items ∙ c.deref-in-Ok-None.ensures.value in
    record {
      whole = c.if-not-input.false;
      yes = c.answered-in-Ok-None.ensures.0;
      strips = subst (λ (v : Vec ℕ Global). StripsBytes bytes v.items) (sym c.answered-in-Ok-None.ensures.1)
          (subst (λ (ys : List ℕ). StripsBytes bytes ys) (sym same) (subst (λ (xs : List ℕ). StripsBytes xs xs) c.deref.ensures.value left));
    }

pub returns-in-Err-clause-refused : goal.returns-in-Err-clause-refused
returns-in-Err-clause-refused c = refused-by _ _ _ (λ other. refused c.in-Err.error other
    (subst (λ (xs : List ℕ). RefusesModule xs c.in-Err.error) c.deref.ensures.value (c.in-Err.ensures.refused, c.in-Err.ensures.size))) c.refusal_of.ensures
