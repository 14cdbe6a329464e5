use Rattle.std.proofs.Common.{inl, inr, subst, List, ℕ}
use Rattle.teasel_answers.specs.{Answers.IsDifference, Forms.Shows, Forms.ShowsNothing}
use Rattle.teasel_answers.specs.declared.forms.Form.{Form}
use Rattle.teasel_words.specs.Given.{given_of}
use Rattle.teasel_answers.proofs.DifferLaws.{told-difference}
use Rattle.std.proofs.lemmas.Result.{err_from_is_err_and}
use Rattle.teasel_messages.proofs.ReasonLaws.{refused-by}
use Rattle.teasel_answers.proofs.differences.differences.Goals as goal

pub returns-clause-differs : goal.returns-clause-differs
returns-clause-differs c =
    let g = given_of c.args.asked.now in
    let o = c.in_ok-old_text.old_text in
    let n = c.in_ok-new_text.new_text in
    record {
      old_text = o;
      new_text = n;
      old_is = subst (λ (f : Form). Shows f g.kind c.args.old.now o) c.text_form.ensures c.in_ok-old_text.ensures.shows;
      new_is = subst (λ (f : Form). Shows f g.kind c.args.new.now n) c.text_form-2.ensures c.in_ok-new_text.ensures.shows;
      difference = subst (λ (xs : List ℕ). IsDifference c.args.old.now.name.now c.args.new.now.name.now xs n.items c.args.color c.difference.result) c.deref.ensures.value
          (subst (λ (ys : List ℕ). IsDifference c.args.old.now.name.now c.args.new.now.name.now c.deref.result.now ys c.args.color c.difference.result) c.deref-2.ensures.value
          (told-difference c.args.old.now.name.now c.args.new.now.name.now c.deref.result.now c.deref-2.result.now c.args.color c.in_ok-made.made c.difference.result c.in_ok-made.ensures.same
          c.in_ok-made.ensures.differs c.difference.ensures));
    }

pub returns-in_err-old_text-clause-refused : goal.returns-in_err-old_text-clause-refused
returns-in_err-old_text-clause-refused c =
    let p = err_from_is_err_and c.from_residual.result c.from_residual.ensures.1 in
    rw (p.1, p.2) (refused-by _ _ _ (λ none. inl (subst (λ (f : Form). ShowsNothing f (given_of c.args.asked.now).kind c.args.old.now) c.text_form.ensures none)) c.in_err-old_text.ensures.refused)

pub returns-in_err-new_text-clause-refused : goal.returns-in_err-new_text-clause-refused
returns-in_err-new_text-clause-refused c =
    let p = err_from_is_err_and c.from_residual-in_err-new_text.result c.from_residual-in_err-new_text.ensures.1 in
    rw (p.1, p.2) (refused-by _ _ _ (λ none. inr (subst (λ (f : Form). ShowsNothing f (given_of c.args.asked.now).kind c.args.new.now) c.text_form-2.ensures none)) c.in_err-new_text.ensures.refused)
