use Rattle.std.proofs.Common.{◌≡◌, ◌∙◌, subst, sym, false, Bool, List, ℕ}
use Rattle.base_lemmas.proofs.Options.{if_ok as if-ok}
use Rattle.teasel_answers.specs.Checks.{IsChecked, Means, MeansNone, MeansNoneOf}
use Rattle.teasel_answers.specs.declared.checks.Checked.{Checked}
use Rattle.teasel_answers.proofs.checks.check.Goals as goal

pub returns-in_ok-about-in-Ok : goal.returns-in_ok-about-in-Ok
returns-in_ok-about-in-Ok c = (c.if-not-input.false, subst (λ (xs : List ℕ). Means xs) c.deref.ensures.value c.in-Ok.ensures.means)

pub returns-else-is_memory : goal.returns-else-is_memory
returns-else-is_memory c =
    let i = c.args.input.now in
    let none = subst (λ (xs : List ℕ). MeansNone xs) c.deref.ensures.value (c.in-Err.ensures.none (sym c.is_memory.ensures ∙ c.if-is_memory.false)) in
    if-ok (λ (k : Checked). k.ok ≡ false) (λ (k : Checked). IsChecked i k.ok)
    (λ k is. subst (λ (b : Bool). IsChecked i b) (sym is) (subst (λ (b : Bool). MeansNoneOf b i.bytes.items) (sym c.if-not-input.false) none))
    c.refused-else-is_memory.result c.refused-else-is_memory.ensures
