use Rattle.std.proofs.Common.{◌∙◌, refl, sym, subst, true, false, ◌≡◌}
use Rattle.std.specs.Str.{IsUtf8, is_utf8}
use Rattle.std.proofs.lemmas.Str.{IsUtf8-from_is_utf8, is_utf8-from_IsUtf8}
use Rattle.witc_run.proofs.command.text_of.Goals as goal

pub returns-in-Ok : goal.returns-in-Ok
returns-in-Ok c = (c.in-Ok.ensures.cases.0 ∙ c.deref.ensures.value, is_utf8-from_IsUtf8 _ (subst IsUtf8 c.deref.ensures.value c.in-Ok.ensures.cases.1))

pub returns-in-Err : goal.returns-in-Err
returns-in-Err c = elim (is_utf8 c.args.word.now.items) as (λ b. is_utf8 c.args.word.now.items ≡ b → b ≡ false)
    [ true ↦ λ e. absurd (c.in-Err.ensures.cases.0 (subst IsUtf8 (sym c.deref.ensures.value) (IsUtf8-from_is_utf8 _ e))) | false ↦ λ e. refl ] refl
