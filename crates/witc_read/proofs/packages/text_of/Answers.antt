use Rattle.std.proofs.{Common.refl, Common.true, Common.false, Common.◌≡◌, lemmas.Str.IsUtf8-from_is_utf8, lemmas.Str.is_utf8-from_IsUtf8}
use Rattle.std.specs.Str.{is_utf8}
use Rattle.witc_read.proofs.packages.text_of.Goals as goal

pub returns-in-Ok : goal.returns-in-Ok
returns-in-Ok c = (c.in-Ok.ensures.cases.0, is_utf8-from_IsUtf8 _ c.in-Ok.ensures.cases.1)

pub returns-in-Err : goal.returns-in-Err
returns-in-Err c =
    elim (is_utf8 c.args.bytes.now) as (λ b. is_utf8 c.args.bytes.now ≡ b → b ≡ false)
    [ true ↦ λ e. absurd (c.in-Err.ensures.cases.0 (IsUtf8-from_is_utf8 _ e)) | false ↦ λ e. refl ] refl
