use Rattle.std.proofs.{Common.◌∙◌, Common.sym, Common.ap, Common.subst, Common.List, Common.ℕ, lemmas.Bool.true≢false}
use Rattle.wit_model.proofs.{VersionLaws.same_text, TextLemmas.text_same}
use Rattle.comp_bytes.specs.Frames.{IsCustom}
use Rattle.wit_metadata.specs.Encodings.{section_name}
use Rattle.wit_metadata.proofs.ModuleLaws.{name-refused, one-custom}
use Rattle.wit_metadata.proofs.said.said_in.Goals as goal

pub returns-then-eq : goal.returns-then-eq
returns-then-eq c = (
  c.if-id-ne0.false,
  subst (λ (t : List ℕ). IsCustom (t, c.in-Ok.behind.now) c.args.contents.now) (text_same c.in-Ok.name.now section_name (sym c.eq.ensures ∙ c.if-eq.true)) c.in-Ok.ensures,
)

pub returns-else-eq : goal.returns-else-eq
returns-else-eq c = λ e found custom.
    let same = one-custom c.args.contents.now (c.in-Ok.name.now, c.in-Ok.behind.now) (section_name, found) c.in-Ok.ensures custom in
    true≢false (sym (same_text c.in-Ok.name.now section_name (ap (λ (x : List ℕ × List ℕ). x.0) same)) ∙ (sym c.eq.ensures ∙ c.if-eq.false))

pub returns-in-Err : goal.returns-in-Err
returns-in-Err c = rw c.passed_over.ensures (λ e found custom. name-refused (c.args.id, c.args.contents.now) c.if-id-ne0.false c.in-Err.error c.in-Err.ensures
    (λ named. ((section_name, found), custom)))
