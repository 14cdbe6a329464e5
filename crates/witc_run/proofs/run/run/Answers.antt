use Rattle.std.proofs.Common.{List, refl, subst, sym, ℕ}
use Rattle.witc_run.specs.Answers.{Answers}
use Rattle.witc_run.proofs.RunLaws.{usage-ends}
use Rattle.witc_run.proofs.run.run.Goals as goal

pub returns-in-None-clause-ends : goal.returns-in-None-clause-ends
returns-in-None-clause-ends g c = usage-ends _ _ _ _ _ _ (sym c.in-None.ensures) refl
    (subst (λ (text : List ℕ). Answers (g.W.Write.contents c.args.writer.now) (g.W.Write.contents c.answer.new.writer) text 2 c.answer.result) c.as_bytes.ensures.value c.answer.ensures)
