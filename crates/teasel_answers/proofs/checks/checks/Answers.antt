use Rattle.std.proofs.Common.{◌≡◌, ◌+◌, drop, sym, subst, true, Bool}
use Rattle.base_lemmas.proofs.Options.{if_ok as if-ok}
use Rattle.teasel_answers.specs.{Checks.IsChecked}
use Rattle.teasel_files.specs.{AllTell.AllTell, declared.answer.Answer.Answer}
use Rattle.teasel_texts.specs.declared.input.Input.{Input}
use Rattle.teasel_files.proofs.TellLaws.{tell-end, tell-step}
use Rattle.teasel_answers.proofs.checks.checks.Goals as goal

pub loop-input-preserved : goal.loop-input-preserved
loop-input-preserved c = λ all rest. c.loop-input.invariant all
    (tell-step IsChecked c.args.inputs.now c.loop-input.input-index _ c.loop-input-test.true c.in_ok-checked.checked.ok c.loop-input.all_read all
    (subst (λ (x : Input). IsChecked x c.in_ok-checked.checked.ok) c.input-item.is c.in_ok-checked.ensures)
    (subst (λ (b : Bool). AllTell IsChecked (drop (c.loop-input.input-index + 1) c.args.inputs.now) b all) c.both-all_read.ensures rest))

pub returns-clause-checked : goal.returns-clause-checked
returns-clause-checked c = if-ok (λ (a : Answer). a.yes ≡ c.loop-input.all_read) (λ (a : Answer). AllTell IsChecked c.args.inputs.now true a.yes)
    (λ a is. subst (λ (b : Bool). AllTell IsChecked c.args.inputs.now true b) (sym is)
    (c.loop-input.invariant c.loop-input.all_read (tell-end IsChecked c.args.inputs.now c.loop-input.input-index c.loop-input-test.false c.loop-input.all_read)))
    c.end.result c.end.ensures.fits
