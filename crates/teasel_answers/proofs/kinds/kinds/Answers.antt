use Rattle.std.proofs.Common.{◌≡◌, ◌+◌, drop, sym, subst, true, Any, Bool}
use Rattle.base_lemmas.proofs.Options.{err_said as err-said, if_ok as if-ok}
use Rattle.teasel_answers.specs.{Kinds.IsKnown, Refusals.Outgrows}
use Rattle.teasel_files.specs.{AllTell.AllTell, declared.answer.Answer.Answer}
use Rattle.teasel_texts.specs.declared.input.Input.{Input}
use Rattle.teasel_files.proofs.{AnyLaws.any-at, TellLaws.tell-end, TellLaws.tell-step}
use Rattle.teasel_messages.proofs.ReasonLaws.{refused-by}
use Rattle.teasel_messages.specs.Reasons.{RefusedFor, for_memory}
use Rattle.teasel_messages.specs.declared.refusal.Refusal.{Refusal}
use Rattle.teasel_messages.specs.declared.refusal.Refusal.TheVariants.{Memory}
use Rattle.teasel_answers.proofs.kinds.kinds.Goals as goal

pub loop-input-preserved : goal.loop-input-preserved
loop-input-preserved c = λ all rest. c.loop-input.invariant all
    (tell-step IsKnown c.args.inputs.now c.loop-input.input-index _ c.loop-input-test.true c.in-Ok.known c.loop-input.all_known all
    (subst (λ (x : Input). IsKnown x c.in-Ok.known) c.input-item.is c.in-Ok.ensures.known)
    (subst (λ (b : Bool). AllTell IsKnown (drop (c.loop-input.input-index + 1) c.args.inputs.now) b all) c.both-all_known.ensures rest))

pub returns-clause-known : goal.returns-clause-known
returns-clause-known c = if-ok (λ (a : Answer). a.yes ≡ c.loop-input.all_known) (λ (a : Answer). AllTell IsKnown c.args.inputs.now true a.yes)
    (λ a is. subst (λ (b : Bool). AllTell IsKnown c.args.inputs.now true b) (sym is)
    (c.loop-input.invariant c.loop-input.all_known (tell-end IsKnown c.args.inputs.now c.loop-input.input-index c.loop-input-test.false c.loop-input.all_known)))
    c.end.result c.end.ensures.fits

pub returns-in-Err-clause-refused : goal.returns-in-Err-clause-refused
returns-in-Err-clause-refused c = refused-by _ _ _ (λ other. any-at Outgrows c.args.inputs.now c.loop-input.input-index _ c.loop-input-test.true
    (subst Outgrows c.input-item.is (c.in-Err.ensures.refused other))) c.refusal_of.ensures

pub returns-clause-refused : goal.returns-clause-refused
returns-clause-refused c = err-said (λ (r : Refusal). r ≡ Memory) (RefusedFor (Any Outgrows c.args.inputs.now)) (λ r is. for_memory is) c.end.result c.end.ensures.memory
