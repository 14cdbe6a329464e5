use Rattle.std.proofs.Common.{◌≡◌, ◌+◌, drop, sym, subst, true, Any, Bool}
use Rattle.base_lemmas.proofs.Options.{err_said as err-said, if_ok as if-ok}
use Rattle.teasel_files.specs.{AllTell.AllTell, declared.answer.Answer.Answer}
use Rattle.teasel_files.proofs.TellLaws.{tell-end, tell-step}
use Rattle.teasel_words.specs.Given.{texts_of}
use Rattle.teasel_answers.specs.Answers.{tells_pair}
use Rattle.teasel_answers.proofs.LentLaws.{tells_lent, tells-texts}
use Rattle.std.proofs.lemmas.Result.{err_from_is_err_and}
use Rattle.teasel_answers.specs.Refusals.{fails_pair}
use Rattle.teasel_files.proofs.AnyLaws.{any-text}
use Rattle.teasel_messages.proofs.ReasonLaws.{refused-by}
use Rattle.teasel_messages.specs.Reasons.{RefusedFor, for_memory}
use Rattle.teasel_messages.specs.declared.refusal.Refusal.{Refusal}
use Rattle.teasel_messages.specs.declared.refusal.Refusal.TheVariants.{Memory}
use Rattle.teasel_answers.proofs.compared.all_compared.Goals as goal

pub loop-value-preserved : goal.loop-value-preserved
loop-value-preserved c = λ all rest. c.loop-value.invariant all
    (tell-step (tells_lent c.args.input.now.bytes.items) c.args.pairs.now c.loop-value.value-index _ c.loop-value-test.true c.in_ok-fits.fits c.loop-value.all_fit all c.in_ok-fits.ensures.compared
    (subst (λ (b : Bool). AllTell (tells_lent c.args.input.now.bytes.items) (drop (c.loop-value.value-index + 1) c.args.pairs.now) b all) c.both-all_fit.ensures rest))

pub returns-clause-compared : goal.returns-clause-compared
returns-clause-compared c =
    let bytes = c.args.input.now.bytes.items in
    if-ok (λ (a : Answer). a.yes ≡ c.loop-value.all_fit) (λ (a : Answer). AllTell (tells_pair bytes) (texts_of c.args.pairs.now) true a.yes)
    (λ a is. subst (λ (b : Bool). AllTell (tells_pair bytes) (texts_of c.args.pairs.now) true b) (sym is) (tells-texts bytes c.args.pairs.now true c.loop-value.all_fit
    (c.loop-value.invariant c.loop-value.all_fit (tell-end (tells_lent bytes) c.args.pairs.now c.loop-value.value-index c.loop-value-test.false c.loop-value.all_fit))))
    c.end.result c.end.ensures.fits

pub returns-in_err-fits-clause-refused : goal.returns-in_err-fits-clause-refused
returns-in_err-fits-clause-refused c =
    let p = err_from_is_err_and c.from_residual-in_err-fits.result c.from_residual-in_err-fits.ensures.1 in
    rw (p.1, p.2) (refused-by _ _ _ (λ is. any-text (fails_pair c.args.input.now.bytes.items) c.args.pairs.now c.loop-value.value-index _ c.loop-value-test.true is) c.in_err-fits.ensures.refused)

pub returns-clause-refused : goal.returns-clause-refused
returns-clause-refused c = err-said (λ (r : Refusal). r ≡ Memory) (RefusedFor (Any (fails_pair c.args.input.now.bytes.items) (texts_of c.args.pairs.now))) (λ r is. for_memory is)
    c.end.result c.end.ensures.memory
