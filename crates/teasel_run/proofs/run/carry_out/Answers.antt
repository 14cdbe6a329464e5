use Rattle.std.proofs.Common.{refl, subst, ⊎_elim, Bool}
use Rattle.std.proofs.lemmas.Result.{err_from_is_err_and}
use Rattle.teasel_answers.specs.Answers.{Answers}
use Rattle.teasel_files.specs.Delivered.{IsDelivered}
use Rattle.teasel_messages.proofs.ReasonLaws.{refused-by}
use Rattle.teasel_messages.specs.Reasons.{for_reason}
use Rattle.teasel_words.specs.Given.{given_of}
use Rattle.teasel_run.specs.Runs.{named_twice, nameless, unanswered, unread, unwritten}
use Rattle.teasel_run.proofs.RunLaws.{has-its-files}
use Rattle.teasel_run.proofs.run.carry_out.Goals as goal

pub returns-clause-carries : goal.returns-clause-carries
returns-clause-carries g c =
    let given = given_of c.args.asked.now in
    let told = c.in_ok-answer.answer in
    record {
      inputs = c.in_ok-inputs.inputs.items;
      read = c.in_ok-inputs.ensures.inputs;
      answer = told;
      answers = subst (λ (b : Bool). Answers given b c.in_ok-inputs.inputs.items told) c.is_colored-color.ensures c.in_ok-answer.ensures.answers;
      is = refl;
      delivered = subst (λ (s : g.S.Store.State). IsDelivered g.S.Store.puts given told.text.items s (g.S.Store.state c.deliver.new.store) (g.W.Write.contents c.args.writer.now)
          (g.W.Write.contents c.deliver.new.writer)) c.take_inputs.ensures.kept c.in_ok-deliver.ensures.delivered;
    }

pub answer_of-requires : goal.answer_of-requires
answer_of-requires g c = λ asked.
    let holds = g.S.Store.holds (g.S.Store.state c.args.store.now) in
    let lists = g.S.Store.lists (g.S.Store.state c.args.store.now) in
    has-its-files holds lists (given_of c.args.asked.now) c.in_ok-inputs.inputs.items c.requires c.in_ok-inputs.ensures.inputs asked

pub returns-in_err-check_names-clause-stops : goal.returns-in_err-check_names-clause-stops
returns-in_err-check_names-clause-stops g c =
    let p = err_from_is_err_and c.from_residual.result c.from_residual.ensures.1 in
    rw (p.1, p.2) (refused-by _ _ _ (λ why. ⊎_elim nameless named_twice why) c.in_err-check_names.ensures)

pub returns-in_err-inputs-clause-stops : goal.returns-in_err-inputs-clause-stops
returns-in_err-inputs-clause-stops g c =
    let p = err_from_is_err_and c.from_residual-in_err-inputs.result c.from_residual-in_err-inputs.ensures.1 in
    rw (p.1, p.2) (refused-by _ _ _ (λ why. unread why) c.in_err-inputs.ensures.refused)

pub returns-in_err-answer-clause-stops : goal.returns-in_err-answer-clause-stops
returns-in_err-answer-clause-stops g c =
    let p = err_from_is_err_and c.from_residual-in_err-answer.result c.from_residual-in_err-answer.ensures.1 in
    rw (p.1, p.2) (refused-by _ _ _ (λ why. unanswered c.in_ok-inputs.inputs.items c.in_ok-inputs.ensures.inputs why) c.in_err-answer.ensures.refused)

pub returns-in_err-deliver-clause-stops : goal.returns-in_err-deliver-clause-stops
returns-in_err-deliver-clause-stops g c =
    let given = given_of c.args.asked.now in
    let told = c.in_ok-answer.answer in
    let p = err_from_is_err_and c.from_residual-in_err-deliver.result c.from_residual-in_err-deliver.ensures.1 in
    rw (p.1, p.2) (for_reason (unwritten c.in_ok-inputs.inputs.items told c.in_ok-inputs.ensures.inputs
    (subst (λ (b : Bool). Answers given b c.in_ok-inputs.inputs.items told) c.is_colored-color.ensures c.in_ok-answer.ensures.answers)))
