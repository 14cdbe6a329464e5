use Rattle.std.proofs.Common.{subst, IfErr, IfOk, List}
use Rattle.teasel_answers.specs.{Answers.Answers, Refusals.AnswersNothing}
use Rattle.teasel_messages.specs.Reasons.{RefusedFor}
use Rattle.teasel_texts.specs.declared.input.Input.{Input}
use Rattle.teasel_words.specs.Given.{given_of}
use Rattle.teasel_answers.proofs.answer.answer_of.Goals as goal

pub returns-clause-answers : goal.returns-clause-answers
returns-clause-answers c =
    let g = given_of c.args.asked.now in
    subst (λ (is : List Input). IfOk c.answer_or_usage.result (Answers g c.args.color is)) c.deref.ensures.value c.answer_or_usage.ensures.answers

pub returns-clause-refused : goal.returns-clause-refused
returns-clause-refused c =
    let g = given_of c.args.asked.now in
    subst (λ (is : List Input). IfErr c.answer_or_usage.result (RefusedFor (AnswersNothing g is))) c.deref.ensures.value c.answer_or_usage.ensures.refused
