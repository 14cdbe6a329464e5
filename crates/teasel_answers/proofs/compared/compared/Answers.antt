use Rattle.std.proofs.Common.{subst, Any, Bor, List}
use Rattle.base_lemmas.proofs.Options.{err_said as err-said}
use Rattle.teasel_answers.specs.Refusals.{ComparesNothing, fails_pair, no_pair}
use Rattle.teasel_messages.proofs.ReasonLaws.{refused-by}
use Rattle.teasel_messages.specs.{Reasons.RefusedFor, declared.refusal.Refusal.Refusal}
use Rattle.teasel_words.specs.{Given.given_of, Given.texts_of, Table.Text}
use Rattle.teasel_answers.proofs.compared.compared.Goals as goal

pub returns-clause-refused : goal.returns-clause-refused
returns-clause-refused c =
    let bytes = c.args.input.now.bytes.items in
    let g = given_of c.args.asked.now in
    err-said (RefusedFor (Any (fails_pair bytes) (texts_of c.deref-2.result.now))) (RefusedFor (ComparesNothing g c.args.input.now))
    (λ (r : Refusal) is. refused-by _ _ _ (λ one. no_pair (subst (λ (ws : List (Bor Text)). Any (fails_pair bytes) (texts_of ws)) c.deref-2.ensures.value one)) is)
    c.all_compared.result c.all_compared.ensures.refused
