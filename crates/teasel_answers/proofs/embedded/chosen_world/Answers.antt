use Rattle.std.proofs.Common.{◌≡◌, subst, None, Bor, List}
use Rattle.base_lemmas.proofs.Options.{err_said as err-said}
use Rattle.teasel_answers.specs.Worlds.{HasNoOneWorld, last_of}
use Rattle.teasel_answers.proofs.Lists.{last-text}
use Rattle.teasel_messages.proofs.ReasonLaws.{refused-by}
use Rattle.teasel_messages.specs.{Reasons.RefusedFor, declared.refusal.Refusal.Refusal}
use Rattle.teasel_words.specs.{Given.texts_of, Table.Text}
use Rattle.teasel_answers.proofs.embedded.chosen_world.Goals as goal

pub returns-in-None-clause-refused : goal.returns-in-None-clause-refused
returns-in-None-clause-refused c =
    let none = subst (λ (ws : List (Bor Text)). last_of (texts_of ws) ≡ None) c.deref.ensures.value (last-text c.deref.result.now None c.in-None.ensures.value) in
    err-said (RefusedFor (HasNoOneWorld c.args.bytes.now)) (RefusedFor ((last_of (texts_of c.args.asked.now.worlds.items) ≡ None) × HasNoOneWorld c.args.bytes.now))
    (λ (r : Refusal) is. refused-by _ _ _ (λ one. (none, one)) is) c.only_world.result c.only_world.ensures.refused
