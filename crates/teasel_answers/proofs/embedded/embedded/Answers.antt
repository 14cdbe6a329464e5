use Rattle.std.proofs.Common.{subst, List, ℕ}
use Rattle.base_lemmas.proofs.Options.{err_said as err-said, if_ok as if-ok}
use Rattle.teasel_answers.specs.Answers.{Attaches, Embeds}
use Rattle.teasel_words.specs.Given.{given_of}
use Rattle.std.proofs.lemmas.Result.{err_from_is_err_and}
use Rattle.teasel_answers.specs.Refusals.{AttachesNothing, EmbedsNothing, nothing_attached, nothing_brought}
use Rattle.teasel_messages.proofs.ReasonLaws.{refused-by}
use Rattle.teasel_messages.specs.{Reasons.RefusedFor, declared.refusal.Refusal.Refusal}
use Rattle.teasel_answers.proofs.embedded.embedded.Goals as goal

pub returns-clause-embeds : goal.returns-clause-embeds
returns-clause-embeds c =
    let g = given_of c.args.asked.now in
    let m = c.args.«module».now in
    if-ok (Attaches g m c.deref-2.result.now) (Embeds g m c.args.«package».now)
    (λ a is. record { whole = c.if-not-module.false; bytes = c.in_ok-bytes.bytes; is = c.in_ok-bytes.ensures.shows; attaches = subst (λ (xs : List ℕ). Attaches g m xs a) c.deref-2.ensures.value is })
    c.attached.result c.attached.ensures.attaches

pub returns-in_err-bytes-clause-refused : goal.returns-in_err-bytes-clause-refused
returns-in_err-bytes-clause-refused c =
    let p = err_from_is_err_and c.from_residual.result c.from_residual.ensures.1 in
    rw (p.1, p.2) (refused-by _ _ _ (λ none. nothing_brought none) c.in_err-bytes.ensures.refused)

pub returns-clause-refused : goal.returns-clause-refused
returns-clause-refused c =
    let g = given_of c.args.asked.now in
    let m = c.args.«module».now in
    err-said (RefusedFor (AttachesNothing g m c.deref-2.result.now)) (RefusedFor (EmbedsNothing g m c.args.«package».now))
    (λ (r : Refusal) is. refused-by _ _ _ (λ none. nothing_attached c.in_ok-bytes.bytes c.in_ok-bytes.ensures.shows
    (subst (λ (xs : List ℕ). AttachesNothing g m xs) c.deref-2.ensures.value none)) is) c.attached.result c.attached.ensures.refused
