use Rattle.std.proofs.Common.{false, string_bytes, subst, List, Option, Vec, ℕ}
use Rattle.std.specs.declared.alloc.Global.{Global}
use Rattle.std.proofs.lemmas.Result.{err_from_is_err_and}
use Rattle.wit_model.specs.declared.model.StringEncoding.{StringEncoding}
use Rattle.teasel_answers.specs.Refusals.{no_world, unattached, unchosen}
use Rattle.teasel_messages.proofs.ReasonLaws.{refused-by}
use Rattle.teasel_messages.specs.Reasons.{for_reason}
use Rattle.witc_written.specs.Carried.{AttachesIfThere, HasNoWorld, RefusesAttached}
use Rattle.teasel_answers.proofs.embedded.attached.Goals as goal

pub returns-in_err-name-clause-refused : goal.returns-in_err-name-clause-refused
returns-in_err-name-clause-refused c =
    let p = err_from_is_err_and c.from_residual.result c.from_residual.ensures.1 in
    rw (p.1, p.2) (refused-by _ _ _ (λ none. unchosen none.0 none.1) c.in_err-name.ensures.refused)

pub returns-in-Ok-None-clause-refused : goal.returns-in-Ok-None-clause-refused
returns-in-Ok-None-clause-refused c =
    let bytes = c.args.bytes.now in
    let none = subst (λ (o : Option (Vec ℕ Global)). AttachesIfThere c.deref.result.now bytes c.deref-2.result.now c.encoding_of-encoding.result false o) c.in-Ok-None.field-0-is
    c.in-Ok-None.ensures.attached in
    for_reason (no_world (string_bytes c.in_ok-name.name) c.in_ok-name.ensures.chosen (subst (λ (t : List ℕ). HasNoWorld bytes t) c.deref-2.ensures none))

pub returns-clause-refused : goal.returns-clause-refused
returns-clause-refused c =
    let bytes = c.args.bytes.now in
    let e = c.in-Err.error in
    let m = c.args.«module».now.bytes.items in
    let one = subst (λ (xs : List ℕ). RefusesAttached xs bytes c.deref-2.result.now c.encoding_of-encoding.result false e) c.deref.ensures.value c.in-Err.ensures.refused in
    let two = subst (λ (t : List ℕ). RefusesAttached m bytes t c.encoding_of-encoding.result false e) c.deref-2.ensures one in
    let three = subst (λ (by : StringEncoding). RefusesAttached m bytes (string_bytes c.in_ok-name.name) by false e) c.encoding_of-encoding.ensures two in
    refused-by _ _ _ (λ other. unattached (string_bytes c.in_ok-name.name) e c.in_ok-name.ensures.chosen other three) c.refused.ensures
