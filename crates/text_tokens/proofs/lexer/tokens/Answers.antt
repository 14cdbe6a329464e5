use Rattle.std.proofs.Common.{subst}
use Rattle.text_tokens.specs.Places.{HasNoTokenAt, HasTokensAt}
use Rattle.text_tokens.proofs.CutTexts.{has_no_token}
use Rattle.text_tokens.proofs.PlaceFacts.{has_tokens, so_far_none, so_far_one, so_far_skip}
use Rattle.text_tokens.proofs.lexer.tokens.Goals as goal

pub places-init : goal.places-init
places-init c = rw c.new-found.ensures.items (so_far_none c.as_bytes-bytes.result.now)

pub returns-in-Ended-clause-tokens : goal.returns-in-Ended-clause-tokens
returns-in-Ended-clause-tokens c =
    subst (λ x. HasTokensAt x c.places.found.items) c.as_bytes-bytes.ensures.value
    (has_tokens c.as_bytes-bytes.result.now c.places.at c.places.found.items c.places.invariant c.in-Ended.ensures)

pub places-preserved-in-Skipped : goal.places-preserved-in-Skipped
places-preserved-in-Skipped c = so_far_skip c.as_bytes-bytes.result.now c.places.at c.in-Skipped.next c.places.found.items c.places.invariant c.in-Skipped.ensures

pub places-preserved : goal.places-preserved
places-preserved c =
    rw c.in_ok-push-in-Found.ensures.items
    (so_far_one c.as_bytes-bytes.result.now c.places.at c.in-Found.token c.places.found.items c.places.invariant c.in-Found.ensures)

pub returns-in-Unknown-clause-refused : goal.returns-in-Unknown-clause-refused
returns-in-Unknown-clause-refused c =
    subst (λ x. HasNoTokenAt x c.places.at) c.as_bytes-bytes.ensures.value
    (has_no_token c.as_bytes-bytes.result.now c.places.at c.places.found.items c.places.invariant c.in-Unknown.ensures)
