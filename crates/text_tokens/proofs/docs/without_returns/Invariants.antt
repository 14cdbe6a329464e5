use Rattle.std.proofs.Common.{◌≡◌, length}
use denote.Shadow.{shadow}
use denote.Text.{Utf8}
use Rattle.text_tokens.specs.Documentation.{without_returns}
use Rattle.text_tokens.proofs.docs.without_returns.Given as goal

abbrev pub invariant-returns : goal.invariant-returns
invariant-returns l = shadow (Utf8 l.rest) × (without_returns l.rest ≡ without_returns l.line)

abbrev pub decreases-returns : goal.decreases-returns
decreases-returns l = length l.rest
