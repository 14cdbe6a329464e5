-- What a fresh list of calls renders to.
use Rattle.std.proofs.Common.{rules as std_rules, ◌≡◌, ◌∙◌, ap, sym, List}
use Rattle.print_output.specs.Expansion.{appends}
use Rattle.print_output.specs.{OutputCall.Moves, OutputCall.OutputCall, OutputCall.OutputView, Render.Written, Render.blank, Render.render, Render.writes}
use Rattle.print_output.proofs.RenderLaws.{Expands-writes, Moves-appends, Moves-writes}
use Rattle.print_calls.specs.Listed.{no_calls}

-- a list that these calls moved renders to what they render to
pub list-renders : (calls : List OutputCall) (list : OutputView (List OutputCall)) → Moves appends no_calls calls list → render list.kept ≡ render calls
list-renders calls list moved = search (std_rules, Moves-appends, Expands-writes)

pub lists-as-text : (calls : List OutputCall) (list : OutputView (List OutputCall)) (text : OutputView Written) → Moves appends no_calls calls list → Moves writes blank calls text
    → render list.kept ≡ text.kept.text
lists-as-text calls list text moved written = list-renders calls list moved ∙ sym (ap (λ (v : OutputView Written). v.kept.text) (Moves-writes written))
