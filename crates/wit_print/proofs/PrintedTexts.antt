-- What an output holds that was blank before the calls of a file.
use Rattle.std.proofs.Common.{rules as std_rules, ◌≡◌, ℕ, List}
use Rattle.print_output.proofs.RenderLaws.{Moves-writes}
use Rattle.print_output.specs.{OutputCall.Moves, OutputCall.OutputCall, OutputCall.OutputView, Render.Written, Render.blank, Render.render, Render.writes}

-- it is what the calls render to
pub is-rendered : (calls : List OutputCall) (text : List ℕ) (old new : OutputView Written) → old ≡ blank → Moves writes old calls new → text ≡ new.kept.text → text ≡ render calls
is-rendered calls text old new at moved is = search (std_rules, Moves-writes)
