use Rattle.print_calls.proofs.Rendered.{lists-as-text}
use Rattle.print_calls.proofs.laws.list_renders_to_text.Goals as goal

pub returns : goal.returns
returns c = lists-as-text
