use Rattle.print_output.proofs.RenderLaws.{Expands-whole}
use Rattle.print_output.proofs.laws.whole_list_is_calls.Goals as goal

pub returns : goal.returns
returns c = Expands-whole
