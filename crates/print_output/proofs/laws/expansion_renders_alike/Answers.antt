use Rattle.print_output.proofs.RenderLaws.{Expands-writes}
use Rattle.print_output.proofs.laws.expansion_renders_alike.Goals as goal

pub returns : goal.returns
returns c = Expands-writes
