use Rattle.print_output.proofs.RenderLaws.{Moves-writes}
use Rattle.print_output.proofs.laws.text_is_rendered.Goals as goal

pub returns : goal.returns
returns c = λ calls old new moved. Moves-writes moved
