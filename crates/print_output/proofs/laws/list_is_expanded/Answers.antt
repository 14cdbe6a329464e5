use Rattle.print_output.proofs.RenderLaws.{Moves-appends}
use Rattle.print_output.proofs.laws.list_is_expanded.Goals as goal

pub returns : goal.returns
returns c = λ calls old new moved. Moves-appends moved
