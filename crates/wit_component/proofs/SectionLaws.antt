-- What the bytes of a section means and says.
use Rattle.std.proofs.Common.{rules as std_rules}
use Rattle.wit_component.specs.SectionBindings.{CarriedWorldsAreBound}

pub carried-bound : CarriedWorldsAreBound
carried-bound r n e bytes b means carries bound = search std_rules
