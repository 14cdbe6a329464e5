use Rattle.wit_encode.proofs.Refusing.{outer-pushed}
use Rattle.wit_encode.proofs.interface.define_outside.Goals as goal

pub returns-clause-held : goal.returns-clause-held
returns-clause-held c = outer-pushed c.args.outer.now c.defined.new.self _ c.in_ok-defined.ensures.ok
