use Rattle.wit_encode.proofs.Refusing.{outer-pushed}
use Rattle.wit_encode.proofs.world.import_type_outside.Goals as goal

pub returns-clause-held : goal.returns-clause-held
returns-clause-held c = outer-pushed c.args.outer.now c.import.new.self _ c.in_ok-import.ensures.ok
