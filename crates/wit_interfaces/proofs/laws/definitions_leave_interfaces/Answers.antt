use Rattle.wit_interfaces.specs.InterfaceEncoders.{interface_encoder_view}
use Rattle.wit_interfaces.proofs.Leaving as lemmas
use Rattle.wit_interfaces.proofs.laws.definitions_leave_interfaces.Goals as goal

pub returns : goal.returns
returns c = λ e e' h g same. lemmas.scope-can (interface_encoder_view e) (interface_encoder_view e') h same g.more
