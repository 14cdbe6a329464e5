use Rattle.wit_interfaces.proofs.Calls.{encode-leaves, used-outside}
use Rattle.wit_interfaces.proofs.encoder.InterfaceEncoder.encode_instance.Goals as goal

pub define_instance-requires-clause-around : goal.define_instance-requires-clause-around
define_instance-requires-clause-around c = used-outside c.args.self.now c.args.interface.0 c.requires.uses

pub returns-clause-leaves : goal.returns-clause-leaves
returns-clause-leaves c = encode-leaves c.define_instance.result c.args.self.now c.requires.can c.define_instance.new.self c.define_instance.ensures.rest c.args.interface c.requires.in_range
    c.define_instance.ensures.ok c.define_instance.ensures.err
