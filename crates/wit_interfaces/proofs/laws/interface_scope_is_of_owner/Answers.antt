use Rattle.std.proofs.Common.{refl}
use Rattle.wit_encode.proofs.OwnerScope.{table_is_scope}
use Rattle.wit_interfaces.specs.InterfaceEncoders.{packages_of, world_of}
use Rattle.wit_interfaces.proofs.laws.interface_scope_is_of_owner.Goals as goal

pub returns : goal.returns
returns c = λ e can.
    let t = table_is_scope (packages_of e) (world_of e) can.valid in
    record { packages_ = refl; place_ = refl; own = refl; declares = t.declares; names = t.names; sound = can.sound }
