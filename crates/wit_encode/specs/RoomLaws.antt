-- Which interfaces have no room in an instance type.
use Rattle.std.specs.Prelude.{◌≡◌, ◌<◌, Some}
use Rattle.wit_model.specs.{Lookup.interface_at, Valid.IsValid, Weight.whole_instance_weight}
use Rattle.wit_model.specs.declared.model.{Resolve.Resolve, Interface.Interface, InterfaceId.InterfaceId}
use Rattle.encode_types.specs.Room.{limit}
use Rattle.wit_encode.specs.Encoders.{InterfaceLacksRoom}

-- An interface that has no room in an instance type weighs more than the largest number of 32 bits.
abbrev pub LackingInterfacesAreHeavy : Type 0
LackingInterfacesAreHeavy = (r : Resolve) (i : InterfaceId) (def : Interface) → IsValid r → interface_at r i.0 ≡ Some def → InterfaceLacksRoom r i def
    → limit < whole_instance_weight r i.0
