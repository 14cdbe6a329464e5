-- An encoder of interfaces that can be used on.
use Rattle.std.specs.Prelude.{◌≡◌}
use Rattle.wit_model.specs.declared.model.Resolve.{Resolve}
use Rattle.wit_component.specs.InterfaceEncoders.{CanEncodeInterfaces, InterfaceEncoder, interface_encoder_view, packages_of}
use Rattle.wit_component.specs.View.{Agrees}

-- The encoder has these packages, interfaces of which can be encoded and imported, and what it knows of their types its slots stand for.
pub record IsEncoderOf (r : Resolve) (e : InterfaceEncoder) : Type 0 where
  pub packages_ : packages_of e ≡ r
  pub can : CanEncodeInterfaces (interface_encoder_view e)
  pub agree : Agrees r (interface_encoder_view e)
