-- What is asked of an encoder, time after time.
use Rattle.std.specs.Prelude.{[], ◌∷◌}
use Rattle.wit_model.specs.declared.model.{Resolve.Resolve, «Type».«Type» as ValueType}
use Rattle.encode_types.specs.{Fits.CanEncode, View.Agrees, View.View}

-- An encoder with this view can be asked for the type.
pub record CanBeAsked (r : Resolve) (t : ValueType) (v : View) : Type 0 where
  pub encodable : CanEncode r v.scope (t ∷ [])
  pub agree : Agrees r v
