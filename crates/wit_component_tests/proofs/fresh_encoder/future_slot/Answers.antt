use Rattle.std.proofs.Common.{refl, sym, subst}
use Rattle.wit_model.specs.declared.model.Resolve.{Resolve}
use Rattle.encode_types.specs.View.{Agrees}
use Rattle.wit_component.specs.InterfaceEncoders.{interface_encoder_view}
use Rattle.wit_component_tests.proofs.fresh_encoder.future_slot.Goals as goal

pub encode_unit_future-requires : goal.encode_unit_future-requires
encode_unit_future-requires c = λ _. (
  (refl, tt),
  (c.new-encoder.ensures.sound, subst (λ (r : Resolve). Agrees r (interface_encoder_view c.new-encoder.result)) (sym c.new-encoder.ensures.packages) c.new-encoder.ensures.agree),
)
