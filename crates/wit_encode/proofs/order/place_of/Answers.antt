use Rattle.std.proofs.Common.{◌∙◌, sym, ap}
use Rattle.std.specs.Option.{option_map, option_copied}
use Rattle.wit_model.specs.declared.model.TypeId.{TypeId}
use Rattle.wit_encode.proofs.Ordering.{place-missing, place-without}
use Rattle.wit_encode.proofs.order.place_of.Goals as goal

pub returns-in-None-get : goal.returns-in-None-get
returns-in-None-get c = place-missing c.args.types.now c.args.places.now c.args.func.now c.requires c.in-Some.id.0
    (sym c.resource.ensures ∙ ap (option_map (λ (t : TypeId). t.0)) c.in-Some.is) (sym c.get.ensures.value ∙ ap option_copied c.in-None-get.is)

pub returns-in-None : goal.returns-in-None
returns-in-None c = place-without c.args.types.now c.args.places.now c.args.func.now c.requires (sym c.resource.ensures ∙ ap (option_map (λ (t : TypeId). t.0)) c.in-None.is)
