use Rattle.std.proofs.lemmas.{List.take_more, List.Elements.Contains-get_or}
use Rattle.encode_types.specs.Maps.{IsWritten}
use Rattle.wit_model.proofs.Elements.{zip-push}
use Rattle.wit_model.specs.declared.model.«Type».TheVariants as ty
use Rattle.encode_types.proofs.definition.values_in.Goals as goal

pub value_in-value-requires : goal.value_in-value-requires
value_in-value-requires c = c.requires _ (Contains-get_or _ _ _ c.loop-ty-test.true)

pub loop-ty-preserved : goal.loop-ty-preserved
loop-ty-preserved c = rw (take_more c.args.types.now c.loop-ty.ty-index ty.Bool c.loop-ty-test.true, c.in_ok-push.ensures.items)
    (zip-push (IsWritten c.args.maps.now) _ _ _ _ c.loop-ty.invariant c.value_in-value.ensures)
