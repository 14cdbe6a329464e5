use Rattle.std.proofs.Common.{rules, ◌≡◌, ◌<◌, ◌∙◌, ap, sym, refl, true, length, slice_get, Some}
use Rattle.std.proofs.lemmas.Option.{slice_get_read}
use Rattle.bind_union.specs.Views.{renamed_type}
use Rattle.bind_copy.specs.Copies.{are_params_below, number_under, IsParamUnder}
use Rattle.wit_model.specs.Text.{text_of}
use Rattle.wit_model.specs.declared.model.Param.{Param}
use Rattle.bind_copy.proofs.{Members.params_are, Members.params_later, Written.all_written, Written.item_written, Written.none_written}
use Rattle.bind_copy.proofs.functions.renumber_params.Goals as goal

pub loop-param-init : goal.loop-param-init
loop-param-init c = none_written (IsParamUnder c.args.types.now) (λ ps. are_params_below (length c.args.types.now) ps ≡ true) c.args.params.now c.requires

pub loop-param-preserved : goal.loop-param-preserved
loop-param-preserved c =
    let types = c.args.types.now in
    let now = c.loop-param.params in
    let n = c.loop-param.param-index in
    let x = c.param-item.result in
    let within : n < length now = search rules in
    let here : slice_get now n ≡ Some x = slice_get_read now _ n x refl within c.param-item.is in
    item_written (IsParamUnder types) (λ ps. are_params_below (length types) ps ≡ true) (params_later (length types)) c.args.params.now now _ n x _ here
    (λ xs left. (ap (λ (p : Param). text_of p.name) (sym c.param-item.is), c.image_of-param.ensures ∙ ap (λ (p : Param). renamed_type (number_under types) p.ty) (sym c.param-item.is)))
    refl c.loop-param.invariant

pub returns : goal.returns
returns c =
    let types = c.args.types.now in
    params_are types c.args.params.now c.loop-param.params
    (all_written (IsParamUnder types) (λ ps. are_params_below (length types) ps ≡ true) c.args.params.now c.loop-param.params c.loop-param.param-index (search rules) c.loop-param.invariant)
