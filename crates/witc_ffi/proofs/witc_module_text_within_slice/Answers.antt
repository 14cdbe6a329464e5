use Rattle.std.proofs.Common.{◌≡◌}
use Rattle.wit_model.specs.declared.error.{Error.Error, Error.TheVariants.Size}
use Rattle.wit_component.specs.{Bound.RefusesBindings, Reached.OutgrowsLists}
use Rattle.witc_texts.specs.Bindings.{PrintsModule}
use Rattle.witc_ffi.specs.Answers.{RefusesBound}
use Rattle.witc_ffi.proofs.OutcomeLaws.{both-said, passes-within}
use Rattle.witc_ffi.proofs.witc_module_text_within_slice.Goals as goal

pub returns : goal.returns
returns c =
    let bytes = c.args.bytes.now in
    let said = both-said (RefusesBindings bytes) (λ (e : Error). e ≡ Size → OutgrowsLists bytes) c.module_text_within.result c.module_text_within.ensures.refused c.module_text_within.ensures.size in
    passes-within (PrintsModule bytes) (RefusesBound bytes) c.args.most c.module_text_within.result c.of_text_within.result c.hand_out.result c.hand_out.new.answer.text c.hand_out.new.why
    c.module_text_within.ensures.within said c.of_text_within.ensures c.hand_out.ensures
