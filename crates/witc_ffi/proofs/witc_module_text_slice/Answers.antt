use Rattle.std.proofs.Common.{◌≡◌}
use Rattle.wit_model.specs.declared.error.{Error.Error, Error.TheVariants.Size}
use Rattle.wit_component.specs.{Bound.RefusesBindings, Reached.OutgrowsLists}
use Rattle.witc_texts.specs.Bindings.{PrintsModule}
use Rattle.witc_ffi.specs.Answers.{NeverBad, RefusesBound}
use Rattle.witc_ffi.proofs.OutcomeLaws.{both-said, of-bytes, passes}
use Rattle.witc_ffi.proofs.witc_module_text_slice.Goals as goal

pub returns : goal.returns
returns c =
    let bytes = c.args.bytes.now in
    let said = both-said (RefusesBindings bytes) (λ (e : Error). e ≡ Size → OutgrowsLists bytes) c.module_text.result c.module_text.ensures.refused c.module_text.ensures.size in
    passes (PrintsModule bytes) (RefusesBound bytes) NeverBad c.of_bytes.result c.hand_out.result c.hand_out.new.answer.text c.hand_out.new.why
    (of-bytes (PrintsModule bytes) (RefusesBound bytes) NeverBad c.module_text.result c.of_bytes.result c.module_text.ensures.printed said c.of_bytes.ensures) c.hand_out.ensures
