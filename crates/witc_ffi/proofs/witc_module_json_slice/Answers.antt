use Rattle.std.proofs.Common.{◌≡◌}
use Rattle.wit_model.specs.declared.error.{Error.Error, Error.TheVariants.Size}
use Rattle.wit_component.specs.{Bound.RefusesBindings, Reached.OutgrowsLists}
use Rattle.witc_listed.specs.Listings.{ListsModule}
use Rattle.witc_ffi.specs.Answers.{NeverBad, RefusesBound}
use Rattle.witc_ffi.proofs.OutcomeLaws.{both-said, of-bytes, passes}
use Rattle.witc_ffi.proofs.witc_module_json_slice.Goals as goal

pub returns : goal.returns
returns c =
    let bytes = c.args.bytes.now in
    let said = both-said (RefusesBindings bytes) (λ (e : Error). e ≡ Size → OutgrowsLists bytes) c.module_json.result c.module_json.ensures.refused c.module_json.ensures.size in
    passes (ListsModule bytes) (RefusesBound bytes) NeverBad c.of_bytes.result c.hand_out.result c.hand_out.new.answer.text c.hand_out.new.why
    (of-bytes (ListsModule bytes) (RefusesBound bytes) NeverBad c.module_json.result c.of_bytes.result c.module_json.ensures.listed said c.of_bytes.ensures) c.hand_out.ensures
