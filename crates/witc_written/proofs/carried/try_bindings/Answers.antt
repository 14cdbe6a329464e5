use Rattle.std.proofs.Common.{◌≡◌}
use Rattle.wit_model.specs.declared.error.{Error.Error, Error.TheVariants.Size}
use Rattle.wit_component.specs.{Bindings.binding_of, Bound.RefusesBindings, Reached.OutgrowsLists}
use Rattle.base_lemmas.proofs.Options.{passed}
use Rattle.witc_written.proofs.carried.try_bindings.Goals as goal

pub returns-in_err-_stripped-clause-refused : goal.returns-in_err-_stripped-clause-refused
returns-in_err-_stripped-clause-refused c = passed (RefusesBindings c.args.bytes.now) c.from_residual.result c.in_err-_stripped.field-0.0 c.from_residual.ensures.1 c.in_err-_stripped.ensures.refuses

pub returns-in_err-_stripped-clause-size : goal.returns-in_err-_stripped-clause-size
returns-in_err-_stripped-clause-size c =
    passed (λ (e : Error). e ≡ Size → OutgrowsLists c.args.bytes.now) c.from_residual.result c.in_err-_stripped.field-0.0 c.from_residual.ensures.1 c.in_err-_stripped.ensures.size

pub returns-clause-bound : goal.returns-clause-bound
returns-clause-bound c = (binding_of c.in_ok-_stripped._bound, c.in_ok-_stripped.ensures.bound)
