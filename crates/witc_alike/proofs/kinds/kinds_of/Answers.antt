use Rattle.std.proofs.Common.{◌≡◌, ◌+◌}
use Rattle.wit_model.specs.declared.error.{Error.Error, Error.TheVariants.Size}
use Rattle.wit_component.specs.{Bindings.binding_of, Decoded.RefusesBytes, Reached.OutgrowsLists}
use Rattle.witc_alike.specs.Kinds.{IsUnknown}
use Rattle.witc_alike.proofs.KindLaws.{module-told, open-told, package-fits, package-told, world-told}
use Rattle.base_lemmas.proofs.Options.{err_said, passed}
use Rattle.witc_alike.proofs.kinds.kinds_of.Goals as goal

pub returns-in_err-package-clause-unknown : goal.returns-in_err-package-clause-unknown
returns-in_err-package-clause-unknown c =
    let bytes = c.args.bytes.now in
    let e = c.in_err-package.field-0.0 in
    passed (IsUnknown bytes) c.from_residual.result e c.from_residual.ensures.1
    (open-told bytes c.decode.result e c.in_err-package.ensures (err_said (RefusesBytes bytes) (λ (d : Error). d ≡ Size → OutgrowsLists bytes) (package-fits bytes (OutgrowsLists bytes))
    c.decode.result c.decode.ensures.refuses))

pub returns-clause-kinds : goal.returns-clause-kinds
returns-clause-kinds c =
    let bytes = c.args.bytes.now in record {
      package_ = c.in_ok-package.«package»;
      world = c.in_ok-world.world;
      module_ = c.in_ok-module.«module»;
      is = λ i. c.bit.ensures i + (c.bit-2.ensures i + c.bit-3.ensures i);
      reads = package-told bytes c.in_ok-package.«package» c.decode.result c.decode.ensures.decoded c.decode.ensures.refuses c.in_ok-package.ensures;
      reads_world = world-told bytes c.in_ok-world.world c.decode_world.result c.decode_world.ensures.decoded c.decode_world.ensures.refuses c.in_ok-world.ensures;
      binds = module-told (λ y. binding_of y.1) c.bound_once.ensures.refused bytes c.in_ok-module.«module» c.decode-2.result c.decode-2.ensures.bound c.decode-2.ensures.refuses c.in_ok-module.ensures;
    }
