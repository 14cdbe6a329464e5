use Rattle.wit_model.specs.declared.model.{Resolve.Resolve, WorldId.WorldId}
use Rattle.wit_component.specs.{DecodedWorlds.IsDecodedWorld, Valid.IsValid}
use Rattle.callers.specs.Carried.{MeansTheSame}
use Rattle.callers.proofs.Flows.{same-world, valid-world}
use Rattle.base_lemmas.proofs.Options.{if_ok as if-ok}
use Rattle.callers.proofs.sent.carried.Goals as goal

pub returns-clause-same : goal.returns-clause-same
returns-clause-same c = if-ok (λ (x : Resolve × WorldId). IsDecodedWorld c.deref.result.now x.0 x.1.0) (λ (x : Resolve × WorldId). MeansTheSame c.args.resolve.now c.args.world.0 x.0 x.1.0)
    (same-world c.args.resolve.now c.args.world.0 c.deref.result.now c.in_ok-bytes.bytes.items c.deref.ensures.value c.in_ok-bytes.ensures.means) c.decode_world.result c.decode_world.ensures.decoded

pub returns-clause-valid : goal.returns-clause-valid
returns-clause-valid c = if-ok (λ (x : Resolve × WorldId). IsDecodedWorld c.deref.result.now x.0 x.1.0) (λ (x : Resolve × WorldId). IsValid x.0) (valid-world c.deref.result.now) c.decode_world.result
    c.decode_world.ensures.decoded
