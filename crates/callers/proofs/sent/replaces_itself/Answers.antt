use Rattle.std.proofs.lemmas.Option.{slice_get_within}
use Rattle.wit_component.specs.Compatible.{Accepts, IsRefused}
use Rattle.callers.specs.Carried.{IsCarriedAndReplaced}
use Rattle.callers.proofs.Flows.{on-ok}
use Rattle.callers.proofs.sent.replaces_itself.Goals as goal

pub semver_check-requires-clause-valid : goal.semver_check-requires-clause-valid
semver_check-requires-clause-valid c = c.in_ok-again.ensures.valid

pub semver_check-requires-clause-prev : goal.semver_check-requires-clause-prev
semver_check-requires-clause-prev c = slice_get_within c.in_ok-again.again.worlds.items c.in_ok-again.number.0 c.in_ok-again.ensures.same.world c.in_ok-again.ensures.same.stands

pub semver_check-requires-clause-new : goal.semver_check-requires-clause-new
semver_check-requires-clause-new c = slice_get_within c.in_ok-again.again.worlds.items c.in_ok-again.number.0 c.in_ok-again.ensures.same.world c.in_ok-again.ensures.same.stands

pub returns : goal.returns
returns c =
    let s = c.in_ok-again.again in
    let same = c.in_ok-again.ensures.same in
    on-ok (Accepts s same.world same.world) (IsCarriedAndReplaced c.args.resolve.now c.args.world.0) (IsRefused s same.world same.world)
    (λ accepts. record { again = s; number = c.in_ok-again.number.0; same = same; accepts = accepts }) c.semver_check.result (c.semver_check.ensures same.world same.world same.stands same.stands)
