use Rattle.std.proofs.lemmas.Option.{slice_get_within}
use Rattle.witc_texts.specs.Worlds.{RefusesNames, compatible, no_new, no_prev, refused}
use Rattle.witc_texts.proofs.comparison.compare.Goals as goal
use Rattle.base_lemmas.proofs.Options.{passed}

pub returns-in_default-clause-compared : goal.returns-in_default-clause-compared
returns-in_default-clause-compared c = no_prev c.in_default.ensures

pub returns-in_default-world_of-clause-compared : goal.returns-in_default-world_of-clause-compared
returns-in_default-world_of-clause-compared c = no_new c.in-Some.ensures.0 c.in-Some.ensures.2 c.in_default-world_of.ensures

pub semver_check-requires-clause-prev : goal.semver_check-requires-clause-prev
semver_check-requires-clause-prev c = slice_get_within c.args.resolve.worlds.items c.in-Some.prev.0 c.in-Some.ensures.0 c.in-Some.ensures.1

pub semver_check-requires-clause-new : goal.semver_check-requires-clause-new
semver_check-requires-clause-new c = slice_get_within c.args.resolve.worlds.items c.in-Some-world_of.new.0 c.in-Some-world_of.ensures.0 c.in-Some-world_of.ensures.1

pub returns-in_err-semver_check-clause-refused : goal.returns-in_err-semver_check-clause-refused
returns-in_err-semver_check-clause-refused c =
    let prev = c.in-Some.ensures in
    let new = c.in-Some-world_of.ensures in
    let e = c.in_err-semver_check.field-0.0 in
    passed (RefusesNames c.args.resolve c.args.id.0 c.args.prev.now c.args.new.now) c.from_residual.result e c.from_residual.ensures.1
    (refused prev.0 new.0 e prev.2 new.2 (c.in_err-semver_check.ensures prev.0 new.0 prev.1 new.1))

pub returns-clause-compared : goal.returns-clause-compared
returns-clause-compared c =
    let prev = c.in-Some.ensures in
    let new = c.in-Some-world_of.ensures in
    compatible prev.0 new.0 prev.2 new.2 (c.in_ok-semver_check.ensures prev.0 new.0 prev.1 new.1)
