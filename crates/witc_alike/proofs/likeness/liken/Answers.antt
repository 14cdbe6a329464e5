use Rattle.std.proofs.{Common.◌≡◌, lemmas.Option.slice_get_within}
use Rattle.compat_meaning.specs.Senses.{sense_of}
use Rattle.witc_alike.specs.Likeness.{RefusesTwo, differ, first, no_first, no_second, same, second}
use Rattle.witc_alike.proofs.LikeLaws.{have-other, have-same, memory-refused}
use Rattle.base_lemmas.proofs.Options.{passed}
use Rattle.compat_meaning.specs.declared.place.Place.TheVariants as place
use Rattle.witc_alike.proofs.likeness.liken.Goals as goal

pub returns-in_err-resolve-clause-refused : goal.returns-in_err-resolve-clause-refused
returns-in_err-resolve-clause-refused c =
    let e = c.in_err-resolve.field-0.0 in
    passed (RefusesTwo c.args.bytes.now c.args.name.now c.args.other.now) c.from_residual.result e c.from_residual.ensures.1 (first e c.in_err-resolve.ensures.refuses)

pub returns-in_default-clause-compared : goal.returns-in_default-clause-compared
returns-in_default-clause-compared c =
    no_first (record { resolve = c.in_ok-resolve.resolve; number = c.in_ok-resolve.id.0; decoded = c.in_ok-resolve.ensures.decoded; named = c.in_default.ensures })

pub returns-in_err-second-clause-refused : goal.returns-in_err-second-clause-refused
returns-in_err-second-clause-refused c =
    let e = c.in_err-second.field-0.0 in
    passed (RefusesTwo c.args.bytes.now c.args.name.now c.args.other.now) c.from_residual-in_err-second.result e c.from_residual-in_err-second.ensures.1
    (second c.in_ok-resolve.resolve c.in-Some.world e (record { number = c.in_ok-resolve.id.0; decoded = c.in_ok-resolve.ensures.decoded; named = c.in-Some.ensures })
    c.in_err-second.ensures.refuses)

pub world_of-requires-2-clause-in_range : goal.world_of-requires-2-clause-in_range
world_of-requires-2-clause-in_range c =
    let is = c.in_ok-second.ensures.decoded in
    slice_get_within c.in_ok-second.second.packages.items c.in_ok-second.second_id.0 is.package_ is.stands

pub returns-in_default-world_of-clause-compared : goal.returns-in_default-world_of-clause-compared
returns-in_default-world_of-clause-compared c = no_second c.in_ok-resolve.resolve c.in-Some.world
    (record { number = c.in_ok-resolve.id.0; decoded = c.in_ok-resolve.ensures.decoded; named = c.in-Some.ensures })
    (record { resolve = c.in_ok-second.second; number = c.in_ok-second.second_id.0; decoded = c.in_ok-second.ensures.decoded; named = c.in_default-world_of.ensures })

pub returns-in_err-same_sense-clause-refused : goal.returns-in_err-same_sense-clause-refused
returns-in_err-same_sense-clause-refused c =
    let e = c.in_err-same_sense.field-0.0 in
    passed (RefusesTwo c.args.bytes.now c.args.name.now c.args.other.now) c.from_residual-in_err-same_sense.result e c.from_residual-in_err-same_sense.ensures.1
    (first e (memory-refused c.args.bytes.now e c.in_err-same_sense.ensures.refuses))

pub returns-then-branch-clause-compared : goal.returns-then-branch-clause-compared
returns-then-branch-clause-compared c =
    let r = c.in_ok-resolve.resolve in
    let s = c.in_ok-second.second in
    let a = c.in-Some.world in
    let b = c.in-Some-world_of.second_world in
    same r s a b (record { number = c.in_ok-resolve.id.0; decoded = c.in_ok-resolve.ensures.decoded; named = c.in-Some.ensures })
    (record { number = c.in_ok-second.second_id.0; decoded = c.in_ok-second.ensures.decoded; named = c.in-Some-world_of.ensures })
    (have-same (sense_of r (place.World a) ≡ sense_of s (place.World b)) c.in_ok-same_sense.field-0 c.if-branch.true c.in_ok-same_sense.ensures.exact)

pub returns-clause-compared : goal.returns-clause-compared
returns-clause-compared c =
    let r = c.in_ok-resolve.resolve in
    let s = c.in_ok-second.second in
    let a = c.in-Some.world in
    let b = c.in-Some-world_of.second_world in
    differ r s a b (record { number = c.in_ok-resolve.id.0; decoded = c.in_ok-resolve.ensures.decoded; named = c.in-Some.ensures })
    (record { number = c.in_ok-second.second_id.0; decoded = c.in_ok-second.ensures.decoded; named = c.in-Some-world_of.ensures })
    (have-other (sense_of r (place.World a) ≡ sense_of s (place.World b)) c.in_ok-same_sense.field-0 c.if-branch.false c.in_ok-same_sense.ensures.exact)
