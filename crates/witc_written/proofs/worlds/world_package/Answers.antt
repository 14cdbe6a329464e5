use Rattle.std.proofs.lemmas.Option.{slice_get_within}
use Rattle.base_lemmas.proofs.Options.{passed}
use Rattle.witc_written.specs.Worlds.{RefusesEncodedWorld, unread}
use Rattle.witc_written.proofs.WorldLaws.{has-world, world-encodes, world-refuses}
use Rattle.witc_written.proofs.worlds.world_package.Goals as goal

pub returns-in_err-resolve-clause-refused : goal.returns-in_err-resolve-clause-refused
returns-in_err-resolve-clause-refused c =
    let e = c.in_err-resolve.field-0.0 in
    passed (RefusesEncodedWorld c.args.bytes.now) c.from_residual.result e c.from_residual.ensures.1 (unread e c.in_err-resolve.ensures.refuses)

pub home_of-requires-clause-in_range : goal.home_of-requires-clause-in_range
home_of-requires-clause-in_range c =
    let is = c.in_ok-resolve.ensures.decoded in
    slice_get_within c.in_ok-resolve.resolve.worlds.items c.in_ok-resolve.world.0 is.world is.stands

pub returns-clause-encoded : goal.returns-clause-encoded
returns-clause-encoded c =
    let has = has-world c.args.bytes.now c.in_ok-resolve.resolve c.in_ok-resolve.world.0 c.home_of.result c.in_ok-resolve.ensures.decoded c.in_ok-resolve.ensures.order c.home_of.ensures.home in
    world-encodes c.args.bytes.now c.in_ok-resolve.resolve c.home_of.result has c.encode.result c.encode.ensures.means c.encode.ensures.holds

pub returns-clause-refused : goal.returns-clause-refused
returns-clause-refused c =
    let has = has-world c.args.bytes.now c.in_ok-resolve.resolve c.in_ok-resolve.world.0 c.home_of.result c.in_ok-resolve.ensures.decoded c.in_ok-resolve.ensures.order c.home_of.ensures.home in
    world-refuses c.args.bytes.now c.in_ok-resolve.resolve c.home_of.result has c.encode.result c.encode.ensures.refuses c.encode.ensures.size
