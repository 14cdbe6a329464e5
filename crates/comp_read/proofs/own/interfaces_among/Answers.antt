use Rattle.std.proofs.Common.{ap, map}
use Rattle.read_exports.specs.Members.{homes_alone, numbered_members}
use Rattle.read_rules.specs.Sights.{numbered_sight}
use Rattle.comp_read.proofs.OwnViews.{more_gathered, none_gathered, own_gathered}
use Rattle.comp_read.proofs.own.interfaces_among.Goals as goal

pub loop-sight-init : goal.loop-sight-init
loop-sight-init c = none_gathered (homes_alone c.args.homes.now) c.args.package_number (map numbered_sight c.args.sights.now) c.new-places.result.keys c.new-places.ensures.empty
    (numbered_members c.new-members.result.items) (ap numbered_members c.new-members.ensures.items)

pub loop-sight-preserved : goal.loop-sight-preserved
loop-sight-preserved c = more_gathered numbered_sight c.args.sights.now (homes_alone c.args.homes.now) c.args.package_number c.loop-sight.sight-index _ c.loop-sight-test.true c.loop-sight.places.keys
    (numbered_members c.loop-sight.members.items) c.loop-sight.invariant c.add_view.new.places.keys (numbered_members c.add_view.new.members.items) c.in_ok-add_view.ensures

pub returns : goal.returns
returns c = own_gathered numbered_sight c.args.sights.now (homes_alone c.args.homes.now) c.args.package_number c.loop-sight.sight-index c.loop-sight-test.false c.loop-sight.places.keys
    (numbered_members c.loop-sight.members.items) c.loop-sight.invariant
