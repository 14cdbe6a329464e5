use Rattle.read_exports.specs.Members.{homes_alone, numbered_members}
use Rattle.read_rules.specs.Sights.{numbered_sight}
use Rattle.comp_read.specs.OwnMembers.{another}
use Rattle.comp_read.proofs.OwnViews.{adds_own}
use Rattle.comp_read.proofs.own.add_view.Goals as goal

pub returns-in-Some : goal.returns-in-Some
returns-in-Some c = adds_own c.add_interface.result (homes_alone c.args.homes.now) c.args.package_number (numbered_sight c.args.sight) c.args.places.now.keys
    (numbered_members c.args.members.now.items) c.in-Some.label.now c.in-Some.ensures c.add_interface.new.places.keys (numbered_members c.add_interface.new.members.items) c.add_interface.ensures

pub returns-in-None : goal.returns-in-None
returns-in-None c = another c.in-None.ensures
