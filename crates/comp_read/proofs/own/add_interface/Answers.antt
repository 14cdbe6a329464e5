use Rattle.std.proofs.Common.{refl}
use Rattle.read_exports.specs.Members.{numbered_members}
use Rattle.read_rules.specs.Sights.{numbered_sight}
use Rattle.comp_read.proofs.OwnViews.{adds_new, adds_none}
use Rattle.comp_read.proofs.own.add_interface.Goals as goal

pub returns-in_ok-push : goal.returns-in_ok-push
returns-in_ok-push c = adds_new c.args.package_number c.args.label.now (numbered_sight c.args.sight) c.args.places.now.keys c.insert.new.self.keys c.in_ok-insert.field-0 c.in_ok-insert.ensures.added
    c.in_ok-insert.ensures.keys c.if-branch.true c.args.members.now.items _
    c.push.new.self.items c.in_ok-push.ensures.items (record { label_is = refl; package_ = refl; part = refl })

pub returns-else-branch : goal.returns-else-branch
returns-else-branch c = adds_none c.args.package_number c.args.label.now (numbered_sight c.args.sight) c.args.places.now.keys c.insert.new.self.keys c.in_ok-insert.field-0 c.in_ok-insert.ensures.added
    c.in_ok-insert.ensures.keys c.if-branch.false (numbered_members c.args.members.now.items)
