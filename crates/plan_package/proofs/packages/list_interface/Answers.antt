use Rattle.std.proofs.Common.{ap}
use Rattle.read_homes.specs.Homes.{given_home}
use Rattle.plan_package.proofs.PackageLaws.{lists_entry}
use Rattle.plan_package.proofs.packages.list_interface.Goals as goal

pub returns-in_ok-push : goal.returns-in_ok-push
returns-in_ok-push c = lists_entry c.args.table.now c.in-Some.package c.args.number c.index-table-package.result c.push.new.self c.in-Some.name c.in_ok-id.id c.if-package-table.true
    c.in_ok-push.ensures.items c.in_ok-id.ensures (given_home c.args.home) (ap given_home c.in-Some.is)
