use Rattle.std.proofs.Common.{rules}
use Rattle.wit_model.specs.{Checks.references, Checks.listings, Checks.list_orders, Valid.Keeps}
use Rattle.check_rules.proofs.ListOrders.{order_kept}
use Rattle.check_rules.proofs.types.check.Goals as goal

pub returns-clause-kept : goal.returns-clause-kept
returns-clause-kept c =
    let r = c.args.resolve.now in
    let refs : Keeps references r = search rules in
    let kept : Keeps listings r = search rules in
    let orders : Keeps list_orders r = search rules in
    record { order_of_types = order_kept r refs kept orders; owners = search rules; shapes = search rules; named_kinds = search rules; handles = search rules; depths = search rules }
