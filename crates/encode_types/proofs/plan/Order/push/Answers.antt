use Rattle.std.proofs.Common.{rules, arith, ◌<◌, length}
use Rattle.encode_types.proofs.Planning.{met-more}
use Rattle.encode_types.proofs.plan.Order.push.Goals as goal

pub returns-clause-met : goal.returns-clause-met
returns-clause-met c =
    let many : 8 < length c.push.new.self.items = search (rules, arith) in
    met-more c.args.self.now (record { numbers = c.push.new.self; met = c.insert.new.self }) c.args.id.0 c.requires c.in_ok-push.ensures.items many c.in_ok-insert.ensures.updates.0
