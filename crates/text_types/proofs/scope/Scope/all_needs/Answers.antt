use Rattle.std.proofs.Common.{◌≡◌, ap, arith, length}
use Rattle.text_types.specs.Scopes.{name_count}
use Rattle.text_types.proofs.NeedLaws.{all_within}
use Rattle.text_types.proofs.scope.Scope.all_needs.Goals as goal

pub returns : goal.returns
returns c =
    let long : length c.loop-own.all.items ≡ length c.args.self.now.types.items =
    omega (arith, ap length c.deref-own-items.ensures.value, c.loop-own-test.false, c.loop-own.invariant.count, c.loop-own.auto.own-index-end) in
    let many : length c.loop-own.all.items ≡ name_count c.args.self.now = omega (arith, long, c.requires) in
    record { within = all_within (name_count c.args.self.now) c.loop-own.all.items many c.loop-own.invariant.below; long = long }
