use Rattle.std.proofs.Common.{◌<◌, ◌≤◌, ◌^◌, length, arith}
use Rattle.comp_bytes.proofs.{BuiltLaws.component_spelled, BuiltSizes.size_passed, BuiltSizes.close_refused, BuiltSizes.length_refused}
use Rattle.comp_bytes.proofs.builder.ComponentBuilder.finish.Goals as goal

pub returns-in_err-close-clause-size : goal.returns-in_err-close-clause-size
returns-in_err-close-clause-size c is =
    let long = rw c.deref.ensures.value at (c.in_err-close.ensures.size (size_passed c.from_residual.result c.in_err-close.field-0.0 c.from_residual.ensures.1 is)) in
    rw (← c.self.view_is) (close_refused _ _ _ _ _ c.self.invariant long)

pub returns-in-Ok-clause-spelled : goal.returns-in-Ok-clause-spelled
returns-in-Ok-clause-spelled c =
    let short : length c.close.new.out.items < 2 ^ 32 = omega arith in
    rw (← c.self.view_is) (component_spelled _ _ _ _ _ c.self.invariant c.close.new.out.items (rw c.deref.ensures.value at c.in_ok-close.ensures.ok) c.in_ok-close.ensures.few
    (rw c.deref.ensures.value at c.in_ok-close.ensures.small) short)

pub returns-clause-size : goal.returns-clause-size
returns-clause-size c is =
    let long : 2 ^ 32 ≤ length c.close.new.out.items = omega arith in
    rw (← c.self.view_is) (length_refused _ _ _ _ _ c.self.invariant c.close.new.out.items (rw c.deref.ensures.value at c.in_ok-close.ensures.ok) long)
