use Rattle.std.proofs.Common.{◌<◌, ◌^◌, arith}
use Rattle.comp_bytes.proofs.HeldLaws.{add, instance_type_held}
use Rattle.comp_bytes.proofs.component.ComponentType.instance.Goals as goal

pub invariant_of-self-2 : goal.invariant_of-self-2
invariant_of-self-2 c =
    let small : c.instance.inside.count < 2 ^ 32 = omega arith in
    rw (c.in_ok-count.ensures.ok.0, c.in_ok-count.ensures.ok.1, c.in_ok-declare_nested.ensures.ok, c.deref.ensures.value)
    (add _ _ _ _ _ 1 c.self.invariant (instance_type_held _ _ _ small c.instance.invariant)).holds

pub returns-clause-ok : goal.returns-clause-ok
returns-clause-ok c =
    let small : c.instance.inside.count < 2 ^ 32 = omega arith in
    rw (c.in_ok-count.ensures.ok.0, c.in_ok-declare_nested.ensures.ok, c.deref.ensures.value, ← c.self.view_is, ← c.instance.view_is)
    (add _ _ _ _ _ 1 c.self.invariant (instance_type_held _ _ _ small c.instance.invariant)).shows
