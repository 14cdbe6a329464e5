use Rattle.std.proofs.Common.{◌<◌, ◌^◌, arith}
use Rattle.comp_bytes.proofs.HeldLaws.{component_type_spelled}
use Rattle.comp_bytes.proofs.section.append_component.Goals as goal

pub returns-clause-spelled : goal.returns-clause-spelled
returns-clause-spelled c =
    let small : c.component.inside.count < 2 ^ 32 = omega arith in
    rw (← c.component.view_is) (component_type_spelled c.append_body.result c.component.inside.count c.component.inside.bytes.items c.component.inside.types small c.component.invariant)
