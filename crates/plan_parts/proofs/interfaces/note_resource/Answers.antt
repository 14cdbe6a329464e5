use Rattle.std.proofs.Common.{sym, ◌∙◌}
use Rattle.plan_parts.specs.Functions.{found_under}
use Rattle.plan_parts.proofs.InterfaceLaws.{noted_now}
use Rattle.plan_parts.proofs.interfaces.note_resource.Goals as goal

pub returns : goal.returns
returns c = λ r. noted_now c.args.ty.declared c.args.ty.name.now r c.args.id (found_under c.insert.new.self.entries r) (found_under c.args.resources.now.entries r)
    (sym c.is_some.ensures ∙ c.if-is_some.false) (c.in_ok-insert.ensures.updates.0 (record { ref_ptr = (0, 0); now = r }))
