use Rattle.std.proofs.Common.{subst, ℕ}
use Rattle.plan_types.specs.Used.{Marks}
use Rattle.wit_model.specs.Text.{Text}
use Rattle.read_rules.specs.Tables.{param_of}
use Rattle.plan_types.proofs.MarkLaws.{marks_none, part_all, part_next, twice_mapped}
use Rattle.plan_types.proofs.used.mark_params.Goals as goal

pub loop-param-init : goal.loop-param-init
loop-param-init c = marks_none c.args.marks.now

pub loop-param-preserved : goal.loop-param-preserved
loop-param-preserved c = part_next (λ x. x.1) c.args.params.now c.loop-param.param-index _ c.args.marks.now c.loop-param.marks c.mark_part.new.marks c.loop-param-test.true c.loop-param.invariant
    c.mark_part.ensures

pub returns : goal.returns
returns c = subst (λ ps. Marks ps c.args.marks.now c.loop-param.marks) (twice_mapped (λ (x : Text × ℕ). x.1) param_of c.args.params.now)
    (part_all (λ x. x.1) c.args.params.now c.loop-param.param-index c.args.marks.now c.loop-param.marks c.loop-param-test.false c.loop-param.invariant)
