use Rattle.std.proofs.Common.{sym, subst}
use Rattle.plan_meaning.specs.NumberedViews.{FunctionShape, PartsOf}
use Rattle.plan_build.specs.PlanOf.{named_function, stated_function}
use Rattle.read_rules.specs.{Tables.numbered_function_type, Tables.numbered_tables, Views.numbered_function}
use Rattle.plan_parts.specs.{Functions.found_under, Interfaces.IsFunctionOver, Interfaces.IsPlannedFunction, Kept.IsKeptPart}
use Rattle.plan_parts.proofs.InterfaceLaws.{is_planned, mapped_at, zip_next}
use Rattle.plan_parts.proofs.interfaces.functions_of.Goals as goal

pub function_of-requires : goal.function_of-requires
function_of-requires c = subst (λ (f : FunctionShape). PartsOf (IsKeptPart c.args.kept.now) f) (sym c.function_at-shape.ensures)
    (mapped_at (IsFunctionOver (numbered_tables c.args.tables.now) c.args.kept.now) numbered_function c.args.functions.now c.loop-function.function-index _ c.loop-function-test.true c.requires)

pub loop-function-preserved : goal.loop-function-preserved
loop-function-preserved c =
    let is = c.in_ok-made.ensures in
    let t = numbered_tables c.args.tables.now in
    let find = found_under c.args.resources.now.entries in
    zip_next (IsPlannedFunction t c.args.kept.now find) numbered_function named_function c.args.functions.now c.loop-function.function-index _ c.loop-function.planned.items c.push.new.self.items _
    c.loop-function-test.true c.in_ok-push.ensures.items
    (is_planned t c.args.kept.now find _ (stated_function c.in_ok-made.made) (numbered_function_type c.function_at-shape.result) c.function_at-shape.ensures is.named is.kind is.parts is.id)
    c.loop-function.invariant
