use Rattle.std.proofs.Common.{◌∙◌, sym, map}
use Rattle.read_rules.specs.Views.{numbered_function}
use Rattle.plan_parts.specs.Agreement.{told_function}
use Rattle.plan_parts.proofs.AgreementLaws.{as_many, same_told_functions, told_in_order}
use Rattle.plan_parts.proofs.agreement.same_functions.Goals as goal

pub returns-then-same_in_order : goal.returns-then-same_in_order
returns-then-same_in_order c =
    let many = as_many numbered_function c.args.first.now c.args.functions.now c.if-first-functions.false in
    sym (told_in_order (map numbered_function c.args.first.now) (map numbered_function c.args.functions.now) many (sym c.same_in_order.ensures ∙ c.if-same_in_order.true))

pub returns : goal.returns
returns c = c.are_told.ensures ∙ same_told_functions (map told_function c.in_ok-all.all.keys) (map numbered_function c.args.first.now) (map numbered_function c.args.functions.now) c.in_ok-all.ensures
    (as_many numbered_function c.args.first.now c.args.functions.now c.if-first-functions.false)
