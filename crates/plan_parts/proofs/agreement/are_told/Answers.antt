use Rattle.std.proofs.{Common.sym, Common.map, lemmas.List.Folds.list_all-map}
use Rattle.read_rules.specs.Views.{numbered_function}
use Rattle.plan_parts.specs.Agreement.{is_told, told_function}
use Rattle.plan_parts.proofs.agreement.are_told.Goals as goal

pub loop-function-init : goal.loop-function-init
loop-function-init c = sym (list_all-map (is_told (map told_function c.args.all.now.keys)) numbered_function c.args.functions.now)
