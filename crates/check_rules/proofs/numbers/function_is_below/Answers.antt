use Rattle.std.proofs.Common.{rules, nat_lt}
use Rattle.check_rules.proofs.Below.{function_all}
use Rattle.check_rules.proofs.numbers.function_is_below.Goals as goal

pub returns-then-option_is_below : goal.returns-then-option_is_below
returns-then-option_is_below c = rw (function_all (λ m. nat_lt m c.args.limit) c.args.function.now) (search rules)

pub returns-else-option_is_below : goal.returns-else-option_is_below
returns-else-option_is_below c = rw (function_all (λ m. nat_lt m c.args.limit) c.args.function.now) (search rules)
