use Rattle.std.proofs.Common.{rules, nat_lt}
use Rattle.check_rules.proofs.Below.{kind_all}
use Rattle.check_rules.proofs.numbers.kind_is_below.Goals as goal

pub returns-then-number_is_below : goal.returns-then-number_is_below
returns-then-number_is_below c = rw (kind_all (λ m. nat_lt m c.args.limit) c.args.kind.now) (search rules)

pub returns-else-number_is_below : goal.returns-else-number_is_below
returns-else-number_is_below c = rw (kind_all (λ m. nat_lt m c.args.limit) c.args.kind.now) (search rules)
