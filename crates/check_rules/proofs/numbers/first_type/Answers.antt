use Rattle.std.proofs.Common.{rules}
use Rattle.wit_model.specs.Valid.{numbers_in_range}
use Rattle.check_rules.proofs.Found.{found_types}
use Rattle.check_rules.proofs.numbers.first_type.Goals as goal

pub returns : goal.returns
returns c = found_types numbers_in_range c.args.resolve.now c.deref.result.now c.deref.ensures.value c.first_failing.result (c.first_failing.ensures _ (λ n x b post. search rules))
