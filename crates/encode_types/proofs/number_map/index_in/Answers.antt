use Rattle.std.proofs.Common.{arith}
use Rattle.encode_types.proofs.number_map.index_in.Goals as goal

pub returns-then-is_above-clause-none : goal.returns-then-is_above-clause-none
returns-then-is_above-clause-none c = λ i there. (let below = c.is_above.ensures.below c.if-is_above.true (c.args.number, i) there in omega (arith, below))
