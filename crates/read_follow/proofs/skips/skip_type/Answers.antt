use Rattle.read_follow.proofs.SkipLaws.{async_declared, function_declared, value_declared}
use Rattle.read_follow.proofs.skips.skip_type.Goals as goal

pub returns-then-first-eq64 : goal.returns-then-first-eq64
returns-then-first-eq64 c = rw (function_declared c.args.bytes.now c.in-Some.rest.now c.in-Some.first.now c.in-Some.ensures.cases.0 c.if-first-eq64.true) c.skip_function.ensures

pub returns-then-first-eq67 : goal.returns-then-first-eq67
returns-then-first-eq67 c = rw (async_declared c.args.bytes.now c.in-Some.rest.now c.in-Some.first.now c.in-Some.ensures.cases.0 c.if-first-eq67.true) c.skip_function-then-first-eq67.ensures

pub returns : goal.returns
returns c = rw (value_declared c.args.bytes.now c.in-Some.rest.now c.in-Some.first.now c.in-Some.ensures.cases.0 c.if-first-eq64.false c.if-first-eq67.false) c.skip_definition.ensures
