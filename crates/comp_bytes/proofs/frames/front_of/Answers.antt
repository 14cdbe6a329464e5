use Rattle.std.proofs.Common.{arith}
use Rattle.comp_bytes.proofs.FrameLaws.{found}
use Rattle.comp_bytes.proofs.frames.front_of.Goals as goal

pub overflow_sub-ends : goal.overflow_sub-ends
overflow_sub-ends c = (found c.args.bytes.now 0 c.in_ok-id.id c.in_ok-id.contents.now c.in_ok-id.rest.now (omega arith) c.in_ok-id.ensures).fits

pub overflow_sub-start : goal.overflow_sub-start
overflow_sub-start c = (found c.args.bytes.now 0 c.in_ok-id.id c.in_ok-id.contents.now c.in_ok-id.rest.now (omega arith) c.in_ok-id.ensures).inner

pub returns-clause-start : goal.returns-clause-start
returns-clause-start c = let f = found c.args.bytes.now 0 c.in_ok-id.id c.in_ok-id.contents.now c.in_ok-id.rest.now (omega arith) c.in_ok-id.ensures in omega (arith, f.fits, f.inner)
