use Rattle.std.proofs.Common.{subst, sym}
use Rattle.witc_ffi.specs.Answers.{KindsAnswers, kinds, unknown}
use Rattle.witc_ffi.proofs.calls.known_kinds.Goals as goal

pub returns-in-Ok : goal.returns-in-Ok
returns-in-Ok c = kinds c.in-Ok.sum c.in-Ok.ensures.kinds

pub returns-in-Err : goal.returns-in-Err
returns-in-Err c = subst (KindsAnswers c.args.bytes.now) (sym c.unknown.ensures) (unknown c.in-Err.error c.in-Err.ensures.unknown)
