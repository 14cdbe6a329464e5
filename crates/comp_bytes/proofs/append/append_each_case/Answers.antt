use Rattle.std.proofs.Common.{arith}
use Rattle.comp_bytes.specs.{Spelling.Case, Writing.case_bytes, Fits.fits_label, RawOf.labeled}
use Rattle.comp_bytes.proofs.{Sequences.next_of, Sequences.stopped_at, Appends.passed_on}
use Rattle.comp_bytes.proofs.append.append_each_case.Goals as goal

pub loop-name-preserved : goal.loop-name-preserved
loop-name-preserved c = next_of Case case_bytes labeled c.args.cases.now c.loop-name.name-index _ _ _ _ (omega arith) c.loop-name.invariant c.in_ok-append_case.ensures.ok

pub returns-in_err-append_case : goal.returns-in_err-append_case
returns-in_err-append_case c =
    let s = stopped_at Case case_bytes fits_label labeled c.args.cases.now c.loop-name.name-index _ _ _ _ _ (omega arith) c.loop-name.invariant c.in_err-append_case.ensures.err in
    passed_on _ _ _ _ _ _ _ c.from_residual.ensures.1 s
