use Rattle.std.proofs.Common.{arith}
use Rattle.comp_bytes.specs.{Form.Name, Writing.name_bytes, Fits.fits_length, RawOf.text_of}
use Rattle.comp_bytes.proofs.{Sequences.next_of, Sequences.stopped_at, Appends.passed_on}
use Rattle.comp_bytes.proofs.append.append_each_name.Goals as goal

pub loop-name-preserved : goal.loop-name-preserved
loop-name-preserved c = next_of Name name_bytes text_of c.args.names.now c.loop-name.name-index _ _ _ _ (omega arith) c.loop-name.invariant c.in_ok-append_name.ensures.appends.ok

pub returns-in_err-append_name : goal.returns-in_err-append_name
returns-in_err-append_name c =
    let s = stopped_at Name name_bytes fits_length text_of c.args.names.now c.loop-name.name-index _ _ _ _ _ (omega arith) c.loop-name.invariant c.in_err-append_name.ensures.appends.err in
    passed_on _ _ _ _ _ _ _ c.from_residual.ensures.1 s
