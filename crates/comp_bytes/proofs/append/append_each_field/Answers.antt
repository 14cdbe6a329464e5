use Rattle.std.proofs.Common.{arith}
use Rattle.comp_bytes.specs.{Spelling.Field, Writing.field_bytes, Fits.fits_label, RawOf.labeled}
use Rattle.comp_bytes.proofs.{Sequences.next_of, Sequences.stopped_at, Appends.passed_on}
use Rattle.comp_bytes.proofs.append.append_each_field.Goals as goal

pub loop-name-preserved : goal.loop-name-preserved
loop-name-preserved c = next_of Field field_bytes labeled c.args.fields.now c.loop-name.name-index _ _ _ _ (omega arith) c.loop-name.invariant c.in_ok-append_field.ensures.ok

pub returns-in_err-append_field : goal.returns-in_err-append_field
returns-in_err-append_field c =
    let s = stopped_at Field field_bytes fits_label labeled c.args.fields.now c.loop-name.name-index _ _ _ _ _ (omega arith) c.loop-name.invariant c.in_err-append_field.ensures.err in
    passed_on _ _ _ _ _ _ _ c.from_residual.ensures.1 s
