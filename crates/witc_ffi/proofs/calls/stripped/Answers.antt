use Rattle.std.proofs.Common.{subst, sym}
use Rattle.witc_texts.proofs.StrippedLaws.{part-left, whole-left}
use Rattle.witc_texts.specs.Stripped.{StripsBytes}
use Rattle.witc_ffi.specs.Answers.{NeverBad, RefusesBound}
use Rattle.witc_ffi.proofs.OutcomeLaws.{of-done, of-refused}
use Rattle.witc_ffi.proofs.calls.stripped.Goals as goal

pub returns-in-Ok-Some : goal.returns-in-Ok-Some
returns-in-Ok-Some c =
    let bytes = c.args.bytes.now in
    of-done (StripsBytes bytes) (RefusesBound bytes) NeverBad c.in-Ok-Some.text.items c.done.result (part-left bytes _ c.in-Ok-Some.text c.in-Ok-Some.field-0-is c.in-Ok-Some.ensures.stripped)
    c.done.ensures

pub returns-in-Err : goal.returns-in-Err
returns-in-Err c =
    let bytes = c.args.bytes.now in
    of-refused (StripsBytes bytes) (RefusesBound bytes) NeverBad c.in-Err.error c.refusal.result (c.in-Err.ensures.refused, c.in-Err.ensures.size) c.refusal.ensures

pub returns-in_ok-from_slice-in-Ok-None : goal.returns-in_ok-from_slice-in-Ok-None
returns-in_ok-from_slice-in-Ok-None c =
    let bytes = c.args.bytes.now in
    let kept = c.in_ok-from_slice-in-Ok-None.field-0.items in
    of-done (StripsBytes bytes) (RefusesBound bytes) NeverBad kept c.done-in-Ok-None.result
    (subst (StripsBytes bytes) (sym c.in_ok-from_slice-in-Ok-None.ensures.items) (whole-left bytes _ c.in-Ok-None.field-0-is c.in-Ok-None.ensures.stripped)) c.done-in-Ok-None.ensures
