use Rattle.std.proofs.Common.{refl, subst}
use Rattle.witc_refusals.specs.Numbers.{plain_why}
use Rattle.witc_alike.specs.Carried.{HasNumber, RefusesWalk}
use Rattle.witc_ffi.specs.Answers.{IsSection, LacksSection, fewer, no_section}
use Rattle.witc_ffi.proofs.OutcomeLaws.{of-bad, of-done, of-refused}
use Rattle.witc_ffi.proofs.calls.section.Goals as goal

pub returns-in-Ok-Some : goal.returns-in-Ok-Some
returns-in-Ok-Some c =
    let bytes = c.args.bytes.now in
    let n = c.args.number in
    of-done (IsSection bytes n) (RefusesWalk bytes n) (LacksSection bytes n) c.in-Ok-Some.data.items c.done.result
    (record { data_ = c.in-Ok-Some.data; is = refl; has = subst (HasNumber bytes n) c.in-Ok-Some.field-0-is c.in-Ok-Some.ensures.data }) c.done.ensures

pub returns-in-Ok-None : goal.returns-in-Ok-None
returns-in-Ok-None c =
    let bytes = c.args.bytes.now in
    let n = c.args.number in
    of-bad (IsSection bytes n) (RefusesWalk bytes n) (LacksSection bytes n) no_section (plain_why 20) c.bad.result
    (fewer (subst (HasNumber bytes n) c.in-Ok-None.field-0-is c.in-Ok-None.ensures.data)) c.bad.ensures

pub returns-in-Err : goal.returns-in-Err
returns-in-Err c =
    let bytes = c.args.bytes.now in
    let n = c.args.number in
    of-refused (IsSection bytes n) (RefusesWalk bytes n) (LacksSection bytes n) c.in-Err.error c.refusal.result c.in-Err.ensures.refused c.refusal.ensures
