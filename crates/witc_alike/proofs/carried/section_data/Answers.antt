use Rattle.std.proofs.Common.{◌≡◌, ◌-◌, Some, rules}
use Rattle.witc_alike.specs.Carried.{RefusesWalk}
use Rattle.witc_alike.proofs.WalkLaws.{found-walked, no-module, nothing-walked, one-less, other-walked, passed-over}
use Rattle.witc_alike.proofs.carried.section_data.Goals as goal
use Rattle.base_lemmas.proofs.Options.{passed}

pub loop-rest-init : goal.loop-rest-init
loop-rest-init c = nothing-walked c.args.bytes.now c.in_ok-rest.rest.now c.args.number c.in_ok-rest.ensures.ok

pub returns-in_err-rest-clause-refused : goal.returns-in_err-rest-clause-refused
returns-in_err-rest-clause-refused c =
    let e = c.in_err-rest.field-0.0 in
    passed (RefusesWalk c.args.bytes.now c.args.number) c.from_residual.result e c.from_residual.ensures.1
    (no-module c.args.bytes.now c.args.number c.in_err-rest.ensures.none e c.in_err-rest.ensures.refuses)

pub returns-then-left-eq0-clause-data : goal.returns-then-left-eq0-clause-data
returns-then-left-eq0-clause-data c =
    let some : c.in_ok-carried.carried ≡ Some c.in-Some.data = search rules in
    let zero : c.loop-rest.left ≡ 0 = search rules in
    let items : c.in_ok-from_slice.field-0.items ≡ c.in-Some.data.now = search rules in
    found-walked c.args.bytes.now c.args.number c.loop-rest.rest.now c.loop-rest.left c.loop-rest.invariant c.in_ok-carried.behind.now c.in_ok-carried.carried c.in-Some.data some
    c.in_ok-carried.ensures.ok
    zero c.in_ok-from_slice.field-0 items

pub loop-rest-preserved-else-left-eq0 : goal.loop-rest-preserved-else-left-eq0
loop-rest-preserved-else-left-eq0 c =
    let some : c.in_ok-carried.carried ≡ Some c.in-Some.data = search rules in
    passed-over c.args.bytes.now c.args.number c.loop-rest.rest.now c.loop-rest.left c.loop-rest.invariant c.in_ok-carried.behind.now c.in_ok-carried.carried c.in-Some.data some
    c.in_ok-carried.ensures.ok (c.loop-rest.left - 1) (one-less c.loop-rest.left c.if-left-eq0.false)

pub loop-rest-preserved : goal.loop-rest-preserved
loop-rest-preserved c = other-walked c.args.bytes.now c.args.number c.loop-rest.rest.now c.loop-rest.left c.loop-rest.invariant c.in_ok-carried.behind.now c.in_ok-carried.carried c.in_default.not-Some
    c.in_ok-carried.ensures.ok
