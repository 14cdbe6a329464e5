use Rattle.std.proofs.Common.{◌≡◌, ◌-◌, length, refl, Some, rules}
use Rattle.witc_alike.specs.Carried.{RefusesSections}
use Rattle.witc_alike.proofs.AllLaws.{no-module-listed, nothing-listed, one-listed, other-listed, short-here, stuck-listed}
use Rattle.witc_alike.proofs.carried.sections_data.Goals as goal
use Rattle.base_lemmas.proofs.Options.{passed}

pub loop-rest-init : goal.loop-rest-init
loop-rest-init c = nothing-listed c.args.bytes.now c.in_ok-rest.rest.now c.in_ok-rest.ensures.ok c.new-text.result.items c.new-text.ensures.items

pub returns-in_err-rest-clause-refused : goal.returns-in_err-rest-clause-refused
returns-in_err-rest-clause-refused c =
    let e = c.in_err-rest.field-0.0 in
    passed (RefusesSections c.args.bytes.now) c.from_residual.result e c.from_residual.ensures.1 (no-module-listed c.args.bytes.now c.in_err-rest.ensures.none e c.in_err-rest.ensures.refuses)

pub returns-in_err-carried-clause-refused : goal.returns-in_err-carried-clause-refused
returns-in_err-carried-clause-refused c =
    let e = c.in_err-carried.field-0.0 in
    let some : length c.loop-rest.rest.now ≡ 0 → ⊥ = search rules in
    passed (RefusesSections c.args.bytes.now) c.from_residual-in_err-carried.result e c.from_residual-in_err-carried.ensures.1
    (stuck-listed c.args.bytes.now c.loop-rest.rest.now c.loop-rest.text.items c.loop-rest.invariant (length c.args.bytes.now - length c.loop-rest.rest.now) refl some c.in_err-carried.ensures.none e
    c.in_err-carried.ensures.refuses)

pub put_data-requires : goal.put_data-requires
put_data-requires c =
    let some : c.in_ok-carried.carried ≡ Some c.in-Some.found = search rules in
    short-here c.args.bytes.now c.loop-rest.rest.now c.loop-rest.text.items c.loop-rest.invariant c.in_ok-carried.behind.now c.in_ok-carried.carried c.in-Some.found some c.in_ok-carried.ensures.ok

pub loop-rest-preserved-in_ok-put_data : goal.loop-rest-preserved-in_ok-put_data
loop-rest-preserved-in_ok-put_data c =
    let some : c.in_ok-carried.carried ≡ Some c.in-Some.found = search rules in
    one-listed c.args.bytes.now c.loop-rest.rest.now c.loop-rest.text.items c.loop-rest.invariant c.in_ok-carried.behind.now c.in_ok-carried.carried c.in-Some.found some c.in_ok-carried.ensures.ok
    c.put_data.new.text.items c.in_ok-put_data.ensures

pub loop-rest-preserved : goal.loop-rest-preserved
loop-rest-preserved c =
    other-listed c.args.bytes.now c.loop-rest.rest.now c.loop-rest.text.items c.loop-rest.invariant c.in_ok-carried.behind.now c.in_ok-carried.carried c.in_default.not-Some c.in_ok-carried.ensures.ok
