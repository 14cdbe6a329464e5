use Rattle.std.proofs.Common.{arith, refl, length}
use Rattle.bind_copy.specs.Copies.{AreFunctionsBelow, IsFunctionEntry}
use Rattle.bind_copy.proofs.Members.{functions_later}
use Rattle.bind_copy.proofs.Written.{all_written, none_written, value_left, value_written, written_long}
use Rattle.bind_copy.proofs.interfaces.renumber_functions.Goals as goal

pub loop-place-init : goal.loop-place-init
loop-place-init c = none_written (IsFunctionEntry c.args.types.now) (AreFunctionsBelow (length c.args.types.now)) c.args.functions.now.entries c.requires

pub index_mut-requires : goal.index_mut-requires
index_mut-requires c =
    let long = written_long (IsFunctionEntry c.args.types.now) (AreFunctionsBelow (length c.args.types.now)) c.args.functions.now.entries c.loop-place.functions.entries c.loop-place.place
    c.loop-place.invariant in
    let below = c.loop-place-test.true in
    let end = c.len-place-end.ensures.len in
    omega (arith, long, below, end)

pub renumber_function-requires : goal.renumber_function-requires
renumber_function-requires c = (value_left (IsFunctionEntry c.args.types.now) (AreFunctionsBelow (length c.args.types.now)) (functions_later (length c.args.types.now)) c.args.functions.now.entries
    c.loop-place.functions.entries c.loop-place.place c.index_mut.result.now c.index_mut.ensures.value c.loop-place.invariant).1.1.0

pub loop-place-preserved : goal.loop-place-preserved
loop-place-preserved c =
    let f = c.renumber_function.ensures in
    value_written (IsFunctionEntry c.args.types.now) (AreFunctionsBelow (length c.args.types.now)) (functions_later (length c.args.types.now)) c.args.functions.now.entries
    c.loop-place.functions.entries _ c.loop-place.place c.index_mut.result.now c.renumber_function.new.function c.index_mut.ensures.value (λ k rest left. (refl, f)) refl c.loop-place.invariant

pub returns : goal.returns
returns c =
    let old = c.args.functions.now.entries in
    let now = c.loop-place.functions.entries in
    let long = written_long (IsFunctionEntry c.args.types.now) (AreFunctionsBelow (length c.args.types.now)) old now c.loop-place.place c.loop-place.invariant in
    let past = c.loop-place-test.false in
    let end = c.len-place-end.ensures.len in
    all_written (IsFunctionEntry c.args.types.now) (AreFunctionsBelow (length c.args.types.now)) old now c.loop-place.place (omega (arith, long, past, end)) c.loop-place.invariant
