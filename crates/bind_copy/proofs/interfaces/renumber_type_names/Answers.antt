use Rattle.std.proofs.Common.{arith, ◌≡◌, refl, sym, true, length, nat_lt}
use Rattle.std.proofs.lemmas.{Bool.ltb-true, Option.unwrap_or-slice_get}
use Rattle.bind_copy.specs.Copies.{are_names_below, IsTypeEntry}
use Rattle.bind_copy.proofs.Members.{names_are, names_later}
use Rattle.bind_copy.proofs.Written.{all_written, none_written, value_left, value_written, written_long}
use Rattle.base_lemmas.proofs.Bools.{left_of}
use Rattle.bind_copy.proofs.interfaces.renumber_type_names.Goals as goal

pub loop-place-init : goal.loop-place-init
loop-place-init c = none_written (IsTypeEntry c.args.types.now) (λ es. are_names_below (length c.args.types.now) es ≡ true) c.args.names.now.entries c.requires

pub index_mut-id-requires : goal.index_mut-id-requires
index_mut-id-requires c =
    let long = written_long (IsTypeEntry c.args.types.now) (λ es. are_names_below (length c.args.types.now) es ≡ true) c.args.names.now.entries c.loop-place.names.entries c.loop-place.place
    c.loop-place.invariant in
    let below = c.loop-place-test.true in
    let end = c.len-place-end.ensures.len in
    omega (arith, long, below, end)

pub bounds-types-id : goal.bounds-types-id
bounds-types-id c =
    let count = length c.args.types.now in
    let id = c.index_mut-id.result.now in
    let left = value_left (IsTypeEntry c.args.types.now) (λ es. are_names_below count es ≡ true) (names_later count) c.args.names.now.entries c.loop-place.names.entries c.loop-place.place id
    c.index_mut-id.ensures.value c.loop-place.invariant in
    ltb-true id.0 count (left_of (nat_lt id.0 count) (are_names_below count left.1.0) left.1.1)

pub loop-place-preserved : goal.loop-place-preserved
loop-place-preserved c =
    let types = c.args.types.now in
    value_written (IsTypeEntry types) (λ es. are_names_below (length types) es ≡ true) (names_later (length types)) c.args.names.now.entries c.loop-place.names.entries _ c.loop-place.place
    c.index_mut-id.result.now _ c.index_mut-id.ensures.value (λ k rest left. (refl, sym (unwrap_or-slice_get types c.index_mut-id.result.now.0 0))) refl c.loop-place.invariant

pub returns : goal.returns
returns c =
    let types = c.args.types.now in
    let old = c.args.names.now.entries in
    let now = c.loop-place.names.entries in
    let long = written_long (IsTypeEntry types) (λ es. are_names_below (length types) es ≡ true) old now c.loop-place.place c.loop-place.invariant in
    let past = c.loop-place-test.false in
    let end = c.len-place-end.ensures.len in
    names_are types old now (all_written (IsTypeEntry types) (λ es. are_names_below (length types) es ≡ true) old now c.loop-place.place (omega (arith, long, past, end)) c.loop-place.invariant)
