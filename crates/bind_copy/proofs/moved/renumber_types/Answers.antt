use Rattle.std.proofs.{Common.rules, Common.◌≡◌, Common.◌<◌, Common.refl, Common.true, Common.length, lemmas.Option.slice_get-get_or}
use Rattle.bind_copy.specs.Copies.{are_parts_below, IsPartUnder}
use Rattle.bind_copy.proofs.{Members.parts_later, Members.parts_are, Written.all_written, Written.item_written, Written.none_written}
use Rattle.bind_copy.proofs.moved.renumber_types.Goals as goal

pub loop-ty-init : goal.loop-ty-init
loop-ty-init c = none_written (IsPartUnder c.args.numbers.now) (λ xs. are_parts_below (length c.args.numbers.now) xs ≡ true) c.args.types.now c.requires

pub loop-ty-preserved : goal.loop-ty-preserved
loop-ty-preserved c =
    let numbers = c.args.numbers.now in
    let now = c.loop-ty.types in
    let n = c.loop-ty.ty-index in
    let within : n < length now = search rules in
    item_written (IsPartUnder numbers) (λ xs. are_parts_below (length numbers) xs ≡ true) (parts_later (length numbers)) c.args.types.now now _ n _ c.image_of.result
    (slice_get-get_or now n _ within) (λ xs left. c.image_of.ensures) refl c.loop-ty.invariant

pub returns : goal.returns
returns c =
    let numbers = c.args.numbers.now in
    parts_are numbers c.args.types.now c.loop-ty.types
    (all_written (IsPartUnder numbers) (λ xs. are_parts_below (length numbers) xs ≡ true) c.args.types.now c.loop-ty.types c.loop-ty.ty-index (search rules) c.loop-ty.invariant)
