use Rattle.std.proofs.{Common.rules, Common.◌≤◌, Common.drop, Common.length, lemmas.List.drop_all}
use Rattle.bind_copy.specs.Copies.{IsInterfaceUnder}
use Rattle.bind_carry.proofs.KeptPlaced.{all_kept}
use Rattle.bind_unite.proofs.bound.inline_copies.Goals as goal

pub returns-clause-copies : goal.returns-clause-copies
returns-clause-copies c =
    let flags = c.args.copied.now in
    let xs = c.args.other.now.interfaces.items in
    let n = c.loop-number.number in
    let past : length flags ≤ n = search rules in
    all_kept (IsInterfaceUnder c.args.types.now c.args.home) flags xs (drop n flags) (drop n xs) c.loop-number.interfaces.items (drop_all n flags past) c.loop-number.invariant
