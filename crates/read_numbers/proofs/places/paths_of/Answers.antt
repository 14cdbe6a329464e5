use Rattle.std.proofs.Common.{◌≡◌, ◌<◌, ◌∙◌, ap, arith, length, slice_get, unwrap_or, None, rules}
use Rattle.read_rules.specs.Tables.{given_text}
use Rattle.read_numbers.proofs.{LoopLaws.made_more, PlaceNumbers.path_here}
use Rattle.read_numbers.proofs.places.paths_of.Goals as goal

pub loop-number-preserved : goal.loop-number-preserved
loop-number-preserved c =
    let below : c.loop-number.number < length c.args.places.now = omega (arith, c.loop-number-test.true, c.len-number-end.ensures.many) in
    let place : c.in-Ok.place ≡ c.loop-number.number = search rules in
    made_more given_text c.args.places.now c.loop-number.number c.loop-number.paths.items c.loop-number.invariant c.push.new.self.items c.path.result
    (path_here c.args.places.now c.loop-number.number (given_text c.path.result) below (c.path.ensures ∙ ap (λ n. unwrap_or (slice_get c.args.places.now n) None) place))
    c.in_ok-push-in-Ok.ensures.items
