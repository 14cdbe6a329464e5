use Rattle.std.proofs.Common.{rules, ◌≡◌, ◌∷◌, ◌++◌, ◌<◌, ◌+◌, ◌∙◌, ap, drop, get_or, length, ℕ, List}
use Rattle.std.proofs.lemmas.List.{drop_more}
use Rattle.bind_carry.specs.Fates.{numbers_by}
use Rattle.bind_carry.specs.declared.fate.Fate.TheVariants as fate
use Rattle.bind_carry.proofs.Moving.{number_more, place_more}
use Rattle.bind_carry.proofs.moved.type_places.Goals as goal

pub loop-fate-preserved : goal.loop-fate-preserved
loop-fate-preserved c =
    let own = c.args.own in
    let fates = c.args.fates.now in
    let n = c.loop-fate.fate-index in
    let f = get_or fates n fate.Left in
    let left = drop (n + 1) fates in
    let old = c.loop-fate.places.items in
    let new = c.placed.new.places.items in
    let within : n < length fates = search rules in
    let at : drop n fates ≡ f ∷ left = drop_more fates n fate.Left within in
    record {
      numbered = ap (λ (l : List ℕ). l ++ numbers_by (own + length new) left) c.in_ok-push.ensures.items
          ∙ number_more own left old new c.in_ok-number.number c.loop-fate.numbers.items _ f (drop n fates) at c.in_ok-number.ensures.met c.loop-fate.invariant.numbered;
      counted = place_more own left old new c.in_ok-number.number _ f (drop n fates) at c.in_ok-number.ensures.met c.loop-fate.invariant.counted;
    }
