use Rattle.std.proofs.Common.{◌<◌, ◌∙◌, ap, sym, subst, ℕ, length, map}
use Rattle.std.specs.List.{AllByRecursion}
use Rattle.read_rules.specs.declared.sights.Sight.{Sight}
use Rattle.read_rules.specs.Sights.{numbered_sight}
use Rattle.plan_parts.proofs.SightLaws.{by_first}
use Rattle.plan_parts.proofs.sights.agree.Goals as goal

pub each_agrees-requires-clause-places : goal.each_agrees-requires-clause-places
each_agrees-requires-clause-places c = subst (λ (n : ℕ). AllByRecursion (λ (s : Sight). s.place < n) c.args.sights.now) (sym (ap length c.deref.ensures.value)) c.in_ok-firsts.ensures.places

pub each_agrees-requires-clause-places_too : goal.each_agrees-requires-clause-places_too
each_agrees-requires-clause-places_too c =
    subst (λ (n : ℕ). AllByRecursion (λ (s : Sight). s.place < n) c.args.sights.now) (sym (ap length c.deref-2.ensures.value ∙ c.in_ok-firsts.ensures.many)) c.in_ok-firsts.ensures.places

pub returns : goal.returns
returns c = by_first c.each_agrees.result (map numbered_sight c.args.sights.now) c.each_agrees.ensures
