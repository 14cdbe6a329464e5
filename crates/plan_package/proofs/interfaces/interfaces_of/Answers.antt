use Rattle.std.proofs.Common.{◌<◌, ◌∙◌, ap, sym, subst, ℕ, length, map}
use Rattle.std.specs.List.{AllByRecursion}
use Rattle.read_rules.specs.declared.sights.Sight.{Sight}
use Rattle.read_rules.specs.Sights.{numbered_sight}
use Rattle.plan_package.specs.WholeInterfaces.{AreSeen}
use Rattle.plan_package.proofs.InterfaceLaws.{all_below}
use Rattle.plan_package.proofs.interfaces.interfaces_of.Goals as goal

pub all_interfaces-requires-clause-seen : goal.all_interfaces-requires-clause-seen
all_interfaces-requires-clause-seen c = subst (AreSeen (map numbered_sight c.args.sights.now)) (sym (c.deref-3.ensures.value ∙ c.in_ok-places.ensures)) c.requires.seen

pub all_interfaces-requires-clause-places : goal.all_interfaces-requires-clause-places
all_interfaces-requires-clause-places c = all_below (length c.deref.result.now) c.args.sights.now c.deref-3.result.now
    (subst (λ (n : ℕ). AllByRecursion (λ (s : Sight). s.place < n) c.args.sights.now) (sym (ap length c.deref.ensures.value)) c.in_ok-firsts.ensures.places)
    (subst (AreSeen (map numbered_sight c.args.sights.now)) (sym (c.deref-3.ensures.value ∙ c.in_ok-places.ensures)) c.requires.seen)

pub all_interfaces-requires-clause-places_too : goal.all_interfaces-requires-clause-places_too
all_interfaces-requires-clause-places_too c = all_below (length c.deref-2.result.now) c.args.sights.now c.deref-3.result.now
    (subst (λ (n : ℕ). AllByRecursion (λ (s : Sight). s.place < n) c.args.sights.now) (sym (ap length c.deref-2.ensures.value ∙ c.in_ok-firsts.ensures.many)) c.in_ok-firsts.ensures.places)
    (subst (AreSeen (map numbered_sight c.args.sights.now)) (sym (c.deref-3.ensures.value ∙ c.in_ok-places.ensures)) c.requires.seen)
