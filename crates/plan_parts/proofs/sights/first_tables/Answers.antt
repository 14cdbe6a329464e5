use Rattle.std.proofs.Common.{◌<◌, sym, subst, List}
use Rattle.std.specs.List.{AllByRecursion}
use Rattle.plan_parts.specs.declared.views.Sighted.{Sighted}
use Rattle.plan_parts.proofs.SightLaws.{places_kept}
use Rattle.plan_parts.proofs.sights.first_tables.Goals as goal

pub first_views-requires : goal.first_views-requires
first_views-requires c = subst (λ (all : List Sighted). AllByRecursion (λ (s : Sighted). s.place < c.places_of-places.result) all) (sym c.deref.ensures.value)
    (places_kept c.places_of-places.result c.in_ok-all.all.items c.args.sights.now c.in_ok-all.ensures c.places_of-places.ensures)

pub first_views-requires-2 : goal.first_views-requires-2
first_views-requires-2 c = subst (λ (all : List Sighted). AllByRecursion (λ (s : Sighted). s.place < c.places_of-places.result) all) (sym c.deref-2.ensures.value)
    (places_kept c.places_of-places.result c.in_ok-all.all.items c.args.sights.now c.in_ok-all.ensures c.places_of-places.ensures)
