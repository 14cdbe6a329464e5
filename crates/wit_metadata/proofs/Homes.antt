-- The package of a world.
use Rattle.std.proofs.Common.{rules as std_rules, ◌≡◌, ◌∙◌, sym, subst, ap, ℕ, ◌<◌, Some, length}
use Rattle.std.proofs.lemmas.Option.{slice_get_within, same_Some as some-same}
use Rattle.std.specs.Prelude.{is_some, option_and_then}
use Rattle.wit_model.specs.{Lookup.package_at, Lookup.world_at, Meant.package_of_world}
use Rattle.wit_model.specs.{Rules.in_list, Rules.passes, Rules.package_number, Valid.IsValid, Valid.is_place, Valid.numbers_in_range, Valid.places}
use Rattle.wit_model.specs.declared.model.{Package.Package, PackageId.PackageId, Resolve.Resolve, World.World}
use Rattle.wit_model.proofs.{OnePath.found-in, ValidLemmas.world_passes as world-passes}
use Rattle.wit_metadata.specs.Carried.{HasHome}
use Rattle.base_lemmas.proofs.{Bools.left_of as first_true, Bools.right_of as second_true, Options.there as some-of}

pub world-home : (r : Resolve) → IsValid r → (n : ℕ) (w : World) → world_at r n ≡ Some w → HasHome r w
unfolding places numbers_in_range
world-home r v n w there =
    let home = some-of w.package (first_true (is_some w.package) _ (world-passes places r v.rules.places n w there)) in
    let inside = first_true (passes (in_list r.packages.items) (package_number w.package)) _ (second_true (is_place n) _ (world-passes numbers_in_range r v.rules.numbers_in_range n w there)) in
    let found = found-in r.packages.items home.0.0 (ap (λ p. passes (in_list r.packages.items) (package_number p)) (sym home.1) ∙ inside) in
    record { home = home.0; in_package = home.1; package_ = found.0; stands = found.1 }

-- so the package is the world's
pub home-is : (r : Resolve) (w : World) (h : HasHome r w) → package_of_world r w ≡ Some h.package_
home-is r w h = ap (option_and_then (λ (p : PackageId). package_at r p.0)) h.in_package ∙ h.stands

-- the number of the package that a world has is in range, and the package of that number is the one that stands there
pub home-within : (r : Resolve) (w : World) (h : HasHome r w) (id : PackageId) → w.package ≡ Some id → id.0 < length r.packages.items
home-within r w h id is = subst (λ (p : PackageId). p.0 < length r.packages.items) (some-same h.home id (sym h.in_package ∙ is)) (slice_get_within r.packages.items h.home.0 h.package_ h.stands)

pub home-named : (r : Resolve) (w : World) (h : HasHome r w) (id : PackageId) (p : Package) → w.package ≡ Some id → package_at r id.0 ≡ Some p → p.name ≡ h.package_.name
home-named r w h id p is at = search std_rules
