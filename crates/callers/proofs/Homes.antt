-- The package of a world that is bound.
use Rattle.std.proofs.{Common.◌≡◌, Common.◌∙◌, Common.sym, Common.ap, Common.true, Common.length, Common.Some, Common.None, lemmas.Bool.ltb-true}
use Rattle.std.specs.Prelude.{is_some}
use Rattle.wit_model.specs.declared.model.{PackageId.PackageId, World.World}
use Rattle.wit_model.specs.Lookup.{world_at}
use Rattle.wit_model.specs.{Rules.in_list, Rules.package_number, Rules.passes, Valid.IsValid, Valid.is_place, Valid.numbers_in_range, Valid.places}
use Rattle.wit_model.proofs.ValidLemmas.{world_passes}
use Rattle.wit_bind.specs.declared.bindgen.Bindgen.{Bindgen}
use Rattle.callers.specs.Merged.{IsHome}
use Rattle.base_lemmas.proofs.Bools.{left_of, right_of}

-- It has one.
pub no-home : (b : Bindgen) → IsValid b.resolve → (w : World) → world_at b.resolve b.world.0 ≡ Some w → w.package ≡ None → ⊥
unfolding places
no-home b valid w at none =
    let some : is_some w.package ≡ true = left_of (is_some w.package) _ (world_passes places b.resolve valid.rules.places b.world.0 w at) in cc

-- It is one of the packages.
pub home-known : (b : Bindgen) → IsValid b.resolve → (w : World) → world_at b.resolve b.world.0 ≡ Some w → (home : PackageId) → w.package ≡ Some home → IsHome b home
unfolding numbers_in_range
home-known b valid w at home is =
    let r = b.resolve in
    let inside = left_of (passes (in_list r.packages.items) (package_number w.package)) _
    (right_of (is_place b.world.0) _ (world_passes numbers_in_range r valid.rules.numbers_in_range b.world.0 w at)) in
    record { world = w; stands = at; is = is; in_range = ltb-true home.0 (length r.packages.items) (ap (λ p. passes (in_list r.packages.items) (package_number p)) (sym is) ∙ inside) }
