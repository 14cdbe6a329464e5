-- Room for more changes no entry, so bindings are as they were.
use Rattle.std.proofs.Common.{◌≡◌, refl, sym, subst, ◌∙◌, inl, inr, ℕ, zero, suc, length, List, [], ◌∷◌, Some, slice_get, arith}
use Rattle.std.proofs.lemmas.{Bool.cases_order, Option.same_Some as same-some}
use Rattle.std.specs.Prelude.{◌≢◌, ◌<◌, ◌⊎◌}
use Rattle.wit_model.specs.declared.model.{Package.Package, World.World}
use Rattle.wit_bind.specs.declared.bindgen.Bindgen.{Bindgen}
use Rattle.wit_bind.specs.Extends.{AllPairs, IsKept, IsSamePackage, IsSameWorld}
use Rattle.wit_bind.proofs.AsItWas.{same_world}
use Rattle.bind_add.specs.Growth as growth

-- ---- what is related number by number

all_pairs : {X : Type 0} (Related : X → X → Type 0) (xs ys : List X) → length ys ≡ length xs → ((n : ℕ) (x y : X) → slice_get xs n ≡ Some x → slice_get ys n ≡ Some y → Related x y)
    → AllPairs Related xs ys
all_pairs Related [] [] l h = tt
all_pairs Related (x ∷ xs) (y ∷ ys) l h = (h zero x y refl refl, all_pairs Related xs ys (omega (arith, l)) (λ n p q a b. h (suc n) p q a b))
all_pairs Related _ _ l h = absurd (omega (arith, l))

package_is : (p q : Package) → growth.IsSameWithRoom p q → IsSamePackage p q
package_is p q h = record { name = h.0.name; docs = h.0.docs; interfaces = h.0.interfaces; worlds = h.0.worlds }

world_is : (w v : World) → growth.IsSameWorld w v → IsSameWorld w v
world_is w v h = record { name = h.name; docs = h.docs; stability = h.stability; in_package = h.in_package; imports = h.imports; exports = h.exports }

pub kept_with_room : (old new : Bindgen) → growth.IsSameResolve old.world.0 old.resolve new.resolve → new.world ≡ old.world
    → new.metadata.import_encodings ≡ old.metadata.import_encodings → new.metadata.export_encodings ≡ old.metadata.export_encodings → IsKept old new
kept_with_room old new h world imported exported = record {
  packages = all_pairs IsSamePackage old.resolve.packages.items new.resolve.packages.items h.packages.count (λ n p q a b. package_is p q (h.packages.each n p q a b));
  interfaces = h.interfaces;
  worlds = all_pairs IsSameWorld old.resolve.worlds.items new.resolve.worlds.items h.worlds (λ n w v a b. by n w v a b (cases_order n old.world.0));
  types = h.types;
  world = world;
  imported_encodings = imported;
  exported_encodings = exported;
}
  where
    apart : (n : ℕ) (w v : World) → slice_get old.resolve.worlds.items n ≡ Some w → slice_get new.resolve.worlds.items n ≡ Some v → n ≢ old.world.0 → IsSameWorld w v
    apart n w v a b ne = subst (IsSameWorld w) (same-some w v (sym a ∙ (sym (h.others n ne) ∙ b))) (same_world w)

    by : (n : ℕ) (w v : World) → slice_get old.resolve.worlds.items n ≡ Some w → slice_get new.resolve.worlds.items n ≡ Some v → (n ≡ old.world.0) ⊎ ((n < old.world.0) ⊎ (old.world.0 < n))
        → IsSameWorld w v
    by n w v a b (inl same) = world_is w v (h.bound w v (subst (λ (k : ℕ). slice_get old.resolve.worlds.items k ≡ Some w) same a)
        (subst (λ (k : ℕ). slice_get new.resolve.worlds.items k ≡ Some v) same b))
    by n w v a b (inr (inl less)) = apart n w v a b (λ same. omega (arith, less, same))
    by n w v a b (inr (inr more)) = apart n w v a b (λ same. omega (arith, more, same))
