-- What is added to a `Resolve` that got room is added to the one before.
use Rattle.std.proofs.Common.{◌≡◌, ◌≢◌, refl, sym, ap, subst, ◌∙◌, ℕ, zero, suc, ◌<◌, Bool, List, [], ◌∷◌, ◌++◌, arith, length, get_or, slice_get, slice_set, string_eq, Some}
use Rattle.std.proofs.lemmas.Option.{slice_get-get_or, slice_get_within, same_Some as same_element}
use Rattle.indexmap.specs.IndexMap.{insert_all}
use Rattle.wit_model.specs.declared.model.{Interface.Interface, Package.Package, TypeDef.TypeDef, World.World, WorldItem.WorldItem, WorldKey.WorldKey}
use Rattle.bind_add.specs.Growth.{HasGained, HasGainedItems, IsSamePackage, IsSameWorld, SameThenAdded}
use Rattle.bind_add.specs.declared.added.Names.{Names}

-- ---- entries

gained_of : (names : Names) (old between new : Package) → IsSamePackage old between → HasGained names between new → HasGained names old new
gained_of names old between new s g = record {
  name = g.name ∙ s.name;
  docs = g.docs ∙ s.docs;
  interfaces = g.interfaces ∙ ap (λ es. insert_all string_eq es names.interfaces.entries) s.interfaces;
  worlds = g.worlds ∙ ap (λ es. insert_all string_eq es names.worlds.entries) s.worlds;
}

items_of : (same : WorldKey → WorldKey → Bool) (imports exports : List (WorldKey × WorldItem)) (old between new : World) → IsSameWorld old between → HasGainedItems same imports exports between new
    → HasGainedItems same imports exports old new
items_of same imports exports old between new s g = record {
  name = g.name ∙ s.name;
  docs = g.docs ∙ s.docs;
  stability = g.stability ∙ s.stability;
  in_package = g.in_package ∙ s.in_package;
  imports = g.imports ∙ ap (λ es. insert_all same es imports) s.imports;
  exports = g.exports ∙ ap (λ es. insert_all same es exports) s.exports;
}

-- ---- lists

-- an element of a list is one of each that is as long
also_at : {X : Type 0} (xs ys : List X) → length ys ≡ length xs → (n : ℕ) (x : X) → slice_get xs n ≡ Some x → (y : X) × (slice_get ys n ≡ Some y)
also_at xs ys count n x at = (get_or ys n x, slice_get-get_or ys n x (subst (λ m. n < m) (sym count) (slice_get_within xs n x at)))

same_lists : {X : Type 0} (xs ys : List X) → length ys ≡ length xs → ((n : ℕ) → slice_get ys n ≡ slice_get xs n) → ys ≡ xs
same_lists [] [] count h = refl
same_lists [] (y ∷ ys) count h = absurd (omega (arith, count))
same_lists (x ∷ xs) [] count h = absurd (omega (arith, count))
same_lists (x ∷ xs) (y ∷ ys) count h =
    let first : y ≡ x = same_element y x (h zero) in
    let rest : ys ≡ xs = same_lists xs ys (omega (arith, count)) (λ n. h (suc n)) in
    λ i. first i ∷ rest i

-- lists that differ in one element are the same once that is written
written_same : {X : Type 0} (xs ys : List X) (k : ℕ) (z : X) → length ys ≡ length xs → ((n : ℕ) → n ≢ k → slice_get ys n ≡ slice_get xs n) → slice_set ys k z ≡ slice_set xs k z
written_same [] [] k z count others = refl
written_same [] (y ∷ ys) k z count others = absurd (omega (arith, count))
written_same (x ∷ xs) [] k z count others = absurd (omega (arith, count))
written_same (x ∷ xs) (y ∷ ys) zero z count others = ap (λ us. z ∷ us) (same_lists xs ys (omega (arith, count)) (λ n. others (suc n) (λ e. let no : ⊥ = cc in no)))
written_same (x ∷ xs) (y ∷ ys) (suc k) z count others =
    let first : y ≡ x = same_element y x (others zero (λ e. let no : ⊥ = cc in no)) in
    let rest : slice_set ys k z ≡ slice_set xs k z = written_same xs ys k z (omega (arith, count)) (λ n ne. others (suc n) (λ e. ne (omega (arith, e)))) in
    λ i. first i ∷ rest i

-- ---- the whole

pub same_then_added : SameThenAdded
same_then_added same world added old between new room stay h = record {
  packages = (h.packages.0, record { count = h.packages.1.count ∙ room.packages.count; gained = gained; others = λ k none. h.packages.1.others k none ∙ stay k none }, h.packages.2);
  interfaces = h.interfaces ∙ ap (λ (xs : List Interface). xs ++ added.interfaces.items) room.interfaces;
  types = h.types ∙ ap (λ (xs : List TypeDef). xs ++ added.types.items) room.types;
  worlds = bound;
}
  where
    gained : (i : ℕ) (n : Names) (p : Package) → slice_get added.names.items i ≡ Some n → slice_get old.packages.items n.«package».0 ≡ Some p → (q : Package)
        × (slice_get h.packages.0 n.«package».0 ≡ Some q) × HasGained n p q
    gained i n p at_n at_p =
        let b = also_at old.packages.items between.packages.items room.packages.count n.«package».0 p at_p in
        let g = h.packages.1.gained i n b.0 at_n b.1 in
        (g.0, g.1, gained_of n p b.0 g.0 (room.packages.each n.«package».0 p b.0 at_p b.1).0 g.2)

    bound : (w : World) → slice_get old.worlds.items world ≡ Some w → (v : World) × HasGainedItems same added.imports.entries added.exports.entries w v
        × (new.worlds.items ≡ slice_set old.worlds.items world v ++ added.worlds.items)
    bound w at =
        let b = also_at old.worlds.items between.worlds.items room.worlds world w at in
        let g = h.worlds b.0 b.1 in (
          g.0,
          items_of same added.imports.entries added.exports.entries w b.0 g.0 (room.bound w b.0 at b.1) g.1,
          g.2 ∙ ap (λ (xs : List World). xs ++ added.worlds.items) (written_same old.worlds.items between.worlds.items world g.0 room.worlds room.others),
        )
