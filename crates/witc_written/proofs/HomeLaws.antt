-- The package of a world, and all others.
use Rattle.std.proofs.Common.{rules as std_rules, ◌≡◌, ◌<◌, ◌+◌, ◌++◌, ◌∙◌, sym, ap, ℕ, nat_eq, Bool, true, List, [], ◌∷◌, length, map, Option, Some, None, arith}
use Rattle.std.proofs.lemmas.{Bool.eq-eqb, Bool.ltb-true, Bool.ne_eqb, List.FromFn.filter_of_map_range_with_len_more}
use Rattle.std.specs.{Prelude.filter, Prelude.is_some, Prelude.not, Prelude.cond, List.list_all, List.range_with_len}
use Rattle.wit_model.specs.declared.model.{PackageId.PackageId, Resolve.Resolve, World.World}
use Rattle.wit_model.specs.Lookup.{world_at}
use Rattle.wit_model.specs.{Rules.in_list, Rules.package_number, Rules.passes, Valid.IsValid, Valid.is_place, Valid.numbers_in_range, Valid.places}
use Rattle.wit_model.proofs.ValidLemmas.{world_passes}
use Rattle.witc_texts.proofs.BindingsLaws.{all-there}
use Rattle.witc_written.specs.Worlds.{other_packages_than}
use Rattle.base_lemmas.proofs.{Bools.left_of, Bools.right_of, Elements.all-contained, Elements.all_pass, Elements.filter_kept, Lists.append_none, Options.there}

-- A world of a valid `Resolve` has a package, which is in range.
pub home-there : (r : Resolve) → IsValid r → (n : ℕ) (w : World) → world_at r n ≡ Some w → (home : PackageId) × (w.package ≡ Some home) × (home.0 < length r.packages.items)
unfolding places numbers_in_range
home-there r valid n w at =
    let home = there w.package (left_of (is_some w.package) _ (world_passes places r valid.rules.places n w at)) in
    let inside = left_of (passes (in_list r.packages.items) (package_number w.package)) _ (right_of (is_place n) _ (world_passes numbers_in_range r valid.rules.numbers_in_range n w at)) in
    (home.0, home.1, ltb-true home.0.0 (length r.packages.items) (ap (λ p. passes (in_list r.packages.items) (package_number p)) (sym home.1) ∙ inside))

abbrev numbered : ℕ → PackageId
numbered n = record { 0 = n }

abbrev other_than : ℕ → PackageId → Bool
other_than home id = not (nat_eq id.0 home)

-- the packages below a number, but for one
abbrev pub others_below : ℕ → ℕ → List PackageId
others_below home number = filter (λ id. not (nat_eq id.0 home)) (map (λ n. record { 0 = n }) (range_with_len 0 number))

longer : (home number : ℕ) → others_below home (number + 1) ≡ others_below home number ++ cond (other_than home (numbered number)) (numbered number ∷ []) []
longer home number = filter_of_map_range_with_len_more (other_than home) numbered 0 number number (omega arith)

-- a world without a package has none
pub no-home : (home : PackageId) → ◌≡◌ {A = Option PackageId} None (Some home) → ⊥
no-home home is = cc

-- one more, which is another
pub another : (home number : ℕ) (old new : List PackageId) → old ≡ others_below home number → (number ≡ home → ⊥) → new ≡ old ++ record { 0 = number } ∷ [] → new ≡ others_below home (number + 1)
another home number old new is differs pushed = search (std_rules, ne_eqb, longer)

-- one more, which is that one
pub that-one : (home number : ℕ) (old new : List PackageId) → old ≡ others_below home number → number ≡ home → new ≡ old → new ≡ others_below home (number + 1)
that-one home number old new is same kept = search (std_rules, append_none, eq-eqb, longer)

-- each is in range
pub others-in-range : (r : Resolve) (home : ℕ) → list_all (λ (id : PackageId). in_list r.packages.items id.0) (other_packages_than r home) ≡ true
others-in-range r home =
    let all : List PackageId = map numbered (range_with_len 0 (length r.packages.items)) in
    let within = all-there r.packages.items 0 (length r.packages.items) (omega arith) in
    all_pass (λ (id : PackageId). in_list r.packages.items id.0) (filter (other_than home) all)
    (λ id among. all-contained (λ (id : PackageId). in_list r.packages.items id.0) all id within (filter_kept (other_than home) all id among).0)
