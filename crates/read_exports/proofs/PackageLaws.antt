-- The rules on a package and on one world, put together.
use Rattle.std.proofs.Common.{rules as std_rules, ◌≡◌, refl, ap, ℕ, Bool, not, ◌&&◌, ◌||◌, ◌==◌, List, [], ◌∷◌}
use Rattle.std.specs.List.{list_all, list_any}
use Rattle.wit_model.specs.Text.{Text}
use Rattle.plan_meaning.specs.NumberedMembers.{Homes, NumberedMember, are_interfaces, are_package, is_named_in, is_of_package, is_one_world, sights_of_members, stands_at_top}
use Rattle.plan_meaning.specs.{NumberedRules.Fact, NumberedWorlds.NumberedScope, NumberedWorlds.sights_of_scope}
use Rattle.plan_meaning.specs.NumberedViews.{NumberedSight, Tables, agree_with_first_in_numbers}
use Rattle.plan_parts.proofs.FirstAgreement.{agree_by_first}
use Rattle.read_exports.specs.Members.{stands_among, ArePlaces}
use Rattle.base_lemmas.proofs.Bools.{and_line}

module _ (h : Homes) (n : ℕ) (ms : List NumberedMember) (places : List ℕ) (are : ArePlaces ms places) where
  one_at_top : (s : NumberedSight) → stands_among h n places s ≡ stands_at_top h n ms s
  one_at_top s = ap (λ b. not (is_of_package h n s.place) || b) (are s.place)

  all_at_top : (seen : List NumberedSight) → list_all (stands_among h n places) seen ≡ list_all (stands_at_top h n ms) seen
  all_at_top [] = refl
  all_at_top (s ∷ seen) = λ i. one_at_top s i && all_at_top seen i

  pub package_decided : (t : Tables) (known : ℕ → Fact) (seen : List NumberedSight) → seen ≡ sights_of_members t ms → (one top do_agree shown : Bool) → one ≡ list_all (λ m. n == m.package_) ms
      → top ≡ list_all (stands_among h n places) seen
      → do_agree ≡ agree_with_first_in_numbers [] seen → shown ≡ are_interfaces t known seen → (((one && top) && do_agree) && shown) ≡ are_package t h known n ms
  package_decided t known seen same one top do_agree shown a b c d = search (std_rules, and_line, all_at_top, agree_by_first)

pub world_decided : (t : Tables) (h : Homes) (known : ℕ → Fact) (n : ℕ) (name : Text) (w : NumberedScope) (seen : List NumberedSight) → seen ≡ sights_of_scope t w → (do_agree shown taken : Bool)
    → do_agree ≡ agree_with_first_in_numbers [] seen → shown ≡ are_interfaces t known seen → taken ≡ list_any (λ s. is_named_in h n name s.place) seen
    → ((do_agree && shown) && not taken) ≡ is_one_world t h known n name w
world_decided t h known n name w seen same do_agree shown taken a b c = search (std_rules, agree_by_first, and_line)
