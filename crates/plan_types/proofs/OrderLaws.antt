-- Places that are met one after the other.
use Rattle.std.proofs.Common.{rules as std_rules, ◌≡◌, refl, sym, ap, ◌∙◌, ℕ, ◌+◌, ◌<◌, ◌≤◌, List, [], ◌∷◌, ◌++◌, map, drop, length, get_or, Bor, Result, OnOk}
use Rattle.std.proofs.{Math.ListN.drop_of_length-le, lemmas.List.drop_more, lemmas.List.drop-map as drop_mapped}
use Rattle.std.specs.List.{flat_map}
use Rattle.read_exports.specs.declared.members.Part.{Part}
use Rattle.read_exports.specs.Members.{numbered_part}
use Rattle.read_rules.specs.declared.{reached.ImportedView.ImportedView, views.View.View}
use Rattle.read_rules.specs.Reached.{numbered_import}
use Rattle.plan_types.specs.Orders.{joined, joined_all, places_of_part}
use Rattle.read_exports.specs.declared.members.Part.TheVariants as parts

pub joined_both : (met ps qs : List ℕ) → joined_all met (ps ++ qs) ≡ joined_all (joined_all met ps) qs
joined_both met [] qs = refl
joined_both met (p ∷ ps) qs = joined_both (joined met p) ps qs

module _ {A B : Type 0} (f : A → B) (g : B → ℕ) (xs : List A) (i : ℕ) where
  pub one_joined : (d : A) → i < length xs → (met v : List ℕ) → joined_all met (map g (drop i (map f xs))) ≡ v → (new : List ℕ) → new ≡ joined met (g (f (get_or xs i d)))
      → joined_all new (map g (drop (i + 1) (map f xs))) ≡ v
  one_joined d more met v kept new is = search (std_rules, drop_mapped, drop_more)

  pub all_joined : length xs ≤ i → (met v : List ℕ) → joined_all met (map g (drop i (map f xs))) ≡ v → met ≡ v
  all_joined past met v kept = sym (ap (λ l. joined_all met (map g l)) (drop_mapped f i xs ∙ ap (map f) (drop_of_length-le xs past))) ∙ kept

module _ {A : Type 0} (f : A → List ℕ) (xs : List A) (i : ℕ) where
  pub one_place : (d : A) → i < length xs → (met v : List ℕ) → joined_all met (flat_map f (drop i xs)) ≡ v → (new : List ℕ) → new ≡ joined_all met (f (get_or xs i d))
      → joined_all new (flat_map f (drop (i + 1) xs)) ≡ v
  one_place d more met v kept new is = search (std_rules, joined_both, drop_more)

  pub all_places : length xs ≤ i → (met v : List ℕ) → joined_all met (flat_map f (drop i xs)) ≡ v → met ≡ v
  all_places past met v kept = sym (ap (λ l. joined_all met (flat_map f l)) (drop_of_length-le xs past)) ∙ kept

pub interface_joined : {R E : Type 0} (r : Result R E) (part : Part) (p : ℕ) (v : View) (imports : Bor (List ImportedView)) → part ≡ parts.Interface p v imports → (old mid new : List ℕ)
    → mid ≡ joined_all old (map (λ i. i.0) (map numbered_import imports.now)) → OnOk r (new ≡ joined mid p) → OnOk r (new ≡ joined_all old (places_of_part (numbered_part part)))
interface_joined x part p v imports is old mid new first second = search (std_rules, joined_both)
