-- Imports that are reached, from the last one back.
use Rattle.std.proofs.Common.{rules as std_rules, ◌≡◌, sym, ap, ◌∙◌, ℕ, zero, suc, ◌+◌, ◌<◌, ◌≤◌, Bool, true, false, ◌&&◌, ◌||◌, ◌==◌, List, [], ◌∷◌, ◌++◌, map, drop, length, get_or, Option, option_to_list, Result, IfOk}
use Rattle.std.proofs.{Math.ListN.drop_of_length-le, lemmas.List.drop_more, lemmas.List.Folds.list_any-append, lemmas.Bool.and_right as second_fails}
use Rattle.std.specs.List.{flat_map}
use Rattle.wit_model.specs.Uses.{has}
use Rattle.plan_meaning.specs.NumberedViews.{NumberedView, Tables}
use Rattle.plan_meaning.specs.NumberedWorlds.{are_reached, used_by, used_by_view}
use Rattle.read_rules.specs.declared.{reached.ImportedView.ImportedView, views.ViewType.ViewType}
use Rattle.read_rules.specs.{Reached.numbered_import, Reached.used_by_types, Views.numbered_type}
use Rattle.base_lemmas.proofs.Bools.{or_false, or_line}

has_append : (xs ys : List ℕ) (n : ℕ) → has (xs ++ ys) n ≡ (has xs n || has ys n)
has_append xs ys n = list_any-append (λ m. m == n) xs ys

or_turn : (a b c : Bool) → ((a || b) || c) ≡ ((c || a) || b)
or_turn x b y = search std_rules

pub type_added : {X E : Type 0} (old new : List ℕ) (ps : List ℕ) (p : Option ℕ) → option_to_list p ≡ ps → (r : Result X E) → IfOk r (λ _. (n : ℕ) → has new n ≡ has (old ++ option_to_list p) n)
    → IfOk r (λ _. (n : ℕ) → has new n ≡ has (old ++ ps) n)
type_added old new ps p is x h = search std_rules

module _ (t : Tables) (xs : List ViewType) (i : ℕ) (ks : List ℕ) (n : ℕ) {v : Bool} (kept : (has ks n || has (used_by_types t (map numbered_type (drop i xs))) n) ≡ v) where
  pub type_turn : (d : ViewType) → i < length xs → (new : List ℕ) → ((m : ℕ) → has new m ≡ has (ks ++ used_by t (numbered_type (get_or xs i d)).declared) m)
      → (has new n || has (used_by_types t (map numbered_type (drop (i + 1) xs))) n) ≡ v
  type_turn d more new added = search (std_rules, has_append, or_line, drop_more)

  pub types_end : length xs ≤ i → has ks n ≡ v
  types_end past = sym (or_false (has ks n)) ∙ (ap (λ ys. has ks n || has (used_by_types t (map numbered_type ys)) n) (sym (drop_of_length-le xs past)) ∙ kept)

module _ (t : Tables) (e : NumberedView) where
  suffix_fails : (xs : List ImportedView) (k : ℕ) → are_reached t (map numbered_import (drop k xs)) e ≡ false → are_reached t (map numbered_import xs) e ≡ false
  suffix_fails xs zero h = h
  suffix_fails [] (suc k) h = h
  suffix_fails (x ∷ xs) (suc k) h = second_fails _ _ (suffix_fails xs k h)

  -- what the imports and the export use
  abbrev pub used_behind : List ImportedView → List ℕ
  used_behind xs = flat_map (λ l. used_by_view t l.1) (map numbered_import xs) ++ used_by_view t e

  module _ (xs : List ImportedView) (k m : ℕ) (next : m ≡ k + 1) (d : ImportedView) (more : k < length xs) (ks : List ℕ) (used : (n : ℕ) → has ks n ≡ has (used_behind (drop m xs)) n)
      (reached : are_reached t (map numbered_import (drop m xs)) e ≡ true) where
    cut : drop k xs ≡ get_or xs k d ∷ drop m xs
    cut = drop_more xs k d more ∙ ap (λ j. get_or xs k d ∷ drop j xs) (sym next)

    here : are_reached t (map numbered_import (drop k xs)) e ≡ (has ks (numbered_import (get_or xs k d)).0 && true)
    here = ap (λ ys. are_reached t (map numbered_import ys) e) (cut) ∙ λ j. sym (used (numbered_import (get_or xs k d)).0) j && reached j

    pub import_missed : has ks (numbered_import (get_or xs k d)).0 ≡ false → false ≡ are_reached t (map numbered_import xs) e
    import_missed misses = sym (suffix_fails xs k (here ∙ ap (λ b. b && true) misses))

    pub import_reached : has ks (numbered_import (get_or xs k d)).0 ≡ true → (new : List ℕ) → ((n : ℕ) → has new n ≡ (has ks n || has (used_by_types t (numbered_import (get_or xs k d)).1.types) n))
        → ((n : ℕ) → has new n ≡ has (used_behind (drop k xs)) n) × (are_reached t (map numbered_import (drop k xs)) e ≡ true)
    import_reached hits new added = (
      λ n.
          let one = used_by_types t (numbered_import (get_or xs k d)).1.types in
          let later = flat_map (λ l. used_by_view t l.1) (map numbered_import (drop m xs)) in
          added n ∙ (ap (λ b. b || has one n) (used n ∙ has_append later (used_by_view t e) n)
          ∙ (or_turn (has later n) (has (used_by_view t e) n) (has one n) ∙ (ap (λ b. b || has (used_by_view t e) n) (sym (has_append one later n))
          ∙ (sym (has_append (one ++ later) (used_by_view t e) n) ∙ ap (λ ys. has (used_behind ys) n) (sym (cut)))))),
      here ∙ ap (λ b. b && true) hits,
    )

pub all_reached : (t : Tables) (e : NumberedView) (xs : List ImportedView) (k : ℕ) → k ≤ 0 → are_reached t (map numbered_import (drop k xs)) e ≡ true → true ≡ are_reached t (map numbered_import xs) e
all_reached t e xs x past reached = search std_rules

-- nothing stands behind the last
pub none_behind : (t : Tables) (e : NumberedView) (xs : List ImportedView) (ks : List ℕ) (old : List ℕ) → old ≡ [] → ((n : ℕ) → has ks n ≡ (has old n || has (used_by_types t e.types) n))
    → ((n : ℕ) → has ks n ≡ has (used_behind t e (drop (length xs) xs)) n) × (are_reached t (map numbered_import (drop (length xs) xs)) e ≡ true)
none_behind t e xs ks old none added = search (std_rules, drop_of_length-le)
