-- Numbers, none of which stands twice.
use Rattle.std.proofs.Common.{◌≡◌, refl, sym, ap, ◌∙◌, ℕ, ◌+◌, ◌<◌, ◌≤◌, Bool, true, false, not, ◌&&◌, ◌||◌, ◌==◌, cond, List, [], ◌∷◌, ◌++◌, map, drop, length, get_or}
use Rattle.std.proofs.lemmas.{List.Folds.list_any-append, List.get_or_default as same_default}
use Rattle.std.specs.List.{list_all, list_any}
use Rattle.wit_model.specs.Uses.{has}
use Rattle.wit_model.proofs.Distinct.{adds_new, adds_apart, are_apart, new_turn, old_turn, last_turn}
use Rattle.plan_meaning.specs.NumberedViews.{Tables}
use Rattle.plan_meaning.specs.NumberedWorlds.{NumberedSeen, are_once, path_seen, stand_earlier, uses_of}
use Rattle.read_rules.specs.Places.{places_of}
use Rattle.base_lemmas.proofs.Numbers.{turned as same_flip}

pub any_flip : (n : ℕ) (ns : List ℕ) → list_any (λ m. n == m) ns ≡ has ns n
any_flip n ns = ap (λ (f : ℕ → Bool). list_any f ns) (λ i m. same_flip n m i)

apart_once : (ns : List ℕ) → are_apart ◌==◌ ns ≡ are_once ns
apart_once [] = refl
apart_once (n ∷ ns) = λ i. not (any_flip n ns i) && apart_once ns i

abbrev pub itself : ℕ → ℕ
itself n = n

all_itself : (ns : List ℕ) → map itself ns ≡ ns
all_itself [] = refl
all_itself (n ∷ ns) = ap (λ ms. n ∷ ms) (all_itself ns)

once_itself : (ns : List ℕ) → adds_new ◌==◌ [] (map itself ns) ≡ are_once ns
once_itself ns = ap (adds_new ◌==◌ []) (all_itself ns) ∙ (adds_apart ◌==◌ same_flip ns ∙ apart_once ns)

module _ (ns : List ℕ) (i d : ℕ) (more : i < length ns) (ks : List ℕ) (r : Bool) (tells : r ≡ not (list_any (λ o. get_or ns i d == o) ks))
    (kept : adds_new ◌==◌ (map itself ks) (drop i (map itself ns)) ≡ adds_new ◌==◌ [] (map itself ns)) where
  pub number_seen : r ≡ false → false ≡ are_once ns
  number_seen old =
      let x = get_or ns i d in
      sym (old_turn ◌==◌ itself itself ns i x ks x r more (same_default ns i d x more) refl tells old) ∙ (kept ∙ once_itself ns)

  pub number_new : (new : List ℕ) → r ≡ true → new ≡ cond (list_any (λ o. get_or ns i d == o) ks) ks (ks ++ get_or ns i d ∷ [])
      → adds_new ◌==◌ (map itself new) (drop (i + 1) (map itself ns)) ≡ adds_new ◌==◌ [] (map itself ns)
  number_new new fresh added =
      let x = get_or ns i d in
      new_turn ◌==◌ itself itself ns i x ks x new r (adds_new ◌==◌ [] (map itself ns)) more (same_default ns i d x more) refl tells fresh added kept

pub numbers_all : (ns : List ℕ) (i : ℕ) (ks : List ℕ) → length ns ≤ i → adds_new ◌==◌ (map itself ks) (drop i (map itself ns)) ≡ adds_new ◌==◌ [] (map itself ns) → true ≡ are_once ns
numbers_all ns i ks past kept = sym (last_turn ◌==◌ itself ns i (map itself ks) past) ∙ (kept ∙ once_itself ns)

-- ---- what stands earlier

-- each item uses places that were seen before it
abbrev pub use_before : List ℕ → List (List ℕ × List ℕ) → Bool
use_before before [] = true
use_before before (x ∷ xs) = list_all (has before) x.0 && use_before (before ++ x.1) xs

-- what was seen matters by what stands there alone
same_all : (p q : ℕ → Bool) → ((n : ℕ) → p n ≡ q n) → (xs : List ℕ) → list_all p xs ≡ list_all q xs
same_all p q same xs = ap (λ test. list_all test xs) (λ i x. same x i)

pub same_before : (a b : List ℕ) → ((n : ℕ) → has a n ≡ has b n) → (xs : List (List ℕ × List ℕ)) → use_before a xs ≡ use_before b xs
same_before a b same [] = refl
same_before a b same (x ∷ xs) =
    let later : (n : ℕ) → has (a ++ x.1) n ≡ has (b ++ x.1) n = λ n. list_any-append (λ m. m == n) a x.1 ∙ (ap (λ v. v || has x.1 n) (same n) ∙ sym (list_any-append (λ m. m == n) b x.1)) in
    λ i. same_all (has a) (has b) same x.0 i && same_before (a ++ x.1) (b ++ x.1) later xs i

pub stands_earlier : (t : Tables) (before : List ℕ) (seen : List NumberedSeen) → stand_earlier t before seen ≡ use_before before (map (places_of t) seen)
stands_earlier t before [] = refl
stands_earlier t before (s ∷ rest) = ap (λ b. list_all (has before) (uses_of t s.shown) && b) (stands_earlier t (before ++ path_seen s.shown) rest)
