-- What a type of an owner's list uses stands before it exactly where its place is smaller.
use Rattle.std.proofs.Common.{rules as std_rules, ◌≡◌, refl, sym, ap, ◌∙◌, ℕ, zero, suc, ◌+◌, ◌<◌, max, Bool, true, false, ◌&&◌, ◌||◌, not, cond, nat_lt, nat_le, List, [], ◌∷◌, take, length, filter_map, option_and_then, position, Some, Option, arith}
use Rattle.std.proofs.lemmas.Bool.Decides.{nat_tests}
use Rattle.std.specs.{List.list_all, List.cons_option, List.position_or_len, Option.option_map_or, Map.lookup, Map.keys_of, Map.values_of}
use Rattle.wit_model.specs.{Uses.has, Rules.is_id, Checks.highest}
use Rattle.base_lemmas.proofs.Bools.{left_of as first_true, right_of as second_true}

zero_within : (p : ℕ) → nat_le 0 p ≡ true
zero_within p = grind (arith, nat_tests)

pub max_within : (a b p : ℕ) → nat_le (max a b) p ≡ (nat_le a p && nat_le b p)
max_within a b p = search std_rules

-- the greatest is within where each is
pub highest_within : (g : ℕ → ℕ) (p : ℕ) (ns : List ℕ) → nat_le (highest g ns) p ≡ list_all (λ n. nat_le (g n) p) ns
highest_within g p [] = zero_within p
highest_within g p (n ∷ ns) = max_within (g n) (highest g ns) p ∙ ap (λ b. nat_le (g n) p && b) (highest_within g p ns)

has_given : (m : ℕ) (o : Option ℕ) (ns : List ℕ) → is_id m o ≡ true → has (cons_option o ns) m ≡ true
has_given m x ns e = search std_rules

has_other : (m : ℕ) (o : Option ℕ) (ns : List ℕ) → is_id m o ≡ false → has (cons_option o ns) m ≡ has ns m
has_other m x ns e = search std_rules

none_below : (n : ℕ) → nat_lt n 0 ≡ false
none_below n = grind (arith, nat_tests)

first_below : (p : ℕ) → nat_lt 0 (suc p) ≡ true
first_below p = grind (arith, nat_tests)

next_below : (n p : ℕ) → nat_lt (1 + n) (suc p) ≡ nat_lt n p
next_below n p = grind (arith, nat_tests)

within_next : (n p : ℕ) → nat_le (n + 1) p ≡ nat_lt n p
within_next n p = grind (arith, nat_tests)

module _ {K V : Type 0} (test : K → Bool) (num : V → Option ℕ) (m : ℕ) where
  abbrev pub found : List (K × V) → Bool
  found es = is_id m (option_and_then num (lookup test es))

  abbrev pub fitting : List (K × V) → Bool
  fitting es = list_all (λ e. not (is_id m (num e.1)) || test e.0) es

  abbrev place : List (K × V) → ℕ
  place es = position_or_len test (keys_of es)

  unfit : (b : Bool) → (not b || false) ≡ true → b ≡ false
  unfit x h = search std_rules

  -- a number that is found stands before a place exactly where its own is smaller
  pub before_place : (es : List (K × V)) (p : ℕ) → found es ≡ true → fitting es ≡ true → has (filter_map num (values_of (take p es))) m ≡ nat_lt (place es) p
  before_place [] p f fit = let wrong : ⊥ = cc in absurd wrong
  before_place (x ∷ xs) zero f fit = sym (none_below (place (x ∷ xs)))
  before_place (x ∷ xs) (suc p) f fit = go (before_place xs p) (test x.0) refl f (first_true _ _ fit)
    where
      go : (found xs ≡ true → fitting xs ≡ true → has (filter_map num (values_of (take p xs))) m ≡ nat_lt (place xs) p) →
          (b : Bool) → test x.0 ≡ b → is_id m (option_and_then num (cond b (Some x.1) (lookup test xs))) ≡ true → (not (is_id m (num x.1)) || b) ≡ true →
          has (cons_option (num x.1) (filter_map num (values_of (take p xs)))) m ≡ nat_lt (place (x ∷ xs)) (suc p)
      go rest true t g h = has_given m (num x.1) (filter_map num (values_of (take p xs))) g ∙ sym (ap (λ b. nat_lt (cond (not b) (1 + place xs) 0) (suc p)) t ∙ first_below p)
      go rest false t g h = has_other m (num x.1) (filter_map num (values_of (take p xs))) (unfit (is_id m (num x.1)) h)
          ∙ (rest g (second_true _ _ fit) ∙ sym (ap (λ b. nat_lt (cond (not b) (1 + place xs) 0) (suc p)) t ∙ next_below (place xs) p))

  -- and it stands in the list
  pub found_stands : (es : List (K × V)) → found es ≡ true → has (filter_map num (values_of es)) m ≡ true
  found_stands [] f = let wrong : ⊥ = cc in absurd wrong
  found_stands (x ∷ xs) f = go (found_stands xs) (test x.0) refl f
    where
      either : (b : Bool) → is_id m (num x.1) ≡ b → has (filter_map num (values_of xs)) m ≡ true → has (cons_option (num x.1) (filter_map num (values_of xs))) m ≡ true
      either true e h = has_given m (num x.1) (filter_map num (values_of xs)) e
      either false e h = has_other m (num x.1) (filter_map num (values_of xs)) e ∙ h

      go : (found xs ≡ true → has (filter_map num (values_of xs)) m ≡ true) → (b : Bool) → test x.0 ≡ b → is_id m (option_and_then num (cond b (Some x.1) (lookup test xs))) ≡ true
          → has (cons_option (num x.1) (filter_map num (values_of xs))) m ≡ true
      go rest true t g = has_given m (num x.1) (filter_map num (values_of xs)) g
      go rest false t g = either (is_id m (num x.1)) refl (rest g)

  -- its place is inside
  pub found_place : (es : List (K × V)) → found es ≡ true → place es < length (keys_of es)
  found_place [] f = let wrong : ⊥ = cc in absurd wrong
  found_place (x ∷ xs) f = go (found_place xs) (test x.0) refl f
    where
      go : (found xs ≡ true → place xs < length (keys_of xs)) → (b : Bool) → test x.0 ≡ b → is_id m (option_and_then num (cond b (Some x.1) (lookup test xs))) ≡ true
          → place (x ∷ xs) < length (keys_of (x ∷ xs))
      go rest true t g = let here : place (x ∷ xs) ≡ 0 = ap (λ b. cond (not b) (1 + place xs) 0) t in omega (arith, here)
      go rest false t g = let next : place (x ∷ xs) ≡ 1 + place xs = ap (λ b. cond (not b) (1 + place xs) 0) t in omega (arith, next, rest g)

  -- whether a used number of the list stands before, by its place counted from 1
  pub used_place : (es : List (K × V)) (p : ℕ) → found es ≡ true → fitting es ≡ true →
      (not (has (filter_map num (values_of es)) m) || has (filter_map num (values_of (take p es))) m) ≡ nat_le (option_map_or (λ k. k + 1) (position test (keys_of es)) 0) p
  used_place es p f fit = search (std_rules, found_stands, before_place, within_next, found_place, nat_tests)
