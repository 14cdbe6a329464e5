-- Types that are used: each is marked once the types behind it have been looked at.
use Rattle.std.proofs.Common.{rules as std_rules, ◌≡◌, refl, sym, ap, ◌∙◌, subst, inl, inr, ℕ, zero, suc, ◌+◌, ◌-◌, ◌<◌, ◌≤◌, arith, Bool, true, false, ◌||◌, ◌==◌, List, [], ◌∷◌, length, get_or, Some, slice_get}
use Rattle.std.proofs.{Math.ListN.length-map, lemmas.Bool.Decides.nat_tests}
use Rattle.std.proofs.lemmas.{Bool.eqb-true, Bool.or_cases as either, Bool.or_left as left_true, Bool.or_right as right_true, Option.slice_get_within}
use Rattle.std.specs.{Borrow.Bor, List.AllByRecursion, List.Contains}
use Rattle.wit_model.specs.Uses.{has}
use Rattle.wit_model.proofs.Elements.{has-contains, contains-has}
use Rattle.plan_parts.specs.Marks.{is_marked, parts_of, PartsFall, IsUsed, marked, part}
use Rattle.base_lemmas.proofs.Elements.{all_at}

-- ---- the types in turn, from the last on

-- The marks as far as the types from this number on have been looked at: each mark has its reason, what was marked stays so, and so are the
-- parts of the types that were looked at and are marked.
pub record AreClosed (parts : List (List ℕ)) (roots now : List Bool) (from : ℕ) : Type 0 where
  pub sound : (n : ℕ) → is_marked now n ≡ true → IsUsed parts roots n
  pub roots_stay : (n : ℕ) → is_marked roots n ≡ true → is_marked now n ≡ true
  pub closed : (m n : ℕ) (ks : List ℕ) → from ≤ m → is_marked now m ≡ true → slice_get parts m ≡ Some ks → Contains ks (14 + n) → is_marked now n ≡ true

pub none_closed : (parts : List (List ℕ)) (roots : List Bool) (from : ℕ) → length parts ≤ from → AreClosed parts roots roots from
none_closed parts roots from past = record {
  sound = λ n e. marked n e;
  roots_stay = λ n e. e;
  closed = λ m n ks behind e there in_parts. absurd (let low = slice_get_within parts m ks there in omega arith);
}

module _ (parts : List (List ℕ)) (roots now : List Bool) (from number : ℕ) (next : from ≡ number + 1) (before : AreClosed parts roots now from) where
  module _ (here : List ℕ) (stands : slice_get parts number ≡ Some here) (falls : AllByRecursion (λ k. k < 14 + number) here)
      (new : List Bool) (same : (n : ℕ) → is_marked new n ≡ (is_marked now n || has here (14 + n))) where
    more : (n : ℕ) → is_marked now n ≡ true → is_marked new n ≡ true
    more n e = same n ∙ left_true (is_marked now n) (has here (14 + n)) e

    -- those behind are what they were
    above : (m : ℕ) → number ≤ m → is_marked new m ≡ true → is_marked now m ≡ true
    above m behind e = elim (either (is_marked now m) (has here (14 + m)) (sym (same m) ∙ e)) [
      | inl stood ↦ stood
      | inr among ↦ absurd (let low = all_at (λ k. k < 14 + number) here falls (14 + m) (has-contains here (14 + m) among) in omega arith)
    ]

    -- a type that is marked marks its parts
    pub gets_closed : is_marked now number ≡ true → AreClosed parts roots new number
    gets_closed is_so = record {
      sound = λ n e. elim (either (is_marked now n) (has here (14 + n)) (sym (same n) ∙ e)) [
        | inl old ↦ before.sound n old
        | inr among ↦ part number n here (before.sound number is_so) stands (has-contains here (14 + n) among)
      ];
      roots_stay = λ n e. more n (before.roots_stay n e);
      closed = λ m n ks behind e there in_parts. go (number == m) m n refl ks behind (above m behind e) there in_parts;
    }
      where
        go : (b : Bool) (m n : ℕ) → (number == m) ≡ b → (ks : List ℕ) → number ≤ m → is_marked now m ≡ true → slice_get parts m ≡ Some ks → Contains ks (14 + n) → is_marked new n ≡ true
        go true m n equals ks behind e there in_parts =
            let equal : m ≡ number = sym (eqb-true number m equals) in
            let found : Some ks ≡ Some here = sym there ∙ (ap (slice_get parts) equal ∙ stands) in
            let one : ks ≡ here = cc in
            same n ∙ right_true (is_marked now n) (has here (14 + n)) (contains-has here (14 + n) (subst (λ (l : List ℕ). Contains l (14 + n)) one in_parts))
        go false m n other ks behind e there in_parts = more n (before.closed m n ks (grind (arith, nat_tests, other, behind, next)) e there in_parts)

-- ---- all of them

pub used_marked : (parts : List (List ℕ)) (roots now : List Bool) → AreClosed parts roots now 0 → (n : ℕ) → IsUsed parts roots n → is_marked now n ≡ true
used_marked parts roots now are n (marked m e) = are.roots_stay n e
used_marked parts roots now are n (part m k ks used there in_parts) = are.closed m n ks (omega arith) (used_marked parts roots now are m used) there in_parts

-- ---- along the parts as they lie in memory

parts_here : (ps : List (Bor (List ℕ))) (n : ℕ) (d : Bor (List ℕ)) → n < length ps → slice_get (parts_of ps) n ≡ Some (get_or ps n d).now
parts_here [] n d within = absurd (omega (arith, within))
parts_here (p ∷ ps) zero d within = refl
parts_here (p ∷ ps) (suc n) d within = parts_here ps n d (omega (arith, within))

wider : (a b : ℕ) → a ≤ b → (ks : List ℕ) → AllByRecursion (λ k. k < 14 + a) ks → AllByRecursion (λ k. k < 14 + b) ks
wider a b less [] all = all
wider a b less (k ∷ ks) all = (omega (arith, less, all.0), wider a b less ks all.1)

pub begins : (ps : List (Bor (List ℕ))) (roots : List Bool) → AreClosed (parts_of ps) roots roots (length ps - 0)
begins ps roots = let long = length-map ps (λ (p : Bor (List ℕ)). p.now) in none_closed (parts_of ps) roots (length ps - 0) (omega (arith, long))

pub parts_fit : (ps : List (Bor (List ℕ))) (many passed : ℕ) (d : Bor (List ℕ)) → length ps ≡ many → passed < length ps → PartsFall (parts_of ps)
    → AllByRecursion (λ k. k < 14 + many) (get_or ps (length ps - 1 - passed) d).now
parts_fit ps many passed d same less fall =
    let number = length ps - 1 - passed in
    let within : number < length ps = omega arith in
    let few : number ≤ many = omega arith in
    wider number many few (get_or ps number d).now (fall number (get_or ps number d).now (parts_here ps number d within))

module _ (ps : List (Bor (List ℕ))) (roots now : List Bool) (passed : ℕ) (less : passed < length ps) (before : AreClosed (parts_of ps) roots now (length ps - passed)) where
  next_number : length ps - passed ≡ (length ps - 1 - passed) + 1
  next_number = omega arith

  same_number : length ps - 1 - passed ≡ length ps - (passed + 1)
  same_number = omega arith

  pub unmarked_turn : is_marked now (length ps - 1 - passed) ≡ false → AreClosed (parts_of ps) roots now (length ps - (passed + 1))
  unmarked_turn unmarked = search std_rules

  pub marked_turn : PartsFall (parts_of ps) → (d : Bor (List ℕ)) → is_marked now (length ps - 1 - passed) ≡ true
      → (new : List Bool) → ((n : ℕ) → is_marked new n ≡ (is_marked now n || has (get_or ps (length ps - 1 - passed) d).now (14 + n))) → AreClosed (parts_of ps) roots new (length ps - (passed + 1))
  marked_turn fall d is_so new same =
      let number = length ps - 1 - passed in
      let here = (get_or ps number d).now in
      let stands : slice_get (parts_of ps) number ≡ Some here = parts_here ps number d (omega arith) in
      subst (λ (n : ℕ). AreClosed (parts_of ps) roots new n) same_number
      (gets_closed (parts_of ps) roots now (length ps - passed) number next_number before here stands (fall number here stands) new same is_so)

pub all_looked_at : (ps : List (Bor (List ℕ))) (roots now : List Bool) (passed : ℕ) → length ps ≤ passed → AreClosed (parts_of ps) roots now (length ps - passed) → AreClosed (parts_of ps) roots now 0
all_looked_at ps roots now passed past are = let none : length ps - passed ≡ 0 = omega arith in subst (λ (n : ℕ). AreClosed (parts_of ps) roots now n) none are
