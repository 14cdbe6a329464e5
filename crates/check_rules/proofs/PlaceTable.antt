-- A table of what worlds show says where inline interfaces stand.
use Rattle.std.proofs.Common.{rules as std_rules, ◌≡◌, refl, sym, ap, ◌∙◌, ℕ, zero, suc, ◌+◌, ◌<◌, Bool, true, false, ◌&&◌, ◌||◌, ◌==◌, List, [], ◌∷◌, length, sum_by, set, replicate, Option, arith}
use Rattle.std.proofs.lemmas.List.Sums.{sum_by-cons}
use Rattle.std.specs.{List.list_all, Option.option_eq}
use Rattle.check_rules.specs.declared.shown.Shown.{Shown}
use Rattle.wit_model.specs.declared.model.{PackageId.PackageId, World.World}
use Rattle.wit_model.specs.Rules.{package_number, times_shown}
use Rattle.check_rules.specs.Places.{times, time, joined, shown_by_all, is_once_in, is_inline_in, shown_entry}
use Rattle.check_rules.specs.declared.shown.Shown.TheVariants as shown

-- ---- what is shown, together

pub joined_never : (a : Shown) → joined a shown.Never ≡ a
joined_never x = search std_rules

-- ---- tables

same_suc : (m n : ℕ) → (suc m == suc n) ≡ (m == n)
same_suc m n = grind arith

-- no mark at another number
not_marked : (a : Shown) (b : Bool) (home : Option PackageId) → b ≡ false → a ≡ joined a (time b home)
not_marked a b home h = sym (joined_never a) ∙ ap (λ v. joined a (time v home)) (sym h)

-- one more time at one number of a table
pub marked : (xs : List Shown) (i n : ℕ) (home : Option PackageId) → i < length xs
    → shown_entry (set xs i (joined (shown_entry xs i) (shown.Once home))) n ≡ joined (shown_entry xs n) (time (i == n) home)
marked [] i n home h = absurd (omega (arith, h))
marked (x ∷ xs) zero zero home h = refl
marked (x ∷ xs) zero (suc n) home h = let other : (zero == suc n) ≡ false = grind arith in not_marked (shown_entry xs n) (zero == suc n) home other
marked (x ∷ xs) (suc i) zero home h = let other : (suc i == zero) ≡ false = grind arith in not_marked x (suc i == zero) home other
marked (x ∷ xs) (suc i) (suc n) home h =
    let within : i < length xs = omega (arith, h) in
    marked xs i n home within ∙ ap (λ b. joined (shown_entry xs n) (time b home)) (sym (same_suc i n))

-- no mark past the end
pub unmarked : (xs : List Shown) (i n : ℕ) (home : Option PackageId) → n < i → shown_entry xs n ≡ joined (shown_entry xs n) (time (i == n) home)
unmarked xs i n home h = search std_rules

pub never_entry : (k n : ℕ) → shown_entry (replicate k shown.Never) n ≡ shown.Never
never_entry zero n = refl
never_entry (suc k) zero = refl
never_entry (suc k) (suc n) = never_entry k n

-- ---- what the worlds show says where an interface stands

module _ (n : ℕ) (p : Option PackageId) where
  abbrev in_package : Option PackageId → Bool
  in_package home = option_eq ◌==◌ (package_number home) (package_number p)

  abbrev fits : World → Bool
  fits w = (times_shown n w == 0) || option_eq ◌==◌ (package_number w.package) (package_number p)

  one_more : (k : ℕ) → (k == 0) ≡ ((1 + k) == 1)
  one_more k = grind arith

  none_left : (t k : ℕ) → ((t + k) == 0) ≡ true → (t == 0) ≡ true × ((k == 0) ≡ true)
  none_left x k h = search std_rules

  -- a world that doesn't show it fits
  none_fits : (ws : List World) → (sum_by (times_shown n) ws == 0) ≡ true → list_all fits ws ≡ true
  none_fits [] h = refl
  none_fits (w ∷ ws) h =
      let sum = ap (λ k. k == 0) (sym (sum_by-cons (times_shown n) w ws)) in
      let both = none_left (times_shown n w) (sum_by (times_shown n) ws) (sum ∙ h) in
      ap (λ b. (b || in_package w.package) && list_all fits ws) both.0 ∙ none_fits ws both.1

  once_step : (t k : ℕ) (home other : Option PackageId) (s : Shown) → is_once_in p (joined (shown.Once home) s) ≡ ((k == 0) && in_package home)
      → is_once_in p (joined (shown.Once home) (joined (times t other) s)) ≡ (((t + k) == 0) && in_package home)
  once_step x k home other s again = search std_rules

  -- shown in one world, and then in no other
  once_more : (home : Option PackageId) (ws : List World) → is_once_in p (joined (shown.Once home) (shown_by_all n ws)) ≡ ((sum_by (times_shown n) ws == 0) && in_package home)
  once_more home [] = refl
  once_more home (w ∷ ws) = search (std_rules, once_step, sum_by, sum_by-cons, once_more home ws)

  never_step : (t k : ℕ) (home : Option PackageId) (s : Shown) (a : Bool) → is_once_in p (joined (shown.Once home) s) ≡ ((k == 0) && in_package home) → is_once_in p s ≡ ((k == 1) && a)
      → ((k == 0) ≡ true → a ≡ true) → is_once_in p (joined (times t home) s) ≡ (((t + k) == 1) && (((t == 0) || in_package home) && a))
  never_step x k home s a once again none = search std_rules

  -- shown once, in this package
  pub found_inline : (ws : List World) → is_once_in p (shown_by_all n ws) ≡ is_inline_in ws n p
  found_inline [] = refl
  found_inline (w ∷ ws) = never_step (times_shown n w) (sum_by (times_shown n) ws) w.package (shown_by_all n ws) (list_all fits ws) (once_more w.package ws) (found_inline ws) (none_fits ws)
      ∙ ap (λ k. (k == 1) && (fits w && list_all fits ws)) (sym (sum_by-cons (times_shown n) w ws))
