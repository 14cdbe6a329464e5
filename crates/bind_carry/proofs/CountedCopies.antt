-- As many are copied as pass a test, where each of these passes it, and each that passes it is copied.
use Rattle.std.proofs.Common.{rules as std_rules, ◌≡◌, refl, ap, ◌∙◌, ℕ, zero, suc, ◌+◌, ◌≤◌, Bool, true, false, cond, arith, List, [], ◌∷◌, length, Option, Some, slice_get}
use Rattle.std.proofs.lemmas.List.Sums.{sum_by-cons}
use Rattle.std.specs.Prelude.{count_by}
use Rattle.wit_model.specs.declared.model.{InterfaceId.InterfaceId, Resolve.Resolve, World.World, WorldId.WorldId}
use Rattle.bind_union.proofs.Lists.{no_true}
use Rattle.bind_carry.specs.{First.flag_under, Marked.mark_items, Marked.mark_worlds, Numbers.copied_count, Which.new_interfaces, Which.new_worlds}
use Rattle.bind_carry.proofs.Marking.{mark_items_long, new_long as named_flagged}

-- ---- flags

count_more : {X : Type 0} (p : X → Bool) (x : X) (xs : List X) → count_by p (x ∷ xs) ≡ cond (p x) 1 0 + count_by p xs
count_more p x xs = sum_by-cons (λ y. cond (p y) 1 0) x xs

one_passes : (a b : Bool) → (a ≡ true → b ≡ true) → cond a 1 0 ≤ cond b 1 0
one_passes x b h = search std_rules

module _ (a n : ℕ) where
  sum_least : (b k w : ℕ) → w ≡ b + k → n ≤ k → a ≤ b → a + n ≤ w
  sum_least b k w e l m = omega (arith, e, l, m)

pub flags_few : {X : Type 0} (p : X → Bool) (bs : List Bool) (xs : List X) → length bs ≡ length xs → ((n : ℕ) (x : X) → slice_get xs n ≡ Some x → flag_under bs n ≡ true → p x ≡ true)
    → copied_count bs ≤ count_by p xs
flags_few p [] xs long h = omega arith
flags_few p (b ∷ bs) [] long h = absurd (omega (arith, long))
flags_few p (true ∷ bs) (x ∷ xs) long h = omega (
  arith,
  (sum_least 1 (copied_count bs) (cond (p x) 1 0) (count_by p xs) (count_by p (x ∷ xs)) (count_more p x xs)
      (flags_few p bs xs (omega (arith, long)) (λ n y at. h (suc n) y at)) (one_passes true (p x) (λ e. h zero x refl refl))),
)
flags_few p (false ∷ bs) (x ∷ xs) long h = omega (
  arith,
  (sum_least 0 (copied_count bs) (cond (p x) 1 0) (count_by p xs) (count_by p (x ∷ xs)) (count_more p x xs)
      (flags_few p bs xs (omega (arith, long)) (λ n y at. h (suc n) y at)) (one_passes false (p x) (λ e. no_true e))),
)

module _ (a n : ℕ) where
  sum_most : (b k w : ℕ) → w ≡ b + k → k ≤ n → b ≤ a → w ≤ a + n
  sum_most b k w e l m = omega (arith, e, l, m)

-- and at least as many, where each that passes has its flag
pub flags_many : {X : Type 0} (p : X → Bool) (bs : List Bool) (xs : List X) → length bs ≡ length xs → ((n : ℕ) (x : X) → slice_get xs n ≡ Some x → p x ≡ true → flag_under bs n ≡ true)
    → count_by p xs ≤ copied_count bs
flags_many p [] [] long h = omega arith
flags_many p [] (x ∷ xs) long h = absurd (omega (arith, long))
flags_many p (b ∷ bs) [] long h = absurd (omega (arith, long))
flags_many p (true ∷ bs) (x ∷ xs) long h = omega (
  arith,
  (sum_most 1 (copied_count bs) (cond (p x) 1 0) (count_by p xs) (count_by p (x ∷ xs)) (count_more p x xs)
      (flags_many p bs xs (omega (arith, long)) (λ n y at. h (suc n) y at)) (one_passes (p x) true (λ e. refl))),
)
flags_many p (false ∷ bs) (x ∷ xs) long h = omega (
  arith,
  (sum_most 0 (copied_count bs) (cond (p x) 1 0) (count_by p xs) (count_by p (x ∷ xs)) (count_more p x xs)
      (flags_many p bs xs (omega (arith, long)) (λ n y at. h (suc n) y at)) (one_passes (p x) false (λ e. h zero x refl e))),
)

-- ---- flags of what is carried by path

module _ (r : Resolve) where
  pub worlds_flagged : (ms : List (Option WorldId)) (ws : List World) → length ms ≡ length ws → length (new_worlds r ms ws) ≡ length ws
  worlds_flagged [] [] long = refl
  worlds_flagged (m ∷ ms) (w ∷ ws) long = ap suc (worlds_flagged ms ws (omega (arith, long)))
  worlds_flagged _ _ long = absurd (omega (arith, long))

  marks_flagged : (marks flags : List Bool) (ws : List World) → length (mark_worlds r marks flags ws) ≡ length marks
  marks_flagged marks (true ∷ bs) (w ∷ ws) =
      let first = mark_items r marks w.imports.entries in
      marks_flagged (mark_items r first w.exports.entries) bs ws ∙ (mark_items_long r first w.exports.entries ∙ mark_items_long r marks w.imports.entries)
  marks_flagged marks (false ∷ bs) (w ∷ ws) = marks_flagged marks bs ws
  marks_flagged marks _ _ = refl

pub interfaces_flagged : (other : Resolve) (ms : List (Option InterfaceId)) (flags : List Bool) → length ms ≡ length other.interfaces.items
    → length (mark_worlds other (new_interfaces ms other.interfaces.items) flags other.worlds.items) ≡ length other.interfaces.items
interfaces_flagged other ms flags long = marks_flagged other (new_interfaces ms other.interfaces.items) flags other.worlds.items ∙ named_flagged ms other.interfaces.items long
