-- Copies that are numbered one behind the other stand in the order of what they are copies of.
use Rattle.std.proofs.Common.{◌≡◌, refl, ap, subst, ◌∙◌, arith, ℕ, zero, suc, ◌+◌, ◌<◌, ◌≤◌, Bool, true, false, List, [], ◌∷◌, length, Some, slice_get}
use Rattle.std.proofs.lemmas.Option.{same_Some as same-some}
use Rattle.std.specs.Prelude.{slice_index}
use Rattle.bind_copy.specs.Copies.{number_under}
use Rattle.bind_carry.specs.{First.flag_under, Numbers.copied_count, Numbers.numbers_of}
use Rattle.wit_bind.specs.OthersOrder.{StandInOrder}

-- the places of the flags that are set, where the first place has this number
abbrev set_from : ℕ → List Bool → List ℕ
set_from start [] = []
set_from start (true ∷ bs) = start ∷ set_from (suc start) bs
set_from start (false ∷ bs) = set_from (suc start) bs

-- there are as many as flags are set
set_count : (start : ℕ) (flags : List Bool) → length (set_from start flags) ≡ copied_count flags
set_count start [] = refl
set_count start (true ∷ bs) = let r = set_count (suc start) bs in omega (arith, r)
set_count start (false ∷ bs) = set_count (suc start) bs

-- they rise
set_past : (start : ℕ) (flags : List Bool) (k : ℕ) → k < length (set_from start flags) → start ≤ slice_index (set_from start flags) k
set_past start [] k h = absurd (omega (arith, h))
set_past start (true ∷ bs) zero h = omega arith
set_past start (true ∷ bs) (suc k) h = let r = set_past (suc start) bs k (omega (arith, h)) in omega (arith, r)
set_past start (false ∷ bs) k h = let r = set_past (suc start) bs k h in omega (arith, r)

set_rises : (start : ℕ) (flags : List Bool) (k : ℕ) → suc k < length (set_from start flags) → slice_index (set_from start flags) k < slice_index (set_from start flags) (suc k)
set_rises start [] k h = absurd (omega (arith, h))
set_rises start (true ∷ bs) zero h = let r = set_past (suc start) bs zero (omega (arith, h)) in omega (arith, r)
set_rises start (true ∷ bs) (suc k) h = set_rises (suc start) bs k (omega (arith, h))
set_rises start (false ∷ bs) k h = set_rises (suc start) bs k h

-- What the number at a place of these says: its flag is set, and it is numbered by that place.
record IsSet (start : ℕ) (flags : List Bool) (k n : ℕ) : Type 0 where
  place : ℕ
  is_place : n ≡ start + place
  flag : flag_under flags place ≡ true
  numbered : (first : ℕ) (others : List ℕ) → length flags ≡ length others → number_under (numbers_of first flags others) place ≡ first + k

here_numbered : (bs : List Bool) (first : ℕ) (others : List ℕ) → length (true ∷ bs) ≡ length others → number_under (numbers_of first (true ∷ bs) others) zero ≡ first + zero
here_numbered bs first [] long = absurd (omega (arith, long))
here_numbered bs first (o ∷ os) long = omega arith

module _ (start : ℕ) (bs : List Bool) (k n : ℕ) (later : IsSet (suc start) bs k n) where
  behind_set : IsSet start (true ∷ bs) (suc k) n
  behind_set = record { place = suc later.place; is_place = let e = later.is_place in omega (arith, e); flag = later.flag; numbered = go }
    where
      go : (first : ℕ) (others : List ℕ) → length (true ∷ bs) ≡ length others → number_under (numbers_of first (true ∷ bs) others) (suc later.place) ≡ first + suc k
      go first [] long = absurd (omega (arith, long))
      go first (o ∷ os) long = let r = later.numbered (first + 1) os (omega (arith, long)) in omega (arith, r)

  behind_unset : IsSet start (false ∷ bs) k n
  behind_unset = record { place = suc later.place; is_place = let e = later.is_place in omega (arith, e); flag = later.flag; numbered = go }
    where
      go : (first : ℕ) (others : List ℕ) → length (false ∷ bs) ≡ length others → number_under (numbers_of first (false ∷ bs) others) (suc later.place) ≡ first + k
      go first [] long = absurd (omega (arith, long))
      go first (o ∷ os) long = later.numbered first os (omega (arith, long))

is_set : (start : ℕ) (flags : List Bool) (k n : ℕ) → slice_get (set_from start flags) k ≡ Some n → IsSet start flags k n
is_set start [] k n at = let wrong : ⊥ = cc in absurd wrong
is_set start (true ∷ bs) zero n at = record { place = zero; is_place = let e = same-some start n at in omega (arith, e); flag = refl; numbered = here_numbered bs }
is_set start (true ∷ bs) (suc k) n at = behind_set start bs k n (is_set (suc start) bs k n at)
is_set start (false ∷ bs) k n at = behind_unset start bs k n (is_set (suc start) bs k n at)

-- Where each whose flag is set comes, and is a copy under its number, the copies stand in order.
module _ (Comes : ℕ → Type 0) (IsCopy : ℕ → ℕ → Type 0) (flags : List Bool) (others numbers : List ℕ) (start end : ℕ) (long : length flags ≡ length others)
    (numbers_are : numbers ≡ numbers_of start flags others) (count : end ≡ start + copied_count flags) (come : (n : ℕ) → flag_under flags n ≡ true → Comes n)
    (copied : (n : ℕ) → flag_under flags n ≡ true → IsCopy n (number_under numbers n)) where
  flagged : (k n : ℕ) → slice_get (set_from 0 flags) k ≡ Some n → (flag_under flags n ≡ true) × (number_under numbers n ≡ start + k)
  flagged k n at =
      let x = is_set 0 flags k n at in
      let here : n ≡ x.place = let e = x.is_place in omega (arith, e) in (
        ap (flag_under flags) here ∙ x.flag,
        ap (λ (l : List ℕ). number_under l n) numbers_are ∙ (ap (number_under (numbers_of start flags others)) here ∙ x.numbered start others long),
      )

  rising : (k : ℕ) → k + 1 < length (set_from 0 flags) → slice_index (set_from 0 flags) k < slice_index (set_from 0 flags) (k + 1)
  rising k h =
      let one : suc k ≡ k + 1 = omega arith in
      subst (λ (j : ℕ). slice_index (set_from 0 flags) k < slice_index (set_from 0 flags) j) one (set_rises 0 flags k (omega (arith, h)))

  pub stand_in_order : StandInOrder Comes IsCopy start end
  stand_in_order = record {
    sources = set_from 0 flags;
    rising = rising;
    come = λ k n at. come n (flagged k n at).0;
    copied = λ k n at. let x = flagged k n at in subst (IsCopy n) x.1 (copied n x.0);
    count = let all = set_count 0 flags in omega (arith, all, count);
  }
