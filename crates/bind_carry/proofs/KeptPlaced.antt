-- Where copies of things stand whose flags are set, under the numbers that are given to them one behind the other.
use Rattle.bind_carry.proofs.CopiesPlaced.{get_behind, nothing_there, some_same}
use Rattle.bind_carry.specs.{First.flag_under, Numbers.numbers_of, Whole.KeptSoFar, Whole.kept}
use Rattle.bind_copy.specs.Copies.{number_under}
use Rattle.bind_union.proofs.Lists.{no_true}
use Rattle.std.proofs.Common.{Bool, List, Some, [], ap, append-nil, append_assoc, arith, false, length, slice_get, subst, suc, sym, true, zero, ℕ, ◌++◌, ◌+◌, ◌∙◌, ◌∷◌, ◌≡◌}
use Rattle.std.proofs.lemmas.List.{length_push as length_behind}
use Rattle.std.specs.List.{AllZip}

-- What a copy is, and that it stands at its place.
pub record IsKeptAt {X Y : Type 0} (P : X → Y → Type 0) (old : X) (news : List Y) (place : ℕ) : Type 0 where
  pub image : Y
  pub at_image : slice_get news place ≡ Some image
  pub is : P old image

module _ {X Y : Type 0} (P : X → Y → Type 0) where
  -- the copies stand behind what was there, and each is a copy of what has its number
  pub kept_placed : (flags : List Bool) (others : List ℕ) (xs : List X) (ys : List Y) → AllZip P (kept flags xs) ys → length flags ≡ length others → (first : ℕ) (before rest : List Y)
      → first ≡ length before → (n : ℕ) (x : X) → flag_under flags n ≡ true → slice_get xs n ≡ Some x → IsKeptAt P x (before ++ (ys ++ rest)) (number_under (numbers_of first flags others) n)
  kept_placed (b ∷ bs) [] xs ys zip long first before rest e n x set at = absurd (omega (arith, long))
  kept_placed (b ∷ bs) (o ∷ os) [] ys zip long first before rest e n x set at = nothing_there x at
  kept_placed (false ∷ bs) (o ∷ os) (z ∷ zs) ys zip long first before rest e (suc n) x set at = kept_placed bs os zs ys zip (omega (arith, long)) first before rest e n x set at
  kept_placed (true ∷ bs) (o ∷ os) (z ∷ zs) [] zip long first before rest e n x set at = absurd zip
  kept_placed (true ∷ bs) (o ∷ os) (z ∷ zs) (y ∷ ys) zip long first before rest e zero x set at = record {
    image = y;
    at_image = get_behind before y (ys ++ rest) first e;
    is = subst (λ v. P v y) (some_same z x at) zip.0;
  }
  kept_placed (true ∷ bs) (o ∷ os) (z ∷ zs) (y ∷ ys) zip long first before rest e (suc n) x set at =
      let far = kept_placed bs os zs ys zip.1 (omega (arith, long)) (first + 1) (before ++ y ∷ []) rest (let r = length_behind before y in omega (arith, r, e)) n x set at in
      record { image = far.image; at_image = ap (λ l. slice_get l (number_under (numbers_of (first + 1) bs os) n)) (sym (append_assoc before (y ∷ []) (ys ++ rest))) ∙ far.at_image; is = far.is }
  kept_placed _ _ _ ys zip long first before rest e _ x set at = no_true set

  -- so in a list that begins so, under numbers that are so
  pub kept_here : (flags : List Bool) (others : List ℕ) (xs : List X) (ys : List Y) → AllZip P (kept flags xs) ys → length flags ≡ length others → (first : ℕ) (before rest : List Y)
      → first ≡ length before → (numbers : List ℕ) → numbers ≡ numbers_of first flags others → (whole : List Y) → whole ≡ before ++ (ys ++ rest) → (n : ℕ) (x : X) → flag_under flags n ≡ true
      → slice_get xs n ≡ Some x → IsKeptAt P x whole (number_under numbers n)
  kept_here flags others xs ys zip long first before rest e numbers numbers_are whole here n x set at = subst (λ (l : List Y). IsKeptAt P x l (number_under numbers n)) (sym here)
      (subst (λ (ns : List ℕ). IsKeptAt P x (before ++ (ys ++ rest)) (number_under ns n)) (sym numbers_are) (kept_placed flags others xs ys zip long first before rest e n x set at))

module _ {X Y : Type 0} (P : X → Y → Type 0) (flags : List Bool) (xs : List X) where
  -- things that are copied one after the other, where their flags are set, are all copied in the end
  pub all_kept : (left_flags : List Bool) (left : List X) (done : List Y) → left_flags ≡ [] → KeptSoFar P flags xs left_flags left done → AllZip P (kept flags xs) done
  all_kept left_flags left done ended so = subst (AllZip P (kept flags xs)) (append-nil done) (so [] (subst (λ l. AllZip P (kept l left) []) (sym ended) tt))
