-- One of a list, by its place.
use Rattle.std.proofs.Common.{◌<◌, ◌∷◌, [], refl, arith, Any, ℕ, zero, suc, List, length, map, Bor}
use Rattle.std.proofs.Math.ListN.{get_or}
use Rattle.teasel_words.specs.{Given.texts_of, Table.Text}

-- it is so of one more
more : {A : Type 0} (P : A → Type 0) (x : A) (xs : List A) → Any P xs → Any P (x ∷ xs)
more P x xs a = (suc a.0, a.1, omega (arith, a.2), a.3, a.4)

pub any-at : {A : Type 0} (P : A → Type 0) (xs : List A) (at : ℕ) (d : A) → at < length xs → P (get_or xs at d) → Any P xs
any-at P [] at d below h = absurd (omega (arith, below))
any-at P (x ∷ xs) zero d below h = (0, x, omega arith, refl, h)
any-at P (x ∷ xs) (suc at) d below h = more P x xs (any-at P xs at d (omega (arith, below)) h)

-- the same of what a list is mapped to
pub any-map : {A B : Type 0} (g : A → B) (P : B → Type 0) (xs : List A) (at : ℕ) (d : A) → at < length xs → P (g (get_or xs at d)) → Any P (map g xs)
any-map g P [] at d below h = absurd (omega (arith, below))
any-map g P (x ∷ xs) zero d below h = (0, g x, omega arith, refl, h)
any-map g P (x ∷ xs) (suc at) d below h = more P (g x) (map g xs) (any-map g P xs at d (omega (arith, below)) h)

-- the same of texts that are lent
pub any-text : (P : Text → Type 0) (ts : List (Bor Text)) (at : ℕ) (d : Bor Text) → at < length ts → P (get_or ts at d).now → Any P (texts_of ts)
any-text P ts at d below h = any-map (λ (t : Bor Text). t.now) P ts at d below h
