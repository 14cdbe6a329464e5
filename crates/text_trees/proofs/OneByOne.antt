-- Lists are read thing by thing: how far the number in their definitions counts makes no difference.
use Rattle.std.proofs.Common.{◌≡◌, refl, ap, ℕ, ◌<◌, Bool, true, false, List, [], ◌∷◌, length, arith, zero, suc, if◌then◌else◌}
use Rattle.print_grammar.specs.{Token.Token, Token.Mark}
use Rattle.text_trees.specs.Reading.{Reading, Reading.Found, Reading.Refused, then_read, made, things_in_front, until, more_in_front, thing_and_more, listed_in_front, listed}
use Rattle.text_trees.specs.Laws.{OneByOne, ListedOneByOne}
use Rattle.text_trees.proofs.Finding.{is_there, MoreSays, more_sound}
use Rattle.text_trees.proofs.SteadyLists.{Shrinks}

module _ {X : Type 0} {read : List Token → Reading X} (short : Shrinks read) where
  -- ---- things, one after the other

  things_step_alike : (ends : List Token → Bool) (n m : ℕ) (ts : List Token)
      → ((us : List Token) → length us < length ts → things_in_front ends read n us ≡ things_in_front ends read m us)
      → things_in_front ends read (suc n) ts ≡ things_in_front ends read (suc m) ts
  unfolding things_in_front then_read made
  things_step_alike ends n m ts loop = go (ends ts) (read ts) (λ x rest e. short ts rest x e)
    where
      go : (b : Bool) (r : Reading X) → ((x : X) (rest : List Token) → r ≡ Found x rest → length rest < length ts)
          → (if b then Found [] ts else then_read r (λ x rest. made (λ xs. x ∷ xs) (things_in_front ends read n rest)))
          ≡ (if b then Found [] ts else then_read r (λ x rest. made (λ xs. x ∷ xs) (things_in_front ends read m rest)))
      go true r h = refl
      go false (Found x rest) h = ap (made (λ xs. x ∷ xs)) (loop rest (h x rest refl))
      go false (Refused wanted rest) h = refl

  things_alike : (ends : List Token → Bool) (n m : ℕ) (ts : List Token) → length ts < n → length ts < m → things_in_front ends read n ts ≡ things_in_front ends read m ts
  things_alike ends zero m ts l k = absurd (omega (arith, l))
  things_alike ends (suc n) zero ts l k = absurd (omega (arith, k))
  things_alike ends (suc n) (suc m) ts l k = things_step_alike ends n m ts (λ us h. things_alike ends n m us (omega (arith, l, h)) (omega (arith, k, h)))

  pub until_one_by_one : (ends : List Token → Bool) → OneByOne ends read
  unfolding until things_in_front then_read made
  until_one_by_one ends ts = go (ends ts) (read ts) (λ x rest e. short ts rest x e)
    where
      go : (b : Bool) (r : Reading X) → ((x : X) (rest : List Token) → r ≡ Found x rest → length rest < length ts)
          → (if b then Found [] ts else then_read r (λ x rest. made (λ xs. x ∷ xs) (things_in_front ends read (length ts) rest)))
          ≡ (if b then Found [] ts else then_read r (λ x rest. made (λ xs. x ∷ xs) (things_in_front ends read (suc (length rest)) rest)))
      go true r h = refl
      go false (Found x rest) h = ap (made (λ xs. x ∷ xs)) (things_alike ends (length ts) (suc (length rest)) rest (h x rest refl) (omega arith))
      go false (Refused wanted rest) h = refl

  -- ---- things with commas between

  -- a round of a list, by what reads the rest of the list
  abbrev round_of : Mark → (List Token → Reading (List X)) → Reading X → Reading (List X)
  round_of close loop r = then_read r (λ x rest. then_read (more_in_front close rest) (λ more rest. thing_and_more x (loop rest) more rest))

  -- two ways to read the rest of a list give the same round, if they agree on fewer tokens
  rounds_alike : (close : Mark) (first second : List Token → Reading (List X)) (ts : List Token) (r : Reading X) → ((x : X) (rest : List Token) → r ≡ Found x rest → length rest < length ts)
      → ((us : List Token) → length us < length ts → first us ≡ second us) → round_of close first r ≡ round_of close second r
  unfolding then_read made
  rounds_alike close first second ts (Refused wanted rest) h same = refl
  rounds_alike close first second ts (Found x between) h same = go (more_in_front close between) (λ more rest e. is_there (more_sound close) between rest more e)
    where
      go : (q : Reading Bool) → ((more : Bool) (rest : List Token) → q ≡ Found more rest → MoreSays close between more rest)
          → then_read q (λ more rest. thing_and_more x (first rest) more rest) ≡ then_read q (λ more rest. thing_and_more x (second rest) more rest)
      go (Refused wanted rest) m = refl
      go (Found false rest) m = refl
      go (Found true rest) m =
          let shorter = h x between refl in
          let comma = ap length (m true rest refl) in ap (made (λ xs. x ∷ xs)) (same rest (omega (arith, shorter, comma)))

  listed_alike : (close : Mark) (n m : ℕ) (ts : List Token) → length ts < n → length ts < m → listed_in_front read close n ts ≡ listed_in_front read close m ts
  unfolding listed_in_front
  listed_alike close zero m ts l k = absurd (omega (arith, l))
  listed_alike close (suc n) zero ts l k = absurd (omega (arith, k))
  listed_alike close (suc n) (suc m) ts l k =
      rounds_alike close (listed_in_front read close n) (listed_in_front read close m) ts (read ts) (λ x rest e. short ts rest x e)
      (λ us h. listed_alike close n m us (omega (arith, l, h)) (omega (arith, k, h)))

  pub listed_one_by_one : (close : Mark) → ListedOneByOne read close
  unfolding listed listed_in_front
  listed_one_by_one close ts =
      rounds_alike close (listed_in_front read close (length ts)) (λ us. listed_in_front read close (suc (length us)) us) ts (read ts) (λ x rest e. short ts rest x e)
      (λ us h. listed_alike close (length ts) (suc (length us)) us h (omega arith))
