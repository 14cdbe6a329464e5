-- A type at the top is read by the bytes in front of it.
use Rattle.std.proofs.lemmas.Bool.{ne_eqb}
use Rattle.std.proofs.Common.{◌≡◌, refl, sym, ap, ◌∙◌, ℕ, Bool, true, false, cond, eqb, ◌&&◌, List, [], ◌∷◌, drop, Option, Some}
use Rattle.std.specs.{Prelude.nat_eq, List.starts_with}
use Rattle.comp_bytes.specs.Levels.{PartType, wraps, shows, entry_at, world_export_at, part_behind_at}
use Rattle.comp_bytes.specs.Reading.{Reader, ◌>>=◌, as_at, pair_at, sequence_at, vector_at, u32_at}
use Rattle.comp_bytes.proofs.FrontLaws.{part_types_by_front}

abbrev wrapped : Reader PartType
wrapped = as_at (λ w. wraps w.0 w.1) (pair_at (vector_at entry_at) world_export_at)

-- what stands behind so many entries' number
abbrev behind_count : ℕ × List ℕ → Option (PartType × List ℕ)
behind_count n = cond (eqb n.0 2 && starts_with nat_eq n.1 (1 ∷ 0x41 ∷ [])) (wrapped (drop 2 n.1)) (as_at shows (sequence_at entry_at n.0) n.1)

module _ (bytes : List ℕ) where
  pub part_counted : (o : Option (ℕ × List ℕ)) → u32_at bytes ≡ o → part_behind_at bytes ≡ (o >>= behind_count)
  part_counted o e = part_types_by_front bytes ∙ ap (λ p. p >>= behind_count) e

  module _ (n : ℕ) (items : List ℕ) (counted : u32_at bytes ≡ Some (n, items)) where
    by : (b : Bool) → (eqb n 2 && starts_with nat_eq items (1 ∷ 0x41 ∷ [])) ≡ b → part_behind_at bytes ≡ cond b (wrapped (drop 2 items)) (as_at shows (sequence_at entry_at n) items)
    by b e = part_counted (Some (n, items)) counted ∙ ap (λ c. cond c (wrapped (drop 2 items)) (as_at shows (sequence_at entry_at n) items)) e

    pub wrapper_front : (rest : List ℕ) → (eqb n 2 && starts_with nat_eq items (1 ∷ 0x41 ∷ [])) ≡ true → rest ≡ drop 2 items → part_behind_at bytes ≡ wrapped rest
    wrapper_front rest begins is = by true begins ∙ ap wrapped (sym is)

    pub shown_front : (eqb n 2 && starts_with nat_eq items (1 ∷ 0x41 ∷ [])) ≡ false → part_behind_at bytes ≡ as_at shows (sequence_at entry_at n) items
    shown_front begins = by false begins

-- the two tests
pub both_hold : (n : ℕ) (items : List ℕ) → n ≡ 2 → starts_with nat_eq items (1 ∷ 0x41 ∷ []) ≡ true → (eqb n 2 && starts_with nat_eq items (1 ∷ 0x41 ∷ [])) ≡ true
both_hold n items two begins = rw (two, begins) refl

pub second_fails : (n : ℕ) (items : List ℕ) → n ≡ 2 → starts_with nat_eq items (1 ∷ 0x41 ∷ []) ≡ false → (eqb n 2 && starts_with nat_eq items (1 ∷ 0x41 ∷ [])) ≡ false
second_fails n items two begins = rw (two, begins) refl

pub first_fails : (n : ℕ) (items : List ℕ) → (n ≡ 2 → ⊥) → (eqb n 2 && starts_with nat_eq items (1 ∷ 0x41 ∷ [])) ≡ false
first_fails n items other = ap (λ b. b && starts_with nat_eq items (1 ∷ 0x41 ∷ [])) (ne_eqb n 2 other)
