-- What a reader from an offset answers at the front is what the function that reads the form finds there.
use Rattle.std.proofs.Common.{rules as std_rules, ◌≡◌, refl, sym, ap, ◌∙◌, subst, ℕ, ◌-◌, ◌<◌, arith, List, [], ◌∷◌, length, take, drop, Option, Some, None}
use Rattle.std.proofs.lemmas.List.{take-append-drop, take_at}
use Rattle.std.specs.Prelude.{slice_range}
use Rattle.wit_model.specs.declared.error.Error.{Error}
use Rattle.comp_bytes.specs.{Answer.Refuses as RefusesAt, Form.Spellings, Number.IsU32, Reading.Reader, Reading.type_index_at, Reading.u32_at, Laws.IsReadBy}
use Rattle.comp_bytes.proofs.{FormLaws.type_index_law, NumberLaws.u32_law}
use Rattle.read_follow.specs.Found.{Refuses, refusal_from, IsNoReading}

-- a reader that takes no memory refuses because of the bytes
pub because_of_bytes : (e : Error) (bytes : List ℕ) (why : Type 0) → RefusesAt e bytes why → IsNoReading e
because_of_bytes x bytes why r = search std_rules

module _ {A : Type 0} {form : A → Spellings} {reader : Reader A} (law : IsReadBy form reader) where
  pub found_at : (bytes : List ℕ) (x : A) (end : ℕ) → form x (slice_range bytes 0 end) → reader bytes ≡ Some (x, drop end bytes)
  found_at bytes x end f = search (std_rules, take-append-drop end bytes)

  pub none_when : (bytes : List ℕ) (found : Option (A × List ℕ)) → reader bytes ≡ found → ((y : A) (end : ℕ) → form y (slice_range bytes 0 end) → ⊥) → found ≡ None
  none_when bytes None e absent = refl
  none_when bytes (Some x) e absent =
      let t = law.takes bytes x.0 x.1 e in
      absurd (absent x.0 (length t.front) (subst (form x.0) (sym (ap (λ (n : ℕ). take n bytes) (omega arith) ∙ ap (take (length t.front)) t.parts
      ∙ take_at t.front x.1 (length t.front) refl)) t.spelled))

  -- a refusal of the reader
  pub refused_at : (bytes : List ℕ) (left : ℕ) (e : Error) → RefusesAt e bytes ((y : A) (end : ℕ) → form y (slice_range bytes 0 end) → ⊥) → Refuses (refusal_from e left) (reader bytes)
  refused_at bytes left x r = search (std_rules, none_when)

-- ---- numbers of one byte

small : (b : ℕ) → b < 128 → IsU32 b (b ∷ [])
small b below = record { spelled = (below, refl); short = omega arith; fits = omega (arith, below) }

pub number_front : (bytes rest : List ℕ) (b : ℕ) → bytes ≡ b ∷ rest → b < 128 → u32_at bytes ≡ Some (b, rest)
number_front bytes rest b is below = ap u32_at is ∙ u32_law.again b (b ∷ []) rest (small b below)

pub index_front : (bytes rest : List ℕ) (b : ℕ) → bytes ≡ b ∷ rest → b < 64 → type_index_at bytes ≡ Some (b, rest)
index_front bytes rest b is below = ap type_index_at is ∙ type_index_law.again b (b ∷ []) rest (record { number = small b (omega (arith, below)); positive = below })
