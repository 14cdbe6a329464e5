-- The shortest bytes of the index of a type, by how many there are.
use Rattle.std.proofs.Common.{rules as std_rules, ◌≡◌, ℕ, zero, suc, ◌+◌, ◌^◌, ◌/◌, ◌%◌, ◌<◌, ◌≤◌, List, [], ◌∷◌, length, refl, arith, inl, inr, subst}
use Rattle.std.proofs.lemmas.Bool.{cases_lt, le-ltb, lt-ltb}
use Rattle.std.specs.List.{AllByRecursion}
use Rattle.comp_bytes.specs.{Number.IsUnsigned, Number.EndsPositive, Number.IsTypeIndex, Writing.positive_bytes, Writing.type_index_bytes}
use Rattle.comp_bytes.specs.FormatLaws.{ShortestIndex}

pub bytes_1 : (n : ℕ) → n < 64 → type_index_bytes n ≡ n ∷ []
unfolding type_index_bytes
bytes_1 n lt = rw (lt-ltb n 64 lt) refl

pub bytes_2 : (n : ℕ) → 64 ≤ n → n < 8192 → type_index_bytes n ≡ (n % 128 + 128) ∷ (n / 128) ∷ []
unfolding type_index_bytes
bytes_2 n le lt = search std_rules

pub bytes_3 : (n : ℕ) → 8192 ≤ n → n < 1048576 → type_index_bytes n ≡ (n % 128 + 128) ∷ (n / 128 % 128 + 128) ∷ (n / 16384) ∷ []
unfolding type_index_bytes
bytes_3 n le lt = search std_rules

pub bytes_4 : (n : ℕ) → 1048576 ≤ n → n < 134217728 → type_index_bytes n ≡ (n % 128 + 128) ∷ (n / 128 % 128 + 128) ∷ (n / 16384 % 128 + 128) ∷ (n / 2097152) ∷ []
unfolding type_index_bytes
bytes_4 n le lt = search std_rules

pub bytes_5 : (n : ℕ) → 134217728 ≤ n → n < 2 ^ 32 → type_index_bytes n ≡ (n % 128 + 128) ∷ (n / 128 % 128 + 128) ∷ (n / 16384 % 128 + 128) ∷ (n / 2097152 % 128 + 128) ∷ (n / 268435456) ∷ []
unfolding type_index_bytes
bytes_5 n le lt = search std_rules

-- ---- they spell the index, and no other bytes that do are shorter

-- an index of so many bytes
abbrev Below : ℕ → ℕ → Type 0
Below zero n = ⊥
Below (suc zero) n = n < 64
Below (suc (suc room)) n = (64 ≤ n → Below (suc room) (n / 128))

-- a number, the last byte of which is below 64
record Positive (n : ℕ) (bytes : List ℕ) : Type 0 where
  pub number : IsUnsigned n bytes
  pub positive : EndsPositive bytes

spells : (room n : ℕ) → Below room n → Positive n (positive_bytes room n)
spells zero n h = absurd h
spells (suc zero) n h = rw (lt-ltb n 64 h) (record { number = (omega arith, refl); positive = h })
spells (suc (suc room)) n h = elim (cases_lt n 64) [
  | inl lt ↦ rw (lt-ltb n 64 lt) (record { number = (omega arith, refl); positive = lt })
  | inr le ↦ rw (le-ltb n 64 le) (behind (positive_bytes (suc room) (n / 128)) (spells (suc room) (n / 128) (h le)))
]
  where
    behind : (bytes : List ℕ) → Positive (n / 128) bytes → Positive n ((n % 128 + 128) ∷ bytes)
    behind [] s = absurd s.number
    behind (c ∷ cs) s = record { number = (omega arith, (n / 128, omega arith, s.number)); positive = s.positive }

pub length_within : (room n : ℕ) → length (positive_bytes room n) ≤ room
length_within zero n = omega arith
length_within (suc room) n = search (std_rules, cases_lt, lt-ltb, le-ltb, length_within room (n / 128))

pub spells_index : (n : ℕ) → n < 2 ^ 32 → IsTypeIndex n (type_index_bytes n)
unfolding type_index_bytes
spells_index n lt =
    let s = spells 5 n (λ a b c d. omega arith) in
    record { number = record { spelled = s.number; short = length_within 5 n; fits = lt }; positive = s.positive }

-- other bytes of the same index are at least as many
no_shorter : (room n : ℕ) (bytes : List ℕ) → AllByRecursion (λ b. b < 256) bytes → IsUnsigned n bytes → EndsPositive bytes → length (positive_bytes room n) ≤ length bytes
no_shorter zero n bytes f s p = omega arith
no_shorter (suc room) n [] f s p = absurd s
no_shorter (suc room) n (b ∷ []) f s p = search std_rules
no_shorter (suc room) n (b ∷ c ∷ bs) f s p =
    let low : b < 256 = f.0 in
    let high : s.1.0 ≡ n / 128 = omega arith in
    let rest : IsUnsigned (n / 128) (c ∷ bs) = subst (λ (m : ℕ). IsUnsigned m (c ∷ bs)) high s.1.2 in
    let fewer : length (positive_bytes room (n / 128)) ≤ length (c ∷ bs) = no_shorter room (n / 128) (c ∷ bs) f.1 rest p in
    elim (cases_lt n 64) [ inl lt ↦ rw (lt-ltb n 64 lt) (omega arith) | inr le ↦ rw (le-ltb n 64 le) (omega (arith, fewer)) ]

pub shortest_index : ShortestIndex
unfolding type_index_bytes
shortest_index n lt = (spells_index n lt, λ bytes fit s. no_shorter 5 n bytes fit s.number.spelled s.positive)
