-- The shortest bytes of a number, by how many there are.
use Rattle.std.proofs.Common.{rules as std_rules, ◌≡◌, ℕ, zero, suc, ◌+◌, ◌^◌, ◌/◌, ◌%◌, ◌<◌, ◌≤◌, List, [], ◌∷◌, length, refl, arith, inl, inr, subst}
use Rattle.std.proofs.lemmas.Bool.{cases_lt, le-ltb, lt-ltb}
use Rattle.std.specs.List.{AllByRecursion}
use Rattle.comp_bytes.specs.{Number.IsUnsigned, Number.IsU32, Writing.unsigned_bytes, Writing.u32_bytes, FormatLaws.ShortestNumber}

pub bytes_1 : (n : ℕ) → n < 128 → u32_bytes n ≡ n ∷ []
unfolding u32_bytes
bytes_1 n lt = rw (lt-ltb n 128 lt) refl

pub bytes_2 : (n : ℕ) → 128 ≤ n → n < 16384 → u32_bytes n ≡ (n % 128 + 128) ∷ (n / 128) ∷ []
unfolding u32_bytes
bytes_2 n le lt = search std_rules

pub bytes_3 : (n : ℕ) → 16384 ≤ n → n < 2097152 → u32_bytes n ≡ (n % 128 + 128) ∷ (n / 128 % 128 + 128) ∷ (n / 16384) ∷ []
unfolding u32_bytes
bytes_3 n le lt = search std_rules

pub bytes_4 : (n : ℕ) → 2097152 ≤ n → n < 268435456 → u32_bytes n ≡ (n % 128 + 128) ∷ (n / 128 % 128 + 128) ∷ (n / 16384 % 128 + 128) ∷ (n / 2097152) ∷ []
unfolding u32_bytes
bytes_4 n le lt = search std_rules

pub bytes_5 : (n : ℕ) → 268435456 ≤ n → n < 2 ^ 32 → u32_bytes n ≡ (n % 128 + 128) ∷ (n / 128 % 128 + 128) ∷ (n / 16384 % 128 + 128) ∷ (n / 2097152 % 128 + 128) ∷ (n / 268435456) ∷ []
unfolding u32_bytes
bytes_5 n le lt = search std_rules

-- ---- they spell the number, and no other bytes that do are shorter

-- a number of so many bytes
abbrev pub Below : ℕ → ℕ → Type 0
Below zero n = ⊥
Below (suc zero) n = n < 128
Below (suc (suc room)) n = (128 ≤ n → Below (suc room) (n / 128))

spells : (room n : ℕ) → Below room n → IsUnsigned n (unsigned_bytes room n)
spells zero n h = absurd h
spells (suc zero) n h = rw (lt-ltb n 128 h) (h, refl)
spells (suc (suc room)) n h =
    elim (cases_lt n 128) [ inl lt ↦ rw (lt-ltb n 128 lt) (lt, refl) | inr le ↦ rw (le-ltb n 128 le) (behind (unsigned_bytes (suc room) (n / 128)) (spells (suc room) (n / 128) (h le))) ]
  where
    behind : (bytes : List ℕ) → IsUnsigned (n / 128) bytes → IsUnsigned n ((n % 128 + 128) ∷ bytes)
    behind [] s = absurd s
    behind (c ∷ cs) s = (omega arith, (n / 128, omega arith, s))

pub length_within : (room n : ℕ) → length (unsigned_bytes room n) ≤ room
length_within zero n = omega arith
length_within (suc room) n = search (std_rules, cases_lt, lt-ltb, le-ltb, length_within room (n / 128))

pub spells_u32 : (n : ℕ) → n < 2 ^ 32 → IsU32 n (u32_bytes n)
unfolding u32_bytes
spells_u32 n lt = record { spelled = spells 5 n (λ a b c d. omega arith); short = length_within 5 n; fits = lt }

-- other bytes of the same number are at least as many
pub no_shorter : (room n : ℕ) (bytes : List ℕ) → AllByRecursion (λ b. b < 256) bytes → IsUnsigned n bytes → length (unsigned_bytes room n) ≤ length bytes
no_shorter zero n bytes f s = omega arith
no_shorter (suc room) n [] f s = absurd s
no_shorter (suc room) n (b ∷ []) f s = search std_rules
no_shorter (suc room) n (b ∷ c ∷ bs) f s =
    let low : b < 256 = f.0 in
    let high : s.1.0 ≡ n / 128 = omega arith in
    let rest : IsUnsigned (n / 128) (c ∷ bs) = subst (λ (m : ℕ). IsUnsigned m (c ∷ bs)) high s.1.2 in
    let fewer : length (unsigned_bytes room (n / 128)) ≤ length (c ∷ bs) = no_shorter room (n / 128) (c ∷ bs) f.1 rest in
    elim (cases_lt n 128) [ inl lt ↦ rw (lt-ltb n 128 lt) (omega arith) | inr le ↦ rw (le-ltb n 128 le) (omega (arith, fewer)) ]

pub shortest_number : ShortestNumber
unfolding u32_bytes
shortest_number n lt = (spells_u32 n lt, λ bytes fit s. no_shorter 5 n bytes fit s.spelled)
