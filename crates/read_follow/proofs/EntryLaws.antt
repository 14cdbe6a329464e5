-- An entry is read by the bytes in front of it.
use Rattle.std.proofs.Common.{◌≡◌, sym, ap, ◌∙◌, ℕ, Bool, true, false, cond, List, [], ◌∷◌, drop, Option, Some}
use Rattle.std.specs.{Prelude.nat_eq, List.starts_with}
use Rattle.comp_bytes.specs.Raw.{Declaration}
use Rattle.comp_bytes.specs.{Levels.Entry, Levels.plain, Levels.holds, Levels.held_at, Levels.entry_at, Reading.◌>>=◌, Reading.as_at, Reading.declaration_at}
use Rattle.comp_bytes.proofs.FrontLaws.{entries_by_front}

abbrev as_held : Option (List Declaration × List ℕ) → Option (Entry × List ℕ)
as_held found = found >>= λ ds. Some (holds ds.0, ds.1)

abbrev as_plain : Option (Declaration × List ℕ) → Option (Entry × List ℕ)
as_plain found = found >>= λ d. Some (plain d.0, d.1)

module _ (bytes : List ℕ) where
  by : (b : Bool) → starts_with nat_eq bytes (1 ∷ 0x42 ∷ []) ≡ b → entry_at bytes ≡ cond b (as_held (held_at (drop 2 bytes))) (as_plain (declaration_at bytes))
  unfolding as_at
  by b e = entries_by_front bytes ∙ ap (λ c. cond c (as_held (held_at (drop 2 bytes))) (as_plain (declaration_at bytes))) e

  pub held_front : (rest : List ℕ) (found : Option (List Declaration × List ℕ)) → starts_with nat_eq bytes (1 ∷ 0x42 ∷ []) ≡ true → rest ≡ drop 2 bytes → held_at rest ≡ found
      → entry_at bytes ≡ as_held found
  held_front rest found begins is e = by true begins ∙ ap as_held (ap held_at (sym is) ∙ e)

  pub plain_front : (found : Option (Declaration × List ℕ)) → starts_with nat_eq bytes (1 ∷ 0x42 ∷ []) ≡ false → declaration_at bytes ≡ found → entry_at bytes ≡ as_plain found
  plain_front found begins e = by false begins ∙ ap as_plain e
