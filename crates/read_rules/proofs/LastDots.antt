-- The last dot of a text.
use Rattle.std.proofs.Common.{◌≡◌, refl, sym, ap, ◌∙◌, ℕ, suc, ◌+◌, ◌≤◌, ◌<◌, arith, true, not, ◌&&◌, ◌==◌, List, [], ◌∷◌, ◌++◌, length, take, drop, get_or, Option, Some, None, MatchOption, Bor, take-append-drop, ne_eqb, lit<}
use Rattle.std.proofs.lemmas.{List.drop_more, Str.len_utf8_ascii, Str.Pattern.NoCharPasses-char}
use Rattle.std.specs.{List.list_all, Str.Pattern.RFindsChar}
use Rattle.read_rules.specs.FunctionNames.{IsLastCut}

lacks : (xs : List ℕ) → ((i : ℕ) → i < length xs → get_or xs i 0 ≡ 46 → ⊥) → list_all (λ b. not (b == 46)) xs ≡ true
lacks [] h = refl
lacks (x ∷ xs) h = ap (λ b. not b && list_all (λ y. not (y == 46)) xs) (ne_eqb x 46 (h 0 (omega arith))) ∙ lacks xs (λ i below e. h (suc i) (omega (arith, below)) e)

pub last_dot_found : (text : List ℕ) (r : Option (Bor (List ℕ) × Bor (List ℕ)))
    → MatchOption r (RFindsChar 46 text None) (λ x. (i : ℕ) × (j : ℕ) × RFindsChar 46 text (Some (i, j)) × (x.0.now ≡ take i text) × (x.1.now ≡ drop j text) × (i ≤ j) × (length x.0.now ≡ i)
    × (length x.1.now + j ≡ length text)) → IsLastCut text r
last_dot_found text None h = lacks text (λ i below. NoCharPasses-char 46 text i h (lit< tt) below)
last_dot_found text (Some x) h =
    let i = h.0 in
    let j = h.1 in
    let low : 46 < 128 = lit< tt in
    let next : j ≡ i + 1 = omega (arith, h.2.1.ends, len_utf8_ascii 46 low) in
    let within : i < length text = omega (arith, h.7) in
    let second : x.1.now ≡ drop (i + 1) text = h.4 ∙ ap (λ n. drop n text) next in (
      sym (take-append-drop i text) ∙ (ap (λ l. take i text ++ l) (drop_more text i 0 within ∙ ap (λ b. b ∷ drop (i + 1) text) (h.2.1.byte low))
          ∙ (ap (λ t. take i text ++ (46 ∷ t)) (sym second) ∙ ap (λ t. t ++ (46 ∷ x.1.now)) (sym h.3))),
      lacks x.1.now (λ k below e.
          let short : k < length (drop j text) = omega (arith, below, ap length h.4) in
          NoCharPasses-char 46 (drop j text) k h.2.0 low short (ap (λ t. get_or t k 0) (sym h.4) ∙ e)),
    )
