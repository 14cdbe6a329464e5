-- The last slash of a text.
use Rattle.std.proofs.Common.{◌≡◌, refl, sym, ap, ◌∙◌, ℕ, suc, ◌+◌, ◌≤◌, ◌<◌, arith, false, ◌||◌, ◌==◌, List, [], ◌∷◌, ◌++◌, length, take, drop, get_or, Option, Some, None, MatchOption, Bor, take-append-drop, ne_eqb, lit<}
use Rattle.std.proofs.lemmas.{List.drop_more, Str.len_utf8_ascii, Str.Pattern.NoCharPasses-char}
use Rattle.std.specs.{List.list_any, Str.Pattern.RFindsChar}
use Rattle.bind_keys.specs.Cuts.{IsLastSlash}

lacks : (xs : List ℕ) → ((i : ℕ) → i < length xs → get_or xs i 0 ≡ 47 → ⊥) → list_any (λ b. b == 47) xs ≡ false
lacks [] h = refl
lacks (x ∷ xs) h = ap (λ b. b || list_any (λ y. y == 47) xs) (ne_eqb x 47 (h 0 (omega arith))) ∙ lacks xs (λ i below e. h (suc i) (omega (arith, below)) e)

pub last_slash_found : (text : List ℕ) (r : Option (Bor (List ℕ) × Bor (List ℕ)))
    → MatchOption r (RFindsChar 47 text None) (λ x. (i : ℕ) × (j : ℕ) × RFindsChar 47 text (Some (i, j)) × (x.0.now ≡ take i text) × (x.1.now ≡ drop j text) × (i ≤ j) × (length x.0.now ≡ i)
    × (length x.1.now + j ≡ length text)) → IsLastSlash text r
last_slash_found text None h = lacks text (λ i below. NoCharPasses-char 47 text i h (lit< tt) below)
last_slash_found text (Some x) h =
    let i = h.0 in
    let j = h.1 in
    let low : 47 < 128 = lit< tt in
    let next : j ≡ i + 1 = omega (arith, h.2.1.ends, len_utf8_ascii 47 low) in
    let within : i < length text = omega (arith, h.7) in
    let second : x.1.now ≡ drop (i + 1) text = h.4 ∙ ap (λ n. drop n text) next in record {
      is = sym (take-append-drop i text) ∙ (ap (λ l. take i text ++ l) (drop_more text i 0 within ∙ ap (λ b. b ∷ drop (i + 1) text) (h.2.1.byte low))
          ∙ (ap (λ t. take i text ++ (47 ∷ t)) (sym second) ∙ ap (λ t. t ++ (47 ∷ x.1.now)) (sym h.3)));
      bare = lacks x.1.now (λ k below e.
          let short : k < length (drop j text) = omega (arith, below, ap length h.4) in
          NoCharPasses-char 47 (drop j text) k h.2.0 low short (ap (λ t. get_or t k 0) (sym h.4) ∙ e));
    }
