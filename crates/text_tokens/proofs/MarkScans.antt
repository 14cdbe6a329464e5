-- A scan of marks is what the grammar says of them.
use Rattle.std.proofs.Common.{◌≡◌, refl, sym, ◌∙◌, subst, ℕ, Bool, true, false, ◌&&◌, ◌==◌, if◌then◌else◌, List, [], ◌∷◌, Some, None, arith}
use Rattle.std.proofs.lemmas.Bool.{eqb-true}
use Rattle.std.proofs.lemmas.{Bool.Decides.nat_tests}
use Rattle.std.specs.{Prelude.is_some, List.list_all}
use Rattle.wit_model.specs.Text.{Text}
use Rattle.print_grammar.specs.Token.{Token, mark_of, mark_texts, Mark.Arrow}
use Rattle.text_tokens.specs.declared.state.State.TheVariants.{Minus, Done, Dead}
use Rattle.text_tokens.specs.Kinds.{kind_with, kind_here}
use Rattle.text_tokens.specs.States.{step, is_ok, mark_step}
use Rattle.text_tokens.proofs.QuoteScans.{dead-run}
use Rattle.base_lemmas.proofs.{Numbers.turned, Bools.and-true, Bools.no-and}
use Rattle.text_tokens.proofs.Runs.{run}

-- one byte, or a text that begins with `-`
abbrev short : Text → Bool
short [] = false
short (b ∷ []) = true
short (b ∷ d ∷ bs) = b == 45

other_byte : (b c : ℕ) → (b == 45) ≡ true → (c == 45) ≡ false → (b == c) ≡ false
other_byte b c h k = grind (arith, nat_tests)

one-byte : (entries : List (Text × Token)) (c : ℕ) → (c == 45) ≡ false → list_all (λ (e : Text × Token). short e.0) entries ≡ true
    → is_some (mark_of entries (c ∷ [])) ≡ is_some (kind_with entries c)
one-byte [] c h k = refl
one-byte (([], t) ∷ entries) c h k = absurd (cc k)
one-byte ((b ∷ [], t) ∷ entries) c h k = rw (and-true (b == c)) (go (b == c) (one-byte entries c h k))
  where
    go : (r : Bool) → is_some (mark_of entries (c ∷ [])) ≡ is_some (kind_with entries c)
        → is_some (if r then Some t else mark_of entries (c ∷ [])) ≡ is_some (if r then Some (kind_here t) else kind_with entries c)
    go true x = refl
    go false x = x
one-byte ((b ∷ d ∷ bs, t) ∷ entries) c h k = go (b == 45) refl k (one-byte entries c h)
  where
    go : (r : Bool) → (b == 45) ≡ r → (r && list_all (λ (e : Text × Token). short e.0) entries) ≡ true
        → (list_all (λ (e : Text × Token). short e.0) entries ≡ true → is_some (mark_of entries (c ∷ [])) ≡ is_some (kind_with entries c))
        → is_some (mark_of ((b ∷ d ∷ bs, t) ∷ entries) (c ∷ [])) ≡ is_some (kind_with ((b ∷ d ∷ bs, t) ∷ entries) c)
    go true e f x = rw (other_byte b c e h) (x f)
    go false e f x = absurd (cc f)

more-bytes : (entries : List (Text × Token)) (c d : ℕ) (ds : List ℕ) → (c == 45) ≡ false → list_all (λ (e : Text × Token). short e.0) entries ≡ true
    → is_some (mark_of entries (c ∷ d ∷ ds)) ≡ false
more-bytes [] c d ds h k = refl
more-bytes (([], t) ∷ entries) c d ds h k = absurd (cc k)
more-bytes ((b ∷ [], t) ∷ entries) c d ds h k = rw (no-and (b == c)) (more-bytes entries c d ds h k)
more-bytes ((b ∷ x ∷ bs, t) ∷ entries) c d ds h k = go (b == 45) refl k (more-bytes entries c d ds h)
  where
    go : (r : Bool) → (b == 45) ≡ r → (r && list_all (λ (e : Text × Token). short e.0) entries) ≡ true
        → (list_all (λ (e : Text × Token). short e.0) entries ≡ true → is_some (mark_of entries (c ∷ d ∷ ds)) ≡ false)
        → is_some (mark_of ((b ∷ x ∷ bs, t) ∷ entries) (c ∷ d ∷ ds)) ≡ false
    go true e f y = rw (other_byte b c e h) (y f)
    go false e f y = absurd (cc f)

arrow : (cs : List ℕ) → is_some (mark_of mark_texts (45 ∷ cs)) ≡ is_ok (run step Minus cs)
arrow [] = refl
arrow (d ∷ []) = rw (and-true (62 == d), turned 62 d) (go (d == 62))
  where
    go : (r : Bool) → is_some (if r then Some (Token.Punctuation Arrow) else None) ≡ is_ok (if r then Done else Dead)
    go true = refl
    go false = refl
arrow (d ∷ e ∷ es) = rw (no-and (62 == d)) (go (d == 62))
  where
    go : (r : Bool) → false ≡ is_ok (run step (step (if r then Done else Dead) e) es)
    go true = sym (dead-run es)
    go false = sym (dead-run es)

others : (c : ℕ) (cs : List ℕ) → (c == 45) ≡ false → is_some (mark_of mark_texts (c ∷ cs)) ≡ is_ok (run step (if is_some (kind_with mark_texts c) then Done else Dead) cs)
others c [] h = one-byte mark_texts c h refl ∙ go (is_some (kind_with mark_texts c))
  where
    go : (r : Bool) → r ≡ is_ok (if r then Done else Dead)
    go true = refl
    go false = refl
others c (d ∷ ds) h = more-bytes mark_texts c d ds h refl ∙ go (is_some (kind_with mark_texts c))
  where
    go : (r : Bool) → false ≡ is_ok (run step (step (if r then Done else Dead) d) ds)
    go true = sym (dead-run ds)
    go false = sym (dead-run ds)

-- A text that begins with no letter, digit, `%` or `"` is a mark where the scan ends well.
pub marks : (c : ℕ) (cs : List ℕ) → is_some (mark_of mark_texts (c ∷ cs)) ≡ is_ok (run step (mark_step c) cs)
marks c cs = go (c == 45) refl
  where
    go : (r : Bool) → (c == 45) ≡ r → is_some (mark_of mark_texts (c ∷ cs)) ≡ is_ok (run step (if r then Minus else (if is_some (kind_with mark_texts c) then Done else Dead)) cs)
    go true e = let P : ℕ → Type 0 = λ x. is_some (mark_of mark_texts (x ∷ cs)) ≡ is_ok (run step Minus cs) in subst P (sym (eqb-true c 45 e)) (arrow cs)
    go false e = others c cs e
