-- Blanks and comments at a place of a text.
use Rattle.std.proofs.Common.{◌≡◌, refl, sym, ap, ◌∙◌, ℕ, zero, suc, ◌<◌, ◌≤◌, ◌+◌, ◌-◌, Bool, true, false, ◌&&◌, ◌==◌, List, [], ◌∷◌, Some, None, length, drop, get_or, add-one, drop-cons, length-drop, arith}
use Rattle.std.proofs.lemmas.Bool.{eqb-true}
use Rattle.print_grammar.specs.Token.{after_comment}
use Rattle.text_tokens.specs.Comments.{after_block}

-- the byte at a place, and what follows it
pub drop-at : (text : List ℕ) (at : ℕ) → at < length text → drop at text ≡ get_or text at 0 ∷ drop (at + 1) text
drop-at text at h = rw (add-one) (drop-cons text at 0 h)

pub comment_here : (text : List ℕ) (at : ℕ) → at < length text → get_or text at 0 ≡ 10 → after_comment (drop at text) ≡ drop at text
comment_here text at h e = rw (drop-at text at h, e) refl

no_line_feed : (c : ℕ) → (c ≡ 10 → ⊥) → (c == 10) ≡ false
no_line_feed c h = go (c == 10) refl
  where
    go : (b : Bool) → (c == 10) ≡ b → b ≡ false
    go true e = absurd (h (eqb-true c 10 e))
    go false e = refl

pub comment_goes : (text : List ℕ) (at : ℕ) → at < length text → (get_or text at 0 ≡ 10 → ⊥) → after_comment (drop (at + 1) text) ≡ after_comment (drop at text)
comment_goes text at h e = rw (drop-at text at h, no_line_feed (get_or text at 0) e) refl

-- ---- comments in `/* */`

-- whether `*/` stands in front, and whether `/*` does
abbrev pub closes : ℕ → ℕ → Bool
closes c d = (c == 42) && (d == 47)

abbrev pub opens : ℕ → ℕ → Bool
opens c d = (c == 47) && (d == 42)

-- the next two bytes
pub drop-two : (text : List ℕ) (at : ℕ) → at + 1 < length text → drop at text ≡ get_or text at 0 ∷ get_or text (at + 1) 0 ∷ drop (at + 2) text
drop-two text at h =
    let z : at + 1 + 1 ≡ at + 2 = omega arith in
    drop-at text at (omega arith) ∙ ap (λ x. get_or text at 0 ∷ x) (drop-at text (at + 1) h ∙ ap (λ n. get_or text (at + 1) 0 ∷ drop n text) z)

pub block_all : (inner c d : ℕ) (cs : List ℕ) → closes c d ≡ true → after_block (suc inner) (c ∷ d ∷ cs) ≡ after_block inner cs
unfolding after_block
block_all inner c d cs h = rw h refl

pub block_whole : (c d : ℕ) (cs : List ℕ) → closes c d ≡ true → after_block 0 (c ∷ d ∷ cs) ≡ Some cs
unfolding after_block
block_whole c d cs h = rw h refl

pub block_more : (inner c d : ℕ) (cs : List ℕ) → closes c d ≡ false → opens c d ≡ true → after_block inner (c ∷ d ∷ cs) ≡ after_block (suc inner) cs
unfolding after_block
block_more zero c d cs h k = rw (h, k) refl
block_more (suc inner) c d cs h k = rw (h, k) refl

pub block_on : (inner c d : ℕ) (cs : List ℕ) → closes c d ≡ false → opens c d ≡ false → after_block inner (c ∷ d ∷ cs) ≡ after_block inner (d ∷ cs)
unfolding after_block
block_on zero c d cs h k = rw (h, k) refl
block_on (suc inner) c d cs h k = rw (h, k) refl

pub block_short : (inner : ℕ) (cs : List ℕ) → length cs < 2 → after_block inner cs ≡ None
unfolding after_block
block_short inner [] h = refl
block_short inner (c ∷ []) h = refl
block_short inner (c ∷ d ∷ cs) h = absurd (omega arith)

-- A comment is open up to a byte, with so many others open within.
pub record OpenBlock (text : List ℕ) (from at inner : ℕ) : Type 0 where
  pub rest : after_block inner (drop at text) ≡ after_block 0 (drop from text)
  pub few : inner ≤ at
  pub further : from ≤ at
  pub within : at ≤ length text

pub open_closed : (text : List ℕ) (from at : ℕ) → at + 1 < length text → closes (get_or text at 0) (get_or text (at + 1) 0) ≡ true → OpenBlock text from at 0
    → Some (drop (at + 2) text) ≡ after_block 0 (drop from text)
open_closed text from at h e o = sym (ap (after_block 0) (drop-two text at h) ∙ block_whole (get_or text at 0) (get_or text (at + 1) 0) (drop (at + 2) text) e) ∙ o.rest

pub open_closes : (text : List ℕ) (from at inner : ℕ) → at + 1 < length text → 0 < inner → closes (get_or text at 0) (get_or text (at + 1) 0) ≡ true → OpenBlock text from at inner
    → OpenBlock text from (at + 2) (inner - 1)
open_closes text from at zero h k e o = absurd (omega arith)
open_closes text from at (suc inner) h k e o = record {
  rest =
      let z : suc inner - 1 ≡ inner = omega arith in
      let whole = ap (after_block (suc inner)) (drop-two text at h) in
      ap (λ n. after_block n (drop (at + 2) text)) z
      ∙ (sym (whole ∙ block_all inner (get_or text at 0) (get_or text (at + 1) 0) (drop (at + 2) text) e) ∙ o.rest);
  few = let f = o.few in omega arith;
  further = let f = o.further in omega arith;
  within = omega arith;
}

pub open_opens : (text : List ℕ) (from at inner : ℕ) → at + 1 < length text → closes (get_or text at 0) (get_or text (at + 1) 0) ≡ false
    → opens (get_or text at 0) (get_or text (at + 1) 0) ≡ true → OpenBlock text from at inner → OpenBlock text from (at + 2) (inner + 1)
open_opens text from at inner h e f o = record {
  rest =
      let z : inner + 1 ≡ suc inner = omega arith in
      ap (λ n. after_block n (drop (at + 2) text)) z
      ∙ (sym (ap (after_block inner) (drop-two text at h) ∙ block_more inner (get_or text at 0) (get_or text (at + 1) 0) (drop (at + 2) text) e f) ∙ o.rest);
  few = let f = o.few in omega arith;
  further = let f = o.further in omega arith;
  within = omega arith;
}

pub open_goes : (text : List ℕ) (from at inner : ℕ) → at + 1 < length text → closes (get_or text at 0) (get_or text (at + 1) 0) ≡ false
    → opens (get_or text at 0) (get_or text (at + 1) 0) ≡ false → OpenBlock text from at inner → OpenBlock text from (at + 1) inner
open_goes text from at inner h e f o = record {
  rest =
      let z : at + 1 + 1 ≡ at + 2 = omega arith in
      let behind = drop-at text (at + 1) h ∙ ap (λ n. get_or text (at + 1) 0 ∷ drop n text) z in
      sym (ap (after_block inner) (drop-two text at h)
      ∙ (block_on inner (get_or text at 0) (get_or text (at + 1) 0) (drop (at + 2) text) e f ∙ ap (after_block inner) (sym behind))) ∙ o.rest;
  few = let f = o.few in omega arith;
  further = let f = o.further in omega arith;
  within = omega arith;
}

pub open_ended : (text : List ℕ) (from at inner : ℕ) → length text ≤ at + 1 → OpenBlock text from at inner → None ≡ after_block 0 (drop from text)
open_ended text from at inner h o = sym (block_short inner (drop at text) (omega (arith, length-drop at text))) ∙ o.rest
