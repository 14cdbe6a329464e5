-- Sections in front of bytes, and those behind them.
use Rattle.std.proofs.Common.{rules as std_rules, ◌≡◌, refl, sym, ap, ◌∙◌, ℕ, ◌<◌, ◌≤◌, ◌^◌, arith, Bool, true, false, ◌&&◌, cond, ltb, nat_eq, List, [], ◌∷◌, ◌++◌, length, map, drop, Option, Some, None, append_assoc, append-nil}
use Rattle.std.proofs.lemmas.{Bool.ne_eqb, Bool.eq-eqb, Bool.lt-ltb, Bool.ltb-true, Bool.false_from_ne_true, List.map-append}
use Rattle.std.specs.List.{starts_with}
use Rattle.wit_model.specs.declared.error.Error.{Error}
use Rattle.comp_bytes.specs.{Levels.Piece, Levels.piece_of, Levels.pieces_in, Levels.levels_of, Reading.◌>>=◌, Reading.frame_at, Reading.name_at}
use Rattle.comp_bytes.specs.{Answer.Refuses as RefusesAt, Frames.IsCustom, Frames.RefusesFront, Spelling.preamble}
use Rattle.comp_bytes.proofs.{PartLaws.name_law, PieceLaws.pieces_by_frames}
use Rattle.read_follow.specs.declared.refusal.Refusal.{Refusal}
use Rattle.read_follow.specs.{Found.Refuses, Found.refusal_from, Found.IsNoReading, Pieces.piece_at, Pieces.AreAlike}
use Rattle.wit_model.specs.declared.error.Error.TheVariants as errors

-- ---- the frame in front

pub frame_refused : (bytes : List ℕ) (e : Error) (left : ℕ) → frame_at bytes ≡ None → Refuses (refusal_from e left) (frame_at bytes)
frame_refused bytes x left none = search std_rules

-- it is refused because of the bytes
pub front_refused : (e : Error) → RefusesFront e → IsNoReading e
front_refused x r = search std_rules

-- ---- the name of a custom section

pub custom_read : (contents name rest : List ℕ) → IsCustom (name, rest) contents → name_at contents ≡ Some (name, rest)
custom_read contents name rest (front, behind, parts, spelled, is) = ap name_at parts ∙ (name_law.again name front behind spelled ∙ ap (λ (t : List ℕ). Some (name, t)) is)

pub custom_refused : (contents : List ℕ) (left : ℕ) (e : Error) → RefusesAt e contents ((c : List ℕ × List ℕ) → IsCustom c contents → ⊥) → Refuses (refusal_from e left) (name_at contents)
custom_refused contents left (errors.NoReading cause offset) r = none (name_at contents) refl
  where
    none : (found : Option (List ℕ × List ℕ)) → name_at contents ≡ found → found ≡ None
    none None e = refl
    none (Some c) e = let t = name_law.takes contents c.0 c.1 e in absurd (r.1 c (t.front, c.1, t.parts, t.spelled, refl))
custom_refused contents left _ r = absurd r

-- ---- refusals

pub alike : {A : Type 0} (e other : Refusal) (found : Option A) → AreAlike e other → Refuses e found → Refuses other found
alike x y found a r = search std_rules

-- ---- one section, and those behind it

-- what was found, with these in front
abbrev pub with_pieces : List Piece → Option (List Piece) → Option (List Piece)
with_pieces front found = found >>= λ ps. Some (front ++ ps)

module _ (bytes : List ℕ) (filled : length bytes ≡ 0 → ⊥) where
  framed : (o : Option ((ℕ × List ℕ) × List ℕ)) → (o >>= λ frame. piece_of frame.0.0 frame.0.1 >>= λ first. pieces_in frame.1 >>= λ others. Some (first ∷ others))
      ≡ ((o >>= λ frame. piece_of frame.0.0 frame.0.1 >>= λ p. let q : Piece × List ℕ = (p, frame.1) in Some q) >>= λ p. with_pieces (p.0 ∷ []) (pieces_in p.1))
  framed x = search std_rules

  pub pieces_front : (o : Option (Piece × List ℕ)) → piece_at bytes ≡ o → pieces_in bytes ≡ (o >>= λ p. with_pieces (p.0 ∷ []) (pieces_in p.1))
  unfolding piece_at
  pieces_front o e = search (std_rules, pieces_by_frames, ne_eqb, framed)

pub no_pieces : (bytes : List ℕ) → length bytes ≡ 0 → pieces_in bytes ≡ Some []
no_pieces bytes e = search (std_rules, pieces_by_frames, eq-eqb)

further : (front : List Piece) (p : Piece) (found : Option (List Piece)) → with_pieces front (with_pieces (p ∷ []) found) ≡ with_pieces (front ++ p ∷ []) found
further front p x = search (std_rules, append_assoc)

-- one more section has been read
pub piece_read : {X : Type 0} (raw : X → Piece) (items new : List X) (x : X) (bytes rest after : List ℕ) → (length rest ≡ 0 → ⊥) → with_pieces (map raw items) (pieces_in rest) ≡ pieces_in bytes
    → piece_at rest ≡ Some (raw x, after) → new ≡ items ++ x ∷ [] → with_pieces (map raw new) (pieces_in after) ≡ pieces_in bytes
piece_read raw items new x bytes rest after filled kept e grown = search (std_rules, map-append, further, pieces_front)

pub piece_absent : (front : List Piece) (bytes rest : List ℕ) → (length rest ≡ 0 → ⊥) → with_pieces front (pieces_in rest) ≡ pieces_in bytes → piece_at rest ≡ None → pieces_in bytes ≡ None
piece_absent front bytes rest filled kept e = sym kept ∙ ap (with_pieces front) (pieces_front rest filled None e)

pub pieces_ended : (front : List Piece) (bytes rest : List ℕ) → length rest ≡ 0 → with_pieces front (pieces_in rest) ≡ pieces_in bytes → pieces_in bytes ≡ Some front
pieces_ended front bytes rest e kept = sym kept ∙ (ap (with_pieces front) (no_pieces rest e) ∙ ap Some (append-nil front))

-- ---- the whole component

module _ (bytes : List ℕ) where
  -- the sections behind the preamble, where the tests have these outcomes
  tested : (a b : Bool) → starts_with nat_eq bytes preamble ≡ a → ltb (length bytes) (2 ^ 32) ≡ b → levels_of bytes ≡ cond (a && b) (pieces_in (drop 8 bytes)) None
  unfolding levels_of
  tested a b begins short = search std_rules

  pub other_preamble : starts_with nat_eq bytes preamble ≡ false → levels_of bytes ≡ None
  other_preamble begins = tested false _ begins refl

  pub too_long : starts_with nat_eq bytes preamble ≡ true → 4294967295 < length bytes → levels_of bytes ≡ None
  too_long begins long = tested true false begins (false_from_ne_true (ltb (length bytes) (2 ^ 32)) (λ e. let short = ltb-true _ _ e in omega (arith, long, short)))

  pub behind_preamble : (rest : List ℕ) (found : Option (List Piece)) → starts_with nat_eq bytes preamble ≡ true → length bytes ≤ 4294967295 → rest ≡ drop 8 bytes → pieces_in rest ≡ found
      → levels_of bytes ≡ found
  behind_preamble rest found begins short is e = tested true true begins (lt-ltb _ _ (omega (arith, short))) ∙ (ap pieces_in (sym is) ∙ e)
