-- What is read by levels is read as the raw form that it is, and the other way round.
use Rattle.std.proofs.Common.{rules as std_rules, ◌≡◌, refl, sym, ap, ◌∙◌, ℕ, zero, suc, ◌+◌, ◌<◌, ◌≤◌, ◌^◌, arith, Bool, true, false, ◌&&◌, cond, eqb, ltb, List, [], ◌∷◌, length, map, take, drop, Option, Some, None}
use Rattle.std.proofs.lemmas.{Bool.ne_eqb, List.length-map, List.length-append, List.length-drop}
use Rattle.std.specs.{Prelude.nat_eq, Cmp.Lexicographic.pointwise}
use Rattle.comp_bytes.specs.{Raw.TopType, Raw.Section, Form.Spellings, Form.Sequence, Spelling.IsTopType, Spelling.preamble, Laws.IsReadBy}
use Rattle.comp_bytes.specs.Reading.{Reader, ◌>>=◌, name_at, vector_at, declaration_at, type_at, top_export_at, whole, frame_at, section_of, sections_of, component_of}
use Rattle.comp_bytes.specs.Levels.{Entry, plain, holds, PartType, wraps, shows, IsEntry, IsPartType, Piece, custom, types, exports, raw_part, raw_piece, entry_at, part_type_at, piece_of, pieces_of, pieces_in, levels_of, LevelsAreSections, PiecesByFrames, TakesBytes}
use Rattle.comp_bytes.proofs.{Readers.bind_some, Readers.when_some, LevelLaws.part_into, LevelLaws.part_out, LevelLaws.entry_law, LevelLaws.part_type_law}
use Rattle.comp_bytes.proofs.{PartLaws.vector_law, ComponentLaws.type_law, ComponentLaws.frame_law, ComponentLaws.whole_takes, ComponentLaws.whole_again}
use Rattle.comp_bytes.proofs.{DeclarationLaws.declaration_law, NestedLaws.declaration_filled}
use Rattle.base_lemmas.proofs.Options.{some_is}

-- ---- types at the top

abbrev top_types : List PartType → List TopType
top_types ps = map (λ p. TopType.component (raw_part p)) ps

types_into : (ps : List PartType) (text : List ℕ) → Sequence IsPartType ps text → Sequence IsTopType (map (λ p. TopType.component (raw_part p)) ps) text
types_into [] text s = s
types_into (p ∷ ps) text s = (s.0, s.1, s.2, part_into p s.0 s.3, types_into ps s.1 s.4)

types_out : (ps : List PartType) (text : List ℕ) → Sequence IsTopType (map (λ p. TopType.component (raw_part p)) ps) text → Sequence IsPartType ps text
types_out [] text s = s
types_out (p ∷ ps) text s = (s.0, s.1, s.2, part_out p s.0 s.3, types_out ps s.1 s.4)

whole_types_into : (contents : List ℕ) (ps : List PartType) → whole (vector_at part_type_at contents) ≡ Some ps
    → whole (vector_at type_at contents) ≡ Some (map (λ p. TopType.component (raw_part p)) ps)
whole_types_into contents ps e =
    let v = whole_takes (vector_law part_type_law) contents ps e in
    whole_again (vector_law type_law) contents (top_types ps) (v.0, v.1, v.2, rw length-map v.3, types_into ps v.1 v.4)

whole_types_out : (contents : List ℕ) (ps : List PartType) → whole (vector_at type_at contents) ≡ Some (map (λ p. TopType.component (raw_part p)) ps)
    → whole (vector_at part_type_at contents) ≡ Some ps
whole_types_out contents ps e =
    let v = whole_takes (vector_law type_law) contents (top_types ps) e in
    whole_again (vector_law part_type_law) contents ps (v.0, v.1, v.2, rw length-map at v.3, types_out ps v.1 v.4)

-- ---- sections

module _ (contents : List ℕ) where
  custom_into : (p : Piece) → (name_at contents >>= λ name. Some (custom name.0 name.1)) ≡ Some p → (name_at contents >>= λ name. Some (Section.custom name.0 name.1)) ≡ Some (raw_piece p)
  custom_into p e = search std_rules

  types_section_into : (p : Piece) → (whole (vector_at part_type_at contents) >>= λ ps. Some (types ps)) ≡ Some p
      → (whole (vector_at type_at contents) >>= λ ts. Some (Section.types ts)) ≡ Some (raw_piece p)
  types_section_into p e = search (std_rules, bind_some, whole_types_into, some_is)

  exports_into : (p : Piece) → (whole (vector_at top_export_at contents) >>= λ es. Some (exports es)) ≡ Some p
      → (whole (vector_at top_export_at contents) >>= λ es. Some (Section.exports es)) ≡ Some (raw_piece p)
  exports_into p e = search std_rules

  custom_out : (p : Piece) → (name_at contents >>= λ name. Some (Section.custom name.0 name.1)) ≡ Some (raw_piece p) → (name_at contents >>= λ name. Some (custom name.0 name.1)) ≡ Some p
  custom_out x e = search std_rules

  types_section_out : (p : Piece) → (whole (vector_at type_at contents) >>= λ ts. Some (Section.types ts)) ≡ Some (raw_piece p)
      → (whole (vector_at part_type_at contents) >>= λ ps. Some (types ps)) ≡ Some p
  types_section_out x e = search (std_rules, bind_some, some_is, whole_types_out)

  exports_out : (p : Piece) → (whole (vector_at top_export_at contents) >>= λ es. Some (Section.exports es)) ≡ Some (raw_piece p)
      → (whole (vector_at top_export_at contents) >>= λ es. Some (exports es)) ≡ Some p
  exports_out x e = search std_rules

-- which of three was chosen, read in two ways
by_id : {A B : Type 0} (a b c : Bool) {x y z : Option A} {x' y' z' : Option B} {p : A} {q : B} → (x ≡ Some p → x' ≡ Some q) → (y ≡ Some p → y' ≡ Some q) → (z ≡ Some p → z' ≡ Some q)
    → cond a x (cond b y (cond c z None)) ≡ Some p → cond a x' (cond b y' (cond c z' None)) ≡ Some q
by_id true b c f g h e = f e
by_id false true c f g h e = g e
by_id false false true f g h e = h e
by_id false false false f g h e = absurd cc

piece_into : (id : ℕ) (contents : List ℕ) (p : Piece) → piece_of id contents ≡ Some p → section_of id contents ≡ Some (raw_piece p)
unfolding piece_of section_of
piece_into id contents p = by_id (eqb id 0) (eqb id 7) (eqb id 0x0b) (custom_into contents p) (types_section_into contents p) (exports_into contents p)

piece_out : (id : ℕ) (contents : List ℕ) (p : Piece) → section_of id contents ≡ Some (raw_piece p) → piece_of id contents ≡ Some p
unfolding piece_of section_of
piece_out id contents p = by_id (eqb id 0) (eqb id 7) (eqb id 0x0b) (custom_out contents p) (types_section_out contents p) (exports_out contents p)

-- ---- components

pieces_into : (fuel : ℕ) (bytes : List ℕ) (ps : List Piece) → pieces_of fuel bytes ≡ Some ps → sections_of fuel bytes ≡ Some (map raw_piece ps)
unfolding pieces_of sections_of
pieces_into zero [] ps e = ap (λ (qs : List Piece). Some (map raw_piece qs)) (some_is [] ps e)
pieces_into (suc fuel) [] ps e = ap (λ (qs : List Piece). Some (map raw_piece qs)) (some_is [] ps e)
pieces_into zero (b ∷ bytes) ps e = absurd cc
pieces_into (suc fuel) (b ∷ bytes) ps e =
    let f = bind_some (frame_at (b ∷ bytes)) (λ frame. piece_of frame.0.0 frame.0.1 >>= λ first. pieces_of fuel frame.1 >>= λ others. Some (first ∷ others)) ps e in
    let first = bind_some (piece_of f.0.0.0 f.0.0.1) (λ p. pieces_of fuel f.0.1 >>= λ others. Some (p ∷ others)) ps f.2 in
    let others = bind_some (pieces_of fuel f.0.1) (λ qs. Some (first.0 ∷ qs)) ps first.2 in
    rw (f.1, piece_into f.0.0.0 f.0.0.1 first.0 first.1, pieces_into fuel f.0.1 others.0 others.1) (ap (λ (qs : List Piece). Some (map raw_piece qs)) (some_is (first.0 ∷ others.0) ps others.2))

pieces_out : (fuel : ℕ) (bytes : List ℕ) (ps : List Piece) → sections_of fuel bytes ≡ Some (map raw_piece ps) → pieces_of fuel bytes ≡ Some ps
unfolding pieces_of sections_of
pieces_out zero [] [] e = refl
pieces_out (suc fuel) [] [] e = refl
pieces_out zero [] (p ∷ ps) e = absurd cc
pieces_out (suc fuel) [] (p ∷ ps) e = absurd cc
pieces_out zero (b ∷ bytes) ps e = absurd cc
pieces_out (suc fuel) (b ∷ bytes) [] e = search std_rules
pieces_out (suc fuel) (b ∷ bytes) (p ∷ ps) e =
    let f = bind_some (frame_at (b ∷ bytes)) (λ frame. section_of frame.0.0 frame.0.1 >>= λ first. sections_of fuel frame.1 >>= λ others. Some (first ∷ others)) (map raw_piece (p ∷ ps)) e in
    let first = bind_some (section_of f.0.0.0 f.0.0.1) (λ s. sections_of fuel f.0.1 >>= λ others. Some (s ∷ others)) (map raw_piece (p ∷ ps)) f.2 in
    let others = bind_some (sections_of fuel f.0.1) (λ ss. Some (first.0 ∷ ss)) (map raw_piece (p ∷ ps)) first.2 in
    let same : ◌≡◌ {A = List Section} (first.0 ∷ others.0) (raw_piece p ∷ map raw_piece ps) = some_is (first.0 ∷ others.0) (raw_piece p ∷ map raw_piece ps) others.2 in
    let one : first.0 ≡ raw_piece p = cc in
    let more : others.0 ≡ map raw_piece ps = cc in
    rw (f.1, piece_out f.0.0.0 f.0.0.1 p (first.1 ∙ ap (λ (s : Section). Some s) one), pieces_out fuel f.0.1 ps (others.1 ∙ ap (λ (ss : List Section). Some ss) more)) refl

-- ---- any bound that is large enough

-- what is read of a form that has a byte at least takes bytes
takes_bytes : {A : Type 0} {form : A → Spellings} {reader : Reader A} (law : IsReadBy form reader) → ((x : A) (front : List ℕ) → form x front → 0 < length front) → TakesBytes reader
takes_bytes law filled bytes x rest e =
    let t = law.takes bytes x rest e in
    let whole : length bytes ≡ length t.front + length rest = ap length t.parts ∙ length-append t.front rest in
    let some = filled x t.front t.spelled in
    omega (arith, whole, some)

pub frame_shorter : (bytes : List ℕ) (f : ℕ × List ℕ) (rest : List ℕ) → frame_at bytes ≡ Some (f, rest) → length rest < length bytes
frame_shorter = takes_bytes frame_law (λ f front s. rw s.1 (omega arith))

-- the section in front, and those that are read behind it
abbrev behind : (List ℕ → Option (List Piece)) → Option ((ℕ × List ℕ) × List ℕ) → Option (List Piece)
behind next found = found >>= λ frame. piece_of frame.0.0 frame.0.1 >>= λ first. next frame.1 >>= λ others. Some (first ∷ others)

enough : (k j : ℕ) (bytes : List ℕ) → length bytes ≤ k → length bytes ≤ j → pieces_of k bytes ≡ pieces_of j bytes
unfolding pieces_of
enough zero zero bytes le small = refl
enough zero (suc j) [] le small = refl
enough (suc k) zero [] le small = refl
enough (suc k) (suc j) [] le small = refl
enough zero (suc j) (b ∷ bytes) le small = absurd (omega (arith, le))
enough (suc k) zero (b ∷ bytes) le small = absurd (omega (arith, small))
enough (suc k) (suc j) (b ∷ bytes) le small = by (frame_at (b ∷ bytes)) refl (enough k j)
  where
    by : (o : Option ((ℕ × List ℕ) × List ℕ)) → frame_at (b ∷ bytes) ≡ o → ((text : List ℕ) → length text ≤ k → length text ≤ j → pieces_of k text ≡ pieces_of j text)
        → behind (pieces_of k) o ≡ behind (pieces_of j) o
    by None e again = refl
    by (Some f) e again =
        let less = frame_shorter (b ∷ bytes) f.0 f.1 e in
        ap (λ o. piece_of f.0.0 f.0.1 >>= λ first. o >>= λ others. Some (first ∷ others)) (again f.1 (omega (arith, less, le)) (omega (arith, less, small)))

pub pieces_by_frames : PiecesByFrames
unfolding pieces_in pieces_of
pieces_by_frames [] = refl
pieces_by_frames (b ∷ bytes) = by (frame_at (b ∷ bytes)) refl ∙ sym (ap (λ c. cond c (Some []) (behind pieces_in (frame_at (b ∷ bytes)))) (ne_eqb (length (b ∷ bytes)) 0 (λ e. omega (arith, e))))
  where
    by : (o : Option ((ℕ × List ℕ) × List ℕ)) → frame_at (b ∷ bytes) ≡ o → behind (pieces_of (length bytes)) o ≡ behind pieces_in o
    by None e = refl
    by (Some f) e =
        let less = frame_shorter (b ∷ bytes) f.0 f.1 e in
        ap (λ o. piece_of f.0.0 f.0.1 >>= λ first. o >>= λ others. Some (first ∷ others)) (enough (length bytes) (length f.1) f.1 (omega (arith, less)) (omega arith))

levels_into : (bytes : List ℕ) (ps : List Piece) → levels_of bytes ≡ Some ps → component_of bytes ≡ Some (map raw_piece ps)
unfolding levels_of component_of pieces_in
levels_into bytes ps e = search (std_rules, when_some, length-drop, enough, pieces_into)

levels_out : (bytes : List ℕ) (ps : List Piece) → component_of bytes ≡ Some (map raw_piece ps) → levels_of bytes ≡ Some ps
unfolding levels_of component_of pieces_in
levels_out bytes ps e =
    let w = when_some (pointwise nat_eq (take 8 bytes) preamble && ltb (length bytes) (2 ^ 32)) (sections_of (length bytes) (drop 8 bytes)) (map raw_piece ps) e in
    let fewer : length (drop 8 bytes) ≤ length bytes = omega (arith, length-drop 8 bytes) in
    let read : pieces_of (length (drop 8 bytes)) (drop 8 bytes) ≡ Some ps =
    enough (length (drop 8 bytes)) (length bytes) (drop 8 bytes) (omega arith) fewer ∙ pieces_out (length bytes) (drop 8 bytes) ps w.1 in
    rw (w.0, read) refl

pub levels_are_sections : LevelsAreSections
levels_are_sections bytes ps = (levels_into bytes ps, levels_out bytes ps)

-- ---- what is read takes bytes

pub declarations_take : TakesBytes declaration_at
declarations_take = takes_bytes declaration_law declaration_filled

pub entries_take : TakesBytes entry_at
entries_take = takes_bytes entry_law filled
  where
    filled : (x : Entry) (front : List ℕ) → IsEntry x front → 0 < length front
    filled (plain d) front s = declaration_filled d front s
    filled (holds ds) front s = rw s.1 (omega arith)

pub part_types_take : TakesBytes part_type_at
part_types_take = takes_bytes part_type_law filled
  where
    filled : (p : PartType) (front : List ℕ) → IsPartType p front → 0 < length front
    filled (wraps es name) front s = rw s.1 (omega arith)
    filled (shows es) front s = rw s.1 (omega arith)
