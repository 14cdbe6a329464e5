-- Parts and the sections that they make.
use Rattle.std.proofs.Common.{rules as std_rules, ◌≡◌, ℕ, ◌+◌, List, [], ◌∷◌, ◌++◌, refl, sym, ap, ◌∙◌, arith, append_assoc}
use Rattle.std.proofs.lemmas.List.{append-nil, map-append}
use Rattle.comp_bytes.specs.{Raw.Section, Built.Ended, Parts.Part, Parts.with_part, Parts.sections_of_parts, Parts.top_slots, Parts.parts_in, Parts.parts_of}

-- ---- a part behind sections

-- a section of one part
abbrev pub alone : Part → Section
alone (Part.top_type t) = Section.types (t ∷ [])
alone (Part.top_export e) = Section.exports (e ∷ [])
alone (Part.custom name contents) = Section.custom name contents

-- the last section, and a part that joins it or stands behind it
abbrev pub join : Section → Part → List Section
join (Section.types ts) (Part.top_type t) = Section.types (ts ++ t ∷ []) ∷ []
join (Section.types ts) (Part.top_export e) = Section.types ts ∷ Section.exports (e ∷ []) ∷ []
join (Section.types ts) (Part.custom name contents) = Section.types ts ∷ Section.custom name contents ∷ []
join (Section.exports es) (Part.top_type t) = Section.exports es ∷ Section.types (t ∷ []) ∷ []
join (Section.exports es) (Part.top_export e) = Section.exports (es ++ e ∷ []) ∷ []
join (Section.exports es) (Part.custom name contents) = Section.exports es ∷ Section.custom name contents ∷ []
join (Section.custom n c) p = Section.custom n c ∷ alone p ∷ []

abbrev pub put_behind : List Section → Part → List Section
put_behind [] p = alone p ∷ []
put_behind (s ∷ []) p = join s p
put_behind (s ∷ t ∷ rest) p = s ∷ put_behind (t ∷ rest) p

-- a part in front and a part behind
both_ends : (q : Part) (sections : List Section) (p : Part) → with_part q (put_behind sections p) ≡ put_behind (with_part q sections) p
both_ends x y p = search std_rules

sections_of_parts-push : (ps : List Part) (p : Part) → sections_of_parts (ps ++ p ∷ []) ≡ put_behind (sections_of_parts ps) p
sections_of_parts-push [] (Part.top_type t) = refl
sections_of_parts-push [] _ = refl
sections_of_parts-push (q ∷ ps) p = ap (with_part q) (sections_of_parts-push ps p) ∙ both_ends q (sections_of_parts ps) p

-- the parts of sections with a part in front, or behind
parts_of-with_part : (p : Part) (sections : List Section) → parts_of (with_part p sections) ≡ p ∷ parts_of sections
parts_of-with_part x sections = search std_rules

pub parts_of-sections_of_parts : (ps : List Part) → parts_of (sections_of_parts ps) ≡ ps
parts_of-sections_of_parts [] = refl
parts_of-sections_of_parts (p ∷ ps) = parts_of-with_part p (sections_of_parts ps) ∙ ap (λ (xs : List Part). p ∷ xs) (parts_of-sections_of_parts ps)

parts_of-join : (s : Section) (p : Part) → parts_of (join s p) ≡ parts_of (s ∷ []) ++ p ∷ []
parts_of-join x y = search (std_rules, map-append, append-nil)

parts_of-put_behind : (sections : List Section) (p : Part) → parts_of (put_behind sections p) ≡ parts_of sections ++ p ∷ []
parts_of-put_behind [] (Part.top_type t) = refl
parts_of-put_behind [] _ = refl
parts_of-put_behind (s ∷ []) p = parts_of-join s p
parts_of-put_behind (s ∷ t ∷ rest) p = ap (λ (xs : List Part). parts_in s ++ xs) (parts_of-put_behind (t ∷ rest) p) ∙ sym (append_assoc (parts_in s) (parts_of (t ∷ rest)) (p ∷ []))

-- ---- what stands behind sections

pub put_behind-last : (sections : List Section) (s : Section) (p : Part) → put_behind (sections ++ s ∷ []) p ≡ sections ++ join s p
put_behind-last [] s p = refl
put_behind-last (a ∷ []) s p = refl
put_behind-last (a ∷ b ∷ rest) s p = ap (λ (xs : List Section). a ∷ xs) (put_behind-last (b ∷ rest) s p)

pub put_behind-ended : (sections : List Section) (p : Part) → Ended sections → put_behind sections p ≡ sections ++ alone p ∷ []
put_behind-ended [] p h = refl
put_behind-ended (Section.types ts ∷ []) p h = absurd h
put_behind-ended (Section.exports es ∷ []) p h = absurd h
put_behind-ended (Section.custom n c ∷ []) p h = refl
put_behind-ended (s ∷ t ∷ rest) p h = ap (λ (xs : List Section). s ∷ xs) (put_behind-ended (t ∷ rest) p h)

pub Ended-custom : (sections : List Section) (name contents : List ℕ) → Ended (sections ++ Section.custom name contents ∷ [])
Ended-custom [] name contents = tt
Ended-custom (s ∷ []) name contents = tt
Ended-custom (s ∷ t ∷ rest) name contents = Ended-custom (t ∷ rest) name contents

-- sections that their parts make again
abbrev pub IsGrouped : List Section → Type 0
IsGrouped sections = sections_of_parts (parts_of sections) ≡ sections

-- a part behind such sections
pub record Behind (before after : List Section) (p : Part) : Type 0 where
  pub grouped : IsGrouped after
  pub shows : parts_of after ≡ parts_of before ++ p ∷ []

pub grouped_behind : (before after : List Section) (p : Part) → IsGrouped before → put_behind before p ≡ after → Behind before after p
grouped_behind before after p g e =
    let shows : parts_of after ≡ parts_of before ++ p ∷ [] = ap parts_of (sym e) ∙ parts_of-put_behind before p in
    record {
      grouped = ap sections_of_parts shows ∙ sections_of_parts-push (parts_of before) p ∙ ap (λ (xs : List Section). put_behind xs p) g ∙ e;
      shows = shows;
    }

-- the sections of parts with one more behind them
pub sections_behind : (before : List Section) (p : Part) → IsGrouped before → sections_of_parts (parts_of before ++ p ∷ []) ≡ put_behind before p
sections_behind before p g = sections_of_parts-push (parts_of before) p ∙ ap (λ (xs : List Section). put_behind xs p) g

-- ---- type indexes

pub top_slots-append : (ps qs : List Part) → top_slots (ps ++ qs) ≡ top_slots ps + top_slots qs
top_slots-append [] qs = omega arith
top_slots-append (Part.top_type t ∷ ps) qs = omega (arith, top_slots-append ps qs)
top_slots-append (_ ∷ ps) qs = omega (arith, top_slots-append ps qs)

pub top_slots-push : (ps : List Part) (p : Part) → top_slots (ps ++ p ∷ []) ≡ top_slots ps + top_slots (p ∷ [])
top_slots-push ps p = top_slots-append ps (p ∷ [])
