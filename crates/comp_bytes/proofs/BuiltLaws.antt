-- A component under construction: what its bytes say, and one more part.
use Rattle.std.proofs.Common.{rules as std_rules, ◌≡◌, ℕ, ◌+◌, ◌^◌, ◌<◌, Bool, true, false, List, [], ◌∷◌, ◌++◌, length, drop, refl, sym, ap, ◌∙◌, arith, append_assoc, length-append, length-drop}
use Rattle.std.proofs.lemmas.{Bool.false≢true, List.append-nil, List.Concat.flat_map-append}
use Rattle.std.specs.List.{flat_map}
use Rattle.comp_bytes.specs.{Form.Spellings, Form.Sequence, Form.Vector, Form.Name, Parts.Part, Parts.sections_of_parts, Parts.top_slots, Parts.parts_of}
use Rattle.comp_bytes.specs.{Raw.TopType, Raw.TopExport, Raw.Section, Reading.Reader, Reading.sequence_at, Laws.IsReadBy, Held.found_in}
use Rattle.comp_bytes.specs.Spelling.{IsTopType, IsTopExport, IsSectionOf, IsSection, IsComponent, preamble}
use Rattle.comp_bytes.specs.Writing.{u32_bytes, name_bytes, vector_bytes, top_type_bytes, top_export_bytes, framed, section_bytes, component_bytes}
use Rattle.comp_bytes.specs.Built.{Group, group_sections, group_in, sections_in, begun, section_id, closed_bytes, kept_parts, IsItems, IsGroup, Ended, IsBuilt, Builds}
use Rattle.comp_bytes.proofs.Writes.{spells_u32}
use Rattle.comp_bytes.proofs.{PartLaws.sequence_again, HeldLaws.sequence_push, ComponentLaws.type_law, ComponentLaws.export_law, ComponentLaws.sections_again}
use Rattle.comp_bytes.proofs.PartsLaws.{alone, join, put_behind, put_behind-last, put_behind-ended, Ended-custom, grouped_behind, top_slots-push}

pub sequence_append : {A : Type 0} (form : A → Spellings) (xs ys : List A) (bytes text : List ℕ) → Sequence form xs bytes → Sequence form ys text → Sequence form (xs ++ ys) (bytes ++ text)
sequence_append form [] ys bytes text s t = rw s t
sequence_append form (x ∷ xs) ys bytes text s t = (s.0, s.1 ++ text, ap (λ (l : List ℕ). l ++ text) s.2 ∙ append_assoc s.0 s.1 text, s.3, sequence_append form xs ys s.1 text s.4 t)

-- ---- the open section

module _ {A : Type 0} (form : A → Spellings) (bytes_of : A → List ℕ) where
  pub items_in : (reader : Reader A) → IsReadBy form reader → (xs : List A) (n : ℕ) (bytes : List ℕ) → IsItems form bytes_of xs n bytes → found_in (sequence_at reader n bytes) ≡ xs
  items_in reader law xs n bytes h = let again = rw (← h.counted, append-nil) at (sequence_again law xs bytes [] h.spelled) in ap found_in again

  pub items_push : (xs : List A) (y : A) (n : ℕ) (bytes : List ℕ) → IsItems form bytes_of xs n bytes → form y (bytes_of y) → IsItems form bytes_of (xs ++ y ∷ []) (n + 1) (bytes ++ bytes_of y)
  items_push xs y n bytes h s = search (std_rules, length-append, sequence_push, flat_map-append, append-nil)

  pub items_one : (y : A) (bytes : List ℕ) → bytes ≡ bytes_of y → form y (bytes_of y) → IsItems form bytes_of (y ∷ []) 1 bytes
  items_one y bytes e s = search std_rules

  -- a section of items
  pub section_spelled : (id : ℕ) (x : A) (xs : List A) (count : ℕ) (items : List ℕ) → IsItems form bytes_of (x ∷ xs) count items → count < 2 ^ 32
      → (0 < count → length (u32_bytes count ++ items) < 2 ^ 32) → IsSectionOf id (Vector form (x ∷ xs)) (framed id (vector_bytes bytes_of (x ∷ xs)))
  section_spelled id x xs count items h few small =
      let contents : List ℕ = vector_bytes bytes_of (x ∷ xs) in
      let some : 0 < count = rw h.counted (omega arith) in
      let fits : length contents < 2 ^ 32 = rw (h.counted, h.written) at (small some) in
      let number : length (x ∷ xs) < 2 ^ 32 = rw h.counted at few in (
        contents,
        (u32_bytes (length contents) ++ contents, refl, (u32_bytes (length contents), contents, refl, spells_u32 (length contents) fits, refl)),
        (u32_bytes (length (x ∷ xs)), flat_map bytes_of (x ∷ xs), refl, spells_u32 (length (x ∷ xs)) number, rw h.written at h.spelled),
      )

pub group_found : (g : Group) (exports : Bool) (count : ℕ) (items : List ℕ) → IsGroup g exports count items → group_in exports count items ≡ g
group_found x exports count items h = search (std_rules, items_in, type_law, export_law)

-- its bytes, when it is closed
pub group_closed : (g : Group) (exports : Bool) (count : ℕ) (items : List ℕ) → IsGroup g exports count items → closed_bytes (section_id exports) count items ≡ flat_map section_bytes (group_sections g)
group_closed x exports count items h = search std_rules

group_spelled : (g : Group) (exports : Bool) (count : ℕ) (items : List ℕ) → IsGroup g exports count items → count < 2 ^ 32 → (0 < count → length (u32_bytes count ++ items) < 2 ^ 32)
    → Sequence IsSection (group_sections g) (flat_map section_bytes (group_sections g))
group_spelled (Group.of_types []) exports count items h few small = refl
group_spelled (Group.of_types (t ∷ ts)) exports count items h few small = (_, [], refl, section_spelled IsTopType top_type_bytes 7 t ts count items h.1 few small, refl)
group_spelled (Group.of_exports []) exports count items h few small = refl
group_spelled (Group.of_exports (e ∷ es)) exports count items h few small = (_, [], refl, section_spelled IsTopExport top_export_bytes 0x0b e es count items h.1 few small, refl)

-- ---- what is kept is what the bytes say

behind_preamble : (done text : List ℕ) → begun done ≡ preamble ++ text → drop 8 done ≡ text
behind_preamble x text e = search std_rules

sections_found : (sections : List Section) (done : List ℕ) → begun done ≡ component_bytes sections → Sequence IsSection sections (flat_map section_bytes sections) → sections_in done ≡ sections
sections_found sections done e s = search (std_rules, behind_preamble, length-drop, sections_again)

-- a component that is kept, and its parts
pub record Kept (sections : List Section) (group : Group) (done items : List ℕ) (count : ℕ) (exports : Bool) (types : ℕ) : Type 0 where
  pub builds : Builds done items count exports types
  pub shows : kept_parts done items count exports ≡ parts_of (sections ++ group_sections group)

pub kept : (sections : List Section) (g : Group) (done items : List ℕ) (count : ℕ) (exports : Bool) (types : ℕ) → IsBuilt sections g done items count exports types
    → Kept sections g done items count exports types
kept sections g done items count exports types h =
    let s : sections_in done ≡ sections = sections_found sections done h.begins h.spelled in
    let k : group_in exports count items ≡ g = group_found g exports count items h.held in
    record { builds = rw (s, k) h; shows = rw (s, k) refl }

-- what is kept, and one part more
pub record Grown (done items : List ℕ) (count : ℕ) (exports : Bool) (p : Part) (done' items' : List ℕ) (count' : ℕ) (exports' : Bool) (types' : ℕ) : Type 0 where
  pub builds : Builds done' items' count' exports' types'
  pub shows : kept_parts done' items' count' exports' ≡ kept_parts done items count exports ++ p ∷ []

-- ---- one part more

-- other sections and another group, with one part more
record Next (before : List Section) (p : Part) (done items : List ℕ) (count : ℕ) (exports : Bool) (types : ℕ) : Type 0 where
  sections : List Section
  group : Group
  built : IsBuilt sections group done items count exports types
  shows : parts_of (sections ++ group_sections group) ≡ parts_of before ++ p ∷ []

grown : (done items : List ℕ) (count : ℕ) (exports : Bool) (p : Part) (done' items' : List ℕ) (count' : ℕ) (exports' : Bool) (types' : ℕ)
    → Next (sections_in done ++ group_sections (group_in exports count items)) p done' items' count' exports' types' → Grown done items count exports p done' items' count' exports' types'
grown done items count exports p done' items' count' exports' types' n =
    let k = kept n.sections n.group done' items' count' exports' types' n.built in
    record { builds = k.builds; shows = k.shows ∙ n.shows }

-- such sections and such a group, from what stands before
next_of : (before sections : List Section) (g : Group) (p : Part) (done items : List ℕ) (count : ℕ) (exports : Bool) (types : ℕ) → sections_of_parts (parts_of before) ≡ before
    → put_behind before p ≡ sections ++ group_sections g → (group_sections g ≡ [] → Ended sections) → begun done ≡ component_bytes sections
    → Sequence IsSection sections (flat_map section_bytes sections) → IsGroup g exports count items → types ≡ top_slots (parts_of before) + top_slots (p ∷ [])
    → Next before p done items count exports types
next_of before sections g p done items count exports types grouped put ended begins spelled held slots =
    let b = grouped_behind before (sections ++ group_sections g) p grouped put in
    let all : types ≡ top_slots (parts_of (sections ++ group_sections g)) = omega (arith, slots, ap top_slots b.shows, top_slots-push (parts_of before) p) in
    record { sections = sections; group = g; built = record { grouped = b.grouped; ended = ended; begins = begins; spelled = spelled; held = held; slots = all }; shows = b.shows }

-- a type that joins the open section
join_type_of : (sections : List Section) (g : Group) (done items : List ℕ) (count : ℕ) (exports : Bool) (types : ℕ) (t : TopType) → exports ≡ false → IsBuilt sections g done items count exports types
    → 0 < count → IsTopType t (top_type_bytes t) → Next (sections ++ group_sections g) (Part.top_type t) done (items ++ top_type_bytes t) (count + 1) exports (types + 1)
join_type_of sections (Group.of_types []) done items count exports types t e h some s = absurd (omega (arith, h.held.1.counted))
join_type_of sections (Group.of_exports es) done items count exports types t e h some s = absurd (cc (e, h.held.0))
join_type_of sections (Group.of_types (u ∷ us)) done items count exports types t e h some s =
    next_of (sections ++ Section.types (u ∷ us) ∷ []) sections (Group.of_types (u ∷ (us ++ t ∷ []))) (Part.top_type t) _ _ _ _ _ h.grouped
    (put_behind-last sections (Section.types (u ∷ us)) (Part.top_type t)) (λ none. absurd cc) h.begins h.spelled
    (e, items_push IsTopType top_type_bytes (u ∷ us) t count items h.held.1 s) (omega (arith, h.slots))

pub join_type_at : (done items : List ℕ) (count : ℕ) (exports : Bool) (types : ℕ) (t : TopType) → exports ≡ false → Builds done items count exports types → 0 < count → IsTopType t (top_type_bytes t)
    → Grown done items count exports (Part.top_type t) done (items ++ top_type_bytes t) (count + 1) exports (types + 1)
join_type_at done items count exports types t e h some s = search (std_rules, grown, join_type_of)

-- an export that joins the open section
join_export_of : (sections : List Section) (g : Group) (done items : List ℕ) (count : ℕ) (exports : Bool) (types : ℕ) (x : TopExport) → exports ≡ true
    → IsBuilt sections g done items count exports types → 0 < count → IsTopExport x (top_export_bytes x)
    → Next (sections ++ group_sections g) (Part.top_export x) done (items ++ top_export_bytes x) (count + 1) exports (types + 1)
join_export_of sections (Group.of_exports []) done items count exports types x e h some s = absurd (omega (arith, h.held.1.counted))
join_export_of sections (Group.of_types ts) done items count exports types x e h some s = absurd (cc (e, h.held.0))
join_export_of sections (Group.of_exports (u ∷ us)) done items count exports types x e h some s =
    next_of (sections ++ Section.exports (u ∷ us) ∷ []) sections (Group.of_exports (u ∷ (us ++ x ∷ []))) (Part.top_export x) _ _ _ _ _ h.grouped
    (put_behind-last sections (Section.exports (u ∷ us)) (Part.top_export x)) (λ none. absurd cc) h.begins h.spelled
    (e, items_push IsTopExport top_export_bytes (u ∷ us) x count items h.held.1 s) (omega (arith, h.slots))

pub join_export_at : (done items : List ℕ) (count : ℕ) (exports : Bool) (types : ℕ) (x : TopExport) → exports ≡ true → Builds done items count exports types → 0 < count
    → IsTopExport x (top_export_bytes x) → Grown done items count exports (Part.top_export x) done (items ++ top_export_bytes x) (count + 1) exports (types + 1)
join_export_at done items count exports types x e h some s = search (std_rules, grown, join_export_of)

-- a part that stands behind all sections, where no section is open
behind_ended : (sections : List Section) (p : Part) → Ended sections → put_behind (sections ++ []) p ≡ (sections ++ []) ++ alone p ∷ []
behind_ended sections p h = rw append-nil (put_behind-ended sections p h)

behind_last : (sections : List Section) (s : Section) (p : Part) → join s p ≡ s ∷ alone p ∷ [] → put_behind (sections ++ s ∷ []) p ≡ (sections ++ s ∷ []) ++ alone p ∷ []
behind_last sections s p e = put_behind-last sections s p ∙ ap (λ (l : List Section). sections ++ l) e ∙ sym (append_assoc sections (s ∷ []) (alone p ∷ []))

type_apart_of : (sections : List Section) (g : Group) (done items : List ℕ) (count : ℕ) (exports : Bool) (types : ℕ) (t : TopType) → IsBuilt sections g done items count exports types
    → (0 < count → exports ≡ true) → put_behind (sections ++ group_sections g) (Part.top_type t) ≡ (sections ++ group_sections g) ++ alone (Part.top_type t) ∷ []
type_apart_of sections x done items count exports types t h other = search (std_rules, behind_ended, behind_last, false≢true)

export_apart_of : (sections : List Section) (g : Group) (done items : List ℕ) (count : ℕ) (exports : Bool) (types : ℕ) (x : TopExport) → IsBuilt sections g done items count exports types
    → (0 < count → exports ≡ false) → put_behind (sections ++ group_sections g) (Part.top_export x) ≡ (sections ++ group_sections g) ++ alone (Part.top_export x) ∷ []
export_apart_of sections y done items count exports types x h other = search (std_rules, behind_ended, behind_last, false≢true)

custom_apart_of : (sections : List Section) (g : Group) (done items : List ℕ) (count : ℕ) (exports : Bool) (types : ℕ) (name contents : List ℕ) → IsBuilt sections g done items count exports types
    → put_behind (sections ++ group_sections g) (Part.custom name contents) ≡ (sections ++ group_sections g) ++ Section.custom name contents ∷ []
custom_apart_of sections x done items count exports types name contents h = search (std_rules, behind_ended, behind_last)

-- ---- no part

pub nothing_built : IsBuilt [] (Group.of_types []) [] [] 0 false 0
nothing_built = record { grouped = refl; ended = λ e. tt; begins = refl; spelled = refl; held = (refl, record { counted = refl; spelled = refl; written = refl }); slots = refl }

pub nothing_kept : Kept [] (Group.of_types []) [] [] 0 false 0
nothing_kept = kept [] (Group.of_types []) [] [] 0 false 0 nothing_built

-- ---- the open section closed

module _ (done items : List ℕ) (count : ℕ) (exports : Bool) (types : ℕ) (h : Builds done items count exports types) where
  -- all sections, the open one too
  abbrev pub all_sections : List Section
  all_sections = sections_in done ++ group_sections (group_in exports count items)

  -- the bytes of whole sections, when the open one is closed
  abbrev closed : List ℕ
  closed = begun done ++ closed_bytes (section_id exports) count items

  pub closed_begins : closed ≡ component_bytes all_sections
  closed_begins = search (std_rules, append_assoc, group_closed, flat_map-append)

  pub closed_spelled : count < 2 ^ 32 → (0 < count → length (u32_bytes count ++ items) < 2 ^ 32) → Sequence IsSection all_sections (flat_map section_bytes all_sections)
  closed_spelled few small = search (std_rules, flat_map-append, sequence_append, group_spelled)

  -- a part that joins no section
  abbrev pub StandsApart : Part → Type 0
  StandsApart p = put_behind all_sections p ≡ all_sections ++ alone p ∷ []

  pub type_apart : (t : TopType) → (0 < count → exports ≡ true) → StandsApart (Part.top_type t)
  type_apart t other = type_apart_of (sections_in done) (group_in exports count items) done items count exports types t h other

  pub export_apart : (x : TopExport) → (0 < count → exports ≡ false) → StandsApart (Part.top_export x)
  export_apart x other = export_apart_of (sections_in done) (group_in exports count items) done items count exports types x h other

  pub custom_apart : (name contents : List ℕ) → StandsApart (Part.custom name contents)
  custom_apart name contents = custom_apart_of (sections_in done) (group_in exports count items) done items count exports types name contents h

  module _ (few : count < 2 ^ 32) (small : 0 < count → length (u32_bytes count ++ items) < 2 ^ 32) where
    -- a type that begins a section
    pub start_type : (t : TopType) (text : List ℕ) → StandsApart (Part.top_type t) → text ≡ top_type_bytes t → IsTopType t (top_type_bytes t)
        → Grown done items count exports (Part.top_type t) closed text 1 false (types + 1)
    start_type t text apart is s = grown _ _ _ _ _ _ _ _ _ _ (next_of all_sections all_sections (Group.of_types (t ∷ [])) (Part.top_type t) _ _ _ _ _ h.grouped apart (λ none. absurd cc)
        (ap begun closed_begins) (closed_spelled few small) (refl, items_one IsTopType top_type_bytes t text is s) (omega (arith, h.slots)))

    -- an export that begins a section
    pub start_export : (x : TopExport) (text : List ℕ) → StandsApart (Part.top_export x) → text ≡ top_export_bytes x → IsTopExport x (top_export_bytes x)
        → Grown done items count exports (Part.top_export x) closed text 1 true (types + 1)
    start_export x text apart is s = grown _ _ _ _ _ _ _ _ _ _ (next_of all_sections all_sections (Group.of_exports (x ∷ [])) (Part.top_export x) _ _ _ _ _ h.grouped apart (λ none. absurd cc)
        (ap begun closed_begins) (closed_spelled few small) (refl, items_one IsTopExport top_export_bytes x text is s) (omega (arith, h.slots)))

    -- a custom section
    pub add_custom : (name contents : List ℕ) → Name name (name_bytes name) → length (name_bytes name ++ contents) < 2 ^ 32
        → Grown done items count exports (Part.custom name contents) (closed ++ framed 0 (name_bytes name ++ contents)) [] 0 false types
    add_custom name contents named short =
        let last : Section = Section.custom name contents in
        let inner : List ℕ = name_bytes name ++ contents in
        let text : List ℕ = framed 0 inner in
        let spelled : IsSection last text =
        (inner, (u32_bytes (length inner) ++ inner, refl, (u32_bytes (length inner), inner, refl, spells_u32 (length inner) short, refl)), (name_bytes name, contents, refl, named, refl)) in
        let joined : flat_map section_bytes (all_sections ++ last ∷ []) ≡ flat_map section_bytes all_sections ++ text =
        flat_map-append section_bytes all_sections (last ∷ []) ∙ ap (λ (l : List ℕ). flat_map section_bytes all_sections ++ l) (append-nil text) in
        grown _ _ _ _ _ _ _ _ _ _ (next_of all_sections (all_sections ++ last ∷ []) (Group.of_types []) (Part.custom name contents) _ _ _ _ _ h.grouped
        (custom_apart name contents ∙ sym (append-nil (all_sections ++ last ∷ []))) (λ empty. Ended-custom all_sections name contents)
        (ap (λ (l : List ℕ). begun (l ++ text)) closed_begins ∙ ap (λ (l : List ℕ). preamble ++ l) (sym joined))
        (rw joined (sequence_push IsSection all_sections last (flat_map section_bytes all_sections) text (closed_spelled few small) spelled))
        (refl, record { counted = refl; spelled = refl; written = refl }) (omega (arith, h.slots)))

  -- the whole component
  pub component_spelled : (bytes : List ℕ) → bytes ≡ closed → count < 2 ^ 32 → (0 < count → length (u32_bytes count ++ items) < 2 ^ 32) → length bytes < 2 ^ 32
      → IsComponent (sections_of_parts (kept_parts done items count exports)) bytes
  component_spelled bytes is few small short = rw h.grouped ((preamble, flat_map section_bytes all_sections, is ∙ closed_begins, refl, closed_spelled few small), short)
