-- How a component under construction is kept: whole sections as their bytes, and the items of a section that is still open.
use Rattle.std.specs.Prelude.{◌≡◌, ℕ, zero, suc, Bool, true, false, List, [], ◌∷◌, ◌++◌, length, drop, Option, Some, None}
use Rattle.std.specs.List.{flat_map}
use Rattle.comp_bytes.specs.{Form.Spellings, Form.Sequence, Spelling.IsTopType, Spelling.IsTopExport, Spelling.IsSection, Spelling.preamble, Held.found_in}
use Rattle.comp_bytes.specs.{Raw.TopType, Raw.TopExport, Raw.Section, Reading.sequence_at, Reading.type_at, Reading.top_export_at, Reading.sections_of}
use Rattle.comp_bytes.specs.Writing.{u32_bytes, top_type_bytes, top_export_bytes, framed, section_bytes, component_bytes}
use Rattle.comp_bytes.specs.Parts.{Part, sections_of_parts, parts_of, top_slots}

-- the items of the section that is still open
pub data Group : Type 0 where
  of_types : List TopType → Group
  of_exports : List TopExport → Group

-- the section of these items, if there are any
abbrev pub group_sections : Group → List Section
group_sections (of_types []) = []
group_sections (of_types (t ∷ ts)) = Section.types (t ∷ ts) ∷ []
group_sections (of_exports []) = []
group_sections (of_exports (e ∷ es)) = Section.exports (e ∷ es) ∷ []

-- so many items that these bytes spell, of exports or of types
abbrev pub group_in : Bool → ℕ → List ℕ → Group
group_in false n bytes = of_types (found_in (sequence_at type_at n bytes))
group_in true n bytes = of_exports (found_in (sequence_at top_export_at n bytes))

-- the sections that were found, or none
abbrev pub found_sections : Option (List Section) → List Section
found_sections None = []
found_sections (Some sections) = sections

-- the sections behind the preamble
abbrev pub sections_in : List ℕ → List Section
sections_in bytes = found_sections (sections_of (length bytes) (drop 8 bytes))

-- the preamble, if nothing stands there yet
abbrev pub begun : List ℕ → List ℕ
begun [] = preamble
begun (b ∷ bytes) = b ∷ bytes

-- the id of a section of exports or of types
abbrev pub section_id : Bool → ℕ
section_id false = 7
section_id true = 0x0b

-- a section of so many items, or nothing where there are none
abbrev pub closed_bytes : ℕ → ℕ → List ℕ → List ℕ
closed_bytes id zero items = []
closed_bytes id (suc n) items = framed id (u32_bytes (suc n) ++ items)

-- the parts that are kept
abbrev pub kept_parts : List ℕ → List ℕ → ℕ → Bool → List Part
kept_parts done items count exports = parts_of (sections_in done ++ group_sections (group_in exports count items))

-- the bytes are those of so many items
pub record IsItems {A : Type 0} (form : A → Spellings) (bytes_of : A → List ℕ) (xs : List A) (count : ℕ) (bytes : List ℕ) : Type 0 where
  pub counted : count ≡ length xs
  pub spelled : Sequence form xs bytes
  pub written : bytes ≡ flat_map bytes_of xs

abbrev pub IsGroup : Group → Bool → ℕ → List ℕ → Type 0
IsGroup (of_types ts) exports count bytes = (exports ≡ false) × IsItems IsTopType top_type_bytes ts count bytes
IsGroup (of_exports es) exports count bytes = (exports ≡ true) × IsItems IsTopExport top_export_bytes es count bytes

-- no item can join the last section
abbrev pub Ended : List Section → Type 0
Ended [] = Unit {0}
Ended (Section.types ts ∷ []) = ⊥
Ended (Section.exports es ∷ []) = ⊥
Ended (Section.custom name contents ∷ []) = Unit {0}
Ended (s ∷ t ∷ rest) = Ended (t ∷ rest)

-- whole sections and an open one, as their bytes
pub record IsBuilt (sections : List Section) (group : Group) (done items : List ℕ) (count : ℕ) (exports : Bool) (types : ℕ) : Type 0 where
  pub grouped : sections_of_parts (parts_of (sections ++ group_sections group)) ≡ sections ++ group_sections group
  pub ended : group_sections group ≡ [] → Ended sections
  pub begins : begun done ≡ component_bytes sections
  pub spelled : Sequence IsSection sections (flat_map section_bytes sections)
  pub held : IsGroup group exports count items
  pub slots : types ≡ top_slots (parts_of (sections ++ group_sections group))

-- what is kept is what the bytes say
abbrev pub Builds : List ℕ → List ℕ → ℕ → Bool → ℕ → Type 0
Builds done items count exports types = IsBuilt (sections_in done) (group_in exports count items) done items count exports types
