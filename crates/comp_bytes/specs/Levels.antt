-- The raw forms of a component as far as they are followed, by four levels, none of which holds another of its kind. The levels are
-- sections, the types at the top, the declarations of a world or an interface, and those of an instance type. A wrapper of a world is
-- told from the type of an interface by its form (Component Model WIT.md, "Package Format"; Binary.md, "Type Definitions").
use Rattle.std.specs.Prelude.{◌≡◌, ◌↔◌, ◌<◌, ℕ, zero, suc, ◌^◌, Bool, true, false, IsTrue, ◌&&◌, ◌==◌, nat_eq, nat_lt, if◌then◌else◌, List, [], ◌∷◌, length, take, drop, map, Option, Some, None}
use Rattle.std.specs.{List.starts_with, Cmp.Lexicographic.pointwise}
use Rattle.comp_bytes.specs.Raw.{Declaration, Declarations, ExternName, TopType, TopExport, Section, from_list}
use Rattle.comp_bytes.specs.{Number.IsU32, Form.Spellings, Form.Tagged, Form.Joined, Form.Sequence, Form.Vector}
use Rattle.comp_bytes.specs.Spelling.{IsDeclaration, AreDeclarations, preamble}
use Rattle.comp_bytes.specs.Reading.{Reader, ◌>>=◌, as_at, tag_at, or_else, pair_at, u32_at, name_at, sequence_at, vector_at, declaration_at, top_export_at, whole, frame_at, component_of}
use Rattle.comp_bytes.specs.declared.forms.ComponentTypeRef.TheVariants as refs

-- ---- forms

-- a declaration in the type of a world or an interface: one in which no other stands, or an instance type with its declarations
pub data Entry : Type 0 where
  plain : Declaration → Entry
  holds : List Declaration → Entry

-- a component type at the top: what wraps a world, with the name of the world's export, or the type of an interface
pub data PartType : Type 0 where
  wraps : List Entry → ExternName → PartType
  shows : List Entry → PartType

-- a section of a component
pub data Piece : Type 0 where
  custom : List ℕ → List ℕ → Piece
  types : List PartType → Piece
  exports : List TopExport → Piece

-- ---- the raw forms that they are

abbrev pub declarations_of : List Entry → Declarations
declarations_of [] = Declarations.no_more
declarations_of (plain d ∷ es) = Declarations.declares d (declarations_of es)
declarations_of (holds ds ∷ es) = Declarations.instance (from_list ds) (declarations_of es)

-- the declarations of a wrapper: a component type, the first of them, and its export
abbrev pub wrapper_of : List Entry → ExternName → Declarations
wrapper_of es name = Declarations.component (declarations_of es) (Declarations.declares (Declaration.exported name (refs.Component 0)) Declarations.no_more)

abbrev pub raw_part : PartType → Declarations
raw_part (wraps es name) = wrapper_of es name
raw_part (shows es) = declarations_of es

abbrev pub raw_piece : Piece → Section
raw_piece (custom name contents) = Section.custom name contents
raw_piece (types ps) = Section.types (map (λ p. TopType.component (raw_part p)) ps)
raw_piece (exports es) = Section.exports es

-- ---- what spells them

-- no import is among them
abbrev pub import_free : List Declaration → Bool
import_free [] = true
import_free (Declaration.imported _ _ ∷ ds) = false
import_free (_ ∷ ds) = import_free ds

-- the declarations of an instance type behind their number
abbrev pub Held : List Declaration → Spellings
Held ds text = Vector IsDeclaration ds text × IsTrue (import_free ds)

abbrev pub IsEntry : Entry → Spellings
IsEntry (plain d) = IsDeclaration d
IsEntry (holds ds) = Tagged 1 (Tagged 0x42 (Held ds))

-- the type of a world and its export, behind their number
abbrev pub IsWrapper : List Entry × ExternName → Spellings
IsWrapper w = Joined (IsU32 2) (Joined (Tagged 1 (Tagged 0x41 (Vector IsEntry w.0))) (IsDeclaration (Declaration.exported w.1 (refs.Component 0))))

abbrev pub IsPartType : PartType → Spellings
IsPartType (wraps es name) = Tagged 0x41 (IsWrapper (es, name))
IsPartType (shows es) = Tagged 0x41 (Vector IsEntry es)

-- ---- reading them from the front

-- the declarations of an instance type, none of which is an import
unfoldable pub held_at : Reader (List Declaration)
held_at bytes = do
  ds ← vector_at declaration_at bytes
  if import_free ds.0 then Some ds else None

-- an entry of a component type: an instance type, or another declaration
unfoldable pub entry_at : Reader Entry
entry_at bytes = or_else (as_at holds (tag_at 1 (tag_at 0x42 held_at)) bytes) (as_at plain declaration_at bytes)

-- the name of an export of the first component type
abbrev pub world_export : Declaration → Option ExternName
world_export (Declaration.exported name (refs.Component zero)) = Some name
world_export _ = None

-- the export of a world's component type from its wrapper, by its name
unfoldable pub world_export_at : Reader ExternName
world_export_at bytes = do
  d ← declaration_at bytes
  name ← world_export d.0
  Some (name, d.1)

-- a wrapper: the entries of its world, and the name under which it exports it
unfoldable pub wrapper_at : Reader (List Entry × ExternName)
wrapper_at bytes = do
  n ← u32_at bytes
  if n.0 == 2 then pair_at (tag_at 1 (tag_at 0x41 (vector_at entry_at))) world_export_at n.1 else None

-- behind the byte of a component type
unfoldable pub part_behind_at : Reader PartType
part_behind_at bytes = or_else (as_at (λ w. wraps w.0 w.1) wrapper_at bytes) (as_at shows (vector_at entry_at) bytes)

-- a component type at the top: a wrapper of a world, or that of an interface
unfoldable pub part_type_at : Reader PartType
part_type_at = tag_at 0x41 part_behind_at

-- the contents of a section
unfoldable pub piece_of : ℕ → List ℕ → Option Piece
piece_of id contents =
    let named = name_at contents >>= λ name. Some (custom name.0 name.1) in
    let parts = whole (vector_at part_type_at contents) >>= λ ps. Some (types ps) in
    let exported = whole (vector_at top_export_at contents) >>= λ es. Some (exports es) in
    if id == 0 then named else if id == 7 then parts else if id == 0x0b then exported else None

-- all the bytes as sections; each has a byte, so that their number bounds the sections
unfoldable pub pieces_of : ℕ → List ℕ → Option (List Piece)
pieces_of fuel [] = Some []
pieces_of zero (b ∷ bytes) = None
pieces_of (suc fuel) (b ∷ bytes) = do
  frame ← frame_at (b ∷ bytes)
  first ← piece_of frame.0.0 frame.0.1
  others ← pieces_of fuel frame.1
  Some (first ∷ others)

-- the sections of a component, one after the other
unfoldable pub pieces_in : List ℕ → Option (List Piece)
pieces_in bytes = pieces_of (length bytes) bytes

-- the sections of a component
unfoldable pub levels_of : List ℕ → Option (List Piece)
levels_of bytes =
    let pieces = pieces_in (drop 8 bytes) in
    if pointwise nat_eq (take 8 bytes) preamble && nat_lt (length bytes) (2 ^ 32) then pieces else None

-- ---- laws

-- Entries spell what their declarations spell.
abbrev pub EntriesAreDeclarations : Type 0
EntriesAreDeclarations = (es : List Entry) (text : List ℕ) → Sequence IsEntry es text ↔ AreDeclarations (declarations_of es) text

-- What is read by levels is read as the raw form that it is, and nothing else that nests as deep is read.
abbrev pub LevelsAreSections : Type 0
LevelsAreSections = (bytes : List ℕ) (ps : List Piece) → (levels_of bytes ≡ Some ps) ↔ (component_of bytes ≡ Some (map raw_piece ps))

-- Which entry stands in front is told by two bytes, and which type at the top by the count and two bytes behind it.
abbrev pub EntriesByFront : Type 0
EntriesByFront = (bytes : List ℕ) → entry_at bytes ≡ (if starts_with nat_eq bytes (1 ∷ 0x42 ∷ []) then as_at holds held_at (drop 2 bytes) else as_at
    plain declaration_at bytes)

abbrev pub PartTypesByFront : Type 0
PartTypesByFront = (bytes : List ℕ) → part_behind_at bytes ≡ (u32_at bytes >>= λ n.
    if n.0 == 2 && starts_with nat_eq n.1 (1 ∷ 0x41 ∷ []) then as_at (λ w. wraps w.0 w.1) (pair_at (vector_at entry_at) world_export_at) (drop 2 n.1)
    else as_at shows (sequence_at entry_at n.0) n.1)

-- The sections in the bytes are none where there are no bytes, and else the one in front and those behind it.
abbrev pub PiecesByFrames : Type 0
PiecesByFrames = (bytes : List ℕ) → pieces_in bytes ≡ (
    if length bytes == 0 then Some [] else
    (frame_at bytes >>= λ frame. piece_of frame.0.0 frame.0.1 >>= λ first. pieces_in frame.1 >>= λ others. Some (first ∷ others)))

-- What is read takes bytes, so that fewer are left.
abbrev pub TakesBytes : {A : Type 0} → Reader A → Type 0
TakesBytes {A} reader = (bytes : List ℕ) (x : A) (rest : List ℕ) → reader bytes ≡ Some (x, rest) → length rest < length bytes
