-- What the bytes of a package or of a world mean, said over the forms that are read level by level (the file Levels of comp_bytes): the
-- same rules as in Follow and Reads, where nothing nests without bound.
use Rattle.std.specs.Prelude.{◌≡◌, ℕ, suc, Bool, true, ◌&&◌, ◌==◌, not, List, [], ◌∷◌, ◌++◌, length, map, Option, Some, slice_get, is_none}
use Rattle.std.specs.List.{list_any}
use Rattle.wit_model.specs.{Text.Text, Names.PackageIdentity, Names.is_label, Meaning.PackageMeaning, Meaning.WorldPackage}
use Rattle.comp_bytes.specs.{Raw.ExternName, Raw.TopExport, Reading.◌>>=◌, Reading.component_of}
use Rattle.comp_bytes.specs.Levels.{Entry, plain, holds, PartType, wraps, shows, Piece, declarations_of, levels_of}
use Rattle.comp_meaning.specs.Follow.{each, when, provided, complete_path, Slot, Scope, new_scope, in_scope, component_step, component_scope}
use Rattle.comp_meaning.specs.Rules.{distinct, is_world}
use Rattle.comp_meaning.specs.Reads.{steps, is_bare_name, exported_view, imported_view, are_reached, labelled_path, Part, Member, package_of_members, world_of_members, package_of_sections, world_of_sections}
use Rattle.comp_bytes.specs.Levels as levels

-- ---- the type of a world or an interface

-- One declaration. An instance type takes a slot as it stands, to be followed where it is used.
abbrev pub entry_step : Scope → Entry → Option Scope
entry_step scope (plain d) = component_step scope d
entry_step scope (holds ds) = Some (in_scope (Slot.instance ds (length scope.slots)) scope)

-- Each instance type among the slots is used, where the first slot has the number n.
abbrev pub all_used : List ℕ → ℕ → List Slot → Bool
all_used used n [] = true
all_used used n (Slot.instance ds around ∷ slots) = list_any (λ m. m == n) used && all_used used (suc n) slots
all_used used n (_ ∷ slots) = all_used used (suc n) slots

-- The declarations, followed from left to right. No instance type is left unused.
abbrev pub entry_scope : List Entry → Option Scope
entry_scope es = steps entry_step new_scope es >>= λ scope. provided (all_used scope.used 0 scope.slots) scope

-- ---- parts

abbrev pub world_entries : Text → List Entry → ExternName → Option (PackageIdentity × Part)
world_entries label es name =
    when (is_none name.implements && is_none name.external_id) (complete_path name.text name.version_suffix) >>= λ path.
    labelled_path label path >>= λ package_.
    entry_scope es >>= λ scope.
    provided (is_world scope) (package_, Part.world scope)

abbrev pub interface_entries : Text → List Entry → Option (PackageIdentity × Part)
interface_entries label es =
    entry_scope es >>= λ scope.
    exported_view scope.exports >>= λ exported.
    each imported_view scope.imports >>= λ imports.
    labelled_path label exported.0 >>= λ package_.
    provided (distinct (exported.0 ∷ map (λ i. i.0) imports) && are_reached imports exported.1) (package_, Part.interface exported.1 imports)

abbrev pub part_by_levels : Text → PartType → Option (PackageIdentity × Part)
part_by_levels label (wraps es name) = world_entries label es name
part_by_levels label (shows es) = interface_entries label es

abbrev pub member_by_levels : Text × PartType → Option Member
member_by_levels x = part_by_levels x.0 x.1 >>= λ p. Some (record { label = x.0; package_ = p.0; part = p.1 })

-- ---- the top

-- The types and the exports at the top, as in Reads. An index stands for one of the types, by its number.
pub record Top : Type 0 where
  pub types : List PartType
  pub slots : List ℕ
  pub exported : List (Text × ℕ)

-- a type takes the next index
abbrev pub top_part : Top → PartType → Option Top
top_part top p = Some (record { types = top.types ++ p ∷ []; slots = top.slots ++ length top.types ∷ []; exported = top.exported })

-- an export of a type that none before it exports takes the next index
abbrev pub top_export : Top → TopExport → Option Top
top_export top e =
    slice_get top.slots e.type_index >>= λ n.
    provided (is_bare_name e.exported_as && (is_label e.exported_as.text && not (list_any (λ x. x.1 == n) top.exported)))
    (record { types = top.types; slots = top.slots ++ n ∷ []; exported = top.exported ++ (e.exported_as.text, n) ∷ [] })

-- what stands in a section
abbrev pub top_piece : Top → Piece → Option Top
top_piece top (levels.custom name contents) = Some top
top_piece top (levels.types ps) = steps top_part top ps
top_piece top (levels.exports es) = steps top_export top es

-- The types by the labels under which they are exported, in the order of the exports. Each type is exported once.
abbrev pub exported_parts : List Piece → Option (List (Text × PartType))
exported_parts pieces =
    steps top_piece (record { types = []; slots = []; exported = [] }) pieces >>= λ top.
    when (length top.exported == length top.types && distinct (map (λ x. x.0) top.exported))
    (each (λ x. slice_get top.types x.1 >>= λ p. Some (x.0, p)) top.exported)

-- what the sections mean as a package, and as one world
unfoldable pub package_of_pieces : List Piece → Option PackageMeaning
package_of_pieces pieces = exported_parts pieces >>= λ parts. each member_by_levels parts >>= λ members. package_of_members members

unfoldable pub world_of_pieces : List Piece → Option WorldPackage
world_of_pieces pieces = exported_parts pieces >>= λ parts. each member_by_levels parts >>= λ members. world_of_members members

-- ---- laws

-- Entries stand for the scope that they stand for as raw forms: no instance type is left unused exactly where as many are used as there are.
abbrev pub ScopesByLevels : Type 0
ScopesByLevels = (es : List Entry) → entry_scope es ≡ component_scope (declarations_of es)

-- What is read by levels means what the component means, and bytes mean nothing exactly where they mean nothing so.
abbrev pub PackageByLevels : Type 0
PackageByLevels = (bytes : List ℕ) → (levels_of bytes >>= package_of_pieces) ≡ (component_of bytes >>= package_of_sections)

abbrev pub WorldByLevels : Type 0
WorldByLevels = (bytes : List ℕ) → (levels_of bytes >>= world_of_pieces) ≡ (component_of bytes >>= world_of_sections)
