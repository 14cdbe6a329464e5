-- What is followed of each type at the top before the rules of reading on it are looked at, and what the rules make of that
-- (Component Model WIT.md, "Package Format").
use Rattle.std.specs.Prelude.{◌≡◌, ◌&&◌, List, ◌∷◌, map, Option, Some, is_none}
use Rattle.wit_model.specs.{Names.PackageIdentity, Text.Text}
use Rattle.comp_bytes.specs.{Levels.PartType, Levels.Piece, Levels.wraps, Levels.shows, Raw.ExternName, Reading.◌>>=◌}
use Rattle.comp_meaning.specs.ByLevels.{entry_scope, exported_parts, package_of_pieces, world_of_pieces}
use Rattle.comp_meaning.specs.Follow.{Scope, complete_path, each, is_filled, provided, when}
use Rattle.comp_meaning.specs.Reads.{Member, Part, are_reached, exported_view, imported_view, labelled_path, package_of_members, world_of_members}
use Rattle.comp_meaning.specs.Rules.{distinct, is_world}

-- a world by the path under which its wrapper exports it and by what it shows, or what the component type of an interface shows
pub data PartScope : Type 0 where
  world : Text → Scope → PartScope
  interface : Scope → PartScope

-- the path of a world, completed
abbrev pub world_path : ExternName → Option Text
world_path name = when (is_none name.implements && is_none name.external_id) (complete_path name.text name.version_suffix)

abbrev pub part_scope : PartType → Option PartScope
part_scope (wraps es name) = world_path name >>= λ path. entry_scope es >>= λ scope. Some (world path scope)
part_scope (shows es) = entry_scope es >>= λ scope. Some (interface scope)

-- a part under its label
abbrev pub labelled_scope : Text × PartType → Option (Text × PartScope)
labelled_scope x = part_scope x.1 >>= λ p. Some (x.0, p)

-- what is followed of these parts, of which there is at least one
abbrev pub scopes_in : List (Text × PartType) → Option (List (Text × PartScope))
scopes_in parts = when (is_filled parts) (each labelled_scope parts)

-- What is followed of all types at the top, in the order of the exports.
unfoldable pub scopes_of : List Piece → Option (List (Text × PartScope))
scopes_of pieces = exported_parts pieces >>= scopes_in

-- what the rules of reading make of it
abbrev pub part_of_scope : Text → PartScope → Option (PackageIdentity × Part)
part_of_scope label (world path scope) = labelled_path label path >>= λ package_. provided (is_world scope) (package_, Part.world scope)
part_of_scope label (interface scope) =
    exported_view scope.exports >>= λ exported.
    each imported_view scope.imports >>= λ imports.
    labelled_path label exported.0 >>= λ package_.
    provided (distinct (exported.0 ∷ map (λ i. i.0) imports) && are_reached imports exported.1) (package_, Part.interface exported.1 imports)

abbrev pub member_of_scope : Text × PartScope → Option Member
member_of_scope x = part_of_scope x.0 x.1 >>= λ p. Some (record { label = x.0; package_ = p.0; part = p.1 })

-- ---- laws

-- What the sections mean as a package, and as one world, is what the rules make of what is followed.
abbrev pub PackageByScopes : Type 0
PackageByScopes = (pieces : List Piece) → package_of_pieces pieces
    ≡ (scopes_of pieces >>= λ scopes. each member_of_scope scopes >>= λ members. package_of_members members)

abbrev pub WorldByScopes : Type 0
WorldByScopes = (pieces : List Piece) → world_of_pieces pieces
    ≡ (scopes_of pieces >>= λ scopes. each member_of_scope scopes >>= λ members. world_of_members members)
