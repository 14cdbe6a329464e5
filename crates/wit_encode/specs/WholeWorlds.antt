-- The component type of a world: it imports what the world imports, and exports what the world exports (Component Model WIT.md, "Package
-- Format").
use Rattle.std.specs.Prelude.{◌≡◌, ◌++◌, Bool, true, List, [], ◌∷◌, map, Some}
use Rattle.wit_model.specs.{Text.text_of, Lookup.identity_of, Meant.package_of_world}
use Rattle.wit_model.specs.declared.{error.Error.Error, model.Package.Package, model.Resolve.Resolve, model.World.World}
use Rattle.comp_bytes.specs.{Raw.Declaration, Raw.Declarations, Refusal.IsMemoryOrSize}
use Rattle.comp_meaning.specs.{Follow.Direction, Follow.import_, Follow.export_, Follow.Scope, Follow.component_scope, Reads.meaning_of_scope, Reads.world_with}
use Rattle.comp_meaning.specs.Rules.{is_world}
use Rattle.encode_shown.specs.Views.{ShowsWorld}
use Rattle.encode_names.specs.{Clashes.HasNoClash, Clashes.RefusesNames, WorldSteps.Entry}
use Rattle.wit_model.specs.Meant as meant

-- an import or an export, if a declaration is one
abbrev pub direction_of : Declaration → List Direction
direction_of (Declaration.defined d) = []
direction_of (Declaration.function f) = []
direction_of (Declaration.alias_of a) = []
direction_of (Declaration.imported name described) = import_ ∷ []
direction_of (Declaration.exported name described) = export_ ∷ []

-- the imports and the exports at the first level, in order
abbrev pub directions_of : Declarations → List Direction
directions_of Declarations.no_more = []
directions_of (Declarations.declares d rest) = direction_of d ++ directions_of rest
directions_of (Declarations.component inner rest) = directions_of rest
directions_of (Declarations.instance inner rest) = directions_of rest

-- an import for each of the first, and then an export for each of the others
abbrev pub imports_first : List Entry → List Entry → List Direction
imports_first imports exports = map (λ e. import_) imports ++ map (λ e. export_) exports

-- The declarations, every index followed, show the imports and the exports of the world in order, obey the rules of worlds, and mean the
-- world; by themselves, the world of its package. All imports stand before the exports.
pub record ShowsWorldType (r : Resolve) (w : World) (declared : Declarations) : Type 0 where
  pub scope : Scope
  pub follows : component_scope declared ≡ Some scope
  pub shows : ShowsWorld r w scope
  pub obeys : is_world scope ≡ true
  pub means : meaning_of_scope scope ≡ meant.world_meaning r w
  pub order : directions_of declared ≡ imports_first w.imports.entries w.exports.entries
  pub alone : (p : Package) → package_of_world r w ≡ Some p → world_with (identity_of p.name) (text_of w.name) scope ≡ Some (meant.world_package r p w)

-- Where canonical names are asked for and clash, the first that repeats; or want of memory. Where none clash, want of memory or of room.
pub data RefusesWorld (r : Resolve) (w : World) (canonical : Bool) (e : Error) : Type 0 where
  of_names : RefusesNames r w canonical e → RefusesWorld r w canonical e
  of_room : (canonical ≡ true → HasNoClash r w) → IsMemoryOrSize e → RefusesWorld r w canonical e
