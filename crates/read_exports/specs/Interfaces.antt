-- The component type of an interface, in numbers: its one export and its imports (Component Model WIT.md, "Package Format").
use Rattle.std.specs.Prelude.{◌≡◌, ◌∷◌, ◌&&◌, ℕ, List, map, Option, Some, None, Vec, slice_get}
use Rattle.std.specs.declared.alloc.Global.{Global}
use Rattle.wit_model.specs.{Names.PackageIdentity, Text.Text}
use Rattle.comp_bytes.specs.{Raw.Declarations, Reading.◌>>=◌}
use Rattle.comp_meaning.specs.Follow.{Scope, component_scope, each, provided}
use Rattle.comp_meaning.specs.{Reads.Part, Reads.interface, Reads.interface_part, Reads.labelled_path, Rules.distinct}
use Rattle.plan_meaning.specs.NumberedMembers.{Homes, HomesStand, exported_view, home_at, imported_view, shown_view}
use Rattle.plan_meaning.specs.{NumberedRules.Fact, NumberedViews.AreTables, NumberedViews.NumberedView, NumberedViews.Tables, NumberedViews.view_of}
use Rattle.plan_meaning.specs.NumberedWorlds.{NumberedScope, ScopeStands, Shows, are_once, are_reached}
use Rattle.read_rules.specs.{Reached.numbered_import, Sights.placed_view}
use Rattle.read_rules.specs.declared.{reached.ImportedView.ImportedView, scopes.Instance.Instance}
use Rattle.comp_meaning.specs.Reads as reads

-- a view under the place of its interface
abbrev pub Placed : Type 0
Placed = ℕ × NumberedView

-- what was found as numbers: the view that it exports, and those that it imports
abbrev pub numbered_interface : Instance × Vec ImportedView Global → Placed × List Placed
numbered_interface x = (placed_view x.0, map numbered_import x.1.items)

-- The view that it exports and those that it imports, where no place stands twice, and each import is reached.
abbrev pub shown_interface : Tables → NumberedScope → Option (Placed × List Placed)
shown_interface t w =
    exported_view w.exports >>= λ exported.
    each imported_view w.imports >>= λ imports.
    provided (are_once (exported.0 ∷ map (λ i. i.0) imports) && are_reached t imports exported.1) (exported, imports)

-- It is the interface of its label's name in the package of its place; under any other label it is none.
pub data IsPartOf (t : Tables) (h : Homes) (label : Text) (exported : Placed) (imports : List Placed) (found : Option (PackageIdentity × Part)) : Type 0 where
  at_home : (n : ℕ) (identity : PackageIdentity) → home_at h exported.0 ≡ Some (n, label) → slice_get h.packages n ≡ Some identity
      → found ≡ Some (identity, interface (view_of t exported.1) (map (shown_view t) imports)) → IsPartOf t h label exported imports found
  elsewhere : ((n : ℕ) → home_at h exported.0 ≡ Some (n, label) → ⊥) → found ≡ None → IsPartOf t h label exported imports found

abbrev pub IsInterfacePart : Tables → Homes → Text → Option (Placed × List Placed) → Option (PackageIdentity × Part) → Type 0
IsInterfacePart t h label None found = found ≡ None
IsInterfacePart t h label (Some x) found = IsPartOf t h label x.0 x.1 found

-- what the rules of reading make of a scope, as that of the component type of an interface under a label
abbrev pub interface_of_scope : Text → Scope → Option (PackageIdentity × Part)
interface_of_scope label scope =
    reads.exported_view scope.exports >>= λ exported.
    each reads.imported_view scope.imports >>= λ imports.
    labelled_path label exported.0 >>= λ package_.
    provided (distinct (exported.0 ∷ map (λ i. i.0) imports) && reads.are_reached imports exported.1) (package_, interface exported.1 imports)

-- ---- laws

-- A component type that was followed is that of an interface, under a label, exactly where its numbers are.
abbrev pub InterfacesInNumbers : Type 0
InterfacesInNumbers = (t : Tables) → AreTables t → (h : Homes) → HomesStand t h → (known : ℕ → Fact) (w : NumberedScope) → ScopeStands t known w
    → (ds : Declarations) (scope : Scope) → component_scope ds ≡ Some scope → Shows t w scope
    → (label : Text) → IsInterfacePart t h label (shown_interface t w) (interface_part label ds)

-- The same of a scope alone, whichever component type it was followed of.
abbrev pub InterfaceScopesInNumbers : Type 0
InterfaceScopesInNumbers = (t : Tables) → AreTables t → (h : Homes) → HomesStand t h → (known : ℕ → Fact) (w : NumberedScope) → ScopeStands t known w
    → (scope : Scope) → Shows t w scope
    → (label : Text) → IsInterfacePart t h label (shown_interface t w) (interface_of_scope label scope)
