-- Scopes of component types that are well-formed: each name that is met was shown before, by an instance or by an import of a type
-- (Binary.md, "Import and Export Definitions"; WIT.md, "Worlds").
use Rattle.std.specs.Prelude.{◌≡◌, ◌<◌, ℕ, Bool, true, false, List, length, slice_get, Some}
use Rattle.wit_model.specs.{Text.Text, Tree.Place, Tree.Tree, Tree.TypeDeclaration}
use Rattle.comp_meaning.specs.Follow.{Slot, Instance, Seen, Shown, Scope, instance_place, interface_of}
use Rattle.read_shown.specs.{Trees.AllAt, Trees.DeclarationStands, Trees.SignatureStands, Trees.SlotStands, Views.ShowsName, Views.ViewStands}

-- An instance of the interface of this path shows the name so, among as many instances from the first on.
pub record IsShownBefore (instances : List Instance) (count : ℕ) (place : Place) (name : Text) (is_resource : Bool) : Type 0 where
  pub number : ℕ
  pub below : number < count
  pub shown : Instance
  pub at : slice_get instances number ≡ Some shown
  pub path : Text
  pub of_path : shown.interface ≡ Some path
  pub stands : place ≡ Place.of_interface path
  pub shows : ShowsName place shown.view (length shown.view.types) name is_resource

-- Among as many instances from the first on is one of the interface of this path.
pub record IsInstanceBefore (instances : List Instance) (count : ℕ) (path : Text) : Type 0 where
  pub number : ℕ
  pub below : number < count
  pub shown : Instance
  pub at : slice_get instances number ≡ Some shown
  pub of_path : shown.interface ≡ Some path

-- An import declares the name so, among as many imports from the first on.
pub record IsImported (imports : List Seen) (count : ℕ) (name : Text) (declared : TypeDeclaration) : Type 0 where
  pub number : ℕ
  pub below : number < count
  pub seen : Seen
  pub at : slice_get imports number ≡ Some seen
  pub key : seen.key ≡ name
  pub shown : seen.shown ≡ Shown.declares declared

abbrev pub is_name : Tree → Bool
is_name (Tree.named place name) = true
is_name _ = false

-- The name is declared by one of so many imports, as a resource or as a type of values: another name is of the kind of what it names.
pub data IsDeclared (instances : List Instance) (imports : List Seen) : ℕ → Text → Bool → Type 0 where
  a_resource : {count : ℕ} {name : Text} → IsImported imports count name TypeDeclaration.resource → IsDeclared instances imports count name true
  a_value : {count : ℕ} {name : Text} (t : Tree) → is_name t ≡ false → IsImported imports count name (TypeDeclaration.type_ t)
      → IsDeclared instances imports count name false
  own_name : {count : ℕ} {name : Text} {is_resource : Bool} (other : Text)
      (by : IsImported imports count name (TypeDeclaration.type_ (Tree.named Place.here other)))
      → IsDeclared instances imports by.number other is_resource → IsDeclared instances imports count name is_resource
  name_of_instance : {count : ℕ} {name : Text} {is_resource : Bool} (path other : Text)
      → IsImported imports count name (TypeDeclaration.type_ (Tree.named (Place.of_interface path) other))
      → IsShownBefore instances (length instances) (Place.of_interface path) other is_resource → IsDeclared instances imports count name is_resource

-- A name that is met in a scope, behind as many of its imports: one of these declares it, or an instance shows it.
pub data IsMetInScope (instances : List Instance) (imports : List Seen) (count : ℕ) (place : Place) (name : Text) (is_resource : Bool) : Type 0 where
  by_import : place ≡ Place.here → IsDeclared instances imports count name is_resource → IsMetInScope instances imports count place name is_resource
  by_instance : IsShownBefore instances (length instances) place name is_resource → IsMetInScope instances imports count place name is_resource

-- what an import or an export is, behind as many imports
abbrev pub ShownStands : List Instance → List Seen → ℕ → Shown → Type 0
ShownStands instances imports count (Shown.instance key view) = (number : ℕ)
    × (slice_get instances number ≡ Some (record { interface = interface_of key; view = view }))
ShownStands instances imports count (Shown.function f) = SignatureStands (IsMetInScope instances imports count) f
ShownStands instances imports count (Shown.declares d) = (is_resource : Bool) × DeclarationStands (IsMetInScope instances imports count) d is_resource

-- an import or an export of a type
abbrev pub is_type : Shown → Bool
is_type (Shown.declares d) = true
is_type _ = false

-- What each index stands for, each instance, each import and each export is well-formed. No type is exported.
pub record ScopeStands (scope : Scope) : Type 0 where
  pub slots : AllAt (λ n (s : Slot). SlotStands (IsMetInScope scope.instances scope.imports (length scope.imports)) s) scope.slots
  pub instances : AllAt (λ n (x : Instance). ViewStands (IsShownBefore scope.instances n) (instance_place x.interface) x.view) scope.instances
  pub imports : AllAt (λ n (s : Seen). ShownStands scope.instances scope.imports n s.shown) scope.imports
  pub exports : AllAt (λ n (s : Seen). ShownStands scope.instances scope.imports (length scope.imports) s.shown) scope.exports
  pub no_types : AllAt (λ n (s : Seen). is_type s.shown ≡ false) scope.exports
