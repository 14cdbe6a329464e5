-- Views that are well-formed. Each type is shown under its own name, as a resource or a type of values. Each name that is met was shown
-- before, in the view or outside of it (Binary.md, "Import and Export Definitions").
use Rattle.std.specs.Prelude.{◌≡◌, ◌<◌, ℕ, Bool, true, false, length, slice_get, Some}
use Rattle.wit_model.specs.{Text.Text, Tree.Place, Tree.Tree, Meaning.FunctionMeaning}
use Rattle.comp_meaning.specs.Follow.{Slot, View, ShownType, InstanceScope}
use Rattle.read_shown.specs.Trees.{AllAt, DeclarationStands, SignatureStands, SlotStands}

-- what the index of a named type stands for: its own name, as a resource or as a type of values
abbrev pub named_slot : Place → Text → Bool → Slot
named_slot place name true = Slot.resource place name
named_slot place name false = Slot.value (Tree.named place name)

-- The view, whose names stand in the place, shows the name so, among as many types from the first on.
pub record ShowsName (place : Place) (view : View) (count : ℕ) (name : Text) (is_resource : Bool) : Type 0 where
  pub number : ℕ
  pub below : number < count
  pub shown : ShownType
  pub at : slice_get view.types number ≡ Some shown
  pub named : shown.name ≡ name
  pub slot : shown.slot ≡ named_slot place name is_resource

-- A name that is met in a view, behind as many of its types: the view shows it, or it was shown outside.
pub data IsMetInView (Outside : Place → Text → Bool → Type 0) (own : Place) (view : View) (count : ℕ) (place : Place) (name : Text)
    (is_resource : Bool) : Type 0 where
  inside : place ≡ own → ShowsName own view count name is_resource → IsMetInView Outside own view count place name is_resource
  outside : Outside place name is_resource → IsMetInView Outside own view count place name is_resource

-- a type that a view shows, behind as many others
pub record TypeStands (Outside : Place → Text → Bool → Type 0) (own : Place) (view : View) (count : ℕ) (shown : ShownType) : Type 0 where
  pub is_resource : Bool
  pub slot : shown.slot ≡ named_slot own shown.name is_resource
  pub declared : DeclarationStands (IsMetInView Outside own view count) shown.meaning.declaration is_resource

pub record ViewStands (Outside : Place → Text → Bool → Type 0) (own : Place) (view : View) : Type 0 where
  pub types : AllAt (TypeStands Outside own view) view.types
  pub functions : AllAt (λ n (f : Text × FunctionMeaning). SignatureStands (IsMetInView Outside own view (length view.types)) f.1.signature) view.functions

-- a scope of an instance type, as far as its declarations have been followed
pub record InstanceScopeStands (Outside : Place → Text → Bool → Type 0) (own : Place) (scope : InstanceScope) : Type 0 where
  pub slots : AllAt (λ n (s : Slot). SlotStands (IsMetInView Outside own scope.shown (length scope.shown.types)) s) scope.slots
  pub shown : ViewStands Outside own scope.shown
