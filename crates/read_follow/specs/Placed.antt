-- Names in their places: the places that what is followed is over, what stands for a name under which it is shown, and the order in which
-- names come into the table (Binary.md, "Index Spaces" and "Import and Export Definitions").
use Rattle.std.specs.Prelude.{◌≡◌, ◌⊎◌, ◌<◌, ◌+◌, ℕ, Bool, true, List, [], ◌∷◌, Some, IfSome, slice_get}
use Rattle.std.specs.List.{AllByRecursion, Contains}
use Rattle.wit_model.specs.{Meaning.FunctionMeaning, Meaning.Signature, Text.Text, Tree.Place, Tree.Tree}
use Rattle.comp_meaning.specs.Follow.{ShownType as MeantType, View as MeantView, Slot as Meant, value, resource, function, instance}
use Rattle.read_follow.specs.declared.{slots.Slot.Slot, views.ShownType.ShownType}
use Rattle.read_follow.specs.Facts.{places}
use Rattle.plan_meaning.specs.Shapes.{Shape, named_shape}
use Rattle.wit_model.specs.Tree as tree
use Rattle.read_follow.specs.declared.slots.Slot.TheVariants as slots

-- ---- the places of the names in trees

-- a place of its own for each number
abbrev pub apart : ℕ → Place
apart n = Place.of_interface (n ∷ [])

module _ (P : Place → Type 0) where
  -- each name in it is in a place that passes
  abbrev pub TreeOver : Tree → Type 0
  TreeOver t = (x : Place) → Contains (places t) x → P x

  abbrev pub SignatureOver : Signature → Type 0
  SignatureOver f = AllByRecursion (λ (p : Text × Tree). TreeOver p.1) f.params × IfSome f.result TreeOver

  abbrev pub DeclarationOver : tree.TypeDeclaration → Type 0
  DeclarationOver tree.TypeDeclaration.resource = Unit {0}
  DeclarationOver (tree.TypeDeclaration.type_ t) = TreeOver t

  abbrev pub SlotOver : Meant → Type 0
  SlotOver (value t) = TreeOver t
  SlotOver (resource place name) = P place
  SlotOver (function f) = SignatureOver f
  SlotOver (instance ds n) = Unit {0}

  abbrev pub TypeOver : MeantType → Type 0
  TypeOver t = DeclarationOver t.meaning.declaration

  abbrev pub FunctionOver : Text × FunctionMeaning → Type 0
  FunctionOver f = SignatureOver f.1.signature

  -- all that a view declares, and all that its functions take and give
  pub record ViewOver (v : MeantView) : Type 0 where
    pub types : AllByRecursion TypeOver v.types
    pub functions : AllByRecursion FunctionOver v.functions

-- the own place, or one that is marked
abbrev pub IsOwnOrMarked : List Bool → ℕ → ℕ → Type 0
IsOwnOrMarked marks here q = (q ≡ here) ⊎ (slice_get marks q ≡ Some true)

-- a place whose number is that of the own place, or of one that is marked
abbrev pub MayMeet : List Bool → ℕ → Place → Type 0
MayMeet marks here x = (q : ℕ) → x ≡ apart q → IsOwnOrMarked marks here q

-- ---- names

-- the part is this name in the place
pub record IsNameAs (shapes : List Shape) (place : ℕ) (name : Text) (part : ℕ) : Type 0 where
  pub number : ℕ
  pub is : part ≡ 14 + number
  pub at : slice_get shapes number ≡ Some (named_shape place name)

-- the part of the slot of a type
abbrev pub slot_part : Slot → ℕ
slot_part (slots.Value part) = part
slot_part (slots.Resource part) = part
slot_part (slots.Function n) = 0
slot_part (slots.Instance b n) = 0

-- what is shown stands for the name under which it is
abbrev pub IsTypeNamed : List Shape → ℕ → ShownType → Type 0
IsTypeNamed shapes place t = IsNameAs shapes place t.name.now (slot_part t.slot)

-- no name of the place stands in the table
abbrev pub HasNoNames : ℕ → List Shape → Type 0
HasNoNames place shapes = (n : ℕ) (name : Text) → slice_get shapes n ≡ Some (named_shape place name) → ⊥

-- ---- order

-- one of the types is shown under the name, and is the part
pub record IsShownAmong (ts : List ShownType) (name : Text) (part : ℕ) : Type 0 where
  pub number : ℕ
  pub type : ShownType
  pub at : slice_get ts number ≡ Some type
  pub named : type.name.now ≡ name
  pub is : slot_part type.slot ≡ part

-- an earlier type has the name
pub record IsRepeated (ts : List ShownType) (j : ℕ) (t : ShownType) : Type 0 where
  pub number : ℕ
  pub other : ShownType
  pub earlier : number < j
  pub at : slice_get ts number ≡ Some other
  pub same : other.name.now ≡ t.name.now

-- its name comes behind what it is declared as, and behind the names that are shown before it
pub record ComesBehind (ts : List ShownType) (j : ℕ) (t : ShownType) : Type 0 where
  pub declared : IfSome t.declared (λ k. k < slot_part t.slot)
  pub others : (i : ℕ) (u : ShownType) → slice_get ts i ≡ Some u → i < j → slot_part u.slot < slot_part t.slot

-- each name of the first view came in front of each of the other
abbrev pub ComeBefore : List ShownType → List ShownType → Type 0
ComeBefore ts us = (i j : ℕ) (t u : ShownType) → slice_get ts i ≡ Some t → slice_get us j ≡ Some u → slot_part t.slot < slot_part u.slot

-- each name comes behind, unless it was shown before
abbrev pub Rise : List ShownType → Type 0
Rise ts = (j : ℕ) (t : ShownType) → slice_get ts j ≡ Some t → IsRepeated ts j t ⊎ ComesBehind ts j t
