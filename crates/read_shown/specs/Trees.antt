-- Trees that are well-formed over the names that are met: forms have their parts, handles are of resources, and all other parts are types of
-- values (Explainer.md, "Type Definitions"; Binary.md, "Type Definitions").
use Rattle.std.specs.Prelude.{◌≡◌, ℕ, zero, suc, Bool, true, false, ◌&&◌, ◌==◌, nat_le, List, [], ◌∷◌, length, map, IfSome, slice_get, Some}
use Rattle.std.specs.List.{AllByRecursion}
use Rattle.wit_model.specs.{Text.Text, Tree.Place, Tree.Form, Tree.Tree, Tree.Trees, Tree.child_list, Meaning.Signature}
use Rattle.comp_meaning.specs.Follow.{Slot, is_filled, is_key}
use Rattle.wit_model.specs.Tree as tree

-- P of each item of the list and its number
abbrev pub AllAt : {A : Type 0} → (ℕ → A → Type 0) → List A → Type 0
AllAt {A} P xs = (number : ℕ) (x : A) → slice_get xs number ≡ Some x → P number x

abbrev pub begins_with_key : List Tree → Bool
begins_with_key [] = false
begins_with_key (t ∷ ts) = is_key t

-- how many are true
abbrev pub count_true : List Bool → ℕ
count_true [] = zero
count_true (true ∷ bs) = suc (count_true bs)
count_true (false ∷ bs) = count_true bs

-- The parts are as many as the form has. Records, variants, flags, enums and tuples aren't empty, a fixed length is at least 1, and a map's key
-- is directly a primitive that serves as one.
abbrev pub is_formed : Form → List Tree → Bool
is_formed (Form.record_of names) ts = is_filled names && length ts == length names
is_formed (Form.variant_of cases) ts = is_filled cases && length ts == count_true (map (λ c. c.1) cases)
is_formed (Form.fixed_list_of n) ts = nat_le 1 n && length ts == 1
is_formed Form.map_of ts = begins_with_key ts && length ts == 2
is_formed Form.tuple_of ts = is_filled ts
is_formed (Form.flags_of names) ts = is_filled names && length ts == 0
is_formed (Form.enum_of names) ts = is_filled names && length ts == 0
is_formed (Form.result_of ok err) ts = length ts == count_true (ok ∷ err ∷ [])
is_formed (Form.future_of element) ts = length ts == count_true (element ∷ [])
is_formed (Form.stream_of element) ts = length ts == count_true (element ∷ [])
is_formed _ ts = length ts == 1

abbrev pub is_handle : Form → Bool
is_handle Form.own_of = true
is_handle Form.borrow_of = true
is_handle _ = false

-- The names that are met: whether one of a place is met as a resource, or as a type of values.
module _ (Met : Place → Text → Bool → Type 0) where
  -- the one part of a handle
  abbrev pub HandleStands : Trees → Type 0
  HandleStands (Trees.child (Tree.named place name) Trees.no_children) = Met place name true
  HandleStands _ = ⊥

  -- a type of values
  abbrev mutual
    pub TreeStands : Tree → Type 0
    TreeStands (Tree.primitive p) = Unit
    TreeStands (Tree.named place name) = Met place name false
    TreeStands (Tree.node form ts) = (is_formed form (child_list ts) ≡ true) × PartsStand (is_handle form) ts

    pub PartsStand : Bool → Trees → Type 0
    PartsStand true ts = HandleStands ts
    PartsStand false Trees.no_children = Unit
    PartsStand false (Trees.child t ts) = TreeStands t × PartsStand false ts

  abbrev pub SignatureStands : Signature → Type 0
  SignatureStands f = AllByRecursion (λ p. TreeStands p.1) f.params × IfSome f.result TreeStands

  -- what a name is declared as, where it is a resource, or none: another name is of the kind of what it names
  abbrev pub DeclarationStands : tree.TypeDeclaration → Bool → Type 0
  DeclarationStands tree.TypeDeclaration.resource is_resource = is_resource ≡ true
  DeclarationStands (tree.TypeDeclaration.type_ (Tree.primitive p)) is_resource = is_resource ≡ false
  DeclarationStands (tree.TypeDeclaration.type_ (Tree.named place name)) is_resource = Met place name is_resource
  DeclarationStands (tree.TypeDeclaration.type_ (Tree.node form ts)) is_resource = (is_resource ≡ false) × TreeStands (Tree.node form ts)

  -- what an index stands for
  abbrev pub SlotStands : Slot → Type 0
  SlotStands (Slot.value t) = TreeStands t
  SlotStands (Slot.resource place name) = Met place name true
  SlotStands (Slot.function f) = SignatureStands f
  SlotStands (Slot.instance ds around) = Unit
