-- What is well-formed stays so where more names are met.
use Rattle.std.proofs.{Common.rules as std_rules, Common.Bool, Common.true, Common.false, ByRecursion.All-weaker as recursion_weaker}
use Rattle.wit_model.specs.{Text.Text, Tree.Place, Tree.Tree, Tree.Trees, Meaning.Signature}
use Rattle.comp_meaning.specs.Follow.{Slot}
use Rattle.read_shown.specs.Trees.{is_handle, TreeStands, PartsStand, SignatureStands, DeclarationStands, SlotStands}
use Rattle.read_shown.proofs.Lists.{some_weaker}
use Rattle.wit_model.specs.Tree as tree

module _ (Met More : Place → Text → Bool → Type 0) (wider : (place : Place) (name : Text) (b : Bool) → Met place name b → More place name b) where
  mutual
    pub tree_wider : (t : Tree) → TreeStands Met t → TreeStands More t
    tree_wider (Tree.primitive p) h = tt
    tree_wider (Tree.named place name) h = wider place name false h
    tree_wider (Tree.node form ts) h = (h.0, parts_wider (is_handle form) ts h.1)

    parts_wider : (handle : Bool) (ts : Trees) → PartsStand Met handle ts → PartsStand More handle ts
    parts_wider true ts h = search std_rules
    parts_wider false Trees.no_children h = tt
    parts_wider false (Trees.child t ts) h = (tree_wider t h.0, parts_wider false ts h.1)

  pub signature_wider : (f : Signature) → SignatureStands Met f → SignatureStands More f
  signature_wider f h = search (std_rules, recursion_weaker, tree_wider, some_weaker)

  pub declaration_wider : (d : tree.TypeDeclaration) (b : Bool) → DeclarationStands Met d b → DeclarationStands More d b
  declaration_wider (tree.TypeDeclaration.type_ (Tree.named place name)) b h = wider place name b h
  declaration_wider (tree.TypeDeclaration.type_ (Tree.node form ts)) b h = (h.0, tree_wider (Tree.node form ts) h.1)
  declaration_wider _ b h = h

  pub slot_wider : (s : Slot) → SlotStands Met s → SlotStands More s
  slot_wider (Slot.value t) h = tree_wider t h
  slot_wider (Slot.resource place name) h = wider place name true h
  slot_wider (Slot.function f) h = signature_wider f h
  slot_wider (Slot.instance ds around) h = tt
