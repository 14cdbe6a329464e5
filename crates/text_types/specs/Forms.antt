-- What trees of types are before they have numbers.
use Rattle.std.specs.Prelude.{◌≡◌, List, [], ◌∷◌}
use Rattle.wit_model.specs.Text.{Text}
use Rattle.wit_model.specs.declared.model.{TypeDef.TypeDef, TypeDefKind.TypeDefKind, TypeId.TypeId, TypeOwner.TypeOwner}
use Rattle.print_grammar.specs.Keyword.{PrimitiveName}
use Rattle.print_grammar.specs.Tree.{TypeTree, TypeTrees, TypeTrees.NoTypes, TypeTrees.AndTypes, TypeTree.PrimitiveType, TypeTree.Name, TypeTree.Own}
use Rattle.text_trees.specs.declared.tree.TypeTree.{TypeTree as CodeTree}
use Rattle.text_trees.specs.TreesSeen.{type_of}
use Rattle.text_types.specs.declared.lowering.Form.{Form}
use Rattle.text_types.specs.declared.lowering.Form.TheVariants as form
use Rattle.text_types.specs.{Plain.plain_type, Plain.plain_alias, Stands.FormIs, Stands.NameAt, Stands.OwnNameAt, Stands.value_of}

-- the types of a tuple
abbrev pub types_seen : Text → List CodeTree → TypeTrees
types_seen text [] = NoTypes
types_seen text (tree ∷ trees) = AndTypes (type_of text tree) (types_seen text trees)

-- A form is that of a tree. The type of a name belongs to this owner.
pub data IsForm (defs : List TypeDef) (owner : TypeOwner) : TypeTree → Form → Type 0 where
  plain : (p : PrimitiveName) → IsForm defs owner (PrimitiveType p) (form.Plain (value_of p))
  a_name : {id : TypeId} {name : Text} → OwnNameAt defs owner id name → IsForm defs owner (Name name) (form.Name id)
  own : {id : TypeId} {name : Text} → NameAt defs id name → IsForm defs owner (Own name) (form.Own id)
  a_kind : {tree : TypeTree} {kind : TypeDefKind} → FormIs defs (plain_type tree) kind → plain_alias tree ≡ plain_type tree
      → IsForm defs owner tree (form.Kind kind)
