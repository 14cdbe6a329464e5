-- Kinds of types: what each is made of, and how the encoder treats it (Component Model Binary.md, "Type Definitions").
use Rattle.std.specs.Prelude.{Bool, true, false, List, [], ◌∷◌}
use Rattle.wit_model.specs.declared.model.{TypeDefKind.TypeDefKind, «Type».«Type» as ValueType, Resolve.Resolve, Param.Param}
use Rattle.wit_model.specs.{Parts.member_types, Text.Text, Text.text_of, Types.trees_of, Types.type_tree, Types.declared_by, Types.tree_of_declaration}
use Rattle.wit_model.specs.Tree.{Tree}
use Rattle.encode_types.specs.declared.shape.Shape.{Shape}
use Rattle.wit_model.specs.declared.model.TypeDefKind.TheVariants as kind
use Rattle.wit_model.specs.declared.model.«Type».TheVariants as ty
use Rattle.wit_model.specs.declared.model.Handle.TheVariants as handle
use Rattle.encode_types.specs.declared.shape.Shape.TheVariants as shape

-- the types that a kind is made of, in order
abbrev pub parts_of : TypeDefKind → List ValueType
parts_of (kind.Handle (handle.Own id)) = ty.Id id ∷ []
parts_of (kind.Handle (handle.Borrow id)) = ty.Id id ∷ []
parts_of (kind.Type_ t) = t ∷ []
parts_of k = member_types k

-- the kinds that have a form of their own: all but resources and aliases
abbrev pub has_form : TypeDefKind → Bool
has_form kind.Resource = false
has_form (kind.Type_ t) = false
has_form k = true

-- the kinds that take a definition of their own under a name: a resource is fresh, and an alias of a number takes what is there
abbrev pub has_definition : TypeDefKind → Bool
has_definition kind.Resource = false
has_definition (kind.Type_ (ty.Id id)) = false
has_definition k = true

-- the kind that a shape is a view of
abbrev pub kind_of : Shape → TypeDefKind
kind_of (shape.Record x) = kind.Record x.now
kind_of (shape.Flags x) = kind.Flags x.now
kind_of (shape.Tuple x) = kind.Tuple x.now
kind_of (shape.Variant x) = kind.Variant x.now
kind_of (shape.Enum x) = kind.Enum x.now
kind_of (shape.Option t) = kind.Option t
kind_of (shape.Result x) = kind.Result x.now
kind_of (shape.List t) = kind.List t
kind_of (shape.Map k t) = kind.Map k t
kind_of (shape.FixedLengthList t n) = kind.FixedLengthList t n
kind_of (shape.Future t) = kind.Future t
kind_of (shape.Stream t) = kind.Stream t
kind_of (shape.Handle h) = kind.Handle h

-- the tree of an unnamed type of this kind
abbrev pub kind_tree : Resolve → TypeDefKind → Tree
kind_tree r k = tree_of_declaration (declared_by (trees_of r) k)

-- a parameter: its name with its tree
abbrev pub named_tree : Resolve → Param → Text × Tree
named_tree r p = (text_of p.name, type_tree r p.ty)
