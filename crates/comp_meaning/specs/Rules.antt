-- What a package that is read has to obey: the rules of WIT.md on names, types and functions, on what the imports and exports show.
use Rattle.std.specs.Prelude.{ℕ, Bool, true, false, not, ◌&&◌, ◌||◌, nat_le, if◌then◌else◌, List, [], ◌∷◌, ◌++◌, length, map, drop, Option, Some, None, codes, nat_eq}
use Rattle.std.specs.List.{list_all, list_any, flat_map, starts_with}
use Rattle.wit_model.specs.{Text.Text, Text.text_eq, Names.is_label, Names.constructor_name, Names.method_name, Names.static_name, Meaning.Signature}
use Rattle.wit_model.specs.Tree.{Place, Form, Tree, Trees, TypeDeclaration, levels, deepest}
use Rattle.comp_meaning.specs.Same.{same_place, same_tree}
use Rattle.comp_meaning.specs.Follow.{View, ShownType, Seen, Shown, Key, Scope, instance_place, interface_of}
use Rattle.wit_model.specs.Tree as tree

-- ---- names

-- whether no text stands twice
abbrev pub distinct : List Text → Bool
distinct [] = true
distinct (x ∷ xs) = not (list_any (text_eq x) xs) && distinct xs

-- whether these are labels, of which none stands twice
abbrev pub are_labels : List Text → Bool
are_labels names = list_all is_label names && distinct names

-- ---- types

-- whether only a named type may have this form
abbrev pub is_named_form : Form → Bool
is_named_form (Form.record_of _) = true
is_named_form (Form.variant_of _) = true
is_named_form (Form.flags_of _) = true
is_named_form (Form.enum_of _) = true
is_named_form _ = false

-- the labels in a form: names of fields, cases or flags
abbrev pub form_labels : Form → List Text
form_labels (Form.record_of names) = names
form_labels (Form.variant_of cases) = map (λ c. c.0) cases
form_labels (Form.flags_of names) = names
form_labels (Form.enum_of names) = names
form_labels _ = []

-- Whether a type may be a part of another, or of a function: names in it are of this place, and records, variants, flags and enums are named.
abbrev mutual
  pub is_part : Place → Tree → Bool
  is_part place (Tree.primitive p) = true
  is_part place (Tree.named q name) = same_place place q
  is_part place (Tree.node form ts) = not (is_named_form form) && are_parts place ts

  -- whether types may be parts of another, each of them
  pub are_parts : Place → Trees → Bool
  are_parts place Trees.no_children = true
  are_parts place (Trees.child t ts) = is_part place t && are_parts place ts

-- the most unnamed levels of a part, a payload, a parameter or a result
abbrev pub most_levels : ℕ
most_levels = 100

-- Whether a name may be declared so: as a resource, a primitive, another name, also of another interface, or a form.
abbrev pub is_declared : Place → TypeDeclaration → Bool
is_declared place TypeDeclaration.resource = true
is_declared place (TypeDeclaration.type_ (Tree.primitive p)) = true
is_declared place (TypeDeclaration.type_ (Tree.named q name)) = true
is_declared place (TypeDeclaration.type_ (Tree.node form ts)) = are_labels (form_labels form) && are_parts place ts && nat_le (deepest ts) most_levels

-- ---- functions

-- whether a type may be a parameter's: a part of at most 100 unnamed levels
abbrev pub is_parameter_type : Place → Tree → Bool
is_parameter_type place t = is_part place t && nat_le (levels t) most_levels

-- whether a function may have this result, or none
abbrev pub is_result_type : Place → Option Tree → Bool
is_result_type place None = true
is_result_type place (Some t) = is_parameter_type place t

-- whether a signature is well-formed: labels that differ, and types that may stand there
abbrev pub is_signature : Place → Signature → Bool
is_signature place f =
    are_labels (map (λ p. p.0) f.params) && list_all (λ p. is_parameter_type place p.1) f.params && is_result_type place f.result

-- an own of the resource of this name
abbrev pub own_of_name : Place → Text → Tree
own_of_name place name = tree.own_tree (Tree.named place name)

-- a borrow of the resource of this name
abbrev pub borrow_name : Place → Text → Tree
borrow_name place name = tree.borrow_tree (Tree.named place name)

-- whether a name is this prefix and then a label
abbrev pub is_label_behind : Text → Text → Bool
is_label_behind front name = starts_with nat_eq name front && is_label (drop (length front) name)

-- whether the first parameter is `self`, of this type
abbrev pub begins_with_self : Tree → List (Text × Tree) → Bool
begins_with_self self [] = false
begins_with_self self (p ∷ ps) = text_eq p.0 (codes "self") && same_tree p.1 self

-- whether a constructor may answer this: an own of the resource, or a result whose ok is one
abbrev pub may_construct : Tree → Option Tree → Bool
may_construct own None = false
may_construct own (Some (Tree.node (Form.result_of true err) (Trees.child t ts))) = same_tree t own
may_construct own (Some t) = same_tree t own

-- Whether a function is one of the resource: `[constructor]r`, which is not asynchronous, `[method]r.f` or `[static]r.f`, with a label f.
abbrev pub is_function_of : Place → Text → Signature → Text → Bool
is_function_of place name f resource =
    (text_eq name (constructor_name resource) && not f.is_async && may_construct (own_of_name place resource) f.result)
    || (is_label_behind (method_name resource []) name && begins_with_self (borrow_name place resource) f.params)
    || is_label_behind (static_name resource []) name

-- Whether a function is well-formed: it is freestanding, or one of these resources has it.
abbrev pub is_function : Place → List Text → Text → Signature → Bool
is_function place resources name f = is_signature place f && (is_label name || list_any (is_function_of place name f) resources)

-- ---- interfaces

-- whether a name is declared as a resource
abbrev pub declares_a_resource : TypeDeclaration → Bool
declares_a_resource TypeDeclaration.resource = true
declares_a_resource (TypeDeclaration.type_ t) = false

-- the names of the resources among the types of an interface
abbrev pub resources_of : List ShownType → List Text
resources_of [] = []
resources_of (t ∷ ts) = if declares_a_resource t.meaning.declaration then t.name ∷ resources_of ts else resources_of ts

-- whether the types and the functions of a view are well-formed, and their names are of this place and differ
abbrev pub is_interface : Place → View → Bool
is_interface place view =
    list_all (λ t. is_label t.name && is_declared place t.meaning.declaration) view.types
    && list_all (λ f. is_function place (resources_of view.types) f.0 f.1.signature) view.functions
    && distinct (map (λ t. t.name) view.types ++ map (λ f. f.0) view.functions)

-- ---- what uses what

-- the path of the interface whose type a declaration aliases
abbrev pub used_by : TypeDeclaration → List Text
used_by (TypeDeclaration.type_ (Tree.named (Place.of_interface path) name)) = path ∷ []
used_by _ = []

-- the paths of the interfaces whose types the types of a view alias
abbrev pub used_by_view : View → List Text
used_by_view view = flat_map (λ t. used_by t.meaning.declaration) view.types

-- these paths without an interface's own
abbrev pub others_than : Option Text → List Text → List Text
others_than None paths = paths
others_than (Some own) [] = []
others_than (Some own) (p ∷ ps) = if text_eq own p then others_than (Some own) ps else p ∷ others_than (Some own) ps

-- the interfaces that an import or an export uses, its own not counted
abbrev pub uses : Seen → List Text
uses seen = uses_of seen.shown
  where
    uses_of : Shown → List Text
    uses_of (Shown.instance key view) = others_than (interface_of key) (used_by_view view)
    uses_of (Shown.function f) = []
    uses_of (Shown.declares d) = used_by d

-- ---- worlds

-- the path that an import or an export stands for
abbrev pub path_seen : Shown → List Text
path_seen (Shown.instance (Key.path p) view) = p ∷ []
path_seen (Shown.instance (Key.implementing l p) view) = p ∷ []
path_seen _ = []

-- whether each interface that an import or an export uses stands earlier
abbrev pub stand_earlier : List Text → List Seen → Bool
stand_earlier earlier [] = true
stand_earlier earlier (s ∷ rest) = list_all (λ p. list_any (text_eq p) earlier) (uses s) && stand_earlier (earlier ++ path_seen s.shown) rest

-- the resources that a world's imports declare, by name
abbrev pub resources_seen : List Seen → List Text
resources_seen [] = []
resources_seen (s ∷ rest) = if is_resource_seen s.shown then s.key ∷ resources_seen rest else resources_seen rest
  where
    is_resource_seen : Shown → Bool
    is_resource_seen (Shown.declares d) = declares_a_resource d
    is_resource_seen _ = false

-- whether an import or an export of a world is well-formed, where these resources were imported before it
abbrev pub is_item : List Text → Text → Shown → Bool
is_item resources key (Shown.instance k view) = is_interface (instance_place (interface_of k)) view
is_item resources key (Shown.function f) = is_function Place.here resources key f
is_item resources key (Shown.declares d) = is_label key && is_declared Place.here d

-- whether each import of a world is well-formed, behind those before it
abbrev pub are_imports : List Seen → List Seen → Bool
are_imports earlier [] = true
are_imports earlier (s ∷ rest) = is_item (resources_seen earlier) s.key s.shown && are_imports (earlier ++ s ∷ []) rest

-- whether the imports and the exports of a world are well-formed, and what they use stands before them
abbrev pub is_world : Scope → Bool
is_world scope =
    are_imports [] scope.imports
    && list_all (λ s. is_item [] s.key s.shown) scope.exports
    && distinct (map (λ s. s.key) scope.imports)
    && distinct (map (λ s. s.key) scope.exports)
    && stand_earlier [] (scope.imports ++ scope.exports)
