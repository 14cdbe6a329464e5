-- Which trees can be defined in a scope (Component Model Binary.md, "Type Validation").
use Rattle.std.specs.Prelude.{◌≡◌, Bool, true, false, not, ◌&&◌, nat_le, List, [], ◌∷◌, map, option_to_list}
use Rattle.std.specs.List.{list_all}
use Rattle.wit_model.specs.Tree.{Tree, child_list, primitive, named, node, Form, record_of, variant_of, list_of, fixed_list_of, option_of, own_of, borrow_of, map_of, tuple_of, flags_of, enum_of, result_of, future_of, stream_of}
use Rattle.wit_model.specs.Meaning.{Signature}
use Rattle.comp_meaning.specs.Follow.{is_key, is_filled}
use Rattle.encode_types.specs.{Resources.Names, Resources.is_resource_tree, Scope.Scope}

-- whether no resource is among these trees
abbrev pub are_values : Names → List Tree → Bool
are_values resources ts = list_all (λ t. not (is_resource_tree resources t)) ts

-- whether the first of these trees can be the key of a map
abbrev pub has_key : List Tree → Bool
has_key [] = false
has_key (t ∷ ts) = is_key t

-- Whether a form with its children is well-formed. Records, variants, flags, enums and tuples aren't empty, and a fixed length is at least 1. A
-- map's key is directly a primitive that serves as one. A handle is of a resource, and nothing else is.
abbrev pub is_formed_node : Names → Form → List Tree → Bool
is_formed_node resources (record_of labels) ts = is_filled labels && are_values resources ts
is_formed_node resources (variant_of cases) ts = is_filled cases && are_values resources ts
is_formed_node resources list_of ts = are_values resources ts
is_formed_node resources (fixed_list_of n) ts = nat_le 1 n && are_values resources ts
is_formed_node resources option_of ts = are_values resources ts
is_formed_node resources own_of ts = list_all (is_resource_tree resources) ts
is_formed_node resources borrow_of ts = list_all (is_resource_tree resources) ts
is_formed_node resources map_of ts = has_key ts && are_values resources ts
is_formed_node resources tuple_of ts = is_filled ts && are_values resources ts
is_formed_node resources (flags_of names) ts = is_filled names
is_formed_node resources (enum_of names) ts = is_filled names
is_formed_node resources (result_of ok err) ts = are_values resources ts
is_formed_node resources (future_of element) ts = are_values resources ts
is_formed_node resources (stream_of element) ts = are_values resources ts

-- whether a tree can be defined, at its top: a name is no definition
abbrev pub is_formed : Names → Tree → Bool
is_formed resources (primitive p) = true
is_formed resources (named place name) = false
is_formed resources (node form ts) = is_formed_node resources form (child_list ts)

-- a tree can be defined in a scope
pub record IsFormed (scope : Scope) (t : Tree) : Type 0 where
  pub sound : scope.is_sound ≡ true
  pub formed : is_formed scope.resources t ≡ true

-- the type of a function can be defined in a scope: it takes and gives no resource by itself
pub record IsFormedSignature (scope : Scope) (s : Signature) : Type 0 where
  pub sound : scope.is_sound ≡ true
  pub params : are_values scope.resources (map (λ p. p.1) s.params) ≡ true
  pub result_ : are_values scope.resources (option_to_list s.result) ≡ true
