-- Words of the checks: what one list of a `Resolve` keeps, and tables by number.
use Rattle.std.specs.Prelude.{◌≡◌, ℕ, ◌+◌, min, max, Bool, true, false, ◌||◌, nat_lt, nat_le, position, string_bytes, List, [], ◌∷◌, unwrap_or, slice_get, filter_map, flat_map, option_map, option_and_then}
use Rattle.std.specs.{List.list_all, Option.option_map_or, HashMap.keys, HashMap.get_by, HashMap.get_by_text, Str.bytes_eq}
use Rattle.wit_model.specs.declared.{error.EntryList.EntryList, model.WorldKey.WorldKey, model.TypeOwner.TypeOwner, model.TypeDefKind.TypeDefKind}
use Rattle.wit_model.specs.declared.model.{Resolve.Resolve, Function.Function, TypeDef.TypeDef}
use Rattle.wit_model.specs.{Text.Text, Text.text_of, Text.text_eq, Parts.kind_numbers, Parts.function_types, Parts.same_owner, Parts.met_by, Parts.met_of}
use Rattle.wit_model.specs.{Lookup.type_at, Lookup.interface_at, Lookup.world_at, Types.number_of}
use Rattle.wit_model.specs.Rules.{each_from, passes, is_id, is_name_key, item_type, is_named_of, interface_type_numbers, world_type_numbers, is_listed, are_in_order, is_use}
use Rattle.wit_model.specs.Valid.{Rule, Keeps, free, as_interface, as_world, order_of_types, shapes, named_kinds, handles, depths, owners}
use Rattle.wit_model.specs.declared.error.EntryList.TheVariants as lists
use Rattle.wit_model.specs.declared.model.TypeOwner.TheVariants as owner
use Rattle.wit_model.specs.declared.model.TypeDefKind.TheVariants as kind

-- every entry of the list passes the tests of the rule
abbrev pub KeepsIn : Rule → Resolve → EntryList → Type 0
KeepsIn rule r lists.Packages = each_from (rule.package_ r) 0 r.packages.items ≡ true
KeepsIn rule r lists.Interfaces = each_from (rule.interface_ r) 0 r.interfaces.items ≡ true
KeepsIn rule r lists.Worlds = each_from (rule.world_ r) 0 r.worlds.items ≡ true
KeepsIn rule r lists.Types = each_from (rule.type_ r) 0 r.types.items ≡ true

-- the first part of the rule on the order of types: a type refers to smaller type numbers alone
unfoldable pub references : Rule
references = record {
  package_ = free;
  interface_ = free;
  world_ = free;
  type_ = λ r n def. list_all (λ m. nat_lt m n) (kind_numbers def.kind);
}

-- the marks of a table, and none past its end
abbrev pub flags : List Bool → ℕ → Bool
flags table n = unwrap_or (slice_get table n) false

-- the numbers of the types of a function's parameters and result
abbrev pub values_of : Function → List ℕ
values_of f = filter_map number_of (function_types f)

-- the same of several functions
abbrev pub all_values : List Function → List ℕ
all_values fs = flat_map values_of fs

-- ---- levels

-- the entry of a table of numbers, and 0 past its end
abbrev pub entry_of : List ℕ → ℕ → ℕ
entry_of table n = unwrap_or (slice_get table n) 0

-- the greatest entry of the numbers
abbrev pub highest : (ℕ → ℕ) → List ℕ → ℕ
highest f [] = 0
highest f (n ∷ ns) = max (f n) (highest f ns)

-- the unnamed levels of a kind, from the greatest of the numbers in it
abbrev pub levels_above : ℕ → TypeDefKind → ℕ
levels_above h kind.Resource = 0
levels_above h (kind.Type_ t) = h
levels_above h _ = h + 1

-- the unnamed levels of a type, from those of smaller numbers. More than 100 count as 101
abbrev pub capped_levels : (ℕ → ℕ) → TypeDef → ℕ
capped_levels f def = option_map_or (λ name. 0) def.name (min 101 (levels_above (highest f (kind_numbers def.kind)) def.kind))

-- ---- owners' lists

-- whether the type of this number has the name, if there is such a type
abbrev pub has_name : Resolve → (Text → Bool) → ℕ → Bool
has_name r test n = passes (λ def. option_map_or (λ name. test (text_of name)) def.name false) (type_at r n)

abbrev pub key_fits : WorldKey → Text → Bool
key_fits k name = is_name_key name k

-- the types of an owner's list stand under their own names
unfoldable pub names_fit : Rule
names_fit = record {
  package_ = free;
  interface_ = λ r n i. list_all (λ e. has_name r (λ name. text_eq name (text_of e.0)) e.1.0) i.types.entries;
  world_ = λ r n w. list_all (λ e. passes (has_name r (key_fits e.0)) (item_type e.1)) w.imports.entries;
  type_ = free;
}

-- The second part of the rule on the order of types. A named type stands in its owner's list under its name, and under no other.
-- An unnamed type has no owner, and an owner's list holds named types of that owner alone.
unfoldable pub listings : Rule
listings = record {
  package_ = free;
  interface_ = λ r n i. list_all (is_named_of r (as_interface n)) (interface_type_numbers i);
  world_ = λ r n w. list_all (is_named_of r (as_world n)) (world_type_numbers w);
  type_ = λ r n def. option_map_or (λ name. is_listed r n (text_of name) def.owner) def.name (same_owner def.owner owner.None);
}

-- whether the type of this number stands in its owner's list under this name
abbrev pub is_found : Resolve → ℕ → Text → TypeOwner → Bool
is_found r n name (owner.Interface id) = passes (λ i. is_id n (option_map (λ id. id.0) (get_by_text i.types name))) (interface_at r id.0)
is_found r n name (owner.World id) = passes (λ w. is_id n (option_and_then item_type (get_by (is_name_key name) w.imports))) (world_at r id.0)
is_found r n name owner.None = false

-- the third part: a named type that another of the same list uses stands earlier in it
unfoldable pub list_orders : Rule
list_orders = record {
  package_ = free;
  interface_ = λ r n i. are_in_order r (interface_type_numbers i);
  world_ = λ r n w. are_in_order r (world_type_numbers w);
  type_ = free;
}

-- ---- the order of an owner's list

-- the place of a name in an owner's list, counted from 1; 0 where it isn't there
abbrev pub rank_in : Resolve → Text → TypeOwner → ℕ
rank_in r name (owner.Interface id) = option_map_or (λ i. option_map_or (λ k. k + 1) (position (λ k. bytes_eq name (string_bytes k)) (keys i.types)) 0)
    (interface_at r id.0) 0
rank_in r name (owner.World id) = option_map_or (λ w. option_map_or (λ k. k + 1) (position (is_name_key name) (keys w.imports)) 0) (world_at r id.0) 0
rank_in r name owner.None = 0

-- the place of a type in its owner's list
abbrev pub rank_of : Resolve → ℕ → ℕ
rank_of r n = option_map_or (λ def. option_map_or (λ name. rank_in r (text_of name) def.owner) def.name 0) (type_at r n) 0

-- the greatest place of the named types that are met at a number
abbrev pub reach_of : Resolve → ℕ → ℕ
reach_of r n = highest (rank_of r) (met_by (met_of r) n)

-- whether what a type uses stands before its place in the list, or it is a use, by what each number reaches
abbrev pub stands_in_order : Resolve → (ℕ → ℕ) → ℕ → ℕ → Bool
stands_in_order r reach place n = passes (λ def. is_use r def || nat_le (highest reach (kind_numbers def.kind)) place) (type_at r n)

-- the rules on types
pub record KeepsTypes (r : Resolve) : Type 0 where
  pub order_of_types : Keeps order_of_types r
  pub owners : Keeps owners r
  pub shapes : Keeps shapes r
  pub named_kinds : Keeps named_kinds r
  pub handles : Keeps handles r
  pub depths : Keeps depths r
