-- Worked examples: aliases, attributes, unused definitions, resources and levels.
use Rattle.std.proofs.Common.{◌≡◌, ℕ, List, [], ◌∷◌, ◌++◌, take, drop, false, true, refl}
use Rattle.std.specs.{List.list_all, List.list_any, Prelude.is_some}
use Rattle.wit_model.specs.Names.{cut as cut_at}
use Rattle.comp_meaning.proofs.Computing.{computes, lists_of, meaning, world_meaning_of, text, preamble, type_t, interface_j, exported_as, world_of}

-- a view may reach a type of its own interface through an instance that stood before
abbrev own_alias_fn : List ℕ
own_alias_fn = world_of 5 (1 ∷ 66 ∷ 4 ∷ 1 ∷ 121 ∷ 4 ∷ 0 ∷ 1 ∷ 116 ∷ 3 ∷ 0 ∷ 0 ∷ 1 ∷ 64 ∷ 1 ∷ 1 ∷ 120 ∷ 1 ∷ 1 ∷ 0 ∷ 4 ∷ 0 ∷ 1 ∷ 102 ∷ 1 ∷ 2 ∷ 3 ∷ 0 ∷ text "c:d/i" ++ 5 ∷ 0 ∷ 2 ∷ 3 ∷ 0 ∷ 0 ∷ 1 ∷ 116
    ∷ 1 ∷ 66 ∷ 5 ∷ 2 ∷ 3 ∷ 2 ∷ 1 ∷ 1 ∷ 1 ∷ 121 ∷ 4 ∷ 0 ∷ 1 ∷ 116 ∷ 3 ∷ 0 ∷ 1 ∷ 1 ∷ 64 ∷ 1 ∷ 1 ∷ 120 ∷ 0 ∷ 1 ∷ 0 ∷ 4 ∷ 0 ∷ 1 ∷ 102 ∷ 1 ∷ 3 ∷ 4 ∷ 0 ∷ text "c:d/i" ++ 5 ∷ 2 ∷ [])

-- the order of types counts, also where a name of the interface comes from another instance of it
abbrev own_alias_order : List ℕ
own_alias_order = world_of 5 (1 ∷ 66 ∷ 3 ∷ 1 ∷ 121 ∷ 4 ∷ 0 ∷ 1 ∷ 116 ∷ 3 ∷ 0 ∷ 0 ∷ 4 ∷ 0 ∷ 1 ∷ 115 ∷ 3 ∷ 0 ∷ 1 ∷ 3 ∷ 0 ∷ text "c:d/i" ++ 5 ∷ 0 ∷ 2 ∷ 3 ∷ 0 ∷ 0 ∷ 1 ∷ 116 ∷ 1 ∷ 66 ∷ 4 ∷ 2 ∷ 3 ∷ 2 ∷ 1
    ∷ 1 ∷ 4 ∷ 0 ∷ 1 ∷ 115 ∷ 3 ∷ 0 ∷ 0 ∷ 1 ∷ 121 ∷ 4 ∷ 0 ∷ 1 ∷ 116 ∷ 3 ∷ 0 ∷ 2 ∷ 4 ∷ 0 ∷ text "c:d/i" ++ 5 ∷ 2 ∷ [])

-- a name does not declare itself
abbrev own_alias_decl_t : List ℕ
own_alias_decl_t = world_of 5 (type_t ++ 3 ∷ 0 ∷ text "c:d/i" ++ 5 ∷ 0 ∷ 2 ∷ 3 ∷ 0 ∷ 0 ∷ 1 ∷ 116 ∷ 1 ∷ 66 ∷ 2 ∷ 2 ∷ 3 ∷ 2 ∷ 1 ∷ 1 ∷ 4 ∷ 0 ∷ 1 ∷ 116 ∷ 3 ∷ 0 ∷ 0 ∷ 4 ∷ 0 ∷ text "c:d/i" ++ 5 ∷ 2 ∷ [])

-- one interface under two labels and under its path
abbrev implements_twice : List ℕ
implements_twice = world_of 6 (type_t ++ 3 ∷ 2 ∷ 1 ∷ 120 ∷ 1 ∷ 0 ∷ text "c:d/j" ++ 5 ∷ 0 ∷ type_t ++ 3 ∷ 2 ∷ 1 ∷ 121 ∷ 1 ∷ 0 ∷ text "c:d/j" ++ 5 ∷ 1 ∷ type_t ++ 3 ∷ 0 ∷ text "c:d/j" ++ 5 ∷ 2 ∷ [])

-- a suffix completes the path that is implemented
abbrev suffix_on_implements : List ℕ
suffix_on_implements = world_of 2 (1 ∷ 66 ∷ 0 ∷ 3 ∷ 2 ∷ 1 ∷ 120 ∷ 2 ∷ 0 ∷ text "c:d/y@1" ++ 1 ∷ 4 ∷ 46 ∷ 48 ∷ 46 ∷ 48 ∷ 5 ∷ 0 ∷ [])

-- a suffix completes the path of an interface at the top, which is no world
abbrev iface_canonical : List ℕ
iface_canonical = preamble ++ 7 ∷ 34 ∷ 1 ∷ 65 ∷ 2 ∷ type_t ++ 4 ∷ 2 ∷ text "a:b/j@1" ++ 1 ∷ 1 ∷ 4 ∷ 46 ∷ 48 ∷ 46 ∷ 48 ∷ 5 ∷ 0 ∷ exported_as 106 0

-- an interface does not import itself
abbrev iface_self_import : List ℕ
iface_self_import = preamble ++ 7 ∷ 47 ∷ 1 ∷ 65 ∷ 4 ∷ type_t ++ 3 ∷ 0 ∷ text "a:b/j" ++ 5 ∷ 0 ∷ type_t ++ 4 ∷ 0 ∷ text "a:b/j" ++ 5 ∷ 1 ∷ exported_as 106 0

-- an import of an interface shows no functions
abbrev iface_import_fn : List ℕ
iface_import_fn = preamble ++ interface_j ++ 7 ∷ 67 ∷ 1 ∷ 65 ∷ 5 ∷ 1 ∷ 66 ∷ 4 ∷ 1 ∷ 121 ∷ 4 ∷ 0 ∷ 1 ∷ 116 ∷ 3 ∷ 0 ∷ 0 ∷ 1 ∷ 64 ∷ 0 ∷ 1 ∷ 0 ∷ 4 ∷ 0 ∷ 1 ∷ 102 ∷ 1 ∷ 2 ∷ 3 ∷ 0 ∷ text "a:b/j" ++ 5 ∷ 0
    ∷ 2 ∷ 3 ∷ 0 ∷ 0 ∷ 1 ∷ 116 ∷ 1 ∷ 66 ∷ 2 ∷ 2 ∷ 3 ∷ 2 ∷ 1 ∷ 1 ∷ 4 ∷ 0 ∷ 1 ∷ 116 ∷ 3 ∷ 0 ∷ 0 ∷ 4 ∷ 0 ∷ text "a:b/k" ++ 5 ∷ 2 ∷ exported_as 107 2

-- an alias that nothing uses reaches nothing
abbrev iface_reach_unused_outer : List ℕ
iface_reach_unused_outer = preamble ++ interface_j ++ 7 ∷ 49 ∷ 1 ∷ 65 ∷ 5 ∷ type_t ++ 3 ∷ 0 ∷ text "a:b/j" ++ 5 ∷ 0 ∷ 2 ∷ 3 ∷ 0 ∷ 0 ∷ 1 ∷ 116 ∷ 1 ∷ 66 ∷ 1 ∷ 2 ∷ 3 ∷ 2 ∷ 1 ∷ 1 ∷ 4 ∷ 0 ∷ text "a:b/k"
    ++ 5 ∷ 2 ∷ exported_as 107 2

-- definitions and aliases that nothing uses mean nothing
abbrev iface_unused_def : List ℕ
iface_unused_def = preamble ++ interface_j ++ 7 ∷ 70 ∷ 1 ∷ 65 ∷ 8 ∷ type_t ++ 3 ∷ 0 ∷ text "a:b/j" ++ 5 ∷ 0 ∷ 2 ∷ 3 ∷ 0 ∷ 0 ∷ 1 ∷ 116 ∷ 2 ∷ 3 ∷ 0 ∷ 0 ∷ 1 ∷ 116 ∷ 1 ∷ 64 ∷ 0 ∷ 1 ∷ 0 ∷ 1 ∷ 112 ∷ 1 ∷ 1
    ∷ 66 ∷ 2 ∷ 2 ∷ 3 ∷ 2 ∷ 1 ∷ 2 ∷ 4 ∷ 0 ∷ 1 ∷ 116 ∷ 3 ∷ 0 ∷ 0 ∷ 4 ∷ 0 ∷ text "a:b/k" ++ 5 ∷ 5 ∷ exported_as 107 2

-- an alias of a type of an inline instance
abbrev alias_of_inline : List ℕ
alias_of_inline = world_of 3 (type_t ++ 3 ∷ 0 ∷ 1 ∷ 121 ∷ 5 ∷ 0 ∷ 2 ∷ 3 ∷ 0 ∷ 0 ∷ 1 ∷ 116 ∷ [])

-- an outer alias of another count
abbrev outer_count0 : List ℕ
outer_count0 = world_of 5 (type_t ++ 3 ∷ 0 ∷ text "c:d/j" ++ 5 ∷ 0 ∷ 2 ∷ 3 ∷ 0 ∷ 0 ∷ 1 ∷ 116 ∷ 1 ∷ 66 ∷ 1 ∷ 2 ∷ 3 ∷ 2 ∷ 0 ∷ 1 ∷ 3 ∷ 0 ∷ 1 ∷ 121 ∷ 5 ∷ 2 ∷ [])

-- an outer alias of a slot behind the instance type
abbrev outer_after : List ℕ
outer_after = world_of 5 (type_t ++ 3 ∷ 0 ∷ text "c:d/j" ++ 5 ∷ 0 ∷ 1 ∷ 66 ∷ 1 ∷ 2 ∷ 3 ∷ 2 ∷ 1 ∷ 2 ∷ 2 ∷ 3 ∷ 0 ∷ 0 ∷ 1 ∷ 116 ∷ 3 ∷ 0 ∷ 1 ∷ 121 ∷ 5 ∷ 1 ∷ [])

-- an outer alias of a type of the world
abbrev outer_to_alias_named_type : List ℕ
outer_to_alias_named_type = world_of 6 (type_t ++ 3 ∷ 0 ∷ text "c:d/j" ++ 5 ∷ 0 ∷ 2 ∷ 3 ∷ 0 ∷ 0 ∷ 1 ∷ 116 ∷ 3 ∷ 0 ∷ 1 ∷ 116 ∷ 3 ∷ 0 ∷ 1 ∷ 1 ∷ 66 ∷ 2 ∷ 2 ∷ 3 ∷ 2 ∷ 1 ∷ 2 ∷ 4 ∷ 0 ∷ 1 ∷ 117 ∷ 3 ∷ 0 ∷ 0
    ∷ 3 ∷ 0 ∷ 1 ∷ 121 ∷ 5 ∷ 3 ∷ [])

-- the slot of a primitive as the key of a map, and the slot of a name
abbrev key_is_index : List ℕ
key_is_index = world_of 4 (1 ∷ 116 ∷ 1 ∷ 99 ∷ 0 ∷ 125 ∷ 1 ∷ 64 ∷ 1 ∷ 1 ∷ 120 ∷ 1 ∷ 1 ∷ 0 ∷ 3 ∷ 0 ∷ 1 ∷ 102 ∷ 1 ∷ 2 ∷ [])

abbrev named_key : List ℕ
named_key = world_of 3 (1 ∷ 116 ∷ 3 ∷ 0 ∷ 1 ∷ 107 ∷ 3 ∷ 0 ∷ 0 ∷ 1 ∷ 99 ∷ 1 ∷ 125 ∷ [])

-- labels of unused definitions are free, their lengths and kinds are not
abbrev unused_bad_labels : List ℕ
unused_bad_labels = world_of 2 (1 ∷ 114 ∷ 2 ∷ text "Bad label" ++ 125 ∷ text "Bad label" ++ 125 ∷ 1 ∷ 64 ∷ 2 ∷ 1 ∷ 120 ∷ 125 ∷ 1 ∷ 120 ∷ 125 ∷ 1 ∷ 0 ∷ [])

abbrev unused_fixed0 : List ℕ
unused_fixed0 = world_of 1 (1 ∷ 103 ∷ 125 ∷ 0 ∷ [])

abbrev unused_fn_kind : List ℕ
unused_fn_kind = world_of 2 (1 ∷ 64 ∷ 0 ∷ 1 ∷ 0 ∷ 1 ∷ 112 ∷ 0 ∷ [])

-- a record is used by its name alone
abbrev record_raw_use : List ℕ
record_raw_use = world_of 4 (1 ∷ 114 ∷ 1 ∷ 1 ∷ 120 ∷ 125 ∷ 3 ∷ 0 ∷ 1 ∷ 112 ∷ 3 ∷ 0 ∷ 0 ∷ 1 ∷ 64 ∷ 1 ∷ 1 ∷ 120 ∷ 0 ∷ 1 ∷ 0 ∷ 3 ∷ 0 ∷ 1 ∷ 102 ∷ 1 ∷ 2 ∷ [])

-- functions belong to resources, not to other names of them
abbrev method_of_alias : List ℕ
method_of_alias = world_of 5 (3 ∷ 0 ∷ 1 ∷ 114 ∷ 3 ∷ 1 ∷ 3 ∷ 0 ∷ 1 ∷ 115 ∷ 3 ∷ 0 ∷ 0 ∷ 1 ∷ 104 ∷ 1 ∷ 1 ∷ 64 ∷ 1 ∷ text "self" ++ 2 ∷ 1 ∷ 0 ∷ 3 ∷ 0 ∷ text "[method]s.f" ++ 1 ∷ 3 ∷ [])

abbrev method_self_alias_borrow : List ℕ
method_self_alias_borrow = take 54 method_of_alias ++ 114 ∷ drop 55 method_of_alias

-- what a constructor answers
abbrev ctor_result : List ℕ
ctor_result = world_of 5 (3 ∷ 0 ∷ 1 ∷ 114 ∷ 3 ∷ 1 ∷ 1 ∷ 105 ∷ 0 ∷ 1 ∷ 106 ∷ 1 ∷ 1 ∷ 1 ∷ 125 ∷ 1 ∷ 64 ∷ 0 ∷ 0 ∷ 2 ∷ 3 ∷ 0 ∷ text "[constructor]r" ++ 1 ∷ 3 ∷ [])

abbrev ctor_err : List ℕ
ctor_err = world_of 5 (3 ∷ 0 ∷ 1 ∷ 114 ∷ 3 ∷ 1 ∷ 1 ∷ 105 ∷ 0 ∷ 1 ∷ 106 ∷ 0 ∷ 1 ∷ 1 ∷ 1 ∷ 64 ∷ 0 ∷ 0 ∷ 2 ∷ 3 ∷ 0 ∷ text "[constructor]r" ++ 1 ∷ 3 ∷ [])

abbrev ctor_named : List ℕ
ctor_named = world_of 5 (3 ∷ 0 ∷ 1 ∷ 114 ∷ 3 ∷ 1 ∷ 1 ∷ 105 ∷ 0 ∷ 3 ∷ 0 ∷ 1 ∷ 104 ∷ 3 ∷ 0 ∷ 1 ∷ 1 ∷ 64 ∷ 0 ∷ 0 ∷ 2 ∷ 3 ∷ 0 ∷ text "[constructor]r" ++ 1 ∷ 3 ∷ [])

-- the functions of an interface may stand before their resource
abbrev static_in_iface_before_r : List ℕ
static_in_iface_before_r = world_of 2 (1 ∷ 66 ∷ 3 ∷ 1 ∷ 64 ∷ 0 ∷ 1 ∷ 0 ∷ 4 ∷ 0 ∷ text "[static]r.f" ++ 1 ∷ 0 ∷ 4 ∷ 0 ∷ 1 ∷ 114 ∷ 3 ∷ 1 ∷ 3 ∷ 0 ∷ 1 ∷ 121 ∷ 5 ∷ 0 ∷ [])

-- views with different external ids
abbrev ext_differs : List ℕ
ext_differs = world_of 4 (1 ∷ 66 ∷ 2 ∷ 1 ∷ 121 ∷ 4 ∷ 2 ∷ 1 ∷ 116 ∷ 1 ∷ 2 ∷ 1 ∷ 97 ∷ 3 ∷ 0 ∷ 0 ∷ 3 ∷ 0 ∷ text "c:d/x" ++ 5 ∷ 0 ∷ type_t ++ 4 ∷ 0 ∷ text "c:d/x" ++ 5 ∷ 1 ∷ [])

-- the order of functions is free
abbrev fn_order : List ℕ
fn_order = world_of 4 (1 ∷ 66 ∷ 3 ∷ 1 ∷ 64 ∷ 0 ∷ 1 ∷ 0 ∷ 4 ∷ 0 ∷ 1 ∷ 102 ∷ 1 ∷ 0 ∷ 4 ∷ 0 ∷ 1 ∷ 103 ∷ 1 ∷ 0 ∷ 3 ∷ 0 ∷ text "c:d/x" ++ 5 ∷ 0 ∷ 1 ∷ 66 ∷ 3 ∷ 1 ∷ 64 ∷ 0 ∷ 1 ∷ 0 ∷ 4 ∷ 0 ∷ 1 ∷ 103 ∷ 1 ∷ 0
    ∷ 4 ∷ 0 ∷ 1 ∷ 102 ∷ 1 ∷ 0 ∷ 4 ∷ 0 ∷ text "c:d/x" ++ 5 ∷ 1 ∷ [])

-- a handle is one level; a named type has one more than its parts
abbrev own_100 : List ℕ
own_100 = world_of 103 (3 ∷ 0 ∷ 1 ∷ 114 ∷ 3 ∷ 1 ∷ 1 ∷ 105 ∷ 0 ∷ lists_of 99 1 ++ 1 ∷ 64 ∷ 0 ∷ 0 ∷ 228 ∷ 0 ∷ 3 ∷ 0 ∷ 1 ∷ 102 ∷ 1 ∷ 101 ∷ [])

abbrev own_101 : List ℕ
own_101 = world_of 104 (3 ∷ 0 ∷ 1 ∷ 114 ∷ 3 ∷ 1 ∷ 1 ∷ 105 ∷ 0 ∷ lists_of 100 1 ++ 1 ∷ 64 ∷ 0 ∷ 0 ∷ 229 ∷ 0 ∷ 3 ∷ 0 ∷ 1 ∷ 102 ∷ 1 ∷ 102 ∷ [])

abbrev type_101 : List ℕ
type_101 = world_of 102 (1 ∷ 112 ∷ 125 ∷ lists_of 100 0 ++ 3 ∷ 0 ∷ 1 ∷ 116 ∷ 3 ∷ 0 ∷ 100 ∷ [])

abbrev type_102 : List ℕ
type_102 = world_of 103 (1 ∷ 112 ∷ 125 ∷ lists_of 101 0 ++ 3 ∷ 0 ∷ 1 ∷ 116 ∷ 3 ∷ 0 ∷ 101 ∷ [])

-- an interface of the package that stands only in the world
abbrev world_path_in_other : List ℕ
world_path_in_other = world_of 2 (1 ∷ 66 ∷ 0 ∷ 3 ∷ 0 ∷ text "a:b/v" ++ 5 ∷ 0 ∷ [])

-- a world has the path of no interface that it shows
abbrev world_own_path : List ℕ
world_own_path = world_of 2 (1 ∷ 66 ∷ 0 ∷ 3 ∷ 0 ∷ text "a:b/w" ++ 5 ∷ 0 ∷ [])

-- These are read as packages.
are_read : list_all (λ bytes. is_some (meaning bytes)) (own_alias_fn ∷ implements_twice ∷ suffix_on_implements ∷ iface_canonical ∷ iface_unused_def ∷ key_is_index ∷ unused_bad_labels
    ∷ ctor_result ∷ static_in_iface_before_r ∷ fn_order ∷ own_100 ∷ type_101 ∷ []) ≡ true
unfolding computes meaning cut_at
are_read = refl

-- These are refused.
are_refused : list_any (λ bytes. is_some (meaning bytes)) (own_alias_order ∷ own_alias_decl_t ∷ iface_self_import ∷ iface_import_fn ∷ iface_reach_unused_outer ∷ alias_of_inline
    ∷ outer_count0 ∷ outer_after ∷ outer_to_alias_named_type ∷ named_key ∷ unused_fixed0 ∷ unused_fn_kind ∷ record_raw_use ∷ method_of_alias ∷ method_self_alias_borrow ∷ ctor_err
    ∷ ctor_named ∷ ext_differs ∷ own_101 ∷ type_102 ∷ world_path_in_other ∷ world_own_path ∷ []) ≡ false
unfolding computes meaning cut_at
are_refused = refl

-- These are read as worlds.
are_read_as_worlds : list_all (λ bytes. is_some (world_meaning_of bytes)) (own_alias_fn ∷ world_path_in_other ∷ []) ≡ true
unfolding computes world_meaning_of cut_at
are_read_as_worlds = refl

-- These are refused as worlds.
are_refused_as_worlds : list_any (λ bytes. is_some (world_meaning_of bytes)) (iface_canonical ∷ world_own_path ∷ []) ≡ false
unfolding computes world_meaning_of cut_at
are_refused_as_worlds = refl
