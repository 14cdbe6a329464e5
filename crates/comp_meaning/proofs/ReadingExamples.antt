-- Worked examples: what is read, and what is refused.
use Rattle.std.proofs.Common.{◌≡◌, ℕ, List, [], ◌∷◌, ◌++◌, ◌+◌, take, drop, Some, None, false, true, refl}
use Rattle.std.specs.{List.list_all, List.list_any, Prelude.codes, Prelude.is_some, FinMap.from_entries}
use Rattle.wit_model.specs.{Names.cut as cut_at, Tree.Tree, Tree.Primitive, Meaning.Item, Meaning.Entry, Meaning.InterfaceMeaning}
use Rattle.comp_meaning.proofs.Computing.{computes, lists_of, one_world, meaning, unit_function, a_b, in_interface, t_is, plain, interface_under, entry, text, preamble, exported_as, type_t, interface_j, world_of}

abbrev world_with_interface : List ℕ
world_with_interface = preamble ++ 7 ∷ 38 ∷ 1 ∷ 65 ∷ 2 ∷ 1 ∷ 66 ∷ 2 ∷ 1 ∷ 64 ∷ 0 ∷ 1 ∷ 0 ∷ 4 ∷ 0 ∷ text "hello" ++ 1 ∷ 0 ∷ 4 ∷ 0 ∷ text "my:demo/host" ++ 5 ∷ 0 ∷ 11 ∷ 10 ∷ 1 ∷ 0 ∷ text "host" ++ 3
    ∷ 0 ∷ 0 ∷ 7 ∷ 58 ∷ 1 ∷ 65 ∷ 2 ∷ 1 ∷ 65 ∷ 2 ∷ 1 ∷ 66 ∷ 2 ∷ 1 ∷ 64 ∷ 0 ∷ 1 ∷ 0 ∷ 4 ∷ 0 ∷ text "hello" ++ 1 ∷ 0 ∷ 3 ∷ 0 ∷ text "my:demo/host" ++ 5 ∷ 0 ∷ 4 ∷ 0 ∷ text "my:demo/demo" ++ 4 ∷ 0 ∷ 11
    ∷ 10 ∷ 1 ∷ 0 ∷ text "demo" ++ 3 ∷ 2 ∷ 0 ∷ []

-- the interfaces k and i and a world that use j, where the first of their types has the number n
abbrev above_j : ℕ → List ℕ
above_j n = 7 ∷ 56 ∷ 1 ∷ 65 ∷ 5 ∷ type_t ++ 3 ∷ 0 ∷ text "a:b/j" ++ 5 ∷ 0 ∷ 2 ∷ 3 ∷ 0 ∷ 0 ∷ 1 ∷ 116 ∷ 1 ∷ 66 ∷ 2 ∷ 2 ∷ 3 ∷ 2 ∷ 1 ∷ 1 ∷ 4 ∷ 0 ∷ 1 ∷ 116 ∷ 3 ∷ 0 ∷ 0 ∷ 4 ∷ 0 ∷ text "a:b/k" ++ 5 ∷ 2
    ∷ exported_as 107 n ++ 7 ∷ 70 ∷ 1 ∷ 65 ∷ 5 ∷ type_t ++ 3 ∷ 0 ∷ text "a:b/j" ++ 5 ∷ 0 ∷ 2 ∷ 3 ∷ 0 ∷ 0 ∷ 1 ∷ 116 ∷ 1 ∷ 66 ∷ 4 ∷ 2 ∷ 3 ∷ 2 ∷ 1 ∷ 1 ∷ 4 ∷ 0 ∷ 1 ∷ 116 ∷ 3 ∷ 0 ∷ 0 ∷ 1 ∷ 64 ∷ 1 ∷ 1
    ∷ 120 ∷ 1 ∷ 1 ∷ 0 ∷ 4 ∷ 0 ∷ 1 ∷ 102 ∷ 1 ∷ 2 ∷ 4 ∷ 0 ∷ text "a:b/i" ++ 5 ∷ 2 ∷ exported_as 105 (2 + n) ++ 7 ∷ 130 ∷ 1 ∷ 1 ∷ 65 ∷ 2 ∷ 1 ∷ 65 ∷ 9 ∷ type_t ++ 3 ∷ 0 ∷ text "a:b/j" ++ 5 ∷ 0 ∷ 2 ∷ 3
    ∷ 0 ∷ 0 ∷ 1 ∷ 116 ∷ 1 ∷ 66 ∷ 2 ∷ 2 ∷ 3 ∷ 2 ∷ 1 ∷ 1 ∷ 4 ∷ 0 ∷ 1 ∷ 116 ∷ 3 ∷ 0 ∷ 0 ∷ 3 ∷ 0 ∷ text "a:b/k" ++ 5 ∷ 2 ∷ type_t ++ 4 ∷ 0 ∷ text "a:b/j" ++ 5 ∷ 3 ∷ 1 ∷ 66 ∷ 4 ∷ 2 ∷ 3 ∷ 2 ∷ 1 ∷ 1 ∷ 4 ∷ 0
    ∷ 1 ∷ 116 ∷ 3 ∷ 0 ∷ 0 ∷ 1 ∷ 64 ∷ 1 ∷ 1 ∷ 120 ∷ 1 ∷ 1 ∷ 0 ∷ 4 ∷ 0 ∷ 1 ∷ 102 ∷ 1 ∷ 2 ∷ 4 ∷ 0 ∷ text "a:b/i" ++ 5 ∷ 4 ∷ 4 ∷ 0 ∷ text "a:b/w" ++ 4 ∷ 0 ∷ exported_as 119 (4 + n)

abbrev shared_type : List ℕ
shared_type = preamble ++ interface_j ++ above_j 2

abbrev unreached : List ℕ
unreached = preamble ++ interface_j ++ 7 ∷ 53 ∷ 1 ∷ 65 ∷ 5 ∷ type_t ++ 3 ∷ 0 ∷ text "a:b/j" ++ 5 ∷ 0 ∷ 2 ∷ 3 ∷ 0 ∷ 0 ∷ 1 ∷ 116 ∷ type_t ++ 4 ∷ 0 ∷ text "a:b/i" ++ 5 ∷ 2 ∷ exported_as 105 2

abbrev disagreeing : List ℕ
disagreeing = take 17 shared_type ++ 119 ∷ drop 18 shared_type

abbrev not_at_top : List ℕ
not_at_top = preamble ++ above_j 0

abbrev k_type : List ℕ
k_type = 1 ∷ 66 ∷ 7 ∷ 4 ∷ 0 ∷ 1 ∷ 114 ∷ 3 ∷ 1 ∷ 1 ∷ 105 ∷ 0 ∷ 1 ∷ 64 ∷ 1 ∷ 1 ∷ 120 ∷ 121 ∷ 0 ∷ 1 ∷ 4 ∷ 0 ∷ text "[constructor]r" ++ 1 ∷ 2 ∷ 1 ∷ 104 ∷ 0 ∷ 1 ∷ 64 ∷ 1 ∷ text "self" ++ 3 ∷ 1 ∷ 0 ∷ 4 ∷ 2
    ∷ text "[method]r.m" ++ 1 ∷ 2 ∷ 2 ∷ 105 ∷ 100 ∷ 1 ∷ 4 ∷ 3 ∷ []

abbrev with_resources : List ℕ
with_resources = world_of 11 (k_type ++ 2 ∷ text "c:d/k@1" ++ 1 ∷ 1 ∷ 4 ∷ 46 ∷ 50 ∷ 46 ∷ 51 ∷ 5 ∷ 0 ∷ k_type ++ 2 ∷ text "lab" ++ 3 ∷ 0 ∷ text "c:d/k@1" ++ 1 ∷ 4 ∷ 46 ∷ 50 ∷ 46 ∷ 51 ∷ 2 ∷ 1 ∷ 113 ∷ 5
    ∷ 1 ∷ 2 ∷ 3 ∷ 0 ∷ 0 ∷ 1 ∷ 114 ∷ 3 ∷ 0 ∷ 1 ∷ 115 ∷ 3 ∷ 0 ∷ 2 ∷ 1 ∷ 105 ∷ 3 ∷ 1 ∷ 64 ∷ 0 ∷ 0 ∷ 4 ∷ 3 ∷ 0 ∷ 1 ∷ 103 ∷ 1 ∷ 5 ∷ 1 ∷ 66 ∷ 2 ∷ 1 ∷ 114 ∷ 1 ∷ 1 ∷ 102 ∷ 121 ∷ 4 ∷ 0 ∷ 1 ∷ 112 ∷ 3 ∷ 0 ∷ 0
    ∷ 4 ∷ 0 ∷ text "inl" ++ 5 ∷ 6 ∷ [])

abbrev unnamed_record : List ℕ
unnamed_record = world_of 3 (1 ∷ 114 ∷ 1 ∷ 1 ∷ 102 ∷ 121 ∷ 1 ∷ 64 ∷ 1 ∷ 1 ∷ 120 ∷ 0 ∷ 1 ∷ 0 ∷ 3 ∷ 0 ∷ 1 ∷ 103 ∷ 1 ∷ 1 ∷ [])

abbrev empty_record : List ℕ
empty_record = world_of 1 (1 ∷ 114 ∷ 0 ∷ [])

abbrev deep_100 : List ℕ
deep_100 = world_of 102 (1 ∷ 112 ∷ 121 ∷ lists_of 99 0 ++ 1 ∷ 64 ∷ 1 ∷ 1 ∷ 120 ∷ 227 ∷ 0 ∷ 1 ∷ 0 ∷ 3 ∷ 0 ∷ 1 ∷ 103 ∷ 1 ∷ 100 ∷ [])

abbrev deep_101 : List ℕ
deep_101 = world_of 103 (1 ∷ 112 ∷ 121 ∷ lists_of 100 0 ++ 1 ∷ 64 ∷ 1 ∷ 1 ∷ 120 ∷ 228 ∷ 0 ∷ 1 ∷ 0 ∷ 3 ∷ 0 ∷ 1 ∷ 103 ∷ 1 ∷ 101 ∷ [])

abbrev prefix_60 : List ℕ
prefix_60 = take 60 world_with_interface

abbrev prefix_48 : List ℕ
prefix_48 = take 48 world_with_interface

abbrev prefix_120 : List ℕ
prefix_120 = take 120 world_with_interface

reads_world_with_interface : meaning world_with_interface ≡ Some (record {
  identity = record { namespace = codes "my"; name = codes "demo"; version = None };
  interfaces = interface_under (codes "host") [] ((codes "hello", record { signature = unit_function; external_id = None }) ∷ []) ∷ [];
  worlds = (codes "demo", record { imports = entry (codes "my:demo/host") (Item.interface (codes "my:demo/host")) ∷ []; exports = [] }) ∷ [];
  foreign = from_entries [];
})
unfolding computes meaning cut_at unit_function
reads_world_with_interface = refl

abbrev shows : List ℕ → List ℕ × Entry InterfaceMeaning
shows path = entry path (Item.interface path)

reads_shared_type : meaning shared_type ≡ Some (record {
  identity = a_b;
  interfaces = interface_under (codes "j") (t_is (Tree.primitive Primitive.u32) None) [] ∷ interface_under (codes "k") (t_is (in_interface (codes "a:b/j") (codes "t")) None) []
      ∷ interface_under (codes "i") (t_is (in_interface (codes "a:b/j") (codes "t")) None) ((codes "f", plain false (codes "x", in_interface (codes "a:b/i") (codes "t")) None) ∷ []) ∷ [];
  worlds = (codes "w", record { imports = shows (codes "a:b/j") ∷ shows (codes "a:b/k") ∷ []; exports = shows (codes "a:b/j") ∷ shows (codes "a:b/i") ∷ [] }) ∷ [];
  foreign = from_entries [];
})
unfolding computes meaning cut_at a_b
reads_shared_type = refl

abbrev long_spelled : List ℕ
long_spelled = 0 ∷ 97 ∷ 115 ∷ 109 ∷ 13 ∷ 0 ∷ 1 ∷ 0 ∷ 7 ∷ 198 ∷ 128 ∷ 128 ∷ 128 ∷ 0 ∷ 129 ∷ 128 ∷ 128 ∷ 128 ∷ 0 ∷ 65 ∷ 130 ∷ 128 ∷ 128 ∷ 128 ∷ 0 ∷ 1 ∷ 65 ∷ 131 ∷ 128 ∷ 128 ∷ 128 ∷ 0 ∷ 1 ∷ 64 ∷ 128
    ∷ 128 ∷ 128 ∷ 128 ∷ 0 ∷ 1 ∷ 0 ∷ 3 ∷ 0 ∷ 132 ∷ 128 ∷ 128 ∷ 128 ∷ 0 ∷ 104 ∷ 111 ∷ 115 ∷ 116 ∷ 1 ∷ 0 ∷ 4 ∷ 0 ∷ 133 ∷ 128 ∷ 128 ∷ 128 ∷ 0 ∷ 103 ∷ 117 ∷ 101 ∷ 115 ∷ 116 ∷ 1 ∷ 0 ∷ 4 ∷ 0 ∷ 135 ∷ 128
    ∷ 128 ∷ 128 ∷ 0 ∷ 97 ∷ 58 ∷ 98 ∷ 47 ∷ 102 ∷ 111 ∷ 111 ∷ 4 ∷ 0 ∷ 11 ∷ 145 ∷ 128 ∷ 128 ∷ 128 ∷ 0 ∷ 129 ∷ 128 ∷ 128 ∷ 128 ∷ 0 ∷ 0 ∷ 131 ∷ 128 ∷ 128 ∷ 128 ∷ 0 ∷ 102 ∷ 111 ∷ 111 ∷ 3 ∷ 0 ∷ 0 ∷ []

abbrev used_twice : List ℕ
used_twice = world_of 3 (1 ∷ 66 ∷ 2 ∷ 1 ∷ 64 ∷ 0 ∷ 1 ∷ 0 ∷ 4 ∷ 0 ∷ 1 ∷ 102 ∷ 1 ∷ 0 ∷ 3 ∷ 0 ∷ 1 ∷ 120 ∷ 5 ∷ 0 ∷ 3 ∷ 0 ∷ 1 ∷ 121 ∷ 5 ∷ 0 ∷ [])

abbrev unused : List ℕ
unused = world_of 1 (1 ∷ 66 ∷ 2 ∷ 1 ∷ 64 ∷ 0 ∷ 1 ∷ 0 ∷ 4 ∷ 0 ∷ 1 ∷ 102 ∷ 1 ∷ 0 ∷ [])

abbrev two_uses : List ℕ
two_uses = world_of 4 (1 ∷ 66 ∷ 2 ∷ 1 ∷ 64 ∷ 0 ∷ 1 ∷ 0 ∷ 4 ∷ 0 ∷ 1 ∷ 102 ∷ 1 ∷ 0 ∷ 3 ∷ 0 ∷ 1 ∷ 120 ∷ 5 ∷ 0 ∷ 1 ∷ 66 ∷ 2 ∷ 1 ∷ 64 ∷ 0 ∷ 1 ∷ 0 ∷ 4 ∷ 0 ∷ 1 ∷ 102 ∷ 1 ∷ 0 ∷ 4 ∷ 0 ∷ 1 ∷ 120 ∷ 5 ∷ 1 ∷ [])

abbrev ext_on_interface : List ℕ
ext_on_interface = preamble ++ 7 ∷ 29 ∷ 1 ∷ 65 ∷ 2 ∷ type_t ++ 4 ∷ 2 ∷ text "a:b/j" ++ 1 ∷ 2 ∷ 1 ∷ 113 ∷ 5 ∷ 0 ∷ exported_as 106 0

abbrev ext_on_wrapper : List ℕ
ext_on_wrapper = preamble ++ 7 ∷ 20 ∷ 1 ∷ 65 ∷ 2 ∷ 1 ∷ 65 ∷ 0 ∷ 4 ∷ 2 ∷ text "a:b/w" ++ 1 ∷ 2 ∷ 1 ∷ 113 ∷ 4 ∷ 0 ∷ exported_as 119 0

abbrev suffix_on_label : List ℕ
suffix_on_label = world_of 2 (1 ∷ 66 ∷ 2 ∷ 1 ∷ 64 ∷ 0 ∷ 1 ∷ 0 ∷ 4 ∷ 0 ∷ 1 ∷ 102 ∷ 1 ∷ 0 ∷ 3 ∷ 2 ∷ 1 ∷ 120 ∷ 1 ∷ 1 ∷ 2 ∷ 46 ∷ 50 ∷ 5 ∷ 0 ∷ [])

abbrev suffix_no_version : List ℕ
suffix_no_version = world_of 2 (1 ∷ 66 ∷ 2 ∷ 1 ∷ 64 ∷ 0 ∷ 1 ∷ 0 ∷ 4 ∷ 0 ∷ 1 ∷ 102 ∷ 1 ∷ 0 ∷ 3 ∷ 2 ∷ text "c:d/x" ++ 1 ∷ 1 ∷ 6 ∷ 64 ∷ 49 ∷ 46 ∷ 48 ∷ 46 ∷ 48 ∷ 5 ∷ 0 ∷ [])

abbrev suffix_after_at : List ℕ
suffix_after_at = world_of 2 (1 ∷ 66 ∷ 2 ∷ 1 ∷ 64 ∷ 0 ∷ 1 ∷ 0 ∷ 4 ∷ 0 ∷ 1 ∷ 102 ∷ 1 ∷ 0 ∷ 3 ∷ 2 ∷ text "c:d/x@" ++ 1 ∷ 1 ∷ 5 ∷ 49 ∷ 46 ∷ 48 ∷ 46 ∷ 48 ∷ 5 ∷ 0 ∷ [])

abbrev bad_version : List ℕ
bad_version = world_of 2 (1 ∷ 66 ∷ 2 ∷ 1 ∷ 64 ∷ 0 ∷ 1 ∷ 0 ∷ 4 ∷ 0 ∷ 1 ∷ 102 ∷ 1 ∷ 0 ∷ 3 ∷ 0 ∷ text "c:d/x@1" ++ 5 ∷ 0 ∷ [])

abbrev import_twice : List ℕ
import_twice = world_of 4 (1 ∷ 66 ∷ 2 ∷ 1 ∷ 64 ∷ 0 ∷ 1 ∷ 0 ∷ 4 ∷ 0 ∷ 1 ∷ 102 ∷ 1 ∷ 0 ∷ 3 ∷ 0 ∷ 1 ∷ 120 ∷ 5 ∷ 0 ∷ 1 ∷ 66 ∷ 2 ∷ 1 ∷ 64 ∷ 0 ∷ 1 ∷ 0 ∷ 4 ∷ 0 ∷ 1 ∷ 102 ∷ 1 ∷ 0 ∷ 3 ∷ 0 ∷ 1 ∷ 120 ∷ 5 ∷ 1
    ∷ [])

abbrev joined_twice : List ℕ
joined_twice = world_of 4 (1 ∷ 66 ∷ 2 ∷ 1 ∷ 64 ∷ 0 ∷ 1 ∷ 0 ∷ 4 ∷ 0 ∷ 1 ∷ 102 ∷ 1 ∷ 0 ∷ 3 ∷ 0 ∷ text "c:d/x@1.2.3" ++ 5 ∷ 0 ∷ 1 ∷ 66 ∷ 2 ∷ 1 ∷ 64 ∷ 0 ∷ 1 ∷ 0 ∷ 4 ∷ 0 ∷ 1 ∷ 102 ∷ 1 ∷ 0 ∷ 3 ∷ 2
    ∷ text "c:d/x@1" ++ 1 ∷ 1 ∷ 4 ∷ 46 ∷ 50 ∷ 46 ∷ 51 ∷ 5 ∷ 1 ∷ [])

abbrev export_first : List ℕ
export_first = world_of 5 (type_t ++ 4 ∷ 0 ∷ text "c:d/j" ++ 5 ∷ 0 ∷ 2 ∷ 3 ∷ 0 ∷ 0 ∷ 1 ∷ 116 ∷ 1 ∷ 66 ∷ 2 ∷ 2 ∷ 3 ∷ 2 ∷ 1 ∷ 1 ∷ 4 ∷ 0 ∷ 1 ∷ 116 ∷ 3 ∷ 0 ∷ 0 ∷ 3 ∷ 0 ∷ text "c:d/k" ++ 5 ∷ 2 ∷ [])

abbrev export_then_export : List ℕ
export_then_export = take 59 export_first ++ 4 ∷ drop 60 export_first

abbrev world_type_in_inline : List ℕ
world_type_in_inline = world_of 3 (3 ∷ 0 ∷ 1 ∷ 114 ∷ 3 ∷ 1 ∷ 1 ∷ 66 ∷ 2 ∷ 2 ∷ 3 ∷ 2 ∷ 1 ∷ 0 ∷ 4 ∷ 0 ∷ 1 ∷ 115 ∷ 3 ∷ 0 ∷ 0 ∷ 3 ∷ 0 ∷ 1 ∷ 120 ∷ 5 ∷ 1 ∷ [])

abbrev foreign_in_function : List ℕ
foreign_in_function = world_of 5 (type_t ++ 3 ∷ 0 ∷ text "c:d/j" ++ 5 ∷ 0 ∷ 2 ∷ 3 ∷ 0 ∷ 0 ∷ 1 ∷ 116 ∷ 1 ∷ 64 ∷ 1 ∷ 1 ∷ 120 ∷ 1 ∷ 1 ∷ 0 ∷ 3 ∷ 0 ∷ 1 ∷ 103 ∷ 1 ∷ 2 ∷ [])

abbrev use_in_world : List ℕ
use_in_world = world_of 6 (type_t ++ 3 ∷ 0 ∷ text "c:d/j" ++ 5 ∷ 0 ∷ 2 ∷ 3 ∷ 0 ∷ 0 ∷ 1 ∷ 116 ∷ 3 ∷ 0 ∷ 1 ∷ 116 ∷ 3 ∷ 0 ∷ 1 ∷ 1 ∷ 64 ∷ 1 ∷ 1 ∷ 120 ∷ 2 ∷ 1 ∷ 0 ∷ 3 ∷ 0 ∷ 1 ∷ 103 ∷ 1 ∷ 3 ∷ [])

abbrev static_early : List ℕ
static_early = world_of 3 (1 ∷ 64 ∷ 0 ∷ 1 ∷ 0 ∷ 3 ∷ 0 ∷ text "[static]r.f" ++ 1 ∷ 0 ∷ 3 ∷ 0 ∷ 1 ∷ 114 ∷ 3 ∷ 1 ∷ [])

abbrev static_late : List ℕ
static_late = world_of 3 (3 ∷ 0 ∷ 1 ∷ 114 ∷ 3 ∷ 1 ∷ 1 ∷ 64 ∷ 0 ∷ 1 ∷ 0 ∷ 3 ∷ 0 ∷ text "[static]r.f" ++ 1 ∷ 1 ∷ [])

abbrev async_constructor : List ℕ
async_constructor = world_of 4 (3 ∷ 0 ∷ 1 ∷ 114 ∷ 3 ∷ 1 ∷ 1 ∷ 105 ∷ 0 ∷ 1 ∷ 67 ∷ 0 ∷ 0 ∷ 1 ∷ 3 ∷ 0 ∷ text "[constructor]r" ++ 1 ∷ 2 ∷ [])

abbrev resource_as_value : List ℕ
resource_as_value = world_of 3 (3 ∷ 0 ∷ 1 ∷ 114 ∷ 3 ∷ 1 ∷ 1 ∷ 64 ∷ 1 ∷ 1 ∷ 120 ∷ 0 ∷ 1 ∷ 0 ∷ 3 ∷ 0 ∷ 1 ∷ 103 ∷ 1 ∷ 1 ∷ [])

abbrev nested_instance : List ℕ
nested_instance = world_of 2 (1 ∷ 66 ∷ 1 ∷ 1 ∷ 66 ∷ 0 ∷ 3 ∷ 0 ∷ 1 ∷ 120 ∷ 5 ∷ 0 ∷ [])

abbrev two_packages : List ℕ
two_packages = preamble ++ 7 ∷ 16 ∷ 1 ∷ 65 ∷ 2 ∷ 1 ∷ 65 ∷ 0 ∷ 4 ∷ 0 ∷ text "a:b/w" ++ 4 ∷ 0 ∷ exported_as 119 0 ++ 7 ∷ 16 ∷ 1 ∷ 65 ∷ 2 ∷ 1 ∷ 65 ∷ 0 ∷ 4 ∷ 0 ∷ text "c:d/v" ++ 4 ∷ 0 ∷ exported_as 118 2

abbrev wrong_label : List ℕ
wrong_label = preamble ++ 7 ∷ 16 ∷ 1 ∷ 65 ∷ 2 ∷ 1 ∷ 65 ∷ 0 ∷ 4 ∷ 0 ∷ text "a:b/v" ++ 4 ∷ 0 ∷ exported_as 119 0

abbrev twice_exported : List ℕ
twice_exported = preamble ++ 7 ∷ 16 ∷ 1 ∷ 65 ∷ 2 ∷ 1 ∷ 65 ∷ 0 ∷ 4 ∷ 0 ∷ text "a:b/w" ++ 4 ∷ 0 ∷ 11 ∷ 14 ∷ 2 ∷ 0 ∷ 1 ∷ 119 ∷ 3 ∷ 0 ∷ 0 ∷ 0 ∷ 2 ∷ 119 ∷ 50 ∷ 3 ∷ 0 ∷ 0 ∷ []

abbrev float_key : List ℕ
float_key = world_of 1 (1 ∷ 99 ∷ 118 ∷ 121 ∷ [])

long_spelled_means : meaning long_spelled ≡ meaning one_world
unfolding computes meaning cut_at
long_spelled_means = refl

-- These are read as packages.
are_read : list_all (λ bytes. is_some (meaning bytes)) (world_with_interface ∷ shared_type ∷ with_resources ∷ deep_100 ∷ prefix_60 ∷ long_spelled ∷ two_uses ∷ export_then_export
    ∷ use_in_world ∷ static_late ∷ []) ≡ true
unfolding computes meaning cut_at
are_read = refl

-- These are refused.
are_refused : list_any (λ bytes. is_some (meaning bytes)) (unreached ∷ disagreeing ∷ not_at_top ∷ unnamed_record ∷ empty_record ∷ deep_101 ∷ prefix_48 ∷ prefix_120 ∷ used_twice ∷ unused
    ∷ ext_on_interface ∷ ext_on_wrapper ∷ suffix_on_label ∷ suffix_no_version ∷ suffix_after_at ∷ bad_version ∷ import_twice ∷ joined_twice ∷ export_first ∷ world_type_in_inline
    ∷ foreign_in_function ∷ static_early ∷ async_constructor ∷ resource_as_value ∷ nested_instance ∷ two_packages ∷ wrong_label ∷ twice_exported ∷ float_key ∷ []) ≡ false
unfolding computes meaning cut_at
are_refused = refl
