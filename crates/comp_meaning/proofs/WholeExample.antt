-- A worked example: two packages.
use Rattle.std.proofs.Common.{◌≡◌, ℕ, List, [], ◌∷◌, ◌++◌, Some, None, false, true, refl}
use Rattle.std.specs.{Prelude.codes, FinMap.from_entries}
use Rattle.wit_model.specs.{Names.cut as cut_at, Meaning.Item, Meaning.InterfaceMeaning, Meaning.WorldMeaning, Meaning.PackageMeaning}
use Rattle.wit_model.specs.Tree.{Tree, Primitive, Place, TypeDeclaration as TreeDeclaration, list_tree, own_tree, borrow_tree, result_tree}
use Rattle.comp_meaning.proofs.Computing.{computes, meaning, world_meaning_of, a_b, in_interface, t_is, taking, plain, interface_under, entry, text, preamble, exported_as, world_section, world_of}

-- Two packages: uses across them, a resource, an inline interface, a world's type, an interface under a label, an external id.
abbrev tree-jt : Tree
tree-jt = in_interface (codes "s:r/j") (codes "t")

abbrev tree-r : Tree
tree-r = in_interface (codes "a:b/s") (codes "r")

abbrev s-meaning : InterfaceMeaning
s-meaning = record {
  types = (codes "r", record { declaration = TreeDeclaration.resource; external_id = None }) ∷ (codes "h", record { declaration = TreeDeclaration.type_ (own_tree tree-r); external_id = None }) ∷ [];
  functions = from_entries ((codes "[constructor]r", plain false (codes "x", Tree.primitive Primitive.u8) (Some (result_tree (Some (own_tree tree-r)) None)))
      ∷ (codes "[method]r.m", plain true (codes "self", borrow_tree tree-r) None) ∷ []);
}

abbrev j-meaning : InterfaceMeaning
j-meaning = record { types = t_is (Tree.primitive Primitive.u32) (Some (codes "pkg")); functions = from_entries ((codes "f", plain false (codes "x", tree-jt) None) ∷ []) }

abbrev w-meaning : WorldMeaning
w-meaning = record {
  imports = entry (codes "p") (Item.interface (codes "s:r/j")) ∷ entry (codes "t") (Item.declares (TreeDeclaration.type_ tree-jt))
      ∷ entry (codes "f") (Item.function (taking false (codes "x", Tree.named Place.here (codes "t")) None)) ∷ [];
  exports = entry (codes "h") (Item.inline (record { types = t_is tree-jt None; functions = from_entries ((codes "f", plain true (codes "x", Tree.named Place.here (codes "t")) None) ∷ []) }))
      ∷ entry (codes "t") (Item.function (taking false (codes "x", Tree.named Place.here (codes "t")) None)) ∷ entry (codes "x") (Item.interface (codes "a:b/s"))
      ∷ entry (codes "a:b/s") (Item.interface (codes "a:b/s")) ∷ [];
}

abbrev whole-meaning : PackageMeaning
whole-meaning = record {
  identity = a_b;
  interfaces = interface_under (codes "i") (t_is (in_interface (codes "s:r/k") (codes "t")) None)
      ((codes "f", plain false (codes "x", list_tree (in_interface (codes "a:b/i") (codes "t"))) None) ∷ []) ∷ (codes "s", s-meaning) ∷ [];
  worlds = (codes "w", w-meaning) ∷ [];
  foreign = from_entries ((codes "s:r/j", j-meaning) ∷ interface_under (codes "s:r/k") (t_is tree-jt None) [] ∷ (codes "s:r/j", j-meaning) ∷ []);
}

abbrev s_type : List ℕ
s_type = 1 ∷ 66 ∷ 10 ∷ 4 ∷ 0 ∷ 1 ∷ 114 ∷ 3 ∷ 1 ∷ 1 ∷ 105 ∷ 0 ∷ 4 ∷ 0 ∷ 1 ∷ 104 ∷ 3 ∷ 0 ∷ 1 ∷ 1 ∷ 105 ∷ 0 ∷ 1 ∷ 106 ∷ 1 ∷ 3 ∷ 0 ∷ 1 ∷ 64 ∷ 1 ∷ 1 ∷ 120 ∷ 125 ∷ 0 ∷ 4 ∷ 4 ∷ 0 ∷ text "[constructor]r"
    ++ 1 ∷ 5 ∷ 1 ∷ 104 ∷ 0 ∷ 1 ∷ 67 ∷ 1 ∷ text "self" ++ 6 ∷ 1 ∷ 0 ∷ 4 ∷ 0 ∷ text "[method]r.m" ++ 1 ∷ 7 ∷ []

abbrev w_declared : List ℕ
w_declared = 1 ∷ 66 ∷ 4 ∷ 1 ∷ 121 ∷ 4 ∷ 2 ∷ 1 ∷ 116 ∷ 1 ∷ 2 ∷ text "pkg" ++ 3 ∷ 0 ∷ 0 ∷ 1 ∷ 64 ∷ 1 ∷ 1 ∷ 120 ∷ 1 ∷ 1 ∷ 0 ∷ 4 ∷ 0 ∷ 1 ∷ 102 ∷ 1 ∷ 2 ∷ 3 ∷ 2 ∷ 1 ∷ 112 ∷ 1 ∷ 0 ∷ text "s:r/j" ++ 5 ∷ 0
    ∷ 2 ∷ 3 ∷ 0 ∷ 0 ∷ 1 ∷ 116 ∷ 3 ∷ 0 ∷ 1 ∷ 116 ∷ 3 ∷ 0 ∷ 1 ∷ 1 ∷ 64 ∷ 1 ∷ 1 ∷ 120 ∷ 2 ∷ 1 ∷ 0 ∷ 3 ∷ 0 ∷ 1 ∷ 102 ∷ 1 ∷ 3 ∷ 1 ∷ 66 ∷ 4 ∷ 2 ∷ 3 ∷ 2 ∷ 1 ∷ 1 ∷ 4 ∷ 0 ∷ 1 ∷ 116 ∷ 3 ∷ 0 ∷ 0 ∷ 1 ∷ 67 ∷ 1
    ∷ 1 ∷ 120 ∷ 1 ∷ 1 ∷ 0 ∷ 4 ∷ 0 ∷ 1 ∷ 102 ∷ 1 ∷ 2 ∷ 4 ∷ 0 ∷ 1 ∷ 104 ∷ 5 ∷ 4 ∷ 4 ∷ 0 ∷ 1 ∷ 116 ∷ 1 ∷ 3 ∷ s_type ++ 4 ∷ 2 ∷ 1 ∷ 120 ∷ 1 ∷ 0 ∷ text "a:b/s" ++ 5 ∷ 5 ∷ s_type ++ 4 ∷ 0 ∷ text "a:b/s"
    ++ 5 ∷ 6 ∷ []

abbrev whole : List ℕ
whole = preamble ++ 7 ∷ 110 ∷ 1 ∷ 65 ∷ 8 ∷ 1 ∷ 66 ∷ 2 ∷ 1 ∷ 121 ∷ 4 ∷ 2 ∷ 1 ∷ 116 ∷ 1 ∷ 2 ∷ text "pkg" ++ 3 ∷ 0 ∷ 0 ∷ 3 ∷ 0 ∷ text "s:r/j" ++ 5 ∷ 0 ∷ 2 ∷ 3 ∷ 0 ∷ 0 ∷ 1 ∷ 116 ∷ 1 ∷ 66 ∷ 2 ∷ 2 ∷ 3 ∷ 2
    ∷ 1 ∷ 1 ∷ 4 ∷ 0 ∷ 1 ∷ 116 ∷ 3 ∷ 0 ∷ 0 ∷ 3 ∷ 0 ∷ text "s:r/k" ++ 5 ∷ 2 ∷ 2 ∷ 3 ∷ 0 ∷ 1 ∷ 1 ∷ 116 ∷ 1 ∷ 66 ∷ 5 ∷ 2 ∷ 3 ∷ 2 ∷ 1 ∷ 3 ∷ 4 ∷ 0 ∷ 1 ∷ 116 ∷ 3 ∷ 0 ∷ 0 ∷ 1 ∷ 112 ∷ 1 ∷ 1 ∷ 64 ∷ 1 ∷ 1 ∷ 120
    ∷ 2 ∷ 1 ∷ 0 ∷ 4 ∷ 0 ∷ 1 ∷ 102 ∷ 1 ∷ 3 ∷ 4 ∷ 0 ∷ text "a:b/i" ++ 5 ∷ 4 ∷ exported_as 105 0 ++ 7 ∷ 97 ∷ 1 ∷ 65 ∷ 2 ∷ s_type ++ 4 ∷ 0 ∷ text "a:b/s" ++ 5 ∷ 0 ∷ exported_as 115 2
    ++ world_section 13 w_declared ++ exported_as 119 4

reads_whole : meaning whole ≡ Some whole-meaning
unfolding computes meaning cut_at a_b
reads_whole = refl

-- its world alone
abbrev whole_world : List ℕ
whole_world = world_of 13 w_declared

reads_whole_world : world_meaning_of whole_world ≡ Some (record {
  identity = a_b;
  name = codes "w";
  world = w-meaning;
  shown = from_entries ((codes "s:r/j", j-meaning) ∷ (codes "a:b/s", s-meaning) ∷ (codes "a:b/s", s-meaning) ∷ []);
})
unfolding computes world_meaning_of cut_at a_b
reads_whole_world = refl
