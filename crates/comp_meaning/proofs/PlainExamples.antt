-- Worked examples: a package of one world with functions.
use Rattle.std.proofs.Common.{zero, suc, ◌≡◌, ℕ, List, [], ◌∷◌, ◌++◌, Some, None, take, drop, false, true, refl}
use Rattle.std.specs.{Prelude.codes, Prelude.is_some, Prelude.if◌then◌else◌, List.list_any, FinMap.from_entries}
use Rattle.comp_bytes.specs.{Raw.Declaration, Raw.Declarations, Raw.TopType, Raw.Section, Raw.from_list, Reading.plain_name, Reading.component_of}
use Rattle.wit_model.specs.{Names.cut as cut_at, Tree.Tree, Tree.Primitive, Meaning.Item}
use Rattle.comp_meaning.proofs.Computing.{computes, one_world, meaning, world_meaning_of, unit_function, a_b, foo, taking, entry, preamble, text}
use Rattle.comp_bytes.specs.declared.forms.ComponentTypeRef.TheVariants as refs

raw_of_one_world : component_of one_world ≡ Some (Section.types (TopType.component (Declarations.component
    (from_list (Declaration.function (record { is_async = false; parameters = []; result_type = None }) ∷ Declaration.imported (plain_name (codes "host")) (refs.Func 0)
    ∷ Declaration.exported (plain_name (codes "guest")) (refs.Func 0) ∷ []))
    (from_list (Declaration.exported (plain_name (codes "a:b/foo")) (refs.Component 0) ∷ []))) ∷ []) ∷ Section.exports (record { exported_as = plain_name (codes "foo"); type_index = 0 } ∷ []) ∷ [])
unfolding computes
raw_of_one_world = refl

-- a custom section may follow, whole
reads_one_world : (meaning one_world ≡ Some (record { identity = a_b; interfaces = []; worlds = (codes "foo", foo) ∷ []; foreign = from_entries [] }))
    × (world_meaning_of one_world ≡ Some (record { identity = a_b; name = codes "foo"; world = foo; shown = from_entries [] }))
    × (meaning (one_world ++ 0 ∷ 2 ∷ 1 ∷ 0x61 ∷ []) ≡ meaning one_world) × (component_of (one_world ++ 0 ∷ 2 ∷ 1 ∷ []) ≡ None)
unfolding computes meaning world_meaning_of cut_at unit_function a_b foo
reads_one_world = (refl, refl, refl, refl)

-- the index of the imported function is 1, where one type stands; the preamble alone, and the types without their export, are components that mean no package
means_nothing : list_any (λ bytes. is_some (meaning bytes)) ((take 29 one_world ++ 1 ∷ drop 30 one_world) ∷ take 8 one_world ∷ take 52 one_world ∷ []) ≡ false
unfolding computes meaning cut_at
means_nothing = refl

prefix_8 : component_of (take 8 one_world) ≡ Some []
unfolding computes
prefix_8 = refl

abbrev asynchronous : List ℕ
asynchronous = preamble ++ 7 ∷ 33 ∷ 1 ∷ 65 ∷ 2 ∷ 1 ∷ 65 ∷ 2 ∷ 1 ∷ 67 ∷ 1 ∷ 1 ∷ 110 ∷ 119 ∷ 0 ∷ 115 ∷ 4 ∷ 0 ∷ 2 ∷ 103 ∷ 111 ∷ 1 ∷ 0 ∷ 4 ∷ 0 ∷ text "a:b/foo" ++ 4 ∷ 0 ∷ 11 ∷ 9 ∷ 1 ∷ 0 ∷ text "foo" ++ 3
    ∷ 0 ∷ 0 ∷ []

reads_asynchronous : meaning asynchronous ≡ Some (record {
  identity = a_b;
  interfaces = [];
  worlds = (
    codes "foo",
    record { imports = []; exports = entry (codes "go") (Item.function (taking true (codes "n", Tree.primitive Primitive.u64) (Some (Tree.primitive Primitive.string)))) ∷ [] },
  ) ∷ [];
  foreign = from_entries [];
})
unfolding computes meaning cut_at a_b
reads_asynchronous = refl

-- of the proper prefixes only two have a raw form
with_form : ℕ → List ℕ
with_form zero = []
with_form (suc n) = if is_some (component_of (take n one_world)) then n ∷ with_form n else with_form n

prefixes : with_form 63 ≡ 52 ∷ 8 ∷ []
unfolding computes with_form
prefixes = refl
