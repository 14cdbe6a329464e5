-- What is written of the component type of an interface, and of that of a world, is no more in sum than they weigh.
use Rattle.std.proofs.Common.{◌≡◌, refl, ap, ◌∙◌, ℕ, ◌+◌, ◌≤◌, ◌⊎◌, inl, inr, Bool, List, [], ◌∷◌, ◌++◌, length, Option, Some, None, option_map, option_to_list, arith}
use Rattle.std.proofs.lemmas.List.Sums.{sum_by-cons, sum_by-append}
use Rattle.std.specs.{Prelude.sum_by, List.Contains}
use Rattle.wit_model.specs.{Text.text_of, Text.text_eq, Text.optional_text, Valid.IsValid}
use Rattle.wit_model.specs.{Lookup.interface_path, Lookup.key_text, Lookup.world_at, Calls.implemented}
use Rattle.wit_model.specs.Weight.{unit_of, path_texts, implemented_texts, item_weight, function_weight, types_instance_weight, number_weight}
use Rattle.wit_model.specs.declared.model.{Resolve.Resolve, WorldId.WorldId, WorldKey.WorldKey, WorldItem.WorldItem, Function.Function}
use Rattle.wit_model.specs.declared.model.World.{World}
use Rattle.encode_types.specs.KeyLaws.{text_same}
use Rattle.encode_names.specs.WorldNames.{written_path, written_suffix, name_of_interface}
use Rattle.wit_encode.specs.WorldRoom.{entries_in, functions_among, type_ids_among}
use Rattle.wit_encode.specs.Extents.{given_length, name_extent, number_extent, instance_extent, item_extent, ComponentsAreLight, WorldsAreLight}
use Rattle.wit_encode.proofs.Extents.{functions-light, given-texts}
use Rattle.wit_encode.proofs.{ExtentWeighing.each-below, ExtentWeighing.number-light, Weighing.sum-among, WorldFunctions.long, WorldFunctions.written-both}
use Rattle.base_lemmas.proofs.Bools.{left_of as first_true}
use Rattle.encode_names.proofs.NamesRead.{no-suffix as no-suffix-written}
use Rattle.wit_model.specs.declared.model.WorldKey.TheVariants as key
use Rattle.wit_model.specs.declared.model.WorldItem.TheVariants as item
use Rattle.wit_model.specs.declared.model.TypeOwner.TheVariants as owner
use Rattle.wit_encode.proofs.DependencyWeighing as dependency
use Rattle.wit_encode.proofs.WorldFunctions as world

-- ---- paths

-- a path and what completes it, whole or canonical
path-short : (r : Resolve) (canonical : Bool) (n : ℕ) → name_extent (name_of_interface r canonical n) ≤ 40 + long (interface_path r n)
path-short r canonical n = omega (arith, written-both r n canonical, given-texts (written_suffix r canonical (Some n)))

-- ---- interfaces

abbrev path-weight : Resolve → ℕ → ℕ
path-weight r n = unit_of (path_texts r n)

abbrev pub import-extent : Resolve → Bool → ℕ → ℕ
import-extent r canonical n = instance_extent (name_of_interface r canonical n) (types_instance_weight r n)

imports-light : (r : Resolve) (canonical : Bool) (ns : List ℕ) → sum_by (import-extent r canonical) ns ≤ sum_by (path-weight r) ns + sum_by (types_instance_weight r) ns
imports-light r canonical [] = omega arith
imports-light r canonical (n ∷ ns) =
    let a = sum_by-cons (import-extent r canonical) n ns in
    omega (arith, path-short r canonical n, imports-light r canonical ns, sum_by-cons (path-weight r) n ns, sum_by-cons (types_instance_weight r) n ns, a)

pub components-light : ComponentsAreLight
components-light r i reached canonical v named reaches =
    let paths = dependency.paths-within r v i named reached reaches in
    let b = dependency.types-within r v i named reached reaches in
    omega (arith, path-short r canonical i.0, imports-light r canonical reached, dependency.weight-is r v i named reached reaches, paths, b)

-- ---- items

-- the implemented path, with what completes it
implemented-short : (r : Resolve) (canonical : Bool) (n : ℕ) (o : Option ℕ) → (o ≡ None) ⊎ (o ≡ Some n)
    → given_length (option_map (written_path r canonical) o) + given_length (written_suffix r canonical o) ≤ long (interface_path r n)
implemented-short r canonical n o (inl none) =
    let path = ap (λ (o : Option ℕ). given_length (option_map (written_path r canonical) o)) none in
    omega (arith, path, ap (λ (o : Option ℕ). given_length (written_suffix r canonical o)) none ∙ ap given_length (no-suffix-written r canonical))
implemented-short r canonical n o (inr there) =
    let path = ap (λ (o : Option ℕ). given_length (option_map (written_path r canonical) o)) there in
    let suffix = ap (λ (o : Option ℕ). given_length (written_suffix r canonical o)) there in
    omega (arith, path, suffix, written-both r n canonical, given-texts (written_suffix r canonical (Some n)))

module _ (r : Resolve) (v : IsValid r) (w : WorldId) (def : World) (home : world_at r w.0 ≡ Some def) (canonical : Bool) where
  function-light : (k : WorldKey) (f : Function) → Contains (entries_in def) (k, item.Function f) → item_extent r canonical (k, item.Function f) ≤ function_weight f
  function-light (key.Interface i) f c = let h = world.keyed r v w def home (key.Interface i, item.Function f) c in absurd cc
  function-light (key.Name name) f c =
      let same = ap length (text_same (text_of name) (text_of f.name) (first_true (text_eq (text_of name) (text_of f.name)) _ (world.keyed r v w def home (key.Name name, item.Function f) c))) in
      omega (arith, same, ap given_length (no-suffix-written r canonical), functions-light r f)

  item-light : (k : WorldKey) (i : WorldItem) → Contains (entries_in def) (k, i) → item_extent r canonical (k, i) ≤ item_weight r k i
  item-light k (item.Function f) c = function-light k f c
  item-light k (item.Type_ id) c = omega arith
  item-light (key.Interface j) (item.Interface id stability docs external) c =
      let both = written-both r j.0 canonical in
      let texts = sum_by-cons length (key_text r (key.Interface j)) (option_to_list (optional_text external)) in
      omega (arith, both, given-texts (written_suffix r canonical (Some j.0)), world.long-is (interface_path r j.0), texts, given-texts (optional_text external))
  item-light (key.Name name) (item.Interface id stability docs external) c =
      let it = item.Interface id stability docs external in
      let path = implemented-short r canonical id.0 (implemented r (key.Name name) it) (world.implemented-as r name it id.0 refl) in
      let first = sum_by-cons length (text_of name) (implemented_texts r (key.Name name) id.0 ++ option_to_list (optional_text external)) in
      let rest = sum_by-append length (implemented_texts r (key.Name name) id.0) (option_to_list (optional_text external)) in
      omega (arith, path, first, rest, given-texts (optional_text external))

pub worlds-light : WorldsAreLight
worlds-light r w def numbers canonical v home different met =
    let inside = sum-among (number_weight r (owner.World w)) numbers (world.numbers r v w def home) different (λ n c. world.counted r v w def home n (met n c)) in
    let each = each-below (number_extent r None) (number_weight r (owner.World w)) numbers
    (λ n c. number-light r v (owner.World w) _ _ (world.own r v w def home) (type_ids_among (entries_in def)) (functions_among (entries_in def)) (world.listed r v w def home)
    (world.among r v w def home) n (met n c)) in
    let items = each-below (item_extent r canonical) (λ e. item_weight r e.0 e.1) (entries_in def) (λ e c. item-light r v w def home canonical e.0 e.1 c) in
    omega (arith, inside, each, items, world.weight-is r v w def home)
