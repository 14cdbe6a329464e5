-- Interfaces that are read pass the tests of a plan on each interface by itself.
use Rattle.std.proofs.Common.{rules as std_rules, ◌≡◌, refl, sym, ap, ◌∙◌, ℕ, true, false, ◌&&◌, List, [], ◌∷◌, ◌++◌, map, Some, slice_get}
use Rattle.std.proofs.lemmas.{Bool.lt-ltb, Bool.and_from as both, List.Folds.list_all-map}
use Rattle.std.specs.{Prelude.nat_lt, List.AllZip, List.list_all, Option.option_map_or}
use Rattle.wit_model.specs.{Text.Text, Parts.same_owner, Valid.as_interface}
use Rattle.wit_model.proofs.{VersionLaws.same_text, PartsLemmas.owner_itself, RulesLemmas.each_by_number}
use Rattle.comp_meaning.specs.{Rules.distinct}
use Rattle.plan_meaning.specs.{Shapes.named_shape, ReadFunctions.Beside, NumberedViews.Tables, NumberedViews.NumberedType, NumberedViews.NumberedFunction}
use Rattle.plan_meaning.specs.{Plan.Plan, Plan.PlannedType, Plan.PlannedInterface, Plan.numbers_of, KeptTypes.IsKeptType, KeptTypes.TypesAreKept}
use Rattle.plan_meaning.specs.{PlanRules.are_rising, PlanRules.bears, PlanRules.interface_labels, PlanRules.is_type_of, KeptOwners.AreOwned}
use Rattle.plan_meaning.specs.ReadInterfaces.{IsNumberOf, IsKeptAs, HasName, IsNamed, IsReadInterface, ReadInterfacesPass}
use Rattle.plan_meaning.proofs.{KeptParts.kept_at}
use Rattle.base_lemmas.proofs.Bools.{left_of as first_true, right_of as second_true}
use Rattle.base_lemmas.proofs.{Elements.all_by_number, Elements.all_get, Elements.zip_at_right, Elements.zip_map, Lists.map_of_map}
use Rattle.comp_meaning.proofs.RulesLemmas.{distinct_same}

module _ (t : Tables) (kept : List ℕ) (p : Plan) (are : TypesAreKept t kept p) where
  -- ---- order

  later_rise : (n : ℕ) (e : Text × ℕ) → slice_get kept e.1 ≡ Some n → (ns : List ℕ) (es : List (Text × ℕ)) → AllZip (IsKeptAs kept p) ns es → list_all (nat_lt n) ns ≡ true
      → list_all (nat_lt e.1) (numbers_of es) ≡ true
  later_rise n e at ns es z h = search (std_rules, list_all-map, all_by_number, zip_at_right, all_get, lt-ltb)

  all_rise : (ns : List ℕ) (es : List (Text × ℕ)) → AllZip (IsKeptAs kept p) ns es → are_rising ns ≡ true → are_rising (numbers_of es) ≡ true
  all_rise [] [] z h = refl
  all_rise (n ∷ ns) (e ∷ es) z h = search (std_rules, both, later_rise, first_true, second_true, all_rise ns es z.1 (second_true (list_all (nat_lt n) ns) (are_rising ns) h))
  all_rise _ _ z h = absurd z

  -- ---- types

  pub bears_name : (q n : ℕ) (name : Text) (u : PlannedType) → slice_get t.shapes n ≡ Some (named_shape q name) → IsKeptType t kept p n u → bears name u.name ≡ true
  bears_name q n name u there y = search std_rules

  module _ (b : Beside) (owned : AreOwned t kept p b.owners) (m q : ℕ) (home : b.owners q ≡ as_interface m) where
    type_is : (x : NumberedType) (n : ℕ) (e : Text × ℕ) → IsNumberOf t q x n → IsKeptAs kept p n e → HasName x e → is_type_of p (as_interface m) e ≡ true
    type_is x n e there at name =
        let found = kept_at t kept p are e.1 n at.1 at.0 in
        ap (λ o. option_map_or (λ y. bears e.0 y.name && same_owner y.owner (as_interface m)) o false) found.1
        ∙ both (bears e.0 found.0.name) (same_owner found.0.owner (as_interface m)) (ap (λ y. bears y found.0.name) name ∙ bears_name q n x.name found.0 there found.2)
        (ap (λ o. same_owner o (as_interface m)) (owned.owned e.1 n found.0 q x.name found.1 at.0 there ∙ home) ∙ owner_itself (as_interface m))

    types_are : (xs : List NumberedType) (ns : List ℕ) (es : List (Text × ℕ)) → AllZip (IsNumberOf t q) xs ns → AllZip (IsKeptAs kept p) ns es → AllZip HasName xs es
        → list_all (is_type_of p (as_interface m)) es ≡ true
    types_are xs ns [] y z names = refl
    types_are [] ns (e ∷ es) y z names = absurd names
    types_are (x ∷ xs) [] (e ∷ es) y z names = absurd y
    types_are (x ∷ xs) (n ∷ ns) (e ∷ es) y z names = search (std_rules, both, type_is, types_are xs ns es y.1 z.1 names.1)

  -- ---- one interface

  module _ (b : Beside) (m : ℕ) (i : PlannedInterface) (is : IsReadInterface t kept p b m i) where
    shown_names : distinct (map (λ (x : NumberedType). x.name) is.view.types ++ map (λ (f : Text × NumberedFunction). f.0) is.view.functions) ≡ true
    shown_names = search (std_rules, map_of_map, second_true)

    pub has_labels : interface_labels i ≡ true
    has_labels = search (std_rules, zip_map, both, distinct_same, shown_names)

pub read_interfaces_pass : ReadInterfacesPass
read_interfaces_pass t tables kept p are b owned read = record {
  interface_labels = all_by_number _ _ (λ m i e. has_labels t kept p are b m i (read m i e));
  interface_types = each_by_number _ _ (λ m i e. let is = read m i e in types_are t kept p are b owned m is.place is.owned is.view.types is.numbers i.types is.shapes is.kept_there is.names);
  types_rise = all_by_number _ _ (λ m i e. let is = read m i e in all_rise t kept p are is.numbers i.types is.kept_there is.rise);
  function_keys = all_by_number _ _ (λ m i e. let is = read m i e in all_by_number _ _ (λ j x f.
      let from = zip_at_right IsNamed is.view.functions i.functions is.functions j x f in same_text _ _ (from.2.0 ∙ sym from.2.1)));
}
