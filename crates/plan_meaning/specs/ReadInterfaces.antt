-- The interfaces of a plan as they are read: then their types are theirs, under rising numbers, and their names are labels that differ
-- (WIT.md, "Interfaces").
use Rattle.std.specs.Prelude.{◌≡◌, ◌<◌, ℕ, true, List, Some, length, slice_get}
use Rattle.std.specs.List.{AllZip, list_all}
use Rattle.wit_model.specs.{Text.Text, Text.text_eq, Names.is_label, Rules.each_from, Rules.passes, Valid.as_interface}
use Rattle.plan_meaning.specs.Shapes.{named_shape}
use Rattle.plan_meaning.specs.{Plan.Plan, Plan.PlannedFunction, Plan.PlannedInterface, Plan.interface_in, Plan.numbers_of, KeptTypes.TypesAreKept}
use Rattle.plan_meaning.specs.{PlanRules.are_rising, PlanRules.interface_labels, PlanRules.is_type_of, KeptOwners.AreOwned, ReadFunctions.Beside}
use Rattle.plan_meaning.specs.NumberedViews.{Tables, place_at, AreTables, NumberedType, NumberedFunction, NumberedView, view_of}
use Rattle.comp_meaning.specs.Rules as rules

-- the number in the table of the name of a type that is shown
abbrev pub IsNumberOf : Tables → ℕ → NumberedType → ℕ → Type 0
IsNumberOf t place x n = slice_get t.shapes n ≡ Some (named_shape place x.name)

-- the type of the plan that is kept for this number, under the name
abbrev pub IsKeptAs : List ℕ → Plan → ℕ → Text × ℕ → Type 0
IsKeptAs kept p n e = (slice_get kept e.1 ≡ Some n) × (e.1 < length p.types)

abbrev pub HasName : NumberedType → Text × ℕ → Type 0
HasName x e = e.0 ≡ x.name

abbrev pub IsNamed : Text × NumberedFunction → Text × PlannedFunction → Type 0
IsNamed f e = (e.0 ≡ f.0) × (e.1.name ≡ f.0)

-- The interface is read in its own place by a view that obeys the rule on interfaces, whose names stand in the table in the view's order.
pub record IsReadInterface (t : Tables) (kept : List ℕ) (p : Plan) (b : Beside) (m : ℕ) (i : PlannedInterface) : Type 0 where
  pub place : ℕ
  pub view : NumberedView
  pub numbers : List ℕ
  pub owned : b.owners place ≡ as_interface m
  pub label : passes is_label i.name ≡ true
  pub obeys : rules.is_interface (place_at t place) (view_of t view) ≡ true
  pub shapes : AllZip (IsNumberOf t place) view.types numbers
  pub kept_there : AllZip (IsKeptAs kept p) numbers i.types
  pub names : AllZip HasName view.types i.types
  pub rise : are_rising numbers ≡ true
  pub functions : AllZip IsNamed view.functions i.functions

-- the tests of a plan on each interface by itself
pub record InterfaceTests (p : Plan) : Type 0 where
  pub interface_labels : list_all interface_labels p.interfaces ≡ true
  pub interface_types : each_from (λ n i. list_all (is_type_of p (as_interface n)) i.types) 0 p.interfaces ≡ true
  pub types_rise : list_all (λ i. are_rising (numbers_of i.types)) p.interfaces ≡ true
  pub function_keys : list_all (λ i. list_all (λ e. text_eq e.0 e.1.name) i.functions) p.interfaces ≡ true

abbrev pub ReadInterfacesPass : Type 0
ReadInterfacesPass = (t : Tables) → AreTables t → (kept : List ℕ) (p : Plan) → TypesAreKept t kept p → (b : Beside) → AreOwned t kept p b.owners
    → ((m : ℕ) (i : PlannedInterface) → interface_in p m ≡ Some i → IsReadInterface t kept p b m i) → InterfaceTests p
