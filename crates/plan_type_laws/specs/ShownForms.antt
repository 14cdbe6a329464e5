-- The forms that stand in what is shown, and what holds of each (WIT.md, "Types"; Binary.md, "Type Definitions").
use Rattle.std.specs.Prelude.{◌≡◌, ◌+◌, ℕ, true, List, Option, Some, slice_get}
use Rattle.std.specs.List.{AllByRecursion, Contains}
use Rattle.wit_model.specs.Tree.{Form}
use Rattle.plan_meaning.specs.{NumberedViews.AllOf, NumberedViews.PartsOf, NumberedViews.Tables, NumberedViews.function_at, PlanRules.is_form}
use Rattle.plan_meaning.specs.Shapes.{node_shape}
use Rattle.plan_types.specs.declared.showings.Showing.{Showing}
use Rattle.plan_types.specs.{FirstShown.TellsFirst, FirstShown.first_showing, FirstShown.showing_at, Showings.NumberedShowing}

module _ (t : Tables) where
  -- In the part stands the number, as itself or among the parts of a form.
  pub data HasNumberIn : ℕ → ℕ → Type 0 where
    itself : (k n : ℕ) → k ≡ 14 + n → HasNumberIn k n
    inside : (k n m i : ℕ) (form : Form) (parts : List ℕ) → k ≡ 14 + n → slice_get t.shapes n ≡ Some (node_shape form parts) → Contains parts m
        → HasNumberIn m i → HasNumberIn k i

  -- Each form in the part is so.
  pub record EachForm (P : Form → List ℕ → Type 0) (k : ℕ) : Type 0 where
    pub holds : (n : ℕ) (form : Form) (parts : List ℕ) → HasNumberIn k n → slice_get t.shapes n ≡ Some (node_shape form parts) → P form parts

  -- Each form in what is declared, and in what a function takes and gives, is so.
  pub record FormsHold (P : Form → List ℕ → Type 0) (showings : List NumberedShowing) (signatures : List ℕ) : Type 0 where
    pub declared : AllByRecursion (λ (s : NumberedShowing). AllOf (EachForm P) s.declared) showings
    pub called : AllByRecursion (λ n. PartsOf (EachForm P) (function_at t n)) signatures

-- Each form that is shown is one that a definition may have.
abbrev pub FormsObey : Tables → List NumberedShowing → List ℕ → Type 0
FormsObey t showings signatures = FormsHold t (λ form parts. is_form form parts ≡ true) showings signatures

-- What is found of a number is a showing of it.
abbrev pub FindsShown : List NumberedShowing → (ℕ → Option NumberedShowing) → Type 0
FindsShown showings find = (n : ℕ) (s : NumberedShowing) → find n ≡ Some s → Contains showings s × (s.part ≡ 14 + n)

-- The first showing of each type is found so, also by a table that tells it.
abbrev pub FirstsAreFound : Type 0
FirstsAreFound = (showings : List NumberedShowing) → FindsShown showings (λ n. first_showing n showings)
    × ((table : List (Option Showing)) → TellsFirst showings table → FindsShown showings (showing_at table))
