-- Types that are used, where what is shown obeys the rules (WIT.md, "Types"; Component Model WIT.md, "Package Format").
use Rattle.std.specs.Prelude.{◌≡◌, ◌+◌, ℕ, Bool, true, nat_le, List, Some, None, slice_get}
use Rattle.std.specs.List.{AllByRecursion}
use Rattle.wit_model.specs.{Text.Text, Tree.Place, Tree.levels}
use Rattle.comp_meaning.specs.Rules.{most_levels}
use Rattle.plan_meaning.specs.{NumberedRules.name_at, NumberedRules.name_in, Shapes.Shape}
use Rattle.plan_meaning.specs.NumberedViews.{AllOf, AreTables, IsPart, PartsOf, Tables, declaration_of, function_at, signature_at, tree_at}
use Rattle.plan_parts.specs.Marks.{is_marked}
use Rattle.plan_types.specs.{Showings.NumberedShowing, Used.used_parts, Used.AreUsed}
use Rattle.comp_meaning.specs.Rules as rules

module _ (t : Tables) where
  -- what a name is shown as, in some place, is what a name may be declared as there
  pub record ShowingObeys (s : NumberedShowing) : Type 0 where
    pub place : Place
    pub name : ℕ × Text
    pub is : name_at t s.part ≡ Some name
    pub range : AllOf (IsPart t) s.declared
    pub obeys : rules.is_declared place (declaration_of t s.declared) ≡ true

  -- the type of a function is one in some place
  pub record SignatureObeys (n : ℕ) : Type 0 where
    pub place : Place
    pub range : PartsOf (IsPart t) (function_at t n)
    pub obeys : rules.is_signature place (signature_at t n) ≡ true

  -- a part that another type may have, in some place, and that isn't too deep
  pub record IsFinePart (k : ℕ) : Type 0 where
    pub place : Place
    pub part : rules.is_part place (tree_at t k) ≡ true
    pub shallow : nat_le (levels (tree_at t k)) most_levels ≡ true

-- Each unnamed type that is used is such a part.
abbrev pub UsedPartsAreFine : Type 0
UsedPartsAreFine = (t : Tables) → AreTables t → (showings : List NumberedShowing) → AllByRecursion (ShowingObeys t) showings → (signatures : List ℕ)
    → AllByRecursion (SignatureObeys t) signatures
    → (marks : List Bool) → AreUsed t (used_parts t showings signatures) marks → (n : ℕ) (s : Shape) → is_marked marks n ≡ true → slice_get t.shapes n ≡ Some s
    → name_in s ≡ None → IsFinePart t (14 + n)
