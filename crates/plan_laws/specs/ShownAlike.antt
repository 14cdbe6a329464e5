-- What was followed of a package is shown alike: a type wherever it is shown, and the functions of a place by each view that shows some
-- (Component Model WIT.md, "Package Format": views of one interface agree).
use Rattle.std.specs.Prelude.{ℕ, List}
use Rattle.plan_meaning.specs.{NumberedMembers.Homes, NumberedRules.Fact, NumberedViews.Tables}
use Rattle.read_exports.specs.declared.members.Member.{Member}
use Rattle.plan_laws.specs.{Whole.IsPackageInput, WholeReasons.AreShownAlike}
use Rattle.comp_meaning.specs.Reads as reads

abbrev pub WholeIsShownAlike : Type 0
WholeIsShownAlike = (t : Tables) (h : Homes) (known : ℕ → Fact) (n : ℕ) (ms : List Member) (members : List reads.Member) → IsPackageInput t h known n ms members
    → AreShownAlike ms
