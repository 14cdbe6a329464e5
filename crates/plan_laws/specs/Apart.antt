-- What stands apart in what was followed of a package: the places of views and of worlds (WIT.md, "Worlds" and "Interfaces").
use Rattle.std.specs.Prelude.{◌≡◌, ℕ, List, Some}
use Rattle.plan_meaning.specs.{NumberedMembers.Homes, NumberedRules.Fact, NumberedViews.NumberedSight, NumberedViews.Tables, NumberedViews.first_at}
use Rattle.read_exports.specs.Members.{numbered_members}
use Rattle.read_exports.specs.declared.members.Member.{Member}
use Rattle.plan_package.specs.Views.{views_of_members}
use Rattle.plan_laws.specs.{FirstViews.IsRisingView, FirstViews.ViewsAreOrdered, Whole.IsPackageInput, WorldItems.WorldsAreApart}
use Rattle.comp_meaning.specs.Reads as reads

-- the names of the first view of each place rise in the table
abbrev pub FirstsRise : Tables → List Member → Type 0
FirstsRise t ms = (q : ℕ) (s : NumberedSight) → first_at q (views_of_members (numbered_members ms)) ≡ Some s → IsRisingView t q s.view

-- Then views are in order, an inline interface is viewed once, and each world has a place of its own.
abbrev pub WholeStandsApart : Type 0
WholeStandsApart = (t : Tables) (h : Homes) (known : ℕ → Fact) (n : ℕ) (ms : List Member) (members : List reads.Member) → IsPackageInput t h known n ms members
    → FirstsRise t ms → ViewsAreOrdered t ms × WorldsAreApart ms
