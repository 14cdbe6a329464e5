-- A plan can be made of what was followed of a package (Component Model WIT.md, "Package Format").
use Rattle.std.specs.{Prelude.◌≡◌, Prelude.ℕ, Prelude.List, Prelude.[], List.AllByRecursion}
use Rattle.plan_meaning.specs.NumberedMembers.{Homes, NumberedMember, NumberedPart, interface, world}
use Rattle.plan_meaning.specs.{NumberedRules.Fact, NumberedViews.NumberedView, NumberedViews.Tables}
use Rattle.read_exports.specs.Members.{numbered_members}
use Rattle.read_exports.specs.declared.members.Member.{Member}
use Rattle.plan_package.specs.PlanWhole.{MayBeWhole}
use Rattle.plan_laws.specs.Whole.{IsPackageInput}
use Rattle.comp_meaning.specs.Reads as reads

-- what the component type of an interface imports shows no functions
abbrev pub PartIsBare : NumberedPart → Type 0
PartIsBare (world w) = Unit {0}
PartIsBare (interface p v imports) = AllByRecursion (λ (i : ℕ × NumberedView). i.1.functions ≡ []) imports

abbrev pub ImportsAreBare : List Member → Type 0
ImportsAreBare ms = AllByRecursion (λ (m : NumberedMember). PartIsBare m.part) (numbered_members ms)

abbrev pub WholeMayBePlanned : Type 0
WholeMayBePlanned = (t : Tables) (h : Homes) (known : ℕ → Fact) (n : ℕ) (ms : List Member) (members : List reads.Member) → IsPackageInput t h known n ms members
    → ImportsAreBare ms → MayBeWhole t ms
