-- Why what was read is no package, or no world by itself.
use Rattle.std.specs.Prelude.{Bool, true, false, nat_lt, List, []}
use Rattle.std.specs.List.{list_any}
use Rattle.wit_model.specs.declared.error.Cause.{Cause}
use Rattle.plan_meaning.specs.{NumberedViews.agree_with_first_in_numbers, NumberedMembers.sights_of_members}
use Rattle.read_exports.specs.Members.{numbered_members}
use Rattle.read_exports.specs.declared.members.Member.{Member}
use Rattle.read_rules.specs.Tables.{numbered_tables}
use Rattle.read_rules.specs.declared.tables.{Fact.Fact, Tables.Tables}
use Rattle.wit_model.specs.declared.error.Cause.TheVariants as causes

-- a type has more levels than a type may have
abbrev pub has_deep : List Fact → Bool
has_deep facts = list_any (λ f. nat_lt 100 f.levels) facts

-- the views that members give of each interface agree, each with the first
abbrev pub views_agree : Tables → List Member → Bool
views_agree tables ms = agree_with_first_in_numbers [] (sights_of_members (numbered_tables tables) (numbered_members ms))

-- views that differ, or else another fault
abbrev pub cause_by_views : Bool → Cause
cause_by_views true = causes.NotWit
cause_by_views false = causes.Disagree

-- a type that is too deep, or else another fault
abbrev pub cause_by_depth : Bool → Cause
cause_by_depth true = causes.TooDeep
cause_by_depth false = causes.NotWit
