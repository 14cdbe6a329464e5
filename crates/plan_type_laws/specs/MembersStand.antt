-- Parts at the top that are well-formed together: each name that is met was shown before it, by the same part or by one before it (WIT.md, "Package
-- Format").
use Rattle.std.specs.{Prelude.List, List.AllByRecursion, List.flat_map}
use Rattle.comp_meaning.specs.Follow.{Instance, instance_place}
use Rattle.read_shown.specs.{Parts.MemberStands, Parts.PartStands, Parts.instances_of, Scopes.IsShownBefore, Trees.AllAt, Views.ViewStands}
use Rattle.comp_meaning.specs.Reads as reads

-- the instances that the parts show, in order
abbrev pub all_instances : List reads.Member → List Instance
all_instances members = flat_map instances_of members

-- Each view is well-formed behind those before it, and each world is.
pub record MembersStand (members : List reads.Member) : Type 0 where
  pub views : AllAt (λ n (x : Instance). ViewStands (IsShownBefore (all_instances members) n) (instance_place x.interface) x.view) (all_instances members)
  pub parts : AllByRecursion (λ (m : reads.Member). PartStands m.part) members

-- Parts that are well-formed each alone are so together.
abbrev pub MembersStandTogether : Type 0
MembersStandTogether = (members : List reads.Member) → AllByRecursion MemberStands members → MembersStand members
