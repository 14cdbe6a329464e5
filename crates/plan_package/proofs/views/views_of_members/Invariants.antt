use Rattle.std.proofs.Common.{◌≡◌, ◌++◌, map, drop}
use Rattle.std.specs.List.{flat_map}
use Rattle.read_rules.specs.Sights.{numbered_sight}
use Rattle.read_exports.specs.Members.{numbered_members, numbered_part}
use Rattle.plan_package.specs.Views.{views_of_members, views_of_part}
use Rattle.plan_package.proofs.views.views_of_members.Given as goal

-- those that were added, and those of the members that are left, are all
abbrev pub invariant-loop-member : goal.invariant-loop-member
invariant-loop-member l = map numbered_sight l.views.items ++ flat_map (λ m. views_of_part (numbered_part m.part)) (drop l.member-index l.members) ≡ views_of_members (numbered_members l.members)
