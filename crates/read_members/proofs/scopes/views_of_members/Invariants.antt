use Rattle.std.proofs.Common.{◌≡◌, map, take}
use Rattle.read_members.specs.Layers.{member_views, owned_views}
use Rattle.read_members.proofs.scopes.views_of_members.Given as goal

abbrev pub invariant-loop-member : goal.invariant-loop-member
invariant-loop-member l = map (λ vs. owned_views vs.items) l.all.items ≡ map member_views (take l.member-index l.members)
