use Rattle.std.proofs.Common.{◌≡◌, map, take}
use Rattle.read_members.specs.Layers.{shown_of_member, shown_owned}
use Rattle.read_members.proofs.scopes.scopes_of.Given as goal

abbrev pub invariant-loop-number : goal.invariant-loop-number
invariant-loop-number l = map shown_owned l.all.items ≡ take l.number (map (shown_of_member l.places) l.members)
