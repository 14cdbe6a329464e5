use Rattle.std.proofs.Common.{map, take}
use Rattle.std.specs.List.{flat_map}
use Rattle.text_trees.specs.TreesSeen.{member_of}
use Rattle.text_types.specs.{Made.types_of, Scopes.text_in, Scopes.AddsTypes}
use Rattle.text_types.proofs.members.add_types.Given as goal

abbrev pub invariant-loop-member : goal.invariant-loop-member
invariant-loop-member l = AddsTypes l.initial.scope l.scope (flat_map types_of (map (member_of (text_in l.initial.scope)) (take l.member-index l.members)))
