use Rattle.std.proofs.Common.{map, take}
use Rattle.std.specs.List.{flat_map}
use Rattle.text_trees.specs.TreesSeen.{world_member_of}
use Rattle.text_types.specs.Scopes.{text_in, AddsTypes}
use Rattle.text_shown.specs.ShowsWorlds.{world_types}
use Rattle.wit_text.proofs.externs.add_types.Given as goal

abbrev pub invariant-loop-member : goal.invariant-loop-member
invariant-loop-member l =
    AddsTypes l.initial.scope l.scope (flat_map world_types (map (world_member_of (text_in l.initial.scope)) (take l.member-index l.members)))
