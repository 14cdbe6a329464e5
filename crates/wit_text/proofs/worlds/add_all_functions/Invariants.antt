use Rattle.std.proofs.Common.{map, take}
use Rattle.std.specs.List.{flat_map}
use Rattle.text_trees.specs.TreesSeen.{world_member_of}
use Rattle.text_types.specs.{Kept.defs_of, Kept.Grows, Scopes.made_under}
use Rattle.text_shown.specs.ShowsWorlds.{world_functions}
use Rattle.wit_text.specs.{Sides.text_of_world, Stages.AddsCalls}
use Rattle.wit_text.proofs.worlds.add_all_functions.Given as goal

abbrev pub invariant-loop-member : goal.invariant-loop-member
invariant-loop-member l = record {
  grows : Grows l.initial.types l.types;
  adds : AddsCalls (defs_of l.types) (λ name. made_under l.scope name)
      (flat_map world_functions (map (world_member_of (text_of_world l.given)) (take l.member-index l.given.world.now.members.now.items)))
      l.initial.imports.entries l.imports.entries;
}
