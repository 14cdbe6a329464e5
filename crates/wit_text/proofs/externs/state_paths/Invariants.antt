use Rattle.std.proofs.Common.{map, take}
use Rattle.std.specs.List.{filter_map}
use Rattle.text_trees.specs.TreesSeen.{world_member_of}
use Rattle.text_shown.specs.ShowsWorlds.{export_of, import_of}
use Rattle.wit_text.specs.Sides.{AddsFronts}
use Rattle.wit_text.proofs.externs.state_paths.Given as goal

abbrev pub invariant-loop-member : goal.invariant-loop-member
invariant-loop-member l = record {
  imports : AddsFronts l.around.sources.now l.world.«package» l.text.text.now l.initial.paths.imports l.paths.imports
      (filter_map import_of (map (world_member_of l.text.text.now) (take l.member-index l.world.members.now.items)));
  exports : AddsFronts l.around.sources.now l.world.«package» l.text.text.now l.initial.paths.exports l.paths.exports
      (filter_map export_of (map (world_member_of l.text.text.now) (take l.member-index l.world.members.now.items)));
}
