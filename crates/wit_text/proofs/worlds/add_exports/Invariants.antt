use Rattle.std.proofs.Common.{map, take}
use Rattle.std.specs.List.{filter_map}
use Rattle.text_trees.specs.TreesSeen.{world_member_of}
use Rattle.text_types.specs.Kept.{defs_of, Grows}
use Rattle.text_shown.specs.ShowsWorlds.{export_of}
use Rattle.wit_text.specs.Sides.{exports_in, text_of_world, Continues, GrowsInline}
use Rattle.wit_text.proofs.worlds.add_exports.Given as goal

abbrev pub invariant-loop-member : goal.invariant-loop-member
invariant-loop-member l = record {
  grows : Grows l.initial.types l.types;
  keeps : GrowsInline l.initial.interfaces l.interfaces;
  adds : Continues l.given (exports_in l.given) l.initial.interfaces l.interfaces (defs_of l.initial.types) (defs_of l.types) l.initial.exports.entries
      l.exports.entries
      (filter_map export_of (map (world_member_of (text_of_world l.given)) (take l.member-index l.given.world.now.members.now.items)));
}
