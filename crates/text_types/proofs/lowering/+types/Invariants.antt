use Rattle.std.proofs.Common.{take, ◌+◌, ◌*◌}
use Rattle.text_types.specs.Forms.{types_seen}
use Rattle.text_types.specs.Kept.{defs_of, Grows}
use Rattle.text_types.specs.Plain.{plain_types}
use Rattle.text_types.specs.Scopes.{text_in}
use Rattle.text_types.specs.Stands.{StandAll}
use Rattle.text_types.proofs.lowering.+types.Given as goal

abbrev pub invariant-lowered_all-loop-tree : goal.invariant-lowered_all-loop-tree
invariant-lowered_all-loop-tree l = record {
  grows : Grows l.initial.types l.types;
  stand : StandAll (defs_of l.types) (plain_types (types_seen (text_in l.scope) (take l.tree-index l.trees))) l.all.items;
}

abbrev pub decreases-form_of : goal.decreases-form_of
decreases-form_of l = 4 * l.room

abbrev pub decreases-lowered : goal.decreases-lowered
decreases-lowered l = 4 * l.room + 1

abbrev pub decreases-lowered_all : goal.decreases-lowered_all
decreases-lowered_all l = 4 * l.room + 2

abbrev pub decreases-map_of : goal.decreases-map_of
decreases-map_of l = 4 * l.room + 2
