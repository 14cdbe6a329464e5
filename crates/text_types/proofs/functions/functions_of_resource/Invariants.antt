use Rattle.std.proofs.Common.{take}
use Rattle.text_trees.specs.Seen.{cut}
use Rattle.text_types.specs.{Each.EachIs, Kept.defs_of, Kept.Grows, Scopes.text_in, Seen.SeenMember}
use Rattle.text_types.proofs.functions.functions_of_resource.Given as goal

abbrev pub invariant-loop-member : goal.invariant-loop-member
invariant-loop-member l = record {
  grows : Grows l.initial.types l.types;
  each : EachIs (SeenMember (defs_of l.types) (text_in l.scope) (cut (text_in l.scope) l.resource) l.id) (take l.member-index l.members) l.functions.items;
}
