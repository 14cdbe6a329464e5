use Rattle.std.proofs.Common.{map, take}
use Rattle.std.specs.List.{flat_map}
use Rattle.text_trees.specs.TreesSeen.{member_of}
use Rattle.text_types.specs.{Each.EachIs, Kept.defs_of, Kept.Grows, Made.functions_of, Made.FunctionIs, Scopes.made_under, Scopes.text_in}
use Rattle.text_types.proofs.members.members_of.Given as goal

abbrev pub invariant-loop-member : goal.invariant-loop-member
invariant-loop-member l = record {
  grows : Grows l.initial.types l.types;
  each : EachIs (FunctionIs (defs_of l.types) (λ name. made_under l.scope name))
      (flat_map functions_of (map (member_of (text_in l.scope)) (take l.member-index l.members))) l.functions.entries;
}
