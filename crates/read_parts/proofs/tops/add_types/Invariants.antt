use Rattle.std.proofs.Common.{◌≡◌, drop, map}
use Rattle.comp_meaning.specs.{ByLevels.top_part, Reads.steps}
use Rattle.read_follow.specs.PartTypes.{raw_part_type}
use Rattle.read_parts.specs.Tops.{top_of, AreTops}
use Rattle.read_parts.proofs.tops.add_types.Given as goal

abbrev pub invariant-loop-part : goal.invariant-loop-part
invariant-loop-part l = record {
  tops : AreTops l.tops;
  kept : steps top_part (top_of l.tops) (map raw_part_type (drop l.part-index l.parts)) ≡ steps top_part (top_of l.fn.tops) (map raw_part_type l.parts);
}
