use Rattle.std.proofs.Common.{◌≡◌, drop, map}
use Rattle.comp_meaning.specs.{ByLevels.top_export, Reads.steps}
use Rattle.read_follow.specs.Pieces.{raw_export}
use Rattle.read_parts.specs.Tops.{top_of, AreTops}
use Rattle.read_parts.proofs.tops.add_exports.Given as goal

abbrev pub invariant-loop-export : goal.invariant-loop-export
invariant-loop-export l = record {
  tops : AreTops l.tops;
  kept : steps top_export (top_of l.tops) (map raw_export (drop l.export-index l.exports)) ≡ steps top_export (top_of l.fn.tops) (map raw_export l.exports);
}
