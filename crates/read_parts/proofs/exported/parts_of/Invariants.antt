use Rattle.std.proofs.Common.{◌≡◌, drop, map}
use Rattle.std.specs.List.{AllByRecursion}
use Rattle.comp_meaning.specs.Follow.{each}
use Rattle.read_follow.specs.PartTypes.{IsWholePart}
use Rattle.read_parts.specs.{Exported.part_under, Exported.raw_exported, Members.with_front, Tops.label_and_number, Tops.top_of}
use Rattle.read_parts.proofs.exported.parts_of.Given as goal

abbrev pub invariant-loop-export : goal.invariant-loop-export
invariant-loop-export l = record {
  whole : AllByRecursion (λ x. IsWholePart x.part) l.parts.items;
  kept : with_front (map raw_exported l.parts.items) (each (part_under (top_of l.tops).types) (map label_and_number (drop l.export-index l.exported))) ≡ each (part_under (top_of l.tops).types)
      (map label_and_number l.exported);
}
