use Rattle.std.proofs.{Common.◌∙◌, Common.ap, Common.◌∷◌, Common.[], Common.◌+◌, Common.drop, Common.map, Common.List, lemmas.List.map-append}
use Rattle.comp_meaning.specs.Follow.{each}
use Rattle.read_follow.specs.PartTypes.{IsWholePart}
use Rattle.read_parts.specs.declared.exported.ExportedPart.{ExportedPart}
use Rattle.read_parts.specs.{Exported.part_under, Exported.raw_exported, Members.with_front, Tops.label_and_number, Tops.top_of}
use Rattle.read_parts.proofs.ExportLaws.{each_more}
use Rattle.base_lemmas.proofs.Elements.{all_end}
use Rattle.read_parts.proofs.exported.parts_of.Goals as goal

pub loop-export-preserved : goal.loop-export-preserved
loop-export-preserved c =
    let all = c.args.exported.now in
    let f = part_under (top_of c.args.tops.now).types in
    let items = c.loop-export.parts.items in
    let rest = each f (map label_and_number (drop (c.loop-export.export-index + 1) all)) in
    record {
      whole = rw c.in_ok-push-in-Ok.ensures.items (all_end (λ (x : ExportedPart). IsWholePart x.part) items c.in-Ok.part c.loop-export.invariant.whole c.in-Ok.ensures.whole);
      kept = ap (λ (xs : List ExportedPart). with_front (map raw_exported xs) rest) c.in_ok-push-in-Ok.ensures.items
          ∙ (ap (λ ys. with_front ys rest) (map-append raw_exported items (c.in-Ok.part ∷ []))
          ∙ each_more f label_and_number all c.loop-export.export-index (map raw_exported items) (each f (map label_and_number all)) c.loop-export.invariant.kept _ c.loop-export-test.true
          (raw_exported c.in-Ok.part) c.in-Ok.ensures.found);
    }
