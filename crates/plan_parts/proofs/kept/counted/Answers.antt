use Rattle.std.proofs.Common.{rules, ◌≡◌, ◌<◌, [], ◌∷◌, ◌++◌, length, true, false}
use Rattle.plan_parts.proofs.{KeptLaws.next_shapes, KeptLaws.next_numbers, kept.counted.Goals.then-is_kept+in_ok-push-2, kept.counted.Goals.else-is_kept}
use Rattle.plan_parts.proofs.kept.counted.Goals as goal

pub loop-shape-preserved : goal.loop-shape-preserved
loop-shape-preserved c =
    let marks = c.args.marks.now in
    let i = c.loop-shape.shape in
    let old = c.loop-shape.shapes.items in
    let many : c.in-Ok.number ≡ length old = search rules in
    let within : i < length marks = c.loop-shape-test.true in
    record {
      shapes = elim c.if-is_kept.branch [
        | then-is_kept+in_ok-push-2 w ↦ let added : c.if-is_kept.shapes.items ≡ old ++ i ∷ [] = search rules in
            next_shapes marks i false true old c.if-is_kept.shapes.items within w.if-is_kept.true c.loop-shape.invariant.shapes added
        | else-is_kept w ↦ let stays : c.if-is_kept.shapes.items ≡ old = search rules in
            next_shapes marks i false false old c.if-is_kept.shapes.items within w.if-is_kept.false c.loop-shape.invariant.shapes stays
      ];
      numbers = next_numbers marks i false old c.loop-shape.numbers.items c.push.new.self.items c.in-Ok.number within c.loop-shape.invariant.shapes many c.loop-shape.invariant.numbers
          c.in_ok-push.ensures.items;
    }
