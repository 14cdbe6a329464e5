use Rattle.std.proofs.{Common.◌∙◌, Common.ap, Common.◌+◌, Common.◌<◌, Common.[], Common.◌∷◌, Common.map, lemmas.List.map-append}
use Rattle.read_follow.specs.KeyShapes.{label_of}
use Rattle.read_follow.proofs.RowLaws.{field_refused, field_row, field_rows}
use Rattle.read_follow.proofs.definition_keys.field_parts.Goals as goal
use Rattle.base_lemmas.proofs.Elements.{all_end}

pub returns-in-Err-clause-absent : goal.returns-in-Err-clause-absent
returns-in-Err-clause-absent c = field_refused c.args.slots.now c.args.fields.now c.loop-field.field-index (map label_of c.loop-field.labels.items) c.loop-field.parts.items
    c.loop-field.invariant.so_far _ c.loop-field-test.true c.in-Err.refusal c.in-Err.ensures.found

pub loop-field-preserved : goal.loop-field-preserved
loop-field-preserved c = record {
  ranges = λ n ranges. rw c.in_ok-push-in-Ok-2.ensures.items (all_end (λ j. j < 14 + n) c.loop-field.parts.items c.in-Ok.part (c.loop-field.invariant.ranges n ranges)
      (c.in-Ok.ensures.range n ranges));
  so_far = field_row c.args.slots.now c.args.fields.now c.loop-field.field-index (map label_of c.loop-field.labels.items) c.loop-field.parts.items c.loop-field.invariant.so_far _
      c.loop-field-test.true c.in-Ok.part (map label_of c.push.new.self.items) c.push-in-Ok.new.self.items c.in-Ok.ensures.found
      (ap (map label_of) c.in_ok-push-in-Ok.ensures.items ∙ map-append label_of c.loop-field.labels.items (_ ∷ [])) c.in_ok-push-in-Ok-2.ensures.items;
}

pub returns-clause-found : goal.returns-clause-found
returns-clause-found c = field_rows c.args.slots.now c.args.fields.now c.loop-field.field-index (map label_of c.loop-field.labels.items) c.loop-field.parts.items c.loop-field.invariant.so_far
    c.loop-field-test.false
