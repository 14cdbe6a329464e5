use Rattle.std.proofs.{Common.◌∙◌, Common.ap, Common.[], Common.◌∷◌, Common.map, lemmas.List.map-append}
use Rattle.read_follow.specs.KeyShapes.{label_of}
use Rattle.read_follow.proofs.RowLaws.{case_refused, case_row, case_rows, part_more}
use Rattle.read_follow.proofs.definition_keys.case_parts.Goals as goal

pub returns-in-Err-clause-absent : goal.returns-in-Err-clause-absent
returns-in-Err-clause-absent c = case_refused c.args.slots.now c.args.cases.now c.loop-case.case-index (map label_of c.loop-case.labels.items) c.loop-case.parts.items c.loop-case.invariant.so_far _
    c.loop-case-test.true c.in-Err.refusal c.in-Err.ensures.found

pub loop-case-preserved : goal.loop-case-preserved
loop-case-preserved c = record {
  ranges = λ n ranges. rw c.in_ok-push_given-in-Ok.ensures (part_more c.args.slots.now c.loop-case.parts.items c.in-Ok.part c.loop-case.invariant.ranges c.in-Ok.ensures.range n ranges);
  so_far = case_row c.args.slots.now c.args.cases.now c.loop-case.case-index (map label_of c.loop-case.labels.items) c.loop-case.parts.items c.loop-case.invariant.so_far _ c.loop-case-test.true
      c.in-Ok.part c.is_some.result (map label_of c.push.new.self.items) c.push_given.new.parts.items c.in-Ok.ensures.found c.is_some.ensures
      (ap (map label_of) c.in_ok-push-in-Ok.ensures.items ∙ map-append label_of c.loop-case.labels.items (_ ∷ [])) c.in_ok-push_given-in-Ok.ensures;
}

pub returns-clause-found : goal.returns-clause-found
returns-clause-found c = case_rows c.args.slots.now c.args.cases.now c.loop-case.case-index (map label_of c.loop-case.labels.items) c.loop-case.parts.items c.loop-case.invariant.so_far
    c.loop-case-test.false
