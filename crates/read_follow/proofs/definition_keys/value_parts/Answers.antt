use Rattle.std.proofs.Common.{◌+◌, ◌<◌}
use Rattle.read_follow.proofs.RowLaws.{value_refused, value_row, value_rows}
use Rattle.read_follow.proofs.definition_keys.value_parts.Goals as goal
use Rattle.base_lemmas.proofs.Elements.{all_end}

pub returns-in-Err-clause-absent : goal.returns-in-Err-clause-absent
returns-in-Err-clause-absent c = value_refused c.args.slots.now c.args.values.now c.loop-v.v-index c.loop-v.parts.items c.loop-v.invariant.so_far _ c.loop-v-test.true c.in-Err.refusal
    c.in-Err.ensures.found

pub loop-v-preserved : goal.loop-v-preserved
loop-v-preserved c = record {
  ranges = λ n ranges. rw c.in_ok-push-in-Ok.ensures.items (all_end (λ j. j < 14 + n) c.loop-v.parts.items c.in-Ok.part (c.loop-v.invariant.ranges n ranges) (c.in-Ok.ensures.range n ranges));
  so_far = value_row c.args.slots.now c.args.values.now c.loop-v.v-index c.loop-v.parts.items c.loop-v.invariant.so_far _ c.loop-v-test.true c.in-Ok.part c.push.new.self.items c.in-Ok.ensures.found
      c.in_ok-push-in-Ok.ensures.items;
}

pub returns-clause-found : goal.returns-clause-found
returns-clause-found c = value_rows c.args.slots.now c.args.values.now c.loop-v.v-index c.loop-v.parts.items c.loop-v.invariant.so_far c.loop-v-test.false
