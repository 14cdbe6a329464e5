use Rattle.std.proofs.Common.{sym, ◌∙◌, None}
use Rattle.comp_bytes.specs.{Levels.part_behind_at, Reading.u32_at}
use Rattle.read_follow.proofs.PartTypeLaws.{part_counted, wrapper_front, shown_front, both_hold, second_fails, first_fails}
use Rattle.read_follow.proofs.Refusing.{refused}
use Rattle.read_follow.proofs.part_types.part_behind_of.Goals.{else-count-eq2-via-then-count-eq2+else-starts_with, else-count-eq2-via-else-count-eq2}
use Rattle.read_follow.proofs.part_types.part_behind_of.Goals as goal

pub returns-then-starts_with-clause-found : goal.returns-then-starts_with-clause-found
returns-then-starts_with-clause-found c = rw (wrapper_front c.args.bytes.now c.in-Ok.count c.in-Ok.items.now c.in-Ok.ensures c.split_at.result.1.now
    (both_hold c.in-Ok.count c.in-Ok.items.now c.if-count-eq2.true (sym c.starts_with.ensures.value ∙ c.if-starts_with.true)) c.split_at.ensures.back) c.wrapper_of.ensures.found

pub returns-else-count-eq2-clause-found : goal.returns-else-count-eq2-clause-found
returns-else-count-eq2-clause-found c = rw (shown_front c.args.bytes.now c.in-Ok.count c.in-Ok.items.now c.in-Ok.ensures (elim c.else-count-eq2.branch [
  | else-count-eq2-via-then-count-eq2+else-starts_with w ↦ second_fails c.in-Ok.count c.in-Ok.items.now w.if-count-eq2.true (sym w.starts_with.ensures.value ∙ w.if-starts_with.false)
  | else-count-eq2-via-else-count-eq2 w ↦ first_fails c.in-Ok.count c.in-Ok.items.now w.if-count-eq2.false
])) c.shown_of.ensures.found

pub returns-in-Err-clause-found : goal.returns-in-Err-clause-found
returns-in-Err-clause-found c = refused c.in-Err.refusal (u32_at c.args.bytes.now) (part_behind_at c.args.bytes.now) (part_counted c.args.bytes.now None) c.in-Err.ensures
