use Rattle.std.proofs.Common.{◌∙◌}
use Rattle.plan_types.proofs.ShownLaws.{told_next}
use Rattle.plan_types.proofs.declared.note_all.Goals as goal

pub loop-showing-preserved : goal.loop-showing-preserved
loop-showing-preserved c = record {
  many = c.note.ensures.many ∙ c.loop-showing.invariant.many;
  told = told_next c.args.showings.now c.loop-showing.showing-index _ c.loop-showing-test.true c.loop-showing.table c.note.new.table c.loop-showing.invariant.told c.note.ensures;
}
