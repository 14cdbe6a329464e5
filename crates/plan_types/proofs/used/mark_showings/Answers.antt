use Rattle.std.proofs.Common.{subst}
use Rattle.read_rules.specs.Tables.{numbered_tables}
use Rattle.plan_types.specs.{Showings.numbered_showing, Used.showing_parts, Used.Marks}
use Rattle.plan_types.proofs.MarkLaws.{marks_all, marks_next, marks_none}
use Rattle.base_lemmas.proofs.Lists.{flat_mapped}
use Rattle.plan_types.proofs.used.mark_showings.Goals as goal

pub loop-showing-init : goal.loop-showing-init
loop-showing-init c = marks_none c.args.marks.now

pub loop-showing-preserved : goal.loop-showing-preserved
loop-showing-preserved c = marks_next (λ s. showing_parts (numbered_tables c.args.tables.now) (numbered_showing s)) c.args.showings.now c.loop-showing.showing-index _ c.args.marks.now
    c.loop-showing.marks c.mark_showing.new.marks c.loop-showing-test.true c.loop-showing.invariant c.mark_showing.ensures

pub returns : goal.returns
returns c = subst (λ ps. Marks ps c.args.marks.now c.loop-showing.marks) (flat_mapped (showing_parts (numbered_tables c.args.tables.now)) numbered_showing c.args.showings.now)
    (marks_all (λ s. showing_parts (numbered_tables c.args.tables.now) (numbered_showing s)) c.args.showings.now c.loop-showing.showing-index c.args.marks.now c.loop-showing.marks
    c.loop-showing-test.false c.loop-showing.invariant)
