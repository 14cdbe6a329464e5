use Rattle.std.proofs.Common.{rules, ◌≡◌, ◌+◌, ◌-◌, sym, subst, List, [], Bool, length}
use Rattle.plan_parts.specs.Marks.{parts_of}
use Rattle.plan_parts.proofs.MarkLaws.{all_looked_at, begins, marked_turn, parts_fit, unmarked_turn, used_marked, AreClosed}
use Rattle.plan_parts.proofs.marks.close.Goals as goal
use Rattle.plan_parts.proofs.marks.close.Goals.{then-marks-number, else-marks-number}

pub loop-passed-init : goal.loop-passed-init
loop-passed-init c = begins c.args.parts.now c.args.marks.now

pub mark_parts-requires : goal.mark_parts-requires
mark_parts-requires c =
    let many : length c.args.parts.now ≡ length c.loop-passed.marks = search rules in
    parts_fit c.args.parts.now (length c.loop-passed.marks) c.loop-passed.passed (record { ref_ptr = (0, 0); now = [] }) many c.loop-passed-test.true c.requires.fall

pub loop-passed-preserved : goal.loop-passed-preserved
loop-passed-preserved c =
    let ps = c.args.parts.now in
    let roots = c.args.marks.now in
    let passed = c.loop-passed.passed in
    elim c.if-marks-number.branch [
      | then-marks-number w ↦ subst (λ (ms : List Bool). AreClosed (parts_of ps) roots ms (length ps - (passed + 1))) (sym w.marks-is)
          (marked_turn ps roots c.loop-passed.marks passed c.loop-passed-test.true c.loop-passed.invariant c.requires.fall (record { ref_ptr = (0, 0); now = [] }) w.if-marks-number.true
          w.mark_parts.new.marks w.mark_parts.ensures)
      | else-marks-number w ↦ subst (λ (ms : List Bool). AreClosed (parts_of ps) roots ms (length ps - (passed + 1))) (sym w.marks-is)
          (unmarked_turn ps roots c.loop-passed.marks passed c.loop-passed-test.true c.loop-passed.invariant w.if-marks-number.false)
    ]

pub returns : goal.returns
returns c n = (
  λ e. c.loop-passed.invariant.sound n e,
  λ used. used_marked (parts_of c.args.parts.now) c.args.marks.now c.loop-passed.marks
      (all_looked_at c.args.parts.now c.args.marks.now c.loop-passed.marks c.loop-passed.passed c.loop-passed-test.false c.loop-passed.invariant) n used,
)
