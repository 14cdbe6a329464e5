use Rattle.std.proofs.Common.{sym, ◌∙◌, arith}
use Rattle.text_tokens.proofs.EndFacts.{kept_first, kept_step, kept_dead, kept_end, ends_within}
use Rattle.text_tokens.proofs.state.token_end.Goals as goal

pub loop-at-init : goal.loop-at-init
loop-at-init c = kept_first c.args.bytes.now c.args.from

pub returns-then-is_dead : goal.returns-then-is_dead
returns-then-is_dead c =
    let longest = kept_dead c.args.bytes.now c.args.from c.loop-at.at c.loop-at.state c.loop-at.best (sym c.is_dead.ensures ∙ c.if-is_dead.true) c.loop-at.invariant in
    let within = ends_within c.args.bytes.now c.args.from c.loop-at.best c.requires longest in
    record { longest = longest; further = within.0; within = within.1 }

pub loop-at-preserved : goal.loop-at-preserved
loop-at-preserved c =
    rw (c.better-best.ensures, c.step-state.ensures)
    (kept_step c.args.bytes.now c.args.from c.loop-at.at c.loop-at.state c.loop-at.best c.loop-at-test.true (sym c.is_dead.ensures ∙ c.if-is_dead.false) c.loop-at.invariant)

pub returns : goal.returns
returns c =
    let longest = kept_end c.args.bytes.now c.args.from c.loop-at.at c.loop-at.state c.loop-at.best (omega arith) c.loop-at.invariant in
    let within = ends_within c.args.bytes.now c.args.from c.loop-at.best c.requires longest in
    record { longest = longest; further = within.0; within = within.1 }
