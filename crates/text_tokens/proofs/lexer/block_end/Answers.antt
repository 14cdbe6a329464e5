use Rattle.std.proofs.Common.{◌∙◌, sym, subst, arith}
use Rattle.text_tokens.proofs.CommentFacts.{OpenBlock, open_closed, open_closes, open_ended, open_goes, open_opens}
use Rattle.text_tokens.proofs.lexer.block_end.Goals as goal

pub returns-then-inner-eq0-clause-rest : goal.returns-then-inner-eq0-clause-rest
returns-then-inner-eq0-clause-rest c =
    let text = c.args.bytes.now in
    let zero = c.if-inner-eq0.true in
    open_closed text c.args.from c.bytes.at c.bytes-test.true (sym c.closes_block.ensures ∙ c.if-closes_block.true)
    (subst (λ n. OpenBlock text c.args.from c.bytes.at n) zero c.bytes.invariant)

pub bytes-preserved-then-closes_block : goal.bytes-preserved-then-closes_block
bytes-preserved-then-closes_block c =
    open_closes c.args.bytes.now c.args.from c.bytes.at c.bytes.inner c.bytes-test.true (let z = c.if-inner-eq0.false in omega arith)
    (sym c.closes_block.ensures ∙ c.if-closes_block.true) c.bytes.invariant

pub bytes-preserved-then-opens_block : goal.bytes-preserved-then-opens_block
bytes-preserved-then-opens_block c =
    open_opens c.args.bytes.now c.args.from c.bytes.at c.bytes.inner c.bytes-test.true (sym c.closes_block.ensures ∙ c.if-closes_block.false)
    (sym c.opens_block.ensures ∙ c.if-opens_block.true) c.bytes.invariant

pub bytes-preserved : goal.bytes-preserved
bytes-preserved c =
    open_goes c.args.bytes.now c.args.from c.bytes.at c.bytes.inner c.bytes-test.true (sym c.closes_block.ensures ∙ c.if-closes_block.false)
    (sym c.opens_block.ensures ∙ c.if-opens_block.false) c.bytes.invariant

pub returns-clause-rest : goal.returns-clause-rest
returns-clause-rest c = open_ended c.args.bytes.now c.args.from c.bytes.at c.bytes.inner (let z = c.bytes-test.false in omega arith) c.bytes.invariant
