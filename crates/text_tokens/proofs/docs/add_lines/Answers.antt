use Rattle.std.proofs.Common.{string_bytes}
use Rattle.std.proofs.lemmas.Iterator.{Splits.YieldsList-from_lines, Consumers.YieldsList-end}
use Rattle.text_tokens.proofs.DocSteps.{written_all, written_on}
use Rattle.text_tokens.proofs.docs.add_lines.Goals as goal

pub loop-line-preserved : goal.loop-line-preserved
loop-line-preserved c =
    written_on (string_bytes c.args.lines.now) (string_bytes c.loop-line.lines) (string_bytes c.add_line.new.lines) c.loop-line.yielded c.in-Some.line c.loop-line.invariant
    c.in_ok-add_line.ensures

pub returns : goal.returns
returns c =
    let t = YieldsList-end (YieldsList-from_lines c.args.text.now cc) c.loop-line.yielded _ c.loop-line.yielded_by _ _ c.in-None.is c.next.ensures.steps in
    written_all (string_bytes c.args.lines.now) (string_bytes c.loop-line.lines) c.args.text.now c.loop-line.yielded c.loop-line.invariant t.0
