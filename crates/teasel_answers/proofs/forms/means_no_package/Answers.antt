use Rattle.std.proofs.Common.{sym, ◌∙◌}
use Rattle.teasel_answers.proofs.Nothing.{refused-nothing}
use Rattle.teasel_answers.proofs.forms.means_no_package.Goals as goal

pub returns-clause-decides : goal.returns-clause-decides
returns-clause-decides c = refused-nothing c.args.bytes.now c.in-Err.error c.in-Err.ensures.refuses (sym c.is_memory.ensures ∙ c.if-is_memory.false)
