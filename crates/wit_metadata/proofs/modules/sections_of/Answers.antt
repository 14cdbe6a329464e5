use Rattle.std.proofs.Common.{◌∙◌, sym}
use Rattle.wit_metadata.proofs.ModuleLaws.{behind-preamble, other-preamble}
use Rattle.wit_metadata.proofs.modules.sections_of.Goals as goal

pub returns-then-starts_with-clause-ok : goal.returns-then-starts_with-clause-ok
returns-then-starts_with-clause-ok c = behind-preamble c.args.bytes.now c.split_at.result.1.now (sym c.starts_with.ensures.value ∙ c.if-starts_with.true) c.split_at.ensures.back

pub returns-else-starts_with-clause-none : goal.returns-else-starts_with-clause-none
returns-else-starts_with-clause-none c = other-preamble c.args.bytes.now (sym c.starts_with.ensures.value ∙ c.if-starts_with.false)
