use Rattle.wit_check.proofs.Answers.{no_fault}
use Rattle.wit_check.proofs.ResolveCheck.check.Goals as goal

pub returns-clause-valid : goal.returns-clause-valid
returns-clause-valid c = no_fault c.args.self.now c.check_rules.result c.check_rules.ensures.broken
