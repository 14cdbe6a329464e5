use Rattle.witc_run.specs.Answers.{failed, written}
use Rattle.witc_run.proofs.answer.answer.Goals as goal

pub returns-in-Ok : goal.returns-in-Ok
returns-in-Ok g c = written c.in-Ok.ensures

pub returns-in-Err : goal.returns-in-Err
returns-in-Err g c = failed
