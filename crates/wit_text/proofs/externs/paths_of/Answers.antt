use Rattle.wit_text.proofs.FrontLaws.{fronts_ok}
use Rattle.wit_text.proofs.externs.paths_of.Goals as goal

pub returns-clause-import : goal.returns-clause-import
returns-clause-import c = fronts_ok c.new.ensures.empty c.in_ok-state_paths.ensures.import

pub returns-clause-export : goal.returns-clause-export
returns-clause-export c = fronts_ok c.new-2.ensures.empty c.in_ok-state_paths.ensures.export
