use Rattle.plan_build.proofs.Versions.{version_read}
use Rattle.plan_build.proofs.packages.version_of.Goals as goal

pub returns-in-Ok-clause-version : goal.returns-in-Ok-clause-version
returns-in-Ok-clause-version c = (version_read c.args.text.now c.in-Ok.version c.in-Ok.ensures.ok).0

pub returns-in-Ok-clause-text : goal.returns-in-Ok-clause-text
returns-in-Ok-clause-text c = (version_read c.args.text.now c.in-Ok.version c.in-Ok.ensures.ok).1
