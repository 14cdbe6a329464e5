use Rattle.plan_meaning.specs.NumberedViews.{path_at}
use Rattle.read_rules.specs.Tables.{numbered_tables}
use Rattle.read_rules.proofs.WorldLaws.{outside_none, outside_some}
use Rattle.read_rules.proofs.uses.outside.Goals as goal

pub returns-then-has_path : goal.returns-then-has_path
returns-then-has_path c = outside_some (path_at (numbered_tables c.args.tables.now) c.args.place) c.args.place c.if-has_path.ensures

pub returns-else-has_path : goal.returns-else-has_path
returns-else-has_path c = outside_none (path_at (numbered_tables c.args.tables.now) c.args.place) c.args.place c.if-has_path.ensures
