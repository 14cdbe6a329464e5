use Rattle.plan_meaning.specs.NumberedWorlds.{used_by}
use Rattle.read_rules.specs.Tables.{numbered_tables}
use Rattle.read_rules.proofs.ReachedLaws.{type_added}
use Rattle.read_rules.proofs.reached.add_type.Goals as goal

pub returns : goal.returns
returns c = type_added c.args.used.now.keys c.add_given.new.earlier.keys (used_by (numbered_tables c.args.tables.now) c.args.ty.declared) c.used_by.result c.used_by.ensures c.add_given.result
    c.add_given.ensures
