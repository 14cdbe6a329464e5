use Rattle.read_follow.specs.InstanceScopes.{tables_of}
use Rattle.read_follow.proofs.StepLaws.{viewed}
use Rattle.read_follow.proofs.instances.follow_instance.Goals as goal

pub returns-in-Ok-clause-shown : goal.returns-in-Ok-clause-shown
returns-in-Ok-clause-shown c = viewed c.args.marks.now c.args.here (tables_of c.args.table.now c.args.functions.now) c.requires.tables c.args.outer.now c.requires.outer c.args.body
    c.follow_body.new.table c.follow_body.new.functions c.in-Ok.scope c.shown_by.result c.shown_by.ensures.types c.shown_by.ensures.functions c.in-Ok.ensures.followed
