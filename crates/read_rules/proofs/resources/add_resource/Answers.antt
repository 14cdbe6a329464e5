use Rattle.read_rules.proofs.ResourceLaws.{nothing_added, name_added}
use Rattle.read_rules.proofs.resources.add_resource.Goals as goal

pub returns-then-not-is_resource : goal.returns-then-not-is_resource
returns-then-not-is_resource c = λ test. nothing_added test c.args.resources.now.keys c.args.name c.args.is_resource c.if-not-is_resource.true

pub returns : goal.returns
returns c = λ test. name_added test c.args.resources.now.keys c.insert.new.self.keys c.args.name c.args.is_resource c.if-not-is_resource.false c.in_ok-_is_new.ensures.keys
