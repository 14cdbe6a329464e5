use Rattle.read_rules.specs.Views.{numbered_function}
use Rattle.plan_parts.proofs.AgreementLaws.{function_added}
use Rattle.plan_parts.proofs.agreement.add_told.Goals as goal

pub returns : goal.returns
returns c = λ test. function_added test c.args.all.now.keys c.insert.new.self.keys c.told.result (numbered_function c.args.function) c.told.ensures c.in_ok-_is_new.ensures.keys
