use Rattle.std.proofs.Common.{refl}
use Rattle.print_items.proofs.Driven.{spelled_made}
use Rattle.print_items.proofs.driver.Driver.param.Goals as goal

pub returns-then-not-self-clause-calls : goal.returns-then-not-self-clause-calls
returns-then-not-self-clause-calls g c = spelled_made _ _ c.print_param.result _ refl c.if-not-self.true c.is_err-self.ensures.value c.print_param.ensures.ok c.print_param.ensures.err
