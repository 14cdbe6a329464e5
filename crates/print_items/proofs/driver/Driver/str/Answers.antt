use Rattle.std.proofs.Common.{refl}
use Rattle.print_items.proofs.Driven.{call_made, call_passed}
use Rattle.print_items.proofs.driver.Driver.str.Goals as goal

pub returns-then-not-self-clause-calls : goal.returns-then-not-self-clause-calls
returns-then-not-self-clause-calls g c = call_made _ _ c.str.result _ refl c.if-not-self.true c.is_err-self.ensures.value c.str.ensures.ok c.str.ensures.err

pub returns-else-not-self-clause-calls : goal.returns-else-not-self-clause-calls
returns-else-not-self-clause-calls g c = call_passed _ _ c.if-not-self.false
