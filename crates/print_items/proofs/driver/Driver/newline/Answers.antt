use Rattle.std.proofs.Common.{refl}
use Rattle.print_items.proofs.Driven.{plain_made, call_passed}
use Rattle.print_items.proofs.driver.Driver.newline.Goals as goal

pub returns-then-not-self : goal.returns-then-not-self
returns-then-not-self g c = record { calls = plain_made _ _ c.newline.result _ refl c.if-not-self.true c.is_err-self.ensures.value c.newline.ensures.ok c.newline.ensures.err }

pub returns-else-not-self : goal.returns-else-not-self
returns-else-not-self g c = record { calls = call_passed _ _ c.if-not-self.false }
