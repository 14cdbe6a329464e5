use Rattle.std.proofs.Common.{refl}
use Rattle.print_items.proofs.Driven.{call_made}
use Rattle.print_items.proofs.driver.Driver.word.Goals as goal

pub returns-then-not-self-clause-calls : goal.returns-then-not-self-clause-calls
returns-then-not-self-clause-calls g c = call_made _ _ c.ty.result _ refl c.if-not-self.true c.is_err-self.ensures.value c.ty.ensures.ok c.ty.ensures.err
