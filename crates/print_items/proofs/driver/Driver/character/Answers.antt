use Rattle.std.proofs.Common.{refl}
use Rattle.print_items.proofs.Driven.{spelled_made, call_passed}
use Rattle.print_items.proofs.driver.Driver.character.Goals as goal

pub returns-then-not-self : goal.returns-then-not-self
returns-then-not-self g c = record {
  calls = spelled_made _ _ c.print_character.result _ refl c.if-not-self.true c.is_err-self.ensures.value c.print_character.ensures.ok c.print_character.ensures.err;
}

pub returns-else-not-self : goal.returns-else-not-self
returns-else-not-self g c = record { calls = call_passed _ _ c.if-not-self.false }
