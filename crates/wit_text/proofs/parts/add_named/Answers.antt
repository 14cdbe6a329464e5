use Rattle.wit_text.proofs.Walking.{on_ok}
use Rattle.wit_text.proofs.parts.add_named.Goals as goal

pub returns : goal.returns
returns c = record {
  adds =
      on_ok _ _ c.add_new.result (λ grown. record { label = c.in_ok-from_str.field-0; named = c.in_ok-from_str.ensures.ok; is = grown }) c.add_new.ensures.ok;
}
