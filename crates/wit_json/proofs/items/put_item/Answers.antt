use Rattle.std.proofs.Common.{refl}
use Rattle.wit_json.specs.Listed.{item_tokens}
use Rattle.wit_json.proofs.Adding.{added, then_ok}
use Rattle.wit_json.proofs.items.put_item.Goals as goal

pub returns-in_ok-key-in-Function : goal.returns-in_ok-key-in-Function
unfolding item_tokens
returns-in_ok-key-in-Function c = rw c.in-Function.is (then_ok _ _ _ (added c.in_ok-key-in-Function.ensures) c.put_function.ensures refl)
