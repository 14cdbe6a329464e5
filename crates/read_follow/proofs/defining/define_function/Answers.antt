use Rattle.std.proofs.Common.{subst, List}
use Rattle.comp_bytes.specs.RawOf.{raw_function}
use Rattle.wit_model.specs.{Meaning.Signature, Tree.Tree}
use Rattle.comp_meaning.specs.Follow.{function_signature}
use Rattle.read_follow.specs.declared.slots.Slot.{Slot}
use Rattle.read_follow.specs.{Found.Refuses, Functions.function_shape, Functions.IsSignatureOf, Slots.slots_in}
use Rattle.read_follow.proofs.defining.define_function.Goals as goal

pub returns-in_ok-push-in-Ok-clause-defined : goal.returns-in_ok-push-in-Ok-clause-defined
returns-in_ok-push-in-Ok-clause-defined c =
    let h : IsSignatureOf (function_shape c.in-Ok.key) c.args.slots.now.items (raw_function c.args.function.now) =
    subst (λ (ss : List Slot). IsSignatureOf (function_shape c.in-Ok.key) ss (raw_function c.args.function.now)) c.deref.ensures.value c.in-Ok.ensures in
    record {
      number = c.in_ok-number-in-Ok.number;
      shape = function_shape c.in-Ok.key;
      next = c.in_ok-push-in-Ok.ensures.items;
      at = c.in_ok-number-in-Ok.ensures.found;
      joins = c.in_ok-number-in-Ok.ensures.joins;
      ranges = h.ranges;
      found = h.found;
    }

pub returns-in-Err-clause-refused : goal.returns-in-Err-clause-refused
returns-in-Err-clause-refused c = subst (λ (ss : List Slot). (T : List Tree) (F : List Signature) → Refuses c.in-Err.refusal (function_signature (slots_in T F ss) (raw_function c.args.function.now)))
    c.deref.ensures.value c.in-Err.ensures
