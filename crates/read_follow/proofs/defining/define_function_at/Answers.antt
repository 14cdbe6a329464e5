use Rattle.std.proofs.Common.{◌≡◌, subst, sym, [], List, Some}
use Rattle.comp_bytes.specs.FirstByte.{function_type_at}
use Rattle.wit_model.specs.{Meaning.Signature, Tree.Tree}
use Rattle.comp_meaning.specs.Follow.{function_signature}
use Rattle.read_follow.specs.declared.slots.Slot.{Slot}
use Rattle.read_follow.specs.{Found.Refuses, Functions.function_shape, Functions.signature_in, ReadKeys.made_at, Slots.slots_in, Slots.AreInRange}
use Rattle.read_follow.proofs.{ReadKeyLaws.signature_read, ReadKeyLaws.signature_unread, Refusing.refused}
use Rattle.read_follow.proofs.defining.define_function_at.Goals as goal

pub returns-in_ok-push-in-Ok-clause-defined : goal.returns-in_ok-push-in-Ok-clause-defined
returns-in_ok-push-in-Ok-clause-defined c = λ f behind at.
    let shape = function_shape c.in-Ok.key in
    let h = subst (λ (ss : List Slot). (T : List Tree) (F : List Signature) → made_at (function_signature (slots_in T F ss)) (function_type_at c.args.is_async) c.args.bytes.now
    ≡ Some (signature_in T shape, c.in-Ok.rest.now)) c.deref.ensures.value c.in-Ok.ensures.found in
    let r = λ (T : List Tree) (F : List Signature).
    signature_read (slots_in T F c.args.slots.now.items) c.args.is_async c.args.bytes.now f behind at (signature_in T shape) c.in-Ok.rest.now (h T F) in (
      (r [] []).1,
      record {
        number = c.in_ok-number-in-Ok.number;
        shape = shape;
        next = c.in_ok-push-in-Ok.ensures.items;
        at = c.in_ok-number-in-Ok.ensures.found;
        joins = c.in_ok-number-in-Ok.ensures.joins;
        ranges = λ n ranges. c.in-Ok.ensures.range n (subst (λ (ss : List Slot). AreInRange n ss) (sym c.deref.ensures.value) ranges);
        found = λ T F. (r T F).0;
      },
    )

pub returns-in-Err-clause-refused : goal.returns-in-Err-clause-refused
returns-in-Err-clause-refused c = λ f behind at T F.
    let slots = slots_in T F c.args.slots.now.items in
    refused c.in-Err.refusal (made_at (function_signature slots) (function_type_at c.args.is_async) c.args.bytes.now) (function_signature slots f)
    (signature_unread slots c.args.is_async c.args.bytes.now f behind at)
    (subst (λ (ss : List Slot). Refuses c.in-Err.refusal (made_at (function_signature (slots_in T F ss)) (function_type_at c.args.is_async) c.args.bytes.now)) c.deref.ensures.value
    (c.in-Err.ensures.found T F))
