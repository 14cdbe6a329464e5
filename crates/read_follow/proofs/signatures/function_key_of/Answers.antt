use Rattle.std.proofs.Common.{◌≡◌, subst, refl, ℕ, List, Some, map}
use Rattle.std.specs.Borrow.{Bor}
use Rattle.wit_model.specs.{Meaning.Signature, Tree.Tree}
use Rattle.comp_bytes.specs.declared.forms.ComponentValType.{ComponentValType}
use Rattle.comp_bytes.specs.RawOf.{labeled, raw_function}
use Rattle.comp_meaning.specs.Follow.{each, field_type}
use Rattle.read_follow.specs.{Found.Refuses, Functions.function_shape, Functions.param_of, Functions.param_tree, Slots.slots_in}
use Rattle.read_follow.proofs.FunctionKeyLaws.{no_outcome, no_params, outcome_in, signature_is}
use Rattle.read_follow.proofs.signatures.function_key_of.Goals as goal

pub returns-in-Ok-given_in : goal.returns-in-Ok-given_in
returns-in-Ok-given_in c = signature_is c.args.slots.now (raw_function c.args.function.now)
    (function_shape (record { is_async = c.args.function.now.async_; params = c.in-Ok.params; result = c.in-Ok-given_in.outcome })) refl c.in-Ok.ensures.range
    (λ n ranges. outcome_in c.in-Ok-given_in.outcome c.args.slots.now c.in-Ok-given_in.ensures.range n ranges)
    (subst (λ (ps : List (Bor (List ℕ) × ComponentValType)). (T : List Tree) (F : List Signature)
    → each (field_type (slots_in T F c.args.slots.now)) (map labeled ps) ≡ Some (map (param_tree T) (map param_of c.in-Ok.params.items))) c.deref.ensures.value c.in-Ok.ensures.found)
    c.in-Ok-given_in.ensures.found

pub returns-in-Ok : goal.returns-in-Ok
returns-in-Ok c = λ T F. no_outcome c.args.slots.now (raw_function c.args.function.now) c.in-Err-given_in.refusal T F (c.in-Err-given_in.ensures.found T F)

pub returns : goal.returns
returns c = λ T F. no_params c.args.slots.now (raw_function c.args.function.now) c.in-Err.refusal T F
    (subst (λ (ps : List (Bor (List ℕ) × ComponentValType)). Refuses c.in-Err.refusal (each (field_type (slots_in T F c.args.slots.now)) (map labeled ps))) c.deref.ensures.value
    (c.in-Err.ensures.absent T F))
