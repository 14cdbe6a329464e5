use Rattle.std.proofs.Common.{◌+◌, ◌-◌, ◌<◌, ◌∙◌, ap, sym, subst, [], ◌∷◌, map, ℕ}
use Rattle.std.specs.List.{AllByRecursion}
use Rattle.std.proofs.lemmas.List.{map-append}
use Rattle.wit_model.specs.Text.{Text}
use Rattle.comp_bytes.specs.Reading.{field_at, sequence_at}
use Rattle.comp_bytes.proofs.SequenceSteps.{all_items, none_further, one_more, with_front, with_none}
use Rattle.comp_meaning.specs.Follow.{field_type}
use Rattle.read_follow.specs.{Functions.param_of, ReadKeys.made_at, ReadKeys.param_meant, Slots.slots_in}
use Rattle.read_follow.proofs.{FunctionKeyLaws.none_above, Refusing.refused, StepLaws.none_less}
use Rattle.read_follow.proofs.signatures.params_in.Goals as goal
use Rattle.base_lemmas.proofs.Elements.{all_end}

pub loop-init : goal.loop-init
loop-init c = record {
  ranges = λ n ranges. none_above (λ (p : Text × ℕ). p.1 < 14 + n) c.in_ok-params.params.items c.in_ok-params.ensures.items;
  so_far = λ T F.
      let reader = made_at (field_type (slots_in T F c.args.slots.now)) field_at in
      let found = sequence_at reader (c.args.count - 0) c.args.bytes.now in
      ap (λ ps. with_front (map (param_meant T) ps) found) c.in_ok-params.ensures.items ∙ (with_none found ∙ ap (λ n. sequence_at reader n c.args.bytes.now) (none_less c.args.count));
}

pub returns-in-Err-clause-found : goal.returns-in-Err-clause-found
returns-in-Err-clause-found c = λ T F.
    let reader = made_at (field_type (slots_in T F c.args.slots.now)) field_at in
    refused c.in-Err.refusal (reader c.loop.rest.now) (sequence_at reader c.args.count c.args.bytes.now)
    (none_further reader (param_meant T) c.loop.params.items c.args.count c.loop.counter c.args.bytes.now c.loop.rest.now (c.loop.invariant.so_far T F) c.loop-test.true) (c.in-Err.ensures.found T F)

pub loop-preserved : goal.loop-preserved
loop-preserved c = record {
  ranges = λ n ranges. subst (AllByRecursion (λ (p : Text × ℕ). p.1 < 14 + n)) (sym (ap (map param_of) c.in_ok-push-in-Ok.ensures.items ∙ map-append param_of c.loop.params.items (_ ∷ [])))
      (all_end (λ (p : Text × ℕ). p.1 < 14 + n) (map param_of c.loop.params.items) _ (c.loop.invariant.ranges n ranges) (c.in-Ok.ensures.range n ranges));
  so_far = λ T F.
      let reader = made_at (field_type (slots_in T F c.args.slots.now)) field_at in
      one_more reader (param_meant T) c.loop.params.items c.args.count c.loop.counter c.args.bytes.now c.loop.rest.now (c.loop.invariant.so_far T F) c.loop-test.true
      c.in-Ok.param c.in-Ok.behind.now c.push.new.self.items (c.in-Ok.ensures.found T F) c.in_ok-push-in-Ok.ensures.items;
}

pub returns-clause-found : goal.returns-clause-found
returns-clause-found c = λ T F. all_items (made_at (field_type (slots_in T F c.args.slots.now)) field_at) (map (param_meant T) c.loop.params.items) c.args.count c.loop.counter c.args.bytes.now
    c.loop.rest.now (c.loop.invariant.so_far T F) c.loop-test.false
