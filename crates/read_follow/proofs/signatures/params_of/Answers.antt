use Rattle.std.proofs.Common.{◌+◌, ◌<◌, ◌∙◌, ap, sym, subst, [], ◌∷◌, map, ℕ}
use Rattle.std.specs.List.{AllByRecursion}
use Rattle.std.proofs.lemmas.List.{map-append}
use Rattle.wit_model.specs.Text.{Text}
use Rattle.read_follow.specs.Functions.{param_of}
use Rattle.read_follow.proofs.FunctionKeyLaws.{none_above, param_refused, param_row, param_rows, params_start}
use Rattle.read_follow.proofs.signatures.params_of.Goals as goal
use Rattle.base_lemmas.proofs.Elements.{all_end}

pub loop-param-init : goal.loop-param-init
loop-param-init c = record {
  ranges = λ n ranges. none_above (λ (p : Text × ℕ). p.1 < 14 + n) c.in_ok-parts.parts.items c.in_ok-parts.ensures.items;
  so_far = params_start c.args.slots.now c.args.params.now c.in_ok-parts.parts.items c.in_ok-parts.ensures.items;
}

pub returns-in-Err-clause-absent : goal.returns-in-Err-clause-absent
returns-in-Err-clause-absent c = param_refused c.args.slots.now c.args.params.now c.loop-param.param-index c.loop-param.parts.items c.loop-param.invariant.so_far _ c.loop-param-test.true
    c.in-Err.refusal c.in-Err.ensures.found

pub loop-param-preserved : goal.loop-param-preserved
loop-param-preserved c = record {
  ranges = λ n ranges. subst (AllByRecursion (λ (p : Text × ℕ). p.1 < 14 + n)) (sym (ap (map param_of) c.in_ok-push-in-Ok.ensures.items ∙ map-append param_of c.loop-param.parts.items (_ ∷ [])))
      (all_end (λ (p : Text × ℕ). p.1 < 14 + n) (map param_of c.loop-param.parts.items) _ (c.loop-param.invariant.ranges n ranges) (c.in-Ok.ensures.range n ranges));
  so_far = param_row c.args.slots.now c.args.params.now c.loop-param.param-index c.loop-param.parts.items c.loop-param.invariant.so_far _ c.loop-param-test.true c.in-Ok.part c.push.new.self.items
      c.in-Ok.ensures.found c.in_ok-push-in-Ok.ensures.items;
}

pub returns-clause-found : goal.returns-clause-found
returns-clause-found c = param_rows c.args.slots.now c.args.params.now c.loop-param.param-index c.loop-param.parts.items c.loop-param.invariant.so_far c.loop-param-test.false
