use Rattle.std.proofs.Common.{◌∙◌, ap, subst}
use Rattle.wit_component.specs.{Binding.Binding, Bindings.binding_of, Clash.CanUnite, Union.union}
use Rattle.callers.specs.Merged.{RefusesWithRoot}
use Rattle.callers.proofs.Flows.{root-left}
use Rattle.base_lemmas.proofs.Options.{passed}
use Rattle.callers.proofs.merged.merged_with_root.Goals as goal

pub returns-in_err-other-clause-refused : goal.returns-in_err-other-clause-refused
returns-in_err-other-clause-refused c = passed (RefusesWithRoot c.args.bytes.now c.args.encoding) _ _ c.from_residual-in_err-other.ensures.1 (RefusesWithRoot.no_world c.in_err-other.ensures.refused)

pub returns-in_err-merge-clause-refused : goal.returns-in_err-merge-clause-refused
returns-in_err-merge-clause-refused c = passed (RefusesWithRoot c.args.bytes.now c.args.encoding) _ _ c.from_residual-in_err-merge.ensures.1
    (RefusesWithRoot.apart _ _ c.in_ok-bound.ensures.root c.in_ok-other.ensures.binds c.in_err-merge.ensures.refusal)

pub returns-clause-merged : goal.returns-clause-merged
returns-clause-merged c =
    let begin = c.roots_are_roots.ensures c.in_ok-bound.bound c.in_ok-bound.ensures.root in
    record {
      other = c.in_ok-other.other;
      binds_other = c.in_ok-other.ensures.binds;
      unite = subst (λ (b : Binding). CanUnite b (binding_of c.in_ok-other.other)) begin.1 c.in_ok-merge.ensures.united;
      bindgen = c.in_ok-merge.ensures.valid;
      is_union = c.in_ok-merge.ensures.union ∙ ap (λ b. union b (binding_of c.in_ok-other.other)) begin.1;
      some = root-left _ _ _ c.in_ok-bound.ensures.root c.in_ok-merge.ensures.extends;
    }
