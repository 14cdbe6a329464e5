use Rattle.wit_component.specs.Bindings.{binding_of}
use Rattle.callers.specs.Merged.{RefusesModules}
use Rattle.callers.proofs.Flows.{some-left}
use Rattle.callers.proofs.merged.merged_modules.Goals as goal
use Rattle.base_lemmas.proofs.Options.{passed}

pub returns-in_err-_first-clause-refused : goal.returns-in_err-_first-clause-refused
returns-in_err-_first-clause-refused c = passed (RefusesModules c.args.first.now c.args.second.now) _ _ c.from_residual.ensures.1
    (RefusesModules.no_first c.in_err-_first.ensures.refuses c.in_err-_first.ensures.size)

pub returns-in_err-_second-clause-refused : goal.returns-in_err-_second-clause-refused
returns-in_err-_second-clause-refused c = passed (RefusesModules c.args.first.now c.args.second.now) _ _ c.from_residual-in_err-_second.ensures.1
    (RefusesModules.no_second c.in_err-_second.ensures.refuses c.in_err-_second.ensures.size)

pub returns-in_err-merge-clause-refused : goal.returns-in_err-merge-clause-refused
returns-in_err-merge-clause-refused c = passed (RefusesModules c.args.first.now c.args.second.now) _ _ c.from_residual-in_err-merge.ensures.1
    (RefusesModules.apart c.in_ok-_first.bound c.in_ok-_second.other c.in_ok-_first.ensures.bound c.in_ok-_second.ensures.bound c.in_err-merge.ensures.refusal)

pub returns-clause-merged : goal.returns-clause-merged
returns-clause-merged c = record {
  own = binding_of c.in_ok-_first.bound;
  other = binding_of c.in_ok-_second.other;
  binds_own = c.in_ok-_first.ensures.bound;
  binds_other = c.in_ok-_second.ensures.bound;
  unite = c.in_ok-merge.ensures.united;
  bindgen = c.in_ok-merge.ensures.valid;
  is_union = c.in_ok-merge.ensures.union;
  some = some-left _ _ _ c.in_ok-_first.ensures.root c.in_ok-merge.ensures.extends;
}
