use Rattle.callers.specs.Merged.{RefusesWorlds}
use Rattle.callers.proofs.merged.merged_worlds.Goals as goal
use Rattle.base_lemmas.proofs.Options.{passed}

pub returns-in_err-other-clause-refused : goal.returns-in_err-other-clause-refused
returns-in_err-other-clause-refused c = passed (RefusesWorlds c.args.first.now c.args.second.now c.args.encoding) _ _ c.from_residual-in_err-other.ensures.1
    (RefusesWorlds.no_second c.in_err-other.ensures.refused)

pub returns-in_err-merge-clause-refused : goal.returns-in_err-merge-clause-refused
returns-in_err-merge-clause-refused c = passed (RefusesWorlds c.args.first.now c.args.second.now c.args.encoding) _ _ c.from_residual-in_err-merge.ensures.1
    (RefusesWorlds.apart _ _ c.in_ok-bound.ensures.binds c.in_ok-other.ensures.binds c.in_err-merge.ensures.refusal)
