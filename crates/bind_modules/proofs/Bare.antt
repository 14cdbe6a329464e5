-- What the sections of a module bind has no documentation, and no known stability.
use Rattle.std.proofs.Common.{rules as std_rules, ℕ, List}
use Rattle.wit_model.specs.declared.model.{Resolve.Resolve}
use Rattle.plan_meaning.specs.Built.{IsBare}
use Rattle.wit_bind.specs.declared.bindgen.Bindgen.{Bindgen}
use Rattle.wit_bind.specs.Roots.{IsRootResolve}
use Rattle.bind_modules.specs.Reached.{IsReached}

-- the empty root world
root-bare : (r : Resolve) → IsRootResolve r → IsBare r
root-bare r h = search std_rules

pub reached-bare : (input : List ℕ) (b : Bindgen) (rest : List ℕ) → IsReached input b rest → IsBare b.resolve
reached-bare input _ _ (IsReached.begun b rest parts root) = root-bare b.resolve root.holds
reached-bare input _ _ (IsReached.passed b bytes rest f h front never) = reached-bare input b bytes h
reached-bare input _ _ (IsReached.merged own other new answer bytes d rest h front binds is) = is.bare (reached-bare input own bytes h) binds.decoded.bare
