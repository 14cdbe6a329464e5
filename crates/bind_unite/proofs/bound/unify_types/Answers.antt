use Rattle.std.proofs.Common.{◌≡◌, ◌∙◌, sym, subst}
use Rattle.wit_model.specs.declared.model.World.{World}
use Rattle.bind_carry.specs.BoundGains.{unified}
use Rattle.bind_carry.proofs.CopiesPlaced.{some_same}
use Rattle.bind_unite.proofs.bound.unify_types.Goals as goal

pub returns-clause-fates : goal.returns-clause-fates
returns-clause-fates c w v at_w at_v =
    let own = c.own_world-own.result.now in
    let other = c.other_world-other.result.now in
    let old = c.args.fates.now in
    let new = c.unify.new.fates in
    let own_is : own ≡ w = some_same own w (sym c.own_world-own.ensures ∙ at_w) in
    let other_is : other ≡ v = some_same other v (sym c.other_world-other.ensures ∙ at_v) in
    subst (λ (x : World). new ≡ unified x.imports.entries v.imports.entries old) own_is (subst (λ (y : World). new ≡ unified own.imports.entries y.imports.entries old) other_is c.unify.ensures.fates)
