use Rattle.std.proofs.Common.{ℕ, ◌≡◌, Some, None, ap, sym, subst, ◌∙◌}
use Rattle.std.specs.List.{Contains}
use Rattle.encode_types.specs.NumberMaps.{NumberEntries}
use Rattle.encode_types.proofs.Tables.{some-when, none-when}
use Rattle.encode_types.proofs.Ascending.{number-behind, number-nowhere}
use Rattle.encode_types.proofs.number_map.NumberMap.get.Goals as goal

pub returns-in_err-get-in-None-clause-none : goal.returns-in_err-get-in-None-clause-none
returns-in_err-get-in-None-clause-none c = none-when _ _ (λ e. subst (λ (m : NumberEntries). (i : ℕ) → Contains m.entries (c.args.number, i) → ⊥) c.self.view_is
    (number-nowhere c.self.inside.run.items c.self.inside.rest c.self.invariant.1 c.args.number
    (λ i g. absurd (let z : None ≡ Some (Some i) = c.in_err-get-in-None.ensures.value ∙ g in let w : ⊥ = cc in w))
    (rw c.deref.ensures.value at c.in-None.ensures.none)))

pub returns-in_ok-get-in-None-clause-some : goal.returns-in_ok-get-in-None-clause-some
returns-in_ok-get-in-None-clause-some c = some-when _ _ (λ i e. subst (λ (m : NumberEntries). Contains m.entries (c.args.number, i)) c.self.view_is
    (number-behind c.self.inside.run.items c.self.inside.rest.entries c.args.number i (sym c.in_ok-get-in-None.ensures.value ∙ ap Some e)))

pub returns-in_ok-get-in-None-clause-none : goal.returns-in_ok-get-in-None-clause-none
returns-in_ok-get-in-None-clause-none c = none-when _ _ (λ e. subst (λ (m : NumberEntries). (i : ℕ) → Contains m.entries (c.args.number, i) → ⊥) c.self.view_is
    (number-nowhere c.self.inside.run.items c.self.inside.rest c.self.invariant.1 c.args.number
    (λ i g. absurd (let z : Some c.in_ok-get-in-None.field-0.now ≡ Some (Some i) = c.in_ok-get-in-None.ensures.value ∙ g in let w : ⊥ = cc in w))
    (rw c.deref.ensures.value at c.in-None.ensures.none)))
