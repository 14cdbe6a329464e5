-- What refusals that are passed on say.
use Rattle.std.proofs.Common.{◌≡◌, List, ℕ, sym, subst, Option}
use Rattle.wit_model.specs.declared.error.{Error.Error, Error.TheVariants.Memory}
use Rattle.witc_run.specs.{Decodes.RefusesInput, Decodes.memory, Decodes.unread, Input.IsUnread}
use Rattle.witc_run.specs.declared.refusal.Refusal.{Refusal}
use Rattle.witc_run.specs.declared.refusal.Refusal.TheVariants as refusals

-- what is true of the refusal is true of the answer that passes it on

module _ (left rest : Option (List ℕ)) where
  -- want of memory
  pub from-memory : (e : Error) → e ≡ Memory → RefusesInput left rest (refusals.Error e)
  from-memory e is = subst (λ (e : Error). RefusesInput left rest (refusals.Error e)) (sym is) memory

  -- a refusal of reading
  pub from-reading : (refusal : Refusal) → IsUnread refusal → RefusesInput left rest refusal
  from-reading (refusals.Error e) is = from-memory e is
  from-reading refusals.Unread is = unread
  from-reading refusals.Invalid is = absurd is
