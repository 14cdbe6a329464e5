-- Modules that are refused.
use Rattle.std.proofs.Common.{◌≡◌, List, ℕ, sym, subst, Option}
use Rattle.wit_model.specs.declared.error.{Error.Error, Error.TheVariants.Memory}
use Rattle.witc_run.specs.{Bindings.RefusesModuleInput, Bindings.memory, Bindings.unread, Input.IsUnread}
use Rattle.witc_run.specs.declared.refusal.Refusal.{Refusal}
use Rattle.witc_run.specs.declared.refusal.Refusal.TheVariants as refusals

module _ (left rest : Option (List ℕ)) where
  -- want of memory
  no-memory : (e : Error) → e ≡ Memory → RefusesModuleInput left rest (refusals.Error e)
  no-memory e is = subst (λ (e : Error). RefusesModuleInput left rest (refusals.Error e)) (sym is) memory

  -- a refusal of reading
  pub no-reading : (refusal : Refusal) → IsUnread refusal → RefusesModuleInput left rest refusal
  no-reading (refusals.Error e) is = no-memory e is
  no-reading refusals.Unread is = unread
  no-reading refusals.Invalid is = absurd is
