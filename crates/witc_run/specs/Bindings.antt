-- The text of what the core module binds that a reader gives.
use Rattle.std.specs.Prelude.{◌≡◌, ℕ, List, Option}
use Rattle.wit_model.specs.declared.error.{Error.Error, Error.TheVariants.Memory, Error.TheVariants.Size}
use Rattle.wit_component.specs.{Bound.RefusesBindings, Reached.OutgrowsLists}
use Rattle.witc_run.specs.Input.{ReadsWhole}
use Rattle.witc_run.specs.declared.refusal.Refusal.{Refusal}
use Rattle.witc_texts.specs.Bindings.{PrintsModule}
use Rattle.witc_run.specs.declared.refusal.Refusal.TheVariants as refusals

-- All that a reader has left is a module that binds something, and the text is of all packages of that.
pub record PrintsBindings (left rest : Option (List ℕ)) (text : List ℕ) : Type 0 where
  pub input : List ℕ
  pub read : ReadsWhole left rest input
  pub printed : PrintsModule input text

-- A read failed, memory was wanting, or all is read and is no module, or one whose bindings are refused, for size only where a list would get too long.
pub data RefusesModuleInput (left rest : Option (List ℕ)) : Refusal → Type 0 where
  unread : RefusesModuleInput left rest refusals.Unread
  memory : RefusesModuleInput left rest (refusals.Error Memory)
  bindings : (input : List ℕ) (e : Error) → ReadsWhole left rest input → RefusesBindings input e → (e ≡ Size → OutgrowsLists input)
      → RefusesModuleInput left rest (refusals.Error e)
