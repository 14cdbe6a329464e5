-- Why what a reader gives is refused.
use Rattle.std.specs.Prelude.{ℕ, List, Option}
use Rattle.wit_model.specs.declared.error.{Error.Error, Error.TheVariants.Memory}
use Rattle.wit_component.specs.Decoded.{RefusesBytes}
use Rattle.witc_run.specs.Input.{ReadsWhole}
use Rattle.witc_run.specs.declared.refusal.Refusal.{Refusal}
use Rattle.witc_run.specs.declared.refusal.Refusal.TheVariants as refusals

-- A read failed, memory was wanting, or all is read and means no package.
pub data RefusesInput (left rest : Option (List ℕ)) : Refusal → Type 0 where
  unread : RefusesInput left rest refusals.Unread
  memory : RefusesInput left rest (refusals.Error Memory)
  bytes : (input : List ℕ) (e : Error) → ReadsWhole left rest input → RefusesBytes input e → RefusesInput left rest (refusals.Error e)
