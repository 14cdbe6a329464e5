-- Worlds of the package that a reader gives, by their names, compared.
use Rattle.std.specs.Prelude.{ℕ, List, Option}
use Rattle.wit_model.specs.declared.error.Error.{Error}
use Rattle.witc_run.specs.{Decodes.RefusesInput, Input.ReadsWhole}
use Rattle.witc_run.specs.declared.refusal.Refusal.{Refusal}
use Rattle.witc_texts.specs.Worlds.{ComparesBytes, RefusesCompared}
use Rattle.witc_texts.specs.declared.comparison.Compared.{Compared}
use Rattle.witc_run.specs.declared.refusal.Refusal.TheVariants as refusals

-- All that a reader has left means a package, and this comes of the names in it.
pub record ComparesInput (left rest : Option (List ℕ)) (prev new : List ℕ) (c : Compared) : Type 0 where
  pub input : List ℕ
  pub read : ReadsWhole left rest input
  pub compares : ComparesBytes input prev new c

-- The input is refused, or it means a package whose worlds of these names are.
pub data RefusesWorlds (left rest : Option (List ℕ)) (prev new : List ℕ) : Refusal → Type 0 where
  unread : (refusal : Refusal) → RefusesInput left rest refusal → RefusesWorlds left rest prev new refusal
  compared : (input : List ℕ) (e : Error) → ReadsWhole left rest input → RefusesCompared input prev new e → RefusesWorlds left rest prev new (refusals.Error e)
