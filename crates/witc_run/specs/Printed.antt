-- The text of the package that a reader gives.
use Rattle.std.specs.Prelude.{ℕ, List, Option}
use Rattle.witc_run.specs.Input.{ReadsWhole}
use Rattle.witc_texts.specs.Printed.{PrintsBytes}

-- All that a reader has left means a package, and the text is of it, with no others nested.
pub record PrintsInput (left rest : Option (List ℕ)) (text : List ℕ) : Type 0 where
  pub input : List ℕ
  pub read : ReadsWhole left rest input
  pub printed : PrintsBytes input text
