-- The core module that a reader gives, without the sections that carry worlds.
use Rattle.std.specs.Prelude.{ℕ, List, Option}
use Rattle.witc_run.specs.Input.{ReadsWhole}
use Rattle.witc_texts.specs.Stripped.{StripsBytes}

-- All that a reader has left is a module that binds something, and the text is what is left of it.
pub record StripsInput (left rest : Option (List ℕ)) (text : List ℕ) : Type 0 where
  pub input : List ℕ
  pub read : ReadsWhole left rest input
  pub strips : StripsBytes input text
