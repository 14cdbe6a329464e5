-- Sets of texts, by the tests that one of them passes.
use Rattle.std.specs.{Prelude.◌≡◌, Prelude.Bool, Prelude.List, List.list_any}
use Rattle.wit_model.specs.Text.{Text}

-- The same texts stand in both, in any order and however often.
abbrev pub AreSame : List Text → List Text → Type 0
AreSame xs ys = (test : Text → Bool) → list_any test xs ≡ list_any test ys
