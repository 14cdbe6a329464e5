-- The last of a list of texts.
use Rattle.std.proofs.Common.{◌≡◌, ◌∙◌, ◌-◌, ap, sym, List, Option, Bor, length, slice_get}
use Rattle.std.proofs.lemmas.List.{length-map}
use Rattle.std.proofs.lemmas.Option.{slice_get-map}
use Rattle.teasel_answers.specs.Worlds.{last_of}
use Rattle.teasel_words.specs.{Given.text_if, Given.texts_of, Table.Text}

pub last-text : (ts : List (Bor Text)) (o : Option (Bor Text)) → o ≡ slice_get ts (length ts - 1) → last_of (texts_of ts) ≡ text_if o
last-text ts o is = ap (λ n. slice_get (texts_of ts) (n - 1)) (length-map ts (λ t. t.now)) ∙ slice_get-map (λ t. t.now) ts (length ts - 1) ∙ ap text_if (sym is)
