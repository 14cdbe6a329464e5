-- What is told of texts that are lent.
use Rattle.std.proofs.Common.{ℕ, Bool, List, [], ◌∷◌, Bor}
use Rattle.teasel_answers.specs.Answers.{tells_pair}
use Rattle.teasel_files.specs.AllTell.{AllTell, none_left, one_more}
use Rattle.teasel_words.specs.{Given.texts_of, Table.Text}

-- the same of a text that is lent
abbrev pub tells_lent : List ℕ → Bor Text → Bool → Type 0
tells_lent bytes t = tells_pair bytes t.now

pub tells-texts : (bytes : List ℕ) (ts : List (Bor Text)) (before all : Bool) → AllTell (tells_lent bytes) ts before all → AllTell (tells_pair bytes) (texts_of ts) before all
tells-texts bytes [] before _ none_left = none_left
tells-texts bytes (t ∷ ts) before all (one_more h rest) = one_more h (tells-texts bytes ts _ all rest)
