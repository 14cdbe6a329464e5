-- The keyword of a word.
use Rattle.std.proofs.Common.{◌≡◌, refl, Bool, true, false, if◌then◌else◌, List, [], ◌∷◌, Some}
use Rattle.std.specs.{Option.option_map}
use Rattle.wit_model.specs.Text.{Text, text_eq}
use Rattle.print_grammar.specs.Keyword.{Keyword as keywords, entry_of}
use Rattle.text_tokens.specs.Kinds.{entry_here, keyword_here}

pub entry_of-here : (entries : List (Text × keywords)) (text : Text) → option_map keyword_here (entry_of entries text) ≡ entry_here entries text
entry_of-here [] text = refl
entry_of-here (entry ∷ entries) text = go (text_eq entry.0 text) (entry_of-here entries text)
  where
    go : (b : Bool) → option_map keyword_here (entry_of entries text) ≡ entry_here entries text
        → option_map keyword_here (if b then Some entry.1 else entry_of entries text) ≡ (if b then Some (keyword_here entry.1) else entry_here entries text)
    go true h = refl
    go false h = h
