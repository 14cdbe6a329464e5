-- A text that spells tokens of JSON.
use Rattle.std.specs.{Prelude.◌≡◌, Prelude.List, Str.IsUtf8}
use Rattle.json.specs.{Lex.tokens, Print.print, Token.Token}
use Rattle.wit_model.specs.Text.{Text}

-- The text is printed of these tokens, and reads back as them and no others.
pub record Spells (text : Text) (ts : List Token) : Type 0 where
  pub printed : text ≡ print ts
  pub reads_back : tokens text ≡ ts
  pub utf8 : IsUtf8 text
