-- The tokens of WIT text (WIT.md, Lexical structure; Semantic Versioning 2.0.0). Each is the longest that begins where it stands.
use Rattle.std.specs.Prelude.{◌≡◌, Bool, true, false, List, [], ◌∷◌, ◌++◌, ◌==◌, ◌&&◌, ◌||◌, ◌+◌, ◌-◌, ◌*◌, nat_le, nat_lt, ℕ, Option, None, Some, codes, length, not, if◌then◌else◌}
use Rattle.std.specs.{Char.is_ascii_alphabetic, Char.is_ascii_digit, Option.option_map, Option.option_map_or, Str.Parse.digits_value}
use lib.Utf8.{scalar}
use Rattle.semver.specs.Order.{is_numeric}
use Rattle.wit_model.specs.{Text.text_eq, Names.is_label, Names.is_numeral, Names.is_version_of}
use Rattle.print_grammar.specs.{Keyword.Keyword, Keyword.keyword_of, Keyword.Keyword.Underscore, Calls.is_plain}

-- The punctuation of WIT text.
pub data Mark : Type 0 where
  OpenBrace CloseBrace OpenParen CloseParen Less Greater Colon Semi Comma Dot Equals Slash At Arrow : Mark

-- A token of WIT text.
pub data Token : Type 0 where
  -- a label that is no keyword
  Word : List ℕ → Token
  -- a label after `%`
  Escaped : List ℕ → Token
  Key : Keyword → Token
  VersionText : List ℕ → Token
  Digits : ℕ → Token
  -- a string, by its characters
  Quoted : List ℕ → Token
  Punctuation : Mark → Token

-- ---- strings

-- Where a string is read: between characters, after `\`, after `\u`, after `\u{`, or after digits of a code.
pub data StringState : Type 0 where
  Between AfterBackslash AfterU AfterBrace : StringState
  InCode : ℕ → StringState

-- What a character of a string leads to: a refusal, the end, another place, or a character that is read.
pub data StringStep : Type 0 where
  Refused Closed : StringStep
  Goes : StringState → StringStep
  Reads : ℕ → StringStep

-- what the character after `\` leads to
abbrev pub escape_step : ℕ → StringStep
escape_step c =
    if c == 92 then Reads 92
    else (if c == 34 then Reads 34
    else (if c == 110 then Reads 10
    else (if c == 114 then Reads 13
    else (if c == 116 then Reads 9
    else (if c == 117 then Goes AfterU else Refused)))))

-- the value of a lower-case hexadecimal digit
abbrev pub hexadecimal : ℕ → Option ℕ
hexadecimal c = if is_ascii_digit c then Some (c - 48) else (if nat_le 97 c && nat_le c 102 then Some (c - 87) else None)

-- a code's digits so far, and one more; the code is read as a number
abbrev pub code_step : ℕ → Option ℕ → StringStep
code_step front (Some d) = Goes (InCode (16 * front + d))
code_step front None = Refused

-- the character of a code, if it is a code of one
abbrev pub end_step : ℕ → StringStep
end_step front = if scalar front then Reads front else Refused

-- What a character leads to, where a string is read. A code has one digit at least.
abbrev pub string_step : StringState → ℕ → StringStep
string_step Between c = if c == 34 then Closed else (if c == 92 then Goes AfterBackslash else (if is_plain c then Reads c else Refused))
string_step AfterBackslash c = escape_step c
string_step AfterU c = if c == 123 then Goes AfterBrace else Refused
string_step AfterBrace c = code_step 0 (hexadecimal c)
string_step (InCode front) c = if c == 125 then end_step front else code_step front (hexadecimal c)

-- no more characters, if the text ends here
abbrev pub only_at_end : List ℕ → Option (List ℕ)
only_at_end [] = Some []
only_at_end (c ∷ cs) = None

-- the characters up to the closing quotation mark, with which the text ends
abbrev pub string_characters : StringState → List ℕ → Option (List ℕ)
string_characters state [] = None
string_characters state (c ∷ cs) =
    elim (string_step state c) [
      | Refused ↦ None
      | Closed ↦ only_at_end cs
      | Goes next ↦ string_characters next cs
      | Reads x ↦ option_map (λ xs. x ∷ xs) (string_characters Between cs)
    ]

-- ---- one token

-- the tokens that are no words, numbers or strings
abbrev pub mark_texts : List (List ℕ × Token)
mark_texts =
    (codes "{", Punctuation OpenBrace) ∷ (codes "}", Punctuation CloseBrace) ∷ (codes "(", Punctuation OpenParen) ∷ (codes ")", Punctuation CloseParen)
    ∷ (codes "<", Punctuation Less) ∷ (codes ">", Punctuation Greater) ∷ (codes ":", Punctuation Colon) ∷ (codes ";", Punctuation Semi)
    ∷ (codes ",", Punctuation Comma) ∷ (codes ".", Punctuation Dot) ∷ (codes "=", Punctuation Equals) ∷ (codes "/", Punctuation Slash)
    ∷ (codes "@", Punctuation At) ∷ (codes "->", Punctuation Arrow) ∷ (codes "_", Key Underscore) ∷ []

-- the first token with this text
abbrev pub mark_of : List (List ℕ × Token) → List ℕ → Option Token
mark_of [] text = None
mark_of (entry ∷ entries) text = if text_eq entry.0 text then Some entry.1 else mark_of entries text

-- a label as a token
abbrev pub word_token : List ℕ → Option Keyword → Token
word_token label (Some keyword) = Key keyword
word_token label None = Word label

-- a text that begins with a digit
abbrev pub number_token : List ℕ → Option Token
number_token text =
    elim (is_numeric text) [
      | true ↦ Some (Digits (digits_value 10 text))
      | false ↦ (if is_version_of is_numeral text then Some (VersionText text) else None)
    ]

-- The token that a text is, if it is one.
abbrev pub spelled : List ℕ → Option Token
spelled [] = None
spelled (c ∷ cs) =
    elim (is_ascii_alphabetic c) [
      | true ↦ (if is_label (c ∷ cs) then Some (word_token (c ∷ cs) (keyword_of (c ∷ cs))) else None)
      | false ↦ elim (is_ascii_digit c) [
        | true ↦ number_token (c ∷ cs)
        | false ↦ elim (c == 37) [
          | true ↦ (if is_label cs then Some (Escaped cs) else None)
          | false ↦ elim (c == 34) [
            | true ↦ option_map Quoted (string_characters Between cs)
            | false ↦ mark_of mark_texts (c ∷ cs)
          ]
        ]
      ]
    ]

-- a token and what follows it
abbrev pub Taken : Type 0
Taken = record { token : Token; rest : List ℕ }

-- The longest token that begins with `front` and goes on into what follows, if there is one.
abbrev pub longest : List ℕ → List ℕ → Option Taken
longest front [] = option_map (λ t. record { token = t; rest = [] }) (spelled front)
longest front (c ∷ cs) =
    elim (longest (front ++ c ∷ []) cs) [
      | Some taken ↦ Some taken
      | None ↦ option_map (λ t. record { token = t; rest = c ∷ cs }) (spelled front)
    ]

-- ---- a text

-- space, tab, carriage return and line feed
abbrev pub is_blank : ℕ → Bool
is_blank c = (c == 32) || (c == 9) || (c == 13) || (c == 10)

-- whether a text begins with a slash
abbrev pub begins_with_slash : List ℕ → Bool
begins_with_slash [] = false
begins_with_slash (c ∷ cs) = c == 47

-- a comment's begin: two slashes
abbrev pub begins_comment : List ℕ → Bool
begins_comment [] = false
begins_comment (c ∷ cs) = (c == 47) && begins_with_slash cs

-- what follows a comment: the next line feed and the rest
abbrev pub after_comment : List ℕ → List ℕ
after_comment [] = []
after_comment (c ∷ cs) = if c == 10 then c ∷ cs else after_comment cs

-- What stands at the front of a text.
pub data Front : Type 0 where
  -- the text is at its end
  Ended : Front
  -- a blank or a comment, and what follows it
  Skipped : List ℕ → Front
  -- a token, and what follows it
  Found : Token → List ℕ → Front
  -- nothing that may stand there
  Unknown : Front

-- what stands at the front of a text, by the longest token that begins there
abbrev pub found : Option Taken → Front
found None = Unknown
found (Some taken) = Found taken.token taken.rest

-- what stands at the front of a text: its end, a blank, a comment, a token, or nothing that may
abbrev pub front_of_text : List ℕ → Front
front_of_text [] = Ended
front_of_text (c ∷ cs) =
    elim (is_blank c) [
      | true ↦ Skipped cs
      | false ↦ elim (begins_comment (c ∷ cs)) [
        | true ↦ Skipped (after_comment cs)
        | false ↦ found (longest [] (c ∷ cs))
      ]
    ]

-- The text is blanks, comments and these tokens, in order.
pub data Tokens : List ℕ → List Token → Type 0 where
  no_tokens : {text : List ℕ} → front_of_text text ≡ Ended → Tokens text []
  skip : {text rest : List ℕ} {tokens : List Token} → front_of_text text ≡ Skipped rest → Tokens rest tokens → Tokens text tokens
  token : {text rest : List ℕ} {t : Token} {tokens : List Token} → front_of_text text ≡ Found t rest → Tokens rest tokens → Tokens text (t ∷ tokens)
