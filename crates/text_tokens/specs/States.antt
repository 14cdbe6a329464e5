-- A scan of tokens.
use Rattle.std.specs.Prelude.{ℕ, suc, Bool, true, false, ◌==◌, List, [], ◌∷◌, ◌++◌, take, drop, Option, None, Some, option_map, is_some, if◌then◌else◌}
use Rattle.std.specs.{Char.is_ascii_alphabetic, Char.is_ascii_digit}
use Rattle.print_grammar.specs.Token.{Taken, mark_texts, spelled, string_step}
use Rattle.text_tokens.specs.declared.quote.Quote.TheVariants.{Between}
use Rattle.text_tokens.specs.declared.quote.Quoting.{Quoting}
use Rattle.text_tokens.specs.declared.quote.Quoting.TheVariants.{Open, Closed, Refused}
use Rattle.text_tokens.specs.declared.state.State.{State}
use Rattle.text_tokens.specs.declared.state.State.TheVariants.{Start, Percent, InWord, InNumber, InQuote, Minus, Done, Dead}
use Rattle.text_tokens.specs.{Kinds.kind_with, Words.word_start, Words.word_step, Words.word_ok, Words.word_is_dead}
use Rattle.text_tokens.specs.Numbers.{number_start, number_step, number_is_ok, number_is_dead}
use Rattle.text_tokens.specs.Quotes.{quoting, state_after, quote_is_dead}

-- after the first byte of a mark
abbrev pub mark_step : ℕ → State
mark_step c = if c == 45 then Minus else (if is_some (kind_with mark_texts c) then Done else Dead)

-- after the first byte
abbrev pub first_step : ℕ → State
first_step c =
    if is_ascii_alphabetic c then InWord (word_step word_start c)
    else (if is_ascii_digit c then InNumber (number_step number_start c)
    else (if c == 37 then Percent
    else (if c == 34 then InQuote Between else mark_step c)))

-- where a string stands
abbrev pub after_quote : Quoting → State
after_quote (Open quote) = InQuote quote
after_quote Closed = Done
after_quote Refused = Dead

-- a byte more
abbrev pub step : State → ℕ → State
step Start c = first_step c
step Percent c = if is_ascii_alphabetic c then InWord (word_step word_start c) else Dead
step (InWord word) c = InWord (word_step word c)
step (InNumber number) c = InNumber (number_step number c)
step (InQuote quote) c = after_quote (state_after (string_step (quoting quote) c))
step Minus c = if c == 62 then Done else Dead
step Done c = Dead
step Dead c = Dead

-- whether the bytes so far are a token
abbrev pub is_ok : State → Bool
is_ok Start = false
is_ok Percent = false
is_ok (InWord word) = word_ok word
is_ok (InNumber number) = number_is_ok number
is_ok (InQuote quote) = false
is_ok Minus = false
is_ok Done = true
is_ok Dead = false

-- whether no more bytes can make a token of them
abbrev pub is_dead : State → Bool
is_dead Start = false
is_dead Percent = false
is_dead (InWord word) = word_is_dead word
is_dead (InNumber number) = number_is_dead number
is_dead (InQuote quote) = quote_is_dead quote
is_dead Minus = false
is_dead Done = false
is_dead Dead = true

-- how many bytes the longest token has beyond where the scan stands: the scan ends where it is dead
abbrev pub reach : State → List ℕ → Option ℕ
reach s [] = if is_ok s then Some 0 else None
reach s (c ∷ cs) =
    if is_dead s then None
    else elim (reach (step s c) cs) [
      | Some n ↦ Some (suc n)
      | None ↦ if is_ok s then Some 0 else None
    ]

-- the token of so many bytes beyond those in front, if they are one
abbrev pub taken : List ℕ → List ℕ → Option ℕ → Option Taken
taken front text None = None
taken front text (Some n) = option_map (λ t. record { token = t; rest = drop n text }) (spelled (front ++ take n text))
