-- Strings as they are read, byte by byte.
use Rattle.std.specs.Prelude.{◌≡◌, ℕ, Bool, false, nat_lt, List, [], ◌∷◌, ◌++◌, Option, None}
use Rattle.std.specs.{Option.option_map_or}
use Rattle.print_grammar.specs.Token.{StringState as states, StringStep as steps, string_characters, only_at_end}
use Rattle.text_types.specs.declared.strings.Quote.{Quote}
use Rattle.text_types.specs.declared.strings.Quote.TheVariants as quote
use Rattle.text_types.specs.declared.strings.Step.{Step}
use Rattle.text_types.specs.declared.strings.Step.TheVariants as step
use Rattle.text_types.specs.declared.strings.Read.{Read}
use Rattle.text_types.specs.declared.strings.Read.TheVariants as read

-- the grammar's state
abbrev pub quoting : Quote → states
quoting quote.Between = states.Between
quoting quote.AfterBackslash = states.AfterBackslash
quoting quote.AfterU = states.AfterU
quoting quote.AfterBrace = states.AfterBrace
quoting (quote.InCode n) = states.InCode n

-- the grammar's step
abbrev pub step_there : Step → steps
step_there step.Refused = steps.Refused
step_there step.Closed = steps.Closed
step_there (step.Goes next) = steps.Goes (quoting next)
step_there (step.Reads c) = steps.Reads c

-- whether the number so far is that of no character, however it goes on
abbrev pub is_dead : Quote → Bool
is_dead quote.Between = false
is_dead quote.AfterBackslash = false
is_dead quote.AfterU = false
is_dead quote.AfterBrace = false
is_dead (quote.InCode n) = nat_lt 1114111 n

-- the characters of a string of which these are read, and these may follow
abbrev pub told : List ℕ → Option (List ℕ) → List ℕ
told front rest = option_map_or (λ cs. front ++ cs) rest []

-- what may follow
abbrev pub follows_in : Read → List ℕ → Option (List ℕ)
follows_in read.Stops cs = None
follows_in read.Ends cs = only_at_end cs
follows_in (read.Goes next) cs = string_characters (quoting next) cs

-- whether reading can't go on
abbrev pub is_at_dead : Read → Bool
is_at_dead read.Stops = false
is_at_dead read.Ends = false
is_at_dead (read.Goes next) = is_dead next

-- A byte is read: what is told stays, whatever follows.
pub record ReadsOn (old : List ℕ) (state : states) (byte : ℕ) (new : List ℕ) (r : Read) : Type 0 where
  pub tells : (cs : List ℕ) → told new (follows_in r cs) ≡ told old (string_characters state (byte ∷ cs))
  pub alive : is_at_dead r ≡ false
