-- A scan of strings.
use Rattle.std.specs.Prelude.{Bool, false, nat_lt}
use Rattle.print_grammar.specs.Token.{StringState as states, StringStep as steps}
use Rattle.text_tokens.specs.declared.quote.Quote.{Quote}
use Rattle.text_tokens.specs.declared.quote.Quote.TheVariants.{Between, AfterBackslash, AfterU, AfterBrace, InCode}
use Rattle.text_tokens.specs.declared.quote.Quoting.{Quoting}
use Rattle.text_tokens.specs.declared.quote.Quoting.TheVariants.{Open, Closed, Refused}

-- the grammar's state
abbrev pub quoting : Quote → states
quoting Between = states.Between
quoting AfterBackslash = states.AfterBackslash
quoting AfterU = states.AfterU
quoting AfterBrace = states.AfterBrace
quoting (InCode n) = states.InCode n

-- the code's state
abbrev pub quote_in : states → Quote
quote_in states.Between = Between
quote_in states.AfterBackslash = AfterBackslash
quote_in states.AfterU = AfterU
quote_in states.AfterBrace = AfterBrace
quote_in (states.InCode n) = InCode n

-- where a string is after a character
abbrev pub state_after : steps → Quoting
state_after steps.Refused = Refused
state_after steps.Closed = Closed
state_after (steps.Goes next) = Open (quote_in next)
state_after (steps.Reads c) = Open Between

-- whether the number so far is that of no character, however it goes on
abbrev pub quote_is_dead : Quote → Bool
quote_is_dead Between = false
quote_is_dead AfterBackslash = false
quote_is_dead AfterU = false
quote_is_dead AfterBrace = false
quote_is_dead (InCode n) = nat_lt 1114111 n
