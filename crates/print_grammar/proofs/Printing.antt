-- Calls whose text begins with tokens: one call, and then what follows it.
use Rattle.std.proofs.Common.{rules as std_rules, ◌≡◌, refl, sym, ap, ◌∙◌, subst, ℕ, ◌-◌, Bool, true, false, not, nat_lt, List, [], ◌∷◌, ◌++◌, codes, Some}
use Rattle.wit_model.specs.Names.{is_label, begins_with_letter}
use Rattle.print_grammar.specs.{Keyword.escaped, Token.Token, Token.Tokens, Token.spelled, Token.Mark, Token.Token.Punctuation}
use Rattle.print_grammar.specs.Token.Mark.{Slash, OpenBrace, CloseBrace, OpenParen, CloseParen, Less, Greater, Colon, Semi, Comma, Dot, Equals, At, Arrow}
use Rattle.print_output.specs.{OutputCall.OutputCall, Render.front_of}
use Rattle.print_output.specs.OutputCall.OutputCall.{PushStr, IndentStart, IndentEnd, Newline, Keyword, Ty, Param, Case, GenericArgsStart, GenericArgsEnd, Semicolon, Str}
use Rattle.print_output.specs.declared.type_kind.TypeKind.{TypeKind}
use Rattle.print_grammar.proofs.TextOf.{text_of}
use Rattle.print_grammar.proofs.TokenFacts.{ends_by, token_at, mark_at, word_at, id_at, blank_at, blanks_at, ends_word, is_label_byte, id_token}

-- The text of the calls is these tokens, at any level, where a line has just begun or not.
pub record Follows (begun : Bool) (calls : List OutputCall) (tokens : List Token) : Type 0 where
  pub at : (level : ℕ) → Tokens (text_of begun level calls) tokens

-- The text of the calls is some tokens of this property.
abbrev pub Printed : Bool → List OutputCall → (List Token → Type 0) → Type 0
Printed begun calls P = (tokens : List Token) × Follows begun calls tokens × P tokens

-- no word goes on into the text of the calls
abbrev pub EndsWord : List OutputCall → Type 0
EndsWord calls = (level : ℕ) → ends_word (text_of false level calls) ≡ true

-- the same calls, put together otherwise
pub relist : {begun : Bool} {P : List Token → Type 0} {calls others : List OutputCall} → Printed begun others P → calls ≡ others → Printed begun calls P
relist {begun} {P} p e = subst (λ x. Printed begun x P) (sym e) p

-- ---- marks

-- the byte of a mark, if it is one byte that begins no comment
abbrev byte_of : Mark → ℕ
byte_of OpenBrace = 123
byte_of CloseBrace = 125
byte_of OpenParen = 40
byte_of CloseParen = 41
byte_of Less = 60
byte_of Greater = 62
byte_of Colon = 58
byte_of Semi = 59
byte_of Comma = 44
byte_of Dot = 46
byte_of Equals = 61
byte_of At = 64
byte_of mark = 0

pub mark : (m : Mark) {rest : List ℕ} {ts : List Token} → nat_lt 0 (byte_of m) ≡ true → Tokens rest ts → Tokens (byte_of m ∷ rest) (Punctuation m ∷ ts)
mark Slash h f = absurd cc
mark Arrow h f = absurd cc
mark _ h f = mark_at _ _ refl refl refl (λ d more. refl) f

pub space : {rest : List ℕ} {ts : List Token} → Tokens rest ts → Tokens (32 ∷ rest) ts
space f = blank_at 32 refl f

pub line_feed : {rest : List ℕ} {ts : List Token} → Tokens rest ts → Tokens (10 ∷ rest) ts
line_feed f = blank_at 10 refl f

pub arrow : (rest : List ℕ) {ts : List Token} → Tokens rest ts → Tokens (45 ∷ 62 ∷ rest) (Punctuation Arrow ∷ ts)
arrow [] more = token_at 45 (62 ∷ []) [] (Punctuation Arrow) refl refl refl tt more
arrow (c ∷ cs) more = token_at 45 (62 ∷ []) (c ∷ cs) (Punctuation Arrow) refl refl refl (ends_by (45 ∷ 62 ∷ []) c cs (λ x. refl)) more

-- ---- one call

-- The call prints this text in a line that has begun.
pub data Prints : OutputCall → List ℕ → Type 0 where
  by_keyword : {text : List ℕ} → Prints (Keyword text) text
  by_type : {text : List ℕ} {kind : TypeKind} → Prints (Ty text kind) text
  by_param : {text : List ℕ} → Prints (Param text) text
  by_case : {text : List ℕ} → Prints (Case text) text
  by_str : {text : List ℕ} → Prints (Str text) text
  by_push : {text : List ℕ} → Prints (PushStr text) text
  by_start : Prints GenericArgsStart (60 ∷ [])
  by_end : Prints GenericArgsEnd (62 ∷ [])

pub printed_text : {call : OutputCall} {text : List ℕ} → Prints call text → (level : ℕ) (more : List OutputCall) → text_of false level (call ∷ more) ≡ text ++ text_of false level more
printed_text by_keyword level more = refl
printed_text _ level more = refl

-- a call, by what its text is with any text behind it
pub call_is : {call : OutputCall} {text : List ℕ} {more : List OutputCall} {ts : List Token} → Prints call text → ((level : ℕ) → Tokens (text ++ text_of false level more) ts)
    → Follows false (call ∷ more) ts
call_is {more = more} {ts = ts} p f = record { at = λ level. subst (λ x. Tokens x ts) (sym (printed_text p level more)) (f level) }

-- a word
pub word_call : {call : OutputCall} {text : List ℕ} {more : List OutputCall} {ts : List Token} (t : Token) → Prints call text → begins_with_letter text ≡ true → spelled text ≡ Some t → EndsWord more
    → Follows false more ts → Follows false (call ∷ more) (t ∷ ts)
word_call {text = text} {more = more} t p letter s ends f = call_is p (λ level. word_at text (text_of false level more) t letter s (ends level) (f.at level))

-- an id
pub id_call : {call : OutputCall} (label : List ℕ) {more : List OutputCall} {ts : List Token} → Prints call (escaped label) → is_label label ≡ true → EndsWord more → Follows false more ts
    → Follows false (call ∷ more) (id_token label ∷ ts)
id_call label {more = more} p h ends f = call_is p (λ level. id_at label (text_of false level more) h (ends level) (f.at level))

-- a text that begins with what is no part of a word
pub no_word : {call : OutputCall} {c : ℕ} {cs : List ℕ} → Prints call (c ∷ cs) → is_label_byte c ≡ false → (more : List OutputCall) → EndsWord (call ∷ more)
no_word p h more level = ap ends_word (printed_text p level more) ∙ ap not h

-- a mark
pub less_call : {call : OutputCall} {more : List OutputCall} {ts : List Token} → Prints call (60 ∷ []) → Follows false more ts → Follows false (call ∷ more) (Punctuation Less ∷ ts)
less_call p f = call_is p (λ level. mark Less refl (f.at level))

-- whether the call indents, if it may stand where a line has just begun
abbrev pub indents : OutputCall → Bool
indents (PushStr text) = false
indents IndentStart = false
indents Newline = false
indents call = true

blanks_in_front : (begun : Bool) (level : ℕ) {rest : List ℕ} {ts : List Token} → Tokens rest ts → Tokens (front_of begun level ++ rest) ts
blanks_in_front x level more = search (std_rules, blanks_at)

-- The same tokens where a line has just begun.
pub line_begins : (call : OutputCall) {more : List OutputCall} {ts : List Token} → indents call ≡ true → Follows false (call ∷ more) ts → Follows true (call ∷ more) ts
line_begins (PushStr text) h f = absurd cc
line_begins IndentStart h f = absurd cc
line_begins Newline h f = absurd cc
line_begins IndentEnd h f = record { at = λ level. blanks_in_front true (level - 1) (f.at level) }
line_begins _ h f = record { at = λ level. blanks_in_front true level (f.at level) }

-- ---- what ends a type, a signature or an entry

-- What ends what stands before it: the calls go on with these tokens, and no word goes on into them.
pub record Ended (more : List OutputCall) (tokens : List Token) : Type 0 where
  pub follows : Follows false more tokens
  pub word : EndsWord more

-- a comma and a space
pub comma_call : {more : List OutputCall} {ts : List Token} → Follows false more ts → Ended (Str (codes ", ") ∷ more) (Punctuation Comma ∷ ts)
comma_call f = record { follows = record { at = λ level. mark Comma refl (space (f.at level)) }; word = λ level. refl }

-- a line's end
pub semicolon_call : {more : List OutputCall} {ts : List Token} → Follows true more ts → Ended (Semicolon ∷ more) (Punctuation Semi ∷ ts)
semicolon_call f = record { follows = record { at = λ level. mark Semi refl (line_feed (f.at level)) }; word = λ level. refl }

-- a closing angle bracket
pub greater_call : {call : OutputCall} {more : List OutputCall} {ts : List Token} → Prints call (62 ∷ []) → Follows false more ts → Ended (call ∷ more) (Punctuation Greater ∷ ts)
greater_call {more = more} p f = record { follows = call_is p (λ level. mark Greater refl (f.at level)); word = no_word p refl more }

-- a closing parenthesis
pub paren_call : {more : List OutputCall} {ts : List Token} → Follows false more ts → Ended (Str (codes ")") ∷ more) (Punctuation CloseParen ∷ ts)
paren_call f = record { follows = record { at = λ level. mark CloseParen refl (f.at level) }; word = λ level. refl }

-- an open parenthesis
pub open_call : {more : List OutputCall} {ts : List Token} → Follows false more ts → Follows false (Str (codes "(") ∷ more) (Punctuation OpenParen ∷ ts)
open_call f = record { at = λ level. mark OpenParen refl (f.at level) }

-- an equals sign between spaces
pub equals_call : {more : List OutputCall} {ts : List Token} → Follows false more ts → Follows false (Str (codes " = ") ∷ more) (Punctuation Equals ∷ ts)
equals_call f = record { at = λ level. space (mark Equals refl (space (f.at level))) }
