-- Which token begins a text, and where it ends.
use Rattle.std.proofs.Common.{rules as std_rules, ◌≡◌, refl, sym, ap, ◌∙◌, subst, ℕ, Bool, true, false, ◌||◌, ◌==◌, not, List, [], ◌∷◌, ◌++◌, Option, Some, None, append-nil, append_assoc, arith, zero, suc, replicate}
use Rattle.std.proofs.lemmas.{Bool.Decides.nat_tests, Bool.false_from_ne_true as refuted, Bool.not-true as not_true}
use Rattle.std.specs.{Char.is_ascii_alphabetic, Char.is_ascii_digit, List.list_all, List.slice_split}
use Rattle.wit_model.specs.Names.{is_label, is_fragment, is_lower_byte, is_upper_byte, begins_with_letter}
use Rattle.print_grammar.specs.{Keyword.Keyword, Keyword.keyword_of, Keyword.escaped, Grammar.IsId.plain, Grammar.IsId.with_percent, Token.Front.Found}
use Rattle.print_grammar.specs.{Grammar.IsId, Token.Mark.Slash, Token.Tokens.skip, Token.Tokens.token}
use Rattle.print_grammar.specs.Token.{Token, Tokens, spelled, longest, found, front_of_text, is_blank, begins_comment, begins_with_slash}
use Rattle.wit_model.proofs.VersionTexts.{parts_pass}
use Rattle.print_grammar.proofs.ByteTests.{all_but_one}
use Rattle.base_lemmas.proofs.{Bools.left_of, Bools.right_of, Elements.all_weaker as weaker_all}

-- no token begins with this text
abbrev pub NoToken : List ℕ → Type 0
NoToken text = (more : List ℕ) → spelled (text ++ more) ≡ None

spelled-none : (front : List ℕ) → NoToken front → spelled front ≡ None
spelled-none front h = ap spelled (sym (append-nil front)) ∙ h []

longest-none : (front rest : List ℕ) → NoToken front → longest front rest ≡ None
longest-none front [] h = rw (spelled-none front h) refl
longest-none front (c ∷ cs) h = search (std_rules, append_assoc, spelled-none, longest-none (front ++ c ∷ []) cs (λ more. ap spelled (append_assoc front (c ∷ []) more) ∙ h (c ∷ more)))

-- No longer token begins with the first text and goes on into the second.
abbrev pub EndsToken : List ℕ → List ℕ → Type 0
EndsToken front [] = Unit {0}
EndsToken front (c ∷ cs) = longest (front ++ c ∷ []) cs ≡ None

-- no token goes on by this byte
pub ends_by : (front : List ℕ) (c : ℕ) (cs : List ℕ) → NoToken (front ++ c ∷ []) → EndsToken front (c ∷ cs)
ends_by front c cs h = longest-none (front ++ c ∷ []) cs h

-- no token ends at this byte, and none goes on by the next
pub ends_by_two : (front : List ℕ) (c d : ℕ) (cs : List ℕ) → spelled (front ++ c ∷ []) ≡ None → NoToken ((front ++ c ∷ []) ++ d ∷ []) → EndsToken front (c ∷ d ∷ cs)
ends_by_two front c d cs s h = rw (longest-none ((front ++ c ∷ []) ++ d ∷ []) cs h, s) refl

longest-goes : (front text rest : List ℕ) (t : Token) → spelled (front ++ text) ≡ Some t → EndsToken (front ++ text) rest → longest front (text ++ rest) ≡ Some (record { token = t; rest = rest })
longest-goes front [] rest t s h = search std_rules
longest-goes front (c ∷ cs) rest t s h =
    let e = sym (append_assoc front (c ∷ []) cs) in
    let r = longest-goes (front ++ c ∷ []) cs rest t (subst (λ x. spelled x ≡ Some t) e s) (subst (λ x. EndsToken x rest) e h) in
    rw r refl

-- A text that is a token, with what ends it behind it.
pub token_at : (c : ℕ) (cs rest : List ℕ) (t : Token) {ts : List Token} → is_blank c ≡ false → begins_comment (c ∷ (cs ++ rest)) ≡ false → spelled (c ∷ cs) ≡ Some t → EndsToken (c ∷ cs) rest
    → Tokens rest ts → Tokens (c ∷ (cs ++ rest)) (t ∷ ts)
token_at c cs rest t blank comment s h more = token front more
  where
    front : front_of_text (c ∷ (cs ++ rest)) ≡ Found t rest
    front = rw (blank, comment, front_of_text) (ap found (longest-goes [] (c ∷ cs) rest t s h))

-- A text of one byte that begins no longer token.
pub mark_at : (c : ℕ) (t : Token) {rest : List ℕ} {ts : List Token} → is_blank c ≡ false → begins_comment (c ∷ rest) ≡ false → spelled (c ∷ []) ≡ Some t
    → ((d : ℕ) (more : List ℕ) → spelled (c ∷ d ∷ more) ≡ None) → Tokens rest ts → Tokens (c ∷ rest) (t ∷ ts)
mark_at c t {rest} blank comment s longer more = token_at c [] rest t blank comment s (ends rest) more
  where
    ends : (text : List ℕ) → EndsToken (c ∷ []) text
    ends [] = tt
    ends (d ∷ ds) = ends_by (c ∷ []) d ds (longer d)

-- ---- words

-- a letter, a digit or a dash
abbrev pub is_label_byte : ℕ → Bool
is_label_byte b = (is_ascii_alphabetic b || is_ascii_digit b) || (b == 45)

lower_alphanumeric : (b : ℕ) → is_lower_byte b ≡ true → (is_ascii_alphabetic b || is_ascii_digit b) ≡ true
lower_alphanumeric b h = grind (arith, nat_tests)

upper_alphanumeric : (b : ℕ) → is_upper_byte b ≡ true → (is_ascii_alphabetic b || is_ascii_digit b) ≡ true
upper_alphanumeric b h = grind (arith, nat_tests)

either : (a b c : Bool) → (a || b) ≡ true → (a ≡ true → c ≡ true) → (b ≡ true → c ≡ true) → c ≡ true
either x b c e f g = search std_rules

fragment_bytes : (text : List ℕ) → is_fragment text ≡ true → list_all (λ b. is_ascii_alphabetic b || is_ascii_digit b) text ≡ true
fragment_bytes text h = search (std_rules, either, right_of, weaker_all, lower_alphanumeric, upper_alphanumeric)

pub label_bytes : (text : List ℕ) → is_label text ≡ true → list_all is_label_byte text ≡ true
label_bytes text h = parts_pass (λ b. is_ascii_alphabetic b || is_ascii_digit b) 45 text
    (weaker_all is_fragment _ fragment_bytes (slice_split (λ b. b == 45) text) (right_of (begins_with_letter text) _ h))

-- a text with another byte in it is no label
pub no_label : (front : List ℕ) (c : ℕ) (more : List ℕ) → is_label_byte c ≡ false → is_label ((front ++ c ∷ []) ++ more) ≡ false
no_label front c more h = refuted _ (λ e. all_but_one is_label_byte front c more h (label_bytes ((front ++ c ∷ []) ++ more) e))

-- whether a word that stands before this text ends there
abbrev pub ends_word : List ℕ → Bool
ends_word [] = true
ends_word (c ∷ cs) = not (is_label_byte c)

letter_no_blank : (c : ℕ) → is_ascii_alphabetic c ≡ true → is_blank c ≡ false
letter_no_blank c h = grind (arith, nat_tests)

letter_no_slash : (c : ℕ) → is_ascii_alphabetic c ≡ true → (c == 47) ≡ false
letter_no_slash c h = grind (arith, nat_tests)

pub no_comment : (c : ℕ) (cs : List ℕ) → (c == 47) ≡ false → begins_comment (c ∷ cs) ≡ false
no_comment c cs h = rw h refl

word_ends : (c : ℕ) (cs rest : List ℕ) → is_ascii_alphabetic c ≡ true → ends_word rest ≡ true → EndsToken (c ∷ cs) rest
word_ends c cs [] letter ends = tt
word_ends c cs (d ∷ ds) letter ends = ends_by (c ∷ cs) d ds (λ more. rw (letter, no_label (c ∷ cs) d more (not_true _ ends), spelled) refl)

-- A word, with what is no part of a word behind it.
pub word_at : (text rest : List ℕ) (t : Token) {ts : List Token} → begins_with_letter text ≡ true → spelled text ≡ Some t → ends_word rest ≡ true → Tokens rest ts → Tokens (text ++ rest) (t ∷ ts)
word_at x rest t letter s ends more = search (std_rules, token_at, letter_no_blank, no_comment, letter_no_slash, word_ends)

-- ---- ids

percent_ends : (label rest : List ℕ) → ends_word rest ≡ true → EndsToken (37 ∷ label) rest
percent_ends label x ends = search (std_rules, ends_by, no_label, not_true)

-- A label after `%` is a token.
escaped_at : (label rest : List ℕ) {ts : List Token} → is_label label ≡ true → ends_word rest ≡ true → Tokens rest ts → Tokens (37 ∷ (label ++ rest)) (Token.Escaped label ∷ ts)
escaped_at label rest h ends more = token_at 37 label rest (Token.Escaped label) refl refl (rw h refl) (percent_ends label rest ends) more

-- A label that is no keyword is a word.
spelled_word : (label : List ℕ) → is_label label ≡ true → keyword_of label ≡ None → spelled label ≡ Some (Token.Word label)
spelled_word x h none = search std_rules

-- the token of an id
abbrev token_of_id : List ℕ → Option Keyword → Token
token_of_id label (Some keyword) = Token.Escaped label
token_of_id label None = Token.Word label

abbrev pub id_token : List ℕ → Token
id_token label = token_of_id label (keyword_of label)

pub id_is : (label : List ℕ) → IsId (id_token label) label
id_is label = go (keyword_of label)
  where
    go : (k : Option Keyword) → IsId (token_of_id label k) label
    go (Some k) = with_percent
    go None = plain

-- The text of an id, with what is no part of a word behind it, is one token, which is that id.
pub id_at : (label rest : List ℕ) {ts : List Token} → is_label label ≡ true → ends_word rest ≡ true → Tokens rest ts → Tokens (escaped label ++ rest) (id_token label ∷ ts)
id_at label rest {ts} h ends more = go (keyword_of label) refl
  where
    go : (k : Option Keyword) → keyword_of label ≡ k → Tokens (escaped label ++ rest) (id_token label ∷ ts)
    go (Some k) e = rw e (escaped_at label rest h ends more)
    go None e = rw e (word_at label rest (Token.Word label) (left_of _ _ h) (spelled_word label h e) ends more)

-- ---- blanks and comments

pub blank_at : (c : ℕ) {rest : List ℕ} {ts : List Token} → is_blank c ≡ true → Tokens rest ts → Tokens (c ∷ rest) ts
blank_at c h more = skip (rw (h, front_of_text) refl) more

pub blanks_at : (n : ℕ) {rest : List ℕ} {ts : List Token} → Tokens rest ts → Tokens (replicate n 32 ++ rest) ts
blanks_at zero more = more
blanks_at (suc n) more = blank_at 32 refl (blanks_at n more)

-- ---- slashes

id_no_slash : (label rest : List ℕ) → is_label label ≡ true → begins_with_slash (escaped label ++ rest) ≡ false
id_no_slash [] rest h = absurd cc
id_no_slash (c ∷ cs) rest h = go (keyword_of (c ∷ cs)) refl
  where
    go : (k : Option Keyword) → keyword_of (c ∷ cs) ≡ k → begins_with_slash (escaped (c ∷ cs) ++ rest) ≡ false
    go (Some k) e = rw e refl
    go None e = rw e (letter_no_slash c (left_of _ _ h))

-- A slash in front of an id begins no comment.
pub slash_at : (label rest : List ℕ) {ts : List Token} → is_label label ≡ true → Tokens (escaped label ++ rest) ts → Tokens (47 ∷ (escaped label ++ rest)) (Token.Punctuation Slash ∷ ts)
slash_at label rest h more = mark_at 47 (Token.Punctuation Slash) refl (id_no_slash label rest h) refl (λ d more. refl) more
