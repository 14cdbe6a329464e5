-- What is printed in front of an item is read as it: documentation, gates.
use Rattle.std.proofs.Common.{rules as std_rules, ◌≡◌, refl, sym, ap, ◌∙◌, subst, ℕ, ◌+◌, ◌*◌, ◌/◌, ◌%◌, ◌^◌, ◌<◌, true, false, ◌==◌, List, [], ◌∷◌, ◌++◌, append-nil, append_assoc, Option, Some, None, inl, inr, arith, zero, suc}
use Rattle.std.specs.{List.list_all, List.flat_map, Option.option_map, Fmt.digits, Fmt.digits_onto, Fmt.digit_glyph}
use lib.Utf8.{scalar}
use Rattle.std.proofs.lemmas.Bool.{cases_Bool, eqb-true, eq-eqb, false_from_ne_true as refuted, not-true as not_true}
use Rattle.std.proofs.{Math.Nat.pow-suc, Math.Utf8.scalar_fits, Common.Bool, Common.not, Common.codes, Common.map}
use Rattle.print_grammar.specs.Calls.{is_plain, escaped_character, prefix_calls, external_id_calls, character_call, doc_calls, gates_calls, deprecated_calls}
use Rattle.print_grammar.specs.Token.{Token, Tokens, spelled, StringState, string_step, string_characters, hexadecimal, after_comment}
use Rattle.print_grammar.specs.Token.{StringState.Between, StringState.AfterBrace, StringState.InCode, StringStep.Goes, StringStep.Reads, Front.Skipped}
use Rattle.print_grammar.specs.Token.{Token.Quoted, Token.Punctuation, Token.Word, Token.VersionText, Mark.OpenParen, Mark.CloseParen, Mark.At, Mark.Equals}
use Rattle.print_grammar.specs.{Keyword.escaped, Tree.Gates, Tree.Prefix, AsRead.type_as_read, AsRead.bare_prefix}
use Rattle.print_grammar.specs.{Tree.Gates.Ungated, Tree.Gates.Since, Tree.Gates.Unstable, Token.Tokens.skip, WellNamed.is_well_gates, WellNamed.is_well_prefix}
use Rattle.print_grammar.specs.Grammar.{ReadsPrefix, ReadsExternalId, ReadsGates, ReadsDeprecated, ReadsVersionArgument}
use Rattle.print_grammar.proofs.{TokenFacts.EndsToken, TokenFacts.ends_by, TokenFacts.token_at, TokenFacts.word_at, TokenFacts.id_is, VersionFacts.version_at}
use Rattle.print_grammar.proofs.{Printing.Prints.by_str, Printing.Prints.by_keyword, TextOf.text_of}
use Rattle.print_grammar.proofs.Printing.{Follows, Printed, EndsWord, relist, word_call, id_call, line_begins, open_call, equals_call, space, line_feed, mark}
use Rattle.base_lemmas.proofs.Bools.{left_of, right_of}
use Rattle.wit_model.specs.{Names.is_label, Names.is_version_text, Names.begins_with_letter, Rules.passes}
use Rattle.print_output.specs.{OutputCall.OutputCall, OutputCall.is_one_line, Render.doc_text}
use Rattle.print_output.specs.OutputCall.OutputCall.{Keyword, Ty, Str, Newline, Doc}
use Rattle.print_output.specs.declared.type_kind.TypeKind.TheVariants as kind

-- ---- The escaped characters of a string between quotation marks are one token.

reads_step : (state : StringState) (c : ℕ) (cs : List ℕ) (x : ℕ) → string_step state c ≡ Reads x → string_characters state (c ∷ cs) ≡ option_map (λ xs. x ∷ xs) (string_characters Between cs)
reads_step state c cs x e = rw (e, string_characters) refl

goes_step : (state : StringState) (c : ℕ) (cs : List ℕ) (next : StringState) → string_step state c ≡ Goes next → string_characters state (c ∷ cs) ≡ string_characters next cs
goes_step state c cs next e = rw (e, string_characters) refl

plain_other : (c d : ℕ) → is_plain d ≡ false → is_plain c ≡ true → (c == d) ≡ false
plain_other c d e h = refuted _ (λ same. let f : is_plain c ≡ is_plain d = ap is_plain (eqb-true c d same) in cc)

plain_step : (c : ℕ) → is_plain c ≡ true → string_step Between c ≡ Reads c
plain_step c h = rw (plain_other c 34 refl h, plain_other c 92 refl h, h) refl

-- ---- codes

glyph_value : (d : ℕ) → d < 16 → hexadecimal (digit_glyph false d) ≡ Some d
glyph_value d h = search std_rules

glyph_no_end : (d : ℕ) → d < 16 → (digit_glyph false d == 125) ≡ false
glyph_no_end d h = search std_rules

next_digit : (front d : ℕ) → d < 16 → string_step (InCode front) (digit_glyph false d) ≡ Goes (InCode (16 * front + d))
next_digit front d h = rw (glyph_no_end d h, glyph_value d h) refl

last_digit : (k n : ℕ) (rest : List ℕ) → n / 16 ≡ 0 → (n / 16 == 0) ≡ true → string_characters AfterBrace (digits_onto (suc k) 16 false n rest) ≡ string_characters (InCode n) rest
last_digit k n rest z low = search std_rules

-- the digits of a code, and what follows them
code_reads : (k n : ℕ) (rest : List ℕ) → n < 16 ^ suc k → string_characters AfterBrace (digits_onto (suc k) 16 false n rest) ≡ string_characters (InCode n) rest
code_reads zero n rest h =
    let z : n / 16 ≡ 0 = omega (arith, pow-suc 16 0) in
    last_digit zero n rest z (eq-eqb (n / 16) 0 z)
code_reads (suc k) n rest h = elim (cases_Bool (n / 16 == 0)) [
  | inl low ↦ last_digit (suc k) n rest (eqb-true (n / 16) 0 low) low
  | inr high ↦
      let below : n / 16 < 16 ^ suc k = omega (arith, pow-suc 16 (suc k)) in
      let small : n % 16 < 16 = omega arith in
      let same : 16 * (n / 16) + n % 16 ≡ n = omega arith in
      rw high (code_reads k (n / 16) (digit_glyph false (n % 16) ∷ rest) below
      ∙ (goes_step (InCode (n / 16)) (digit_glyph false (n % 16)) rest (InCode (16 * (n / 16) + n % 16)) (next_digit (n / 16) (n % 16) small) ∙ ap (λ m. string_characters (InCode m) rest) same))
]

onto_more : (k n : ℕ) (front rest : List ℕ) → digits_onto k 16 false n front ++ rest ≡ digits_onto k 16 false n (front ++ rest)
onto_more zero n front rest = refl
onto_more (suc k) n front rest = elim (cases_Bool (n / 16 == 0)) [ inl low ↦ rw low refl | inr high ↦ rw high (onto_more k (n / 16) (digit_glyph false (n % 16) ∷ front) rest) ]

code_ends : (c : ℕ) (rest : List ℕ) → scalar c ≡ true → string_characters (InCode c) (125 ∷ rest) ≡ option_map (λ xs. c ∷ xs) (string_characters Between rest)
code_ends c rest h = reads_step (InCode c) 125 rest c (rw h refl)

fits_digits : (c : ℕ) → scalar c ≡ true → c < 16 ^ 64
fits_digits c h = let e : c < 2 ^ 32 = scalar_fits c h in omega arith

character_code : (c : ℕ) (rest : List ℕ) → scalar c ≡ true → string_characters AfterBrace (digits 16 false c ++ (125 ∷ rest)) ≡ option_map (λ xs. c ∷ xs) (string_characters Between rest)
unfolding digits
character_code c rest h = ap (string_characters AfterBrace) (onto_more 64 c [] (125 ∷ rest)) ∙ (code_reads 63 c (125 ∷ rest) (fits_digits c h) ∙ code_ends c rest h)

-- ---- characters

-- an escaped character reads as the character
abbrev ReadsBack : ℕ → List ℕ → Type 0
ReadsBack c rest = string_characters Between (escaped_character c ++ rest) ≡ option_map (λ xs. c ∷ xs) (string_characters Between rest)

special : (c d : ℕ) (rest : List ℕ) → (c == d) ≡ true → ReadsBack d rest → ReadsBack c rest
special c d rest e h = subst (λ x. ReadsBack x rest) (sym (eqb-true c d e)) h

pub character_reads : (c : ℕ) (rest : List ℕ) → scalar c ≡ true → ReadsBack c rest
character_reads c rest h = search (std_rules, cases_Bool, reads_step, plain_step, special, append_assoc, character_code)

both_maps : (c : ℕ) (cs : List ℕ) (o : Option (List ℕ)) → option_map (λ xs. c ∷ xs) (option_map (λ xs. cs ++ xs) o) ≡ option_map (λ xs. c ∷ cs ++ xs) o
both_maps c cs x = search std_rules

no_map : (o : Option (List ℕ)) → o ≡ option_map (λ xs. [] ++ xs) o
no_map x = search std_rules

pub characters_read : (cs rest : List ℕ) → list_all scalar cs ≡ true → string_characters Between (flat_map escaped_character cs ++ rest) ≡ option_map (λ xs. cs ++ xs) (string_characters Between rest)
characters_read [] rest h = no_map (string_characters Between rest)
characters_read (c ∷ cs) rest h = ap (string_characters Between) (append_assoc (escaped_character c) (flat_map escaped_character cs) rest)
    ∙ (character_reads c (flat_map escaped_character cs ++ rest) (left_of _ _ h)
    ∙ (ap (λ o. option_map (λ xs. c ∷ xs) o) (characters_read cs rest (right_of (scalar c) _ h)) ∙ both_maps c cs (string_characters Between rest)))

-- ---- the token

-- the characters in a string
abbrev pub body : List ℕ → List ℕ
body cs = flat_map escaped_character cs

quoted_whole : (cs : List ℕ) → list_all scalar cs ≡ true → spelled (34 ∷ (body cs ++ (34 ∷ []))) ≡ Some (Quoted cs)
quoted_whole cs h = ap (λ o. option_map Quoted o) (characters_read cs (34 ∷ []) h ∙ ap (λ xs. Some xs) (append-nil cs))

three_parts : (xs : List ℕ) (d : ℕ) (more : List ℕ) → ((xs ++ (34 ∷ [])) ++ (d ∷ [])) ++ more ≡ xs ++ (34 ∷ d ∷ more)
three_parts xs d more = simp append_assoc

quoted_ends : (cs text : List ℕ) → list_all scalar cs ≡ true → EndsToken (34 ∷ (body cs ++ (34 ∷ []))) text
quoted_ends cs x h = search (std_rules, ends_by, three_parts, characters_read)

-- The escaped characters of a string between quotation marks are one token.
pub quoted_at : (cs rest : List ℕ) {ts : List Token} → list_all scalar cs ≡ true → Tokens rest ts → Tokens (34 ∷ (body cs ++ (34 ∷ rest))) (Quoted cs ∷ ts)
quoted_at cs rest {ts} h more = subst (λ x. Tokens (34 ∷ x) (Quoted cs ∷ ts)) (append_assoc (body cs) (34 ∷ []) rest)
    (token_at 34 (body cs ++ (34 ∷ [])) rest (Quoted cs) refl refl (quoted_whole cs h) (quoted_ends cs rest h) more)

-- ---- documentation

comment_ends : (line rest : List ℕ) → is_one_line line ≡ true → after_comment (line ++ 10 ∷ rest) ≡ 10 ∷ rest
comment_ends [] rest h = refl
comment_ends (c ∷ cs) rest h = rw (not_true (c == 10) (left_of _ _ h)) (comment_ends cs rest (right_of (not (c == 10)) _ h))

doc_skipped : (line rest : List ℕ) {ts : List Token} → is_one_line line ≡ true → Tokens rest ts → Tokens (doc_text line ++ rest) ts
doc_skipped [] rest h more = skip refl (line_feed more)
doc_skipped (c ∷ cs) rest h more = skip (ap Skipped (ap after_comment (append_assoc (47 ∷ 32 ∷ c ∷ cs) (10 ∷ []) rest) ∙ comment_ends (c ∷ cs) rest h)) (line_feed more)

-- Documentation is no token.
pub docs_read : (emits_docs : Bool) (docs : List (List ℕ)) → list_all is_one_line docs ≡ true → {more : List OutputCall} {ts : List Token} → Follows true more ts
    → Follows true (doc_calls emits_docs docs ++ more) ts
docs_read false docs h f = f
docs_read true [] h f = f
docs_read true (line ∷ docs) h {more} f =
    let rest = docs_read true docs (right_of (is_one_line line) _ h) f in
    line_begins (Doc line) refl (record { at = λ level. doc_skipped line (text_of true level (doc_calls true docs ++ more)) (left_of _ _ h) (rest.at level) })

-- ---- gates

-- an attribute's mark and word
attribute_call : (word : List ℕ) {more : List OutputCall} {ts : List Token} → begins_with_letter word ≡ true → spelled word ≡ Some (Word word) → EndsWord more → Follows false more ts
    → Follows true (Keyword (64 ∷ word) ∷ more) (Punctuation At ∷ Word word ∷ ts)
attribute_call word {more} letter s ends f =
    line_begins (Keyword (64 ∷ word)) refl (record { at = λ level. mark At refl (word_at word (text_of false level more) (Word word) letter s (ends level) (f.at level)) })

-- a version in parentheses, and a line's end
argument_call : (version : List ℕ) {more : List OutputCall} {ts : List Token} → is_version_text version ≡ true → Follows true more ts
    → Follows false (Str (codes "(") ∷ Keyword (codes "version") ∷ Str (codes " = ") ∷ Ty version kind.VersionAnnotation ∷ Str (codes ")") ∷ Newline ∷ more)
    (Punctuation OpenParen ∷ Word (codes "version") ∷ Punctuation Equals ∷ VersionText version ∷ Punctuation CloseParen ∷ ts)
argument_call version {more} h f = record {
  at = λ level. mark OpenParen refl (word_at (codes "version") (32 ∷ 61 ∷ 32 ∷ (version ++ (41 ∷ 10 ∷ text_of true level more))) (Word (codes "version")) refl refl refl
      (space (mark Equals refl (space (version_at version (41 ∷ 10 ∷ text_of true level more) h refl (mark CloseParen refl (line_feed (f.at level))))))));
}

deprecated_reads : (deprecated : Option (List ℕ)) → passes is_version_text deprecated ≡ true → {more : List OutputCall} {ts : List Token} → Follows true more ts
    → Printed true (deprecated_calls deprecated ++ more) (λ before. ReadsDeprecated before deprecated ts)
deprecated_reads None h {ts = ts} f = (ts, f, ReadsDeprecated.not_deprecated)
deprecated_reads (Some version) h f =
    (_, attribute_call (codes "deprecated") refl refl (λ level. refl) (argument_call version h f), ReadsDeprecated.deprecated refl (ReadsVersionArgument.version_argument refl))

-- What is printed of gates is read as them.
pub gates_read : (gates : Gates) → is_well_gates gates ≡ true → {more : List OutputCall} {ts : List Token} → Follows true more ts
    → Printed true (gates_calls gates ++ more) (λ before. ReadsGates before gates ts)
gates_read Ungated h {ts = ts} f = (ts, f, ReadsGates.no_gates)
gates_read (Since version deprecated) h f =
    let d = deprecated_reads deprecated (right_of (is_version_text version) _ h) f in
    (_, attribute_call (codes "since") refl refl (λ level. refl) (argument_call version (left_of _ _ h) d.1), ReadsGates.since refl (ReadsVersionArgument.version_argument refl) d.2)
gates_read (Unstable feature deprecated) h {more} f =
    let d = deprecated_reads deprecated (right_of (is_label feature) _ h) f in
    let close : Follows false (Str (codes ")") ∷ Newline ∷ (deprecated_calls deprecated ++ more)) (Punctuation CloseParen ∷ d.0) =
    record { at = λ level. mark CloseParen refl (line_feed (d.1.at level)) } in
    let named = equals_call (id_call feature (by_str {text = escaped feature}) (left_of _ _ h) (λ level. refl) close) in
    let word = word_call (Word (codes "feature")) (by_keyword {text = codes "feature"}) refl refl (λ level. refl) named in
    (_, attribute_call (codes "unstable") refl refl (λ level. refl) (open_call word), ReadsGates.unstable refl refl (id_is feature) d.2)

-- ---- external ids

pushed_text : (level : ℕ) (cs : List ℕ) (more : List OutputCall) → text_of false level (map character_call cs ++ more) ≡ body cs ++ text_of false level more
pushed_text level [] more = refl
pushed_text level (c ∷ cs) more = ap (λ t. escaped_character c ++ t) (pushed_text level cs more) ∙ sym (append_assoc (escaped_character c) (body cs) (text_of false level more))

string_call : (cs : List ℕ) {more : List OutputCall} {ts : List Token} → list_all scalar cs ≡ true → Follows true more ts
    → Follows false (Str (codes "(\"") ∷ ((map character_call cs ++ (Str (codes "\")") ∷ Newline ∷ [])) ++ more)) (Punctuation OpenParen ∷ Quoted cs ∷ Punctuation CloseParen ∷ ts)
string_call cs {more} {ts} h f = record {
  at = λ level. mark OpenParen refl (subst (λ x. Tokens (34 ∷ x) (Quoted cs ∷ Punctuation CloseParen ∷ ts)) (sym (text level))
      (quoted_at cs (41 ∷ 10 ∷ text_of true level more) h (mark CloseParen refl (line_feed (f.at level)))));
}
  where
    text : (level : ℕ) → text_of false level ((map character_call cs ++ (Str (codes "\")") ∷ Newline ∷ [])) ++ more) ≡ body cs ++ (34 ∷ 41 ∷ 10 ∷ text_of true level more)
    text level = ap (text_of false level) (append_assoc (map character_call cs) (Str (codes "\")") ∷ Newline ∷ []) more) ∙ pushed_text level cs (Str (codes "\")") ∷ Newline ∷ more)

external_id_reads : (external_id : Option (List ℕ)) → passes (list_all scalar) external_id ≡ true → {more : List OutputCall} {ts : List Token} → Follows true more ts
    → Printed true (external_id_calls external_id ++ more) (λ before. ReadsExternalId before external_id ts)
external_id_reads None h {ts = ts} f = (ts, f, ReadsExternalId.no_external_id)
external_id_reads (Some cs) h f = (_, attribute_call (codes "external-id") refl refl (λ level. refl) (string_call cs h f), ReadsExternalId.external_id refl)

-- What is printed in front of an item is read as it, without its documentation.
pub prefix_reads : (emits_docs : Bool) (prefix : Prefix) → is_well_prefix prefix ≡ true → {more : List OutputCall} {ts : List Token} → Follows true more ts
    → Printed true (prefix_calls emits_docs prefix ++ more) (λ before. ReadsPrefix before (bare_prefix type_as_read prefix) ts)
prefix_reads emits_docs prefix h f =
    let w = right_of (list_all is_one_line prefix.docs) _ h in
    let e = external_id_reads prefix.external_id (right_of (is_well_gates prefix.gates) _ w) f in
    let g = gates_read prefix.gates (left_of _ _ w) e.1 in
    relist (g.0, docs_read emits_docs prefix.docs (left_of _ _ h) g.1, ReadsPrefix.prefix g.2 e.2) (simp append_assoc)
