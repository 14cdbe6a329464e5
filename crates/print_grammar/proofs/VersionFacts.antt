-- The text of a version is one token.
use Rattle.std.proofs.Common.{rules as std_rules, ◌≡◌, refl, sym, ap, ◌∙◌, subst, ℕ, ◌<◌, ◌^◌, Bool, true, false, ◌&&◌, ◌||◌, ◌==◌, not, List, [], ◌∷◌, ◌++◌, length, Option, Some, None, inl, inr, arith, nat_lt}
use Rattle.std.proofs.lemmas.Bool.{cases_Bool, eqb-true, and_from as both, and_right as and_false, false_from_ne_true as refuted, not-true as not_true, or_left}
use Rattle.std.proofs.lemmas.{Bool.Decides.nat_tests, Fmt.decimal_is_IsNumeral, List.Folds.list_all-append}
use Rattle.std.proofs.lemmas.List.Splits.{slice_split-cons_yes, slice_split-cons_no}
use Rattle.std.specs.{Option.option_map, Option.option_map_or, Fmt.decimal}
use Rattle.std.specs.{Char.is_ascii_alphabetic, Char.is_ascii_digit, List.list_all, List.onto_first}
use Rattle.semver.specs.Grammar.{IsValid, is_pre_release, is_build, is_identifier_byte, is_build_identifier, is_pre_identifier}
use Rattle.semver.specs.{Identifiers.parts_text, Order.is_numeric, Order.parts, Parse.Parts}
use Rattle.wit_model.specs.Names.{cut, is_marked_part, is_numeral, is_version_core, is_version_number, is_version_of, is_version_text}
use Rattle.wit_model.proofs.VersionTexts.{build_part, cut-sound, decimal_digits, decimal_numeral, identifiers_pass, parts_are_version, parts_pass, pre_release_part, version_spells}
use Rattle.print_grammar.specs.Token.{Token, Tokens, spelled, is_blank, number_token}
use Rattle.print_grammar.proofs.ByteTests.{all_but_one}
use Rattle.print_grammar.proofs.TokenFacts.{NoToken, EndsToken, ends_by, ends_by_two, token_at, no_comment}
use Rattle.base_lemmas.proofs.{Bools.left_of, Bools.right_of, Elements.all_weaker as weaker_all}

-- ---- the bytes of a version

-- a letter, a digit, or one of `-`, `.` and `+`
abbrev pub is_version_byte : ℕ → Bool
is_version_byte b = ((is_identifier_byte b || (b == 46)) || (b == 45)) || (b == 43)

digit_byte : (b : ℕ) → is_ascii_digit b ≡ true → is_identifier_byte b ≡ true
digit_byte b h = grind (arith, nat_tests)

identifier_version : (b : ℕ) → (is_identifier_byte b || (b == 46)) ≡ true → is_version_byte b ≡ true
identifier_version b h = or_left _ _ (or_left _ _ h)

build_bytes : (text : List ℕ) → is_build text ≡ true → list_all is_version_byte text ≡ true
build_bytes [] h = refl
build_bytes (b ∷ bs) h = identifiers_pass _ is_build_identifier identifier_version build_part (b ∷ bs) h

pre_release_bytes : (text : List ℕ) → is_pre_release text ≡ true → list_all is_version_byte text ≡ true
pre_release_bytes [] h = refl
pre_release_bytes (b ∷ bs) h = identifiers_pass _ is_pre_identifier identifier_version pre_release_part (b ∷ bs) h

numeral_bytes : (text : List ℕ) → is_numeral text ≡ true → list_all is_identifier_byte text ≡ true
numeral_bytes text h = weaker_all is_ascii_digit _ digit_byte text (left_of (is_numeric text) _ (right_of (nat_lt 0 (length text)) _ h))

numerals_bytes : (texts : List (List ℕ)) → (length texts == 3 && list_all is_numeral texts) ≡ true → list_all (list_all is_identifier_byte) texts ≡ true
numerals_bytes texts h = weaker_all is_numeral _ numeral_bytes texts (right_of (length texts == 3) _ h)

core_bytes : (text : List ℕ) → is_version_core is_numeral text ≡ true → list_all is_version_byte text ≡ true
core_bytes text h = weaker_all _ is_version_byte identifier_version text (parts_pass is_identifier_byte 46 text (numerals_bytes (parts text) h))

-- the bytes of a text that may be cut, by those of its parts
cut_bytes : (c : ℕ) (front back : List ℕ → Bool) → is_version_byte c ≡ true → ((t : List ℕ) → front t ≡ true → list_all is_version_byte t ≡ true)
    → ((t : List ℕ) → back t ≡ true → list_all is_version_byte t ≡ true) → (text : List ℕ) (o : Option (List ℕ × List ℕ)) → cut c text ≡ o
    → option_map_or (λ (p : List ℕ × List ℕ). front p.0 && is_marked_part back p.1) o (front text) ≡ true → list_all is_version_byte text ≡ true
cut_bytes c front back here on_front on_back text None e h = on_front text h
cut_bytes c front back here on_front on_back text (Some p) e h = ap (list_all is_version_byte) (cut-sound c text p e) ∙ (list_all-append is_version_byte p.0 (c ∷ p.1)
    ∙ both _ _ (on_front p.0 (left_of _ _ h)) (both _ _ here (on_back p.1 (right_of (nat_lt 0 (length p.1)) _ (right_of (front p.0) _ h)))))

number_bytes : (text : List ℕ) → is_version_number is_numeral text ≡ true → list_all is_version_byte text ≡ true
number_bytes text h = cut_bytes 45 (is_version_core is_numeral) is_pre_release refl core_bytes pre_release_bytes text (cut 45 text) refl h

-- a version, of numbers of any size
abbrev is_semantic_version : List ℕ → Bool
is_semantic_version text = is_version_of is_numeral text

version_bytes : (text : List ℕ) → is_semantic_version text ≡ true → list_all is_version_byte text ≡ true
version_bytes text h = cut_bytes 43 (is_version_number is_numeral) is_build refl number_bytes build_bytes text (cut 43 text) refl h

-- ---- the token

-- no version has another byte
no_version : (front : List ℕ) (c : ℕ) (more : List ℕ) → is_version_byte c ≡ false → is_semantic_version ((front ++ c ∷ []) ++ more) ≡ false
no_version front c more h = refuted _ (λ e. all_but_one is_version_byte front c more h (version_bytes ((front ++ c ∷ []) ++ more) e))

no_digit : (c : ℕ) → is_version_byte c ≡ false → is_ascii_digit c ≡ false
no_digit c h = grind (arith, nat_tests)

no_number : (front : List ℕ) (c : ℕ) (more : List ℕ) → is_version_byte c ≡ false → is_numeric ((front ++ c ∷ []) ++ more) ≡ false
no_number front c more h = refuted _ (λ e. all_but_one is_ascii_digit front c more (no_digit c h) e)

-- whether what follows a dot goes on with a version
abbrev no_version_next : List ℕ → Bool
no_version_next [] = false
no_version_next (d ∷ ds) = not (is_version_byte d)

-- whether a version that stands before this text ends there: another byte follows, or a dot and then another byte
abbrev pub ends_version : List ℕ → Bool
ends_version [] = true
ends_version (c ∷ cs) = not (is_version_byte c) || ((c == 46) && no_version_next cs)

-- ---- no version ends in a dot

after_first_part : List (List ℕ) → List (List ℕ)
after_first_part [] = []
after_first_part (part ∷ ps) = ps

onto_first_after : (x : ℕ) (ps : List (List ℕ)) → after_first_part (onto_first x ps) ≡ after_first_part ps
unfolding after_first_part
onto_first_after x [] = refl
onto_first_after x (part ∷ ps) = refl

fewer_parts : (P : List ℕ → Bool) (ps : List (List ℕ)) → list_all P ps ≡ true → list_all P (after_first_part ps) ≡ true
unfolding after_first_part
fewer_parts x y h = search std_rules

-- the part after a dot at the end is empty
last_part : (P : List ℕ → Bool) (text : List ℕ) → list_all P (after_first_part (parts (text ++ 46 ∷ []))) ≡ true → P [] ≡ true
unfolding after_first_part
last_part P [] h = left_of _ _ h
last_part P (x ∷ xs) h = elim (cases_Bool (x == 46)) [
  | inl dot ↦
      let e = ap (λ ps. list_all P (after_first_part ps)) (slice_split-cons_yes (λ b. b == 46) x (xs ++ 46 ∷ []) dot) in
      last_part P xs (fewer_parts P (parts (xs ++ 46 ∷ [])) (sym e ∙ h))
  | inr other ↦
      let e = ap (λ ps. list_all P (after_first_part ps)) (slice_split-cons_no (λ b. b == 46) x (xs ++ 46 ∷ []) other) in
      let f = ap (list_all P) (onto_first_after x (parts (xs ++ 46 ∷ []))) in
      last_part P xs (sym f ∙ (sym e ∙ h))
]

no_empty_last : (P : List ℕ → Bool) (text : List ℕ) → P [] ≡ false → list_all P (parts (text ++ 46 ∷ [])) ≡ true → ⊥
no_empty_last P text e h = let f = last_part P text (fewer_parts P (parts (text ++ 46 ∷ [])) h) in cc

three_pass : (texts : List (List ℕ)) → (length texts == 3 && list_all is_numeral texts) ≡ true → list_all is_numeral texts ≡ true
three_pass texts h = right_of (length texts == 3) _ h

core_no_dot : (text : List ℕ) → is_version_core is_numeral (text ++ 46 ∷ []) ≡ false
core_no_dot text = refuted _ (λ h. no_empty_last is_numeral text refl (three_pass (parts (text ++ 46 ∷ [])) h))

pre_release_no_dot : (text : List ℕ) → is_pre_release (text ++ 46 ∷ []) ≡ false
pre_release_no_dot [] = refl
pre_release_no_dot (x ∷ xs) = refuted _ (λ h. no_empty_last is_pre_identifier (x ∷ xs) refl h)

build_no_dot : (text : List ℕ) → is_build (text ++ 46 ∷ []) ≡ false
build_no_dot [] = refl
build_no_dot (x ∷ xs) = refuted _ (λ h. no_empty_last is_build_identifier (x ∷ xs) refl h)

-- a dot at the end stays behind the cut
with_dot : List ℕ × List ℕ → List ℕ × List ℕ
with_dot p = (p.0, p.1 ++ 46 ∷ [])

moved_in : (x : ℕ) (o : Option (List ℕ × List ℕ))
    → option_map (λ (p : List ℕ × List ℕ). (x ∷ p.0, p.1)) (option_map with_dot o) ≡ option_map with_dot (option_map (λ (p : List ℕ × List ℕ). (x ∷ p.0, p.1)) o)
unfolding with_dot
moved_in x y = search std_rules

cut_dot : (c : ℕ) (text : List ℕ) → (46 == c) ≡ false → cut c (text ++ 46 ∷ []) ≡ option_map with_dot (cut c text)
unfolding cut with_dot
cut_dot c [] e = rw e refl
cut_dot c (x ∷ xs) e = search (std_rules, cases_Bool, moved_in, cut_dot c xs e)

number_no_dot : (text : List ℕ) → is_version_number is_numeral (text ++ 46 ∷ []) ≡ false
unfolding with_dot
number_no_dot text = search (std_rules, cut_dot, with_dot, core_no_dot, and_false, pre_release_no_dot)

version_no_dot : (text : List ℕ) → is_semantic_version (text ++ 46 ∷ []) ≡ false
unfolding with_dot
version_no_dot text = search (std_rules, cut_dot, with_dot, number_no_dot, and_false, build_no_dot)

digit_no_letter : (c : ℕ) → is_ascii_digit c ≡ true → is_ascii_alphabetic c ≡ false
digit_no_letter c h = grind (arith, nat_tests)

digit_no_blank : (c : ℕ) → is_ascii_digit c ≡ true → is_blank c ≡ false
digit_no_blank c h = grind (arith, nat_tests)

digit_no_slash : (c : ℕ) → is_ascii_digit c ≡ true → (c == 47) ≡ false
digit_no_slash c h = grind (arith, nat_tests)

number_spelled : (c : ℕ) (cs : List ℕ) → is_ascii_digit c ≡ true → spelled (c ∷ cs) ≡ number_token (c ∷ cs)
number_spelled c cs h = rw (digit_no_letter c h, h, spelled) refl

no_number_token : (text : List ℕ) → is_numeric text ≡ false → is_semantic_version text ≡ false → number_token text ≡ None
no_number_token text e f = rw (e, f, number_token) refl

version_token : (text : List ℕ) → is_numeric text ≡ false → is_semantic_version text ≡ true → number_token text ≡ Some (Token.VersionText text)
version_token text e f = rw (e, f, number_token) refl

dot_no_digit : (front more : List ℕ) → is_numeric (front ++ 46 ∷ more) ≡ false
dot_no_digit front more = search (std_rules, refuted, right_of, list_all-append)

other_ends : (c : ℕ) (cs : List ℕ) (d : ℕ) → is_ascii_digit c ≡ true → is_version_byte d ≡ false → NoToken ((c ∷ cs) ++ d ∷ [])
other_ends c cs d digit e more = number_spelled c ((cs ++ d ∷ []) ++ more) digit ∙ no_number_token ((c ∷ cs ++ d ∷ []) ++ more) (no_number (c ∷ cs) d more e) (no_version (c ∷ cs) d more e)

dot_ends : (c : ℕ) (cs : List ℕ) → is_ascii_digit c ≡ true → spelled ((c ∷ cs) ++ 46 ∷ []) ≡ None
dot_ends c cs digit = number_spelled c (cs ++ 46 ∷ []) digit ∙ no_number_token (c ∷ cs ++ 46 ∷ []) (dot_no_digit (c ∷ cs) []) (version_no_dot (c ∷ cs))

number_ends : (c : ℕ) (cs rest : List ℕ) → is_ascii_digit c ≡ true → ends_version rest ≡ true → EndsToken (c ∷ cs) rest
number_ends c cs [] digit ends = tt
number_ends c cs (d ∷ []) digit ends = ends_by (c ∷ cs) d [] (other_ends c cs d digit (not_true _ (no_right _ _ ends)))
  where
    no_right : (a b : Bool) → (a || (b && false)) ≡ true → a ≡ true
    no_right true b h = refl
    no_right false true h = h
    no_right false false h = h
number_ends c cs (d ∷ e ∷ es) digit ends = elim (cases_Bool (is_version_byte d)) [
  | inl in_version ↦
      let right : ((d == 46) && not (is_version_byte e)) ≡ true = rw in_version at ends in
      let same : d ≡ 46 = eqb-true d 46 (left_of _ _ right) in
      subst (λ x. EndsToken (c ∷ cs) (x ∷ e ∷ es)) (sym same) (ends_by_two (c ∷ cs) 46 e es (dot_ends c cs digit) (other_ends c (cs ++ 46 ∷ []) e digit (not_true _ (right_of (d == 46) _ right))))
  | inr other ↦ ends_by (c ∷ cs) d (e ∷ es) (other_ends c cs d digit other)
]

-- a text that begins with a digit
abbrev begins_with_digit : List ℕ → Bool
begins_with_digit [] = false
begins_with_digit (c ∷ cs) = is_ascii_digit c

digits_first : (text more : List ℕ) → is_numeral text ≡ true → begins_with_digit (text ++ more) ≡ true
digits_first x more h = search std_rules

numeral_first : (text : List ℕ) → is_numeral text ≡ true → begins_with_digit text ≡ true
numeral_first x h = search std_rules

-- a text that begins with a digit and is a token, with what ends it behind it
digits_at : (text rest : List ℕ) (t : Token) {ts : List Token} → begins_with_digit text ≡ true → number_token text ≡ Some t → ends_version rest ≡ true → Tokens rest ts → Tokens (text ++ rest) (t ∷ ts)
digits_at x rest t digit e ends more = search (std_rules, token_at, digit_no_blank, no_comment, digit_no_slash, number_spelled, number_ends)

parts_are_semantic : (p : Parts) → IsValid p → is_semantic_version (parts_text p) ≡ true
parts_are_semantic p v = parts_are_version is_numeral decimal_numeral p v

parts_at : (p : Parts) (rest : List ℕ) {ts : List Token} → IsValid p → ends_version rest ≡ true → Tokens rest ts → Tokens (parts_text p ++ rest) (Token.VersionText (parts_text p) ∷ ts)
parts_at p rest v ends more = search (std_rules, digits_at, version_token, digits_first, decimal_numeral, dot_no_digit, parts_are_semantic)

-- The text of a version, with what is no part of a version behind it, is one token.
pub version_at : (text rest : List ℕ) {ts : List Token} → is_version_text text ≡ true → ends_version rest ≡ true → Tokens rest ts → Tokens (text ++ rest) (Token.VersionText text ∷ ts)
version_at text rest {ts} h ends more = let s = version_spells text h in subst (λ x. Tokens (x ++ rest) (Token.VersionText x ∷ ts)) s.spelled (parts_at s.read rest s.valid ends more)

number_value : (n : ℕ) → n < 2 ^ 64 → number_token (decimal n) ≡ Some (Token.Digits n)
number_value n h = rw (decimal_digits n h, number_token) (ap (λ d. Some (Token.Digits d)) (decimal_is_IsNumeral n h).1)

-- The digits of a number, with what is no part of a version behind them, are one token.
pub number_at : (n : ℕ) (rest : List ℕ) {ts : List Token} → n < 2 ^ 64 → ends_version rest ≡ true → Tokens rest ts → Tokens (decimal n ++ rest) (Token.Digits n ∷ ts)
number_at n rest h ends more = digits_at (decimal n) rest (Token.Digits n) (numeral_first (decimal n) (decimal_numeral n h)) (number_value n h) ends more
