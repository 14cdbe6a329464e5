-- A text is a version by the grammar exactly where its parser reads one.
use Rattle.std.proofs.Common.{rules as std_rules, ◌≡◌, refl, sym, ap, ◌∙◌, ℕ, ◌<◌, ◌^◌, Bool, true, false, ◌&&◌, ◌||◌, ◌==◌, not, List, [], ◌∷◌, ◌++◌, length, Option, Some, None, append-nil, append_assoc, inl, inr, arith, suc, get_or, Ok, Err, Result, nat_lt}
use Rattle.std.proofs.lemmas.Bool.{cases_Bool, eqb-true, lt-ltb, ltb-true, and_from as both, not-true as not_true, or_left, or_right}
use Rattle.std.proofs.lemmas.{Bool.Decides.nat_tests, List.Folds.list_all-append}
use Rattle.std.proofs.lemmas.{Fmt.decimal_is_IsNumeral, Fmt.decimal_nonempty, Fmt.decimal-digits_value, Fmt.first_decimal, Fmt.decimal_digit, Str.Parse.numerals_by_value, Str.Parse.tells_digits, List.Sums.AllPass-from_list_all}
use Rattle.std.proofs.lemmas.List.Splits.{join_with_byte-slice_split, slice_split_none, slice_split_at, slice_split-cons_yes, slice_split-cons_no}
use Rattle.std.specs.{Option.option_map_or, Prelude.is_ok, Fmt.decimal}
use Rattle.std.specs.{Char.is_ascii_digit, Char.digit_value, List.list_all, List.slice_split, List.join_with_byte, List.onto_first, List.All, Str.Parse.AllDigits, Str.Parse.digits_value}
use Rattle.semver.specs.Grammar.{IsValid, has_leading_zero, is_pre_release, is_build, is_identifier_byte, is_build_identifier, is_pre_identifier}
use Rattle.semver.specs.{Identifiers.parts_text, Identifiers.marked, Order.is_numeric, Order.parts, Parse.Parts, Parse.version_parts}
use Rattle.semver.specs.declared.error.Error.{Error}
use Rattle.semver.proofs.Grammar.{version_parts-complete, version_parts-sound}
use Rattle.wit_model.specs.{Text.Text, Names.cut, Names.is_marked_part, Names.is_numeral, Names.is_short_numeral, Names.is_version_core, Names.is_version_number, Names.is_version_of, Names.is_version_text}
use Rattle.base_lemmas.proofs.{Bools.left_of, Bools.right_of, Elements.all_weaker as weaker_all}

-- ---- what stands before and after a byte

cut-none : (c : ℕ) (xs : List ℕ) → list_all (λ b. not (b == c)) xs ≡ true → cut c xs ≡ None
unfolding cut
cut-none c [] h = refl
cut-none c (x ∷ xs) h = search (std_rules, not_true, left_of, right_of, cut-none c xs (right_of (not (x == c)) _ h))

cut-at : (c : ℕ) (xs ys : List ℕ) → (c == c) ≡ true → list_all (λ b. not (b == c)) xs ≡ true → cut c (xs ++ c ∷ ys) ≡ Some (xs, ys)
unfolding cut
cut-at c [] ys same h = rw same refl
cut-at c (x ∷ xs) ys same h = search (std_rules, not_true, left_of, right_of, cut-at c xs ys same (right_of (not (x == c)) _ h))

pub cut-sound : (c : ℕ) (text : List ℕ) (p : List ℕ × List ℕ) → cut c text ≡ Some p → text ≡ p.0 ++ c ∷ p.1
unfolding cut
cut-sound c [] p e = cc e
cut-sound c (x ∷ xs) p e = search (std_rules, cases_Bool, eqb-true, cut-sound c xs)

-- ---- tests of bytes

-- one more byte on the first part
first_part : (p : ℕ → Bool) (x : ℕ) (ps : List (List ℕ)) → list_all (list_all p) (onto_first x ps) ≡ true → (p x ≡ true) × (list_all (list_all p) ps ≡ true)
first_part p x y h = search std_rules

-- what the bytes of all parts pass, each byte passes or is the one at which they were cut
pub parts_pass : (p : ℕ → Bool) (c : ℕ) (text : List ℕ) → list_all (list_all p) (slice_split (λ b. b == c) text) ≡ true → list_all (λ b. p b || (b == c)) text ≡ true
parts_pass p c [] h = refl
parts_pass p c (x ∷ xs) h = elim (cases_Bool (x == c)) [
  | inl cut ↦
      let e = ap (list_all (list_all p)) (slice_split-cons_yes (λ b. b == c) x xs cut) in
      both _ _ (or_right (p x) _ cut) (parts_pass p c xs (sym e ∙ h))
  | inr other ↦
      let e = ap (list_all (list_all p)) (slice_split-cons_no (λ b. b == c) x xs other) in
      let f = first_part p x (slice_split (λ b. b == c) xs) (sym e ∙ h) in
      both _ _ (or_left (p x) _ f.0) (parts_pass p c xs f.1)
]

-- what the bytes of identifiers and the dots between them pass
pub identifiers_pass : (Q : ℕ → Bool) (P : List ℕ → Bool) → ((b : ℕ) → (is_identifier_byte b || (b == 46)) ≡ true → Q b ≡ true)
    → ((part : List ℕ) → P part ≡ true → list_all is_identifier_byte part ≡ true) → (text : List ℕ) → list_all P (parts text) ≡ true → list_all Q text ≡ true
identifiers_pass Q P on_byte on_part text h = weaker_all _ Q on_byte text (parts_pass is_identifier_byte 46 text (weaker_all P _ on_part (parts text) h))

pub build_part : (part : List ℕ) → is_build_identifier part ≡ true → list_all is_identifier_byte part ≡ true
build_part part h = right_of (nat_lt 0 (length part)) _ h

pub pre_release_part : (part : List ℕ) → is_pre_identifier part ≡ true → list_all is_identifier_byte part ≡ true
pre_release_part part h = build_part part (left_of _ _ h)

-- ---- the text of a version's parts

glyph_digit : (c : ℕ) → digit_value c < 10 → is_ascii_digit c ≡ true
glyph_digit c h = grind (arith, nat_tests)

all_digits : (text : List ℕ) → AllDigits 10 text → is_numeric text ≡ true
all_digits [] h = refl
all_digits (c ∷ cs) h = both _ _ (glyph_digit c h.0) (all_digits cs h.1)

pub decimal_digits : (n : ℕ) → n < 2 ^ 64 → is_numeric (decimal n) ≡ true
decimal_digits n h = all_digits (decimal n) (decimal_is_IsNumeral n h).0.1

no_zero_first : (text : List ℕ) → 48 < get_or text 0 0 → has_leading_zero text ≡ false
no_zero_first x h = search std_rules

no_leading_zero : (n : ℕ) → n < 2 ^ 64 → has_leading_zero (decimal n) ≡ false
no_leading_zero x h = search (std_rules, decimal_digit, no_zero_first, first_decimal)

pub decimal_numeral : (n : ℕ) → n < 2 ^ 64 → is_numeral (decimal n) ≡ true
decimal_numeral n h = search (std_rules, lt-ltb, decimal_nonempty, both, decimal_digits, no_leading_zero)

none_is : (c : ℕ) (p : ℕ → Bool) → ((b : ℕ) → p b ≡ true → (b == c) ≡ false) → (text : List ℕ) → list_all p text ≡ true → All (λ b. (b == c) ≡ false) text
none_is c p apart text h = λ k d below. apart _ (AllPass-from_list_all p text h k d below)

digit_no_dot : (b : ℕ) → is_ascii_digit b ≡ true → (b == 46) ≡ false
digit_no_dot b h = grind (arith, nat_tests)

-- the three numbers of a version
abbrev core_text : Parts → List ℕ
core_text p = decimal p.0 ++ (46 ∷ (decimal p.1 ++ (46 ∷ decimal p.2)))

core_parts : (p : Parts) → IsValid p → parts (core_text p) ≡ decimal p.0 ∷ decimal p.1 ∷ decimal p.2 ∷ []
core_parts p v = search (std_rules, slice_split_at, none_is, digit_no_dot, decimal_digits, slice_split_none)

core_is_core : (is_one : Text → Bool) → ((n : ℕ) → n < 2 ^ 64 → is_one (decimal n) ≡ true) → (p : Parts) → IsValid p → is_version_core is_one (core_text p) ≡ true
core_is_core is_one pass p v = ap (λ ts. length ts == 3 && list_all is_one ts) (core_parts p v) ∙ both _ _ (pass p.0 v.0) (both _ _ (pass p.1 v.1) (both _ _ (pass p.2 v.2) refl))

digit_no_mark : (b : ℕ) → is_ascii_digit b ≡ true → (not (b == 45) && not (b == 43)) ≡ true
digit_no_mark b h = grind (arith, nat_tests)

-- neither `-` nor `+`
abbrev is_unmarked : ℕ → Bool
is_unmarked b = not (b == 45) && not (b == 43)

core_unmarked : (p : Parts) → IsValid p → list_all is_unmarked (core_text p) ≡ true
core_unmarked p v =
    let digits : (n : ℕ) → n < 2 ^ 64 → list_all is_unmarked (decimal n) ≡ true = λ n h. weaker_all is_ascii_digit is_unmarked digit_no_mark (decimal n) (decimal_digits n h) in
    list_all-append is_unmarked (decimal p.0) (46 ∷ (decimal p.1 ++ (46 ∷ decimal p.2)))
    ∙ both _ _ (digits p.0 v.0) (list_all-append is_unmarked (decimal p.1) (46 ∷ decimal p.2) ∙ both _ _ (digits p.1 v.1) (digits p.2 v.2))

identifier_no_plus : (b : ℕ) → (is_identifier_byte b || (b == 46)) ≡ true → not (b == 43) ≡ true
identifier_no_plus b h = grind (arith, nat_tests)

pre_release_no_plus : (text : List ℕ) → is_pre_release text ≡ true → list_all (λ b. not (b == 43)) text ≡ true
pre_release_no_plus [] h = refl
pre_release_no_plus (b ∷ bs) h = identifiers_pass (λ x. not (x == 43)) is_pre_identifier identifier_no_plus pre_release_part (b ∷ bs) h

-- the text before the build metadata
abbrev number_text : Parts → List ℕ
number_text p = core_text p ++ marked 45 p.3

number_no_plus : (p : Parts) → IsValid p → list_all (λ b. not (b == 43)) (number_text p) ≡ true
number_no_plus p v = list_all-append (λ b. not (b == 43)) (core_text p) (marked 45 p.3)
    ∙ both _ _ (weaker_all is_unmarked _ (λ b h. right_of (not (b == 45)) _ h) (core_text p) (core_unmarked p v)) (mark p.3 v.3)
  where
    mark : (text : List ℕ) → is_pre_release text ≡ true → list_all (λ b. not (b == 43)) (marked 45 text) ≡ true
    mark [] h = refl
    mark (b ∷ bs) h = pre_release_no_plus (b ∷ bs) h

-- a text that passes one test, and behind a mark, if there is more, a text that passes another
marked_passes : (c : ℕ) (front back : List ℕ → Bool) → (c == c) ≡ true → (text more : List ℕ) → list_all (λ b. not (b == c)) text ≡ true → front text ≡ true → back more ≡ true
    → option_map_or (λ (p : List ℕ × List ℕ). front p.0 && is_marked_part back p.1) (cut c (text ++ marked c more)) (front (text ++ marked c more)) ≡ true
marked_passes c front back same text [] unmarked f b = rw (append-nil text, cut-none c text unmarked) f
marked_passes c front back same text (x ∷ xs) unmarked f b = rw (cut-at c text (x ∷ xs) same unmarked) (both _ _ f (both _ _ (lt-ltb 0 (suc (length xs)) (omega arith)) b))

number_is_number : (is_one : Text → Bool) → ((n : ℕ) → n < 2 ^ 64 → is_one (decimal n) ≡ true) → (p : Parts) → IsValid p → is_version_number is_one (number_text p) ≡ true
number_is_number is_one pass p v = marked_passes 45 (is_version_core is_one) is_pre_release refl (core_text p) p.3 (weaker_all is_unmarked _ (λ b h. left_of _ _ h) (core_text p) (core_unmarked p v))
    (core_is_core is_one pass p v) v.3

parts_joined : (p : Parts) → parts_text p ≡ number_text p ++ marked 43 p.4
parts_joined p = simp append_assoc

-- The text of the parts of a version is a version, if numbers below 2 ^ 64 pass the test of numerals.
pub parts_are_version : (is_one : Text → Bool) → ((n : ℕ) → n < 2 ^ 64 → is_one (decimal n) ≡ true) → (p : Parts) → IsValid p → is_version_of is_one (parts_text p) ≡ true
parts_are_version is_one pass p v = ap (is_version_of is_one) (parts_joined p)
    ∙ marked_passes 43 (is_version_number is_one) is_build refl (number_text p) p.4 (number_no_plus p v) (number_is_number is_one pass p v) v.4

decimal_short : (n : ℕ) → n < 2 ^ 64 → is_short_numeral (decimal n) ≡ true
decimal_short n h =
    let value = (decimal_is_IsNumeral n h).1 in
    both _ _ (decimal_numeral n h) (ap (λ k. nat_lt k (2 ^ 64)) value ∙ lt-ltb n (2 ^ 64) h)

-- ---- the parts of a version's text

digit_below : (c : ℕ) → is_ascii_digit c ≡ true → digit_value c < 10
digit_below c h = grind (arith, nat_tests)

are_digits : (text : Text) → is_numeric text ≡ true → AllDigits 10 text
are_digits [] h = tt
are_digits (c ∷ cs) h = (digit_below c (left_of _ _ h), are_digits cs (right_of (is_ascii_digit c) _ h))

zero_alone : (text : Text) → not (has_leading_zero text) ≡ true → get_or text 0 0 ≡ 48 → length text ≡ 1
zero_alone [] h e = absurd (omega (arith, e))
zero_alone (c ∷ []) h e = refl
zero_alone (c ∷ d ∷ ds) h e =
    let long : nat_lt 0 (length (d ∷ ds)) ≡ true = lt-ltb 0 (suc (length ds)) (omega arith) in
    let wrong : false ≡ true = rw (e, long) at h in
    absurd cc

-- a numeral is what is written of its value
numeral_written : (text : Text) → is_short_numeral text ≡ true → (digits_value 10 text < 2 ^ 64) × (text ≡ decimal (digits_value 10 text))
numeral_written text h =
    let numeral = left_of (is_numeral text) _ h in
    let small = ltb-true _ _ (right_of (is_numeral text) _ h) in
    let rest = right_of (nat_lt 0 (length text)) _ numeral in
    let digits = are_digits text (left_of (is_numeric text) _ rest) in
    (small, sym (decimal-digits_value (numerals_by_value _ tells_digits) text digits (ltb-true 0 (length text) (left_of _ _ numeral)) (zero_alone text (right_of (is_numeric text) _ rest)) small))

-- three numbers as a version core
abbrev three : ℕ → ℕ → ℕ → Text
three a b c = decimal a ++ (46 ∷ (decimal b ++ (46 ∷ decimal c)))

record SpellsCore (text : Text) : Type 0 where
  major : ℕ
  minor : ℕ
  patch : ℕ
  major_fits : major < 2 ^ 64
  minor_fits : minor < 2 ^ 64
  patch_fits : patch < 2 ^ 64
  spelled : text ≡ three major minor patch

core_spells : (text : Text) → is_version_core is_short_numeral text ≡ true → SpellsCore text
core_spells text h = go (parts text) refl h
  where
    go : (ts : List Text) → parts text ≡ ts → (length ts == 3 && list_all is_short_numeral ts) ≡ true → SpellsCore text
    go [] e g = absurd cc
    go (a ∷ []) e g = absurd cc
    go (a ∷ b ∷ []) e g = absurd cc
    go (a ∷ b ∷ c ∷ d ∷ ds) e g =
        let three_long : length (a ∷ b ∷ c ∷ d ∷ ds) ≡ 3 = eqb-true (length (a ∷ b ∷ c ∷ d ∷ ds)) 3 (left_of (length (a ∷ b ∷ c ∷ d ∷ ds) == 3) (list_all is_short_numeral (a ∷ b ∷ c ∷ d ∷ ds)) g) in
        absurd (omega (arith, three_long))
    go (a ∷ b ∷ c ∷ []) e g =
        let all = right_of (length (a ∷ b ∷ c ∷ []) == 3) (list_all is_short_numeral (a ∷ b ∷ c ∷ [])) g in
        let x = numeral_written a (left_of _ _ all) in
        let more = right_of (is_short_numeral a) _ all in
        let y = numeral_written b (left_of _ _ more) in
        let z = numeral_written c (left_of _ _ (right_of (is_short_numeral b) _ more)) in
        record {
          major = digits_value 10 a;
          minor = digits_value 10 b;
          patch = digits_value 10 c;
          major_fits = x.0;
          minor_fits = y.0;
          patch_fits = z.0;
          spelled = sym (join_with_byte-slice_split 46 text) ∙ (ap (join_with_byte 46) e ∙ (λ i. x.1 i ++ (46 ∷ (y.1 i ++ (46 ∷ z.1 i)))));
        }

marked_some : (c : ℕ) (more : Text) → nat_lt 0 (length more) ≡ true → c ∷ more ≡ marked c more
marked_some c [] h = absurd cc
marked_some c (x ∷ xs) h = refl

record SpellsNumber (text : Text) : Type 0 where
  front : Text
  core : SpellsCore front
  pre : Text
  good : is_pre_release pre ≡ true
  spelled : text ≡ three core.major core.minor core.patch ++ marked 45 pre

number_spells : (text : Text) → is_version_number is_short_numeral text ≡ true → SpellsNumber text
number_spells text h = go (cut 45 text) refl h
  where
    go : (o : Option (Text × Text)) → cut 45 text ≡ o
        → option_map_or (λ (p : Text × Text). is_version_core is_short_numeral p.0 && is_marked_part is_pre_release p.1) o (is_version_core is_short_numeral text) ≡ true → SpellsNumber text
    go None e g = let core = core_spells text g in record { front = text; core = core; pre = []; good = refl; spelled = core.spelled ∙ sym (append-nil _) }
    go (Some p) e g =
        let core = core_spells p.0 (left_of _ _ g) in
        let given = right_of (is_version_core is_short_numeral p.0) _ g in
        record {
          front = p.0;
          core = core;
          pre = p.1;
          good = right_of (nat_lt 0 (length p.1)) _ given;
          spelled = cut-sound 45 text p e ∙ (λ i. core.spelled i ++ marked_some 45 p.1 (left_of _ _ given) i);
        }

-- the parts that a text spells as a version
pub record SpellsVersion (text : Text) : Type 0 where
  pub read : Parts
  pub spelled : parts_text read ≡ text
  pub valid : IsValid read

pub version_spells : (text : Text) → is_version_text text ≡ true → SpellsVersion text
unfolding is_version_text
version_spells text h = go (cut 43 text) refl h
  where
    with_build : (front build : Text) → SpellsNumber front → is_build build ≡ true → text ≡ front ++ marked 43 build → SpellsVersion text
    with_build front build n good is = record {
      read = (n.core.major, n.core.minor, n.core.patch, n.pre, build);
      spelled = parts_joined _ ∙ (ap (λ t. t ++ marked 43 build) (sym n.spelled) ∙ sym is);
      valid = (n.core.major_fits, n.core.minor_fits, n.core.patch_fits, n.good, good);
    }

    go : (o : Option (Text × Text)) → cut 43 text ≡ o
        → option_map_or (λ (p : Text × Text). is_version_number is_short_numeral p.0 && is_marked_part is_build p.1) o (is_version_number is_short_numeral text) ≡ true → SpellsVersion text
    go None e g = with_build text [] (number_spells text g) refl (sym (append-nil text))
    go (Some p) e g =
        let given = right_of (is_version_number is_short_numeral p.0) _ g in
        with_build p.0 p.1 (number_spells p.0 (left_of _ _ g)) (right_of (nat_lt 0 (length p.1)) _ given)
        (cut-sound 43 text p e ∙ ap (λ t. p.0 ++ t) (marked_some 43 p.1 (left_of _ _ given)))

-- ---- the parser

-- The text of a version's parts is a version.
pub parts_text_reads : (p : Parts) → IsValid p → is_version_text (parts_text p) ≡ true
unfolding is_version_text
parts_text_reads p v = parts_are_version is_short_numeral decimal_short p v

refused_too : (text : Text) → is_version_text text ≡ false → (r : Result Parts Error) → version_parts text ≡ r → false ≡ is_ok (version_parts text)
refused_too text other (Err e) f = sym (ap is_ok f)
refused_too text other (Ok p) f =
    let s = version_parts-sound text p f in
    let good : is_version_text text ≡ true = ap is_version_text (sym s.0) ∙ parts_text_reads p s.1 in
    let wrong : ⊥ = cc in
    absurd wrong

-- A text is a version exactly where the parser reads one.
pub version_text_reads : (text : Text) → is_version_text text ≡ is_ok (version_parts text)
version_text_reads text = elim (cases_Bool (is_version_text text)) [
  | inl good ↦ let s = version_spells text good in good ∙ sym (ap is_ok (ap version_parts (sym s.spelled) ∙ version_parts-complete s.read s.valid))
  | inr other ↦ other ∙ refused_too text other (version_parts text) refl
]
