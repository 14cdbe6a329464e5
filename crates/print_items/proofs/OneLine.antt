-- Labels and versions have no line end in them, and begin with no space.
use Rattle.std.proofs.Common.{rules as std_rules, ◌≡◌, refl, subst, ℕ, Bool, true, false, IsTrue, ◌&&◌, not, ◌==◌, List, [], ◌∷◌, ◌++◌, if◌then◌else◌, arith, zero, suc, ◌/◌, ◌%◌}
use Rattle.std.proofs.lemmas.{Bool.Decides.nat_tests, List.Splits.join_with_byte-slice_split, Bool.and_from as both_true, Bool.or_cases as either_true}
use Rattle.std.specs.{List.list_all, List.slice_split, List.join_with_byte, Fmt.decimal, Fmt.digits, Fmt.digits_onto, Fmt.digit_glyph}
use Rattle.semver.specs.{Identifiers.marked, Identifiers.parts_text, Parse.Parts, Order.parts}
use Rattle.semver.specs.Grammar.{is_identifier_byte, is_build_identifier, is_pre_identifier, is_pre_release, is_build, IsValid as IsValidVersion}
use Rattle.wit_model.proofs.VersionTexts.{version_spells}
use Rattle.wit_model.specs.{Text.Text, Names.is_fragment, Names.begins_with_letter, Names.is_label, Names.is_version_text}
use Rattle.print_grammar.specs.Keyword.{escaped, is_keyword}
use Rattle.print_output.specs.OutputCall.{is_one_line, has_no_space_first, may_begin}
use Rattle.print_items.proofs.Driven.{spelled_made, call_passed}
use Rattle.base_lemmas.proofs.Bools.{left_of as first_true, right_of as second_true}

-- what passes a test that n fails is not n
other_than : (n : ℕ) (p : ℕ → Bool) → p n ≡ false → (b : ℕ) → p b ≡ true → not (b == n) ≡ true
other_than n p e b h = search std_rules

one_line_of : (p : ℕ → Bool) → p 10 ≡ false → (xs : Text) → list_all p xs ≡ true → is_one_line xs ≡ true
one_line_of p e [] h = refl
one_line_of p e (b ∷ bs) h = both_true _ _ (other_than 10 p e b (first_true _ _ h)) (one_line_of p e bs (second_true _ _ h))

one_line_append : (xs ys : Text) → is_one_line xs ≡ true → is_one_line ys ≡ true → is_one_line (xs ++ ys) ≡ true
one_line_append [] ys h k = k
one_line_append (b ∷ bs) ys h k = both_true _ _ (first_true _ _ h) (one_line_append bs ys (second_true _ _ h) k)

-- ---- labels

fragment_one_line : (xs : Text) → is_fragment xs ≡ true → is_one_line xs ≡ true
fragment_one_line xs h = search (std_rules, either_true, second_true, one_line_of)

joined_one_line : (fs : List Text) → list_all is_fragment fs ≡ true → is_one_line (join_with_byte 45 fs) ≡ true
joined_one_line [] h = refl
joined_one_line (f ∷ []) h = fragment_one_line f (first_true _ _ h)
joined_one_line (f ∷ g ∷ gs) h = one_line_append f _ (fragment_one_line f (first_true _ _ h)) (joined_one_line (g ∷ gs) (second_true _ _ h))

label_one_line : (text : Text) → is_label text ≡ true → is_one_line text ≡ true
label_one_line text h = subst (λ t. is_one_line t ≡ true) (join_with_byte-slice_split 45 text) (joined_one_line (slice_split (λ b. b == 45) text) (second_true _ _ h))

letter_front : (text : Text) → begins_with_letter text ≡ true → has_no_space_first text ≡ true
letter_front x h = search std_rules

escaped_by : (b : Bool) (text : Text) → is_one_line text ≡ true → is_one_line (if b then 37 ∷ text else text) ≡ true
escaped_by x text h = search std_rules

front_by : (b : Bool) (text : Text) → has_no_space_first text ≡ true → has_no_space_first (if b then 37 ∷ text else text) ≡ true
front_by x text h = search std_rules

pub escaped_one_line : (text : Text) → is_label text ≡ true → IsTrue (is_one_line (escaped text))
escaped_one_line text h = escaped_by (is_keyword text) text (label_one_line text h)

pub escaped_may_begin : (begun : Bool) (text : Text) → is_label text ≡ true → IsTrue (may_begin begun (escaped text))
escaped_may_begin x text h = search (std_rules, front_by, letter_front, first_true)

pub ruleset labels = (escaped_one_line, escaped_may_begin, spelled_made, call_passed)

-- ---- versions

glyph_one_line : (n : ℕ) → not (digit_glyph false n == 10) ≡ true
glyph_one_line n = grind (arith, nat_tests)

digits_onto_one_line : (k n : ℕ) (text : Text) → is_one_line text ≡ true → is_one_line (digits_onto k 10 false n text) ≡ true
digits_onto_one_line zero n text h = h
digits_onto_one_line (suc k) n text h =
    let more = both_true _ _ (glyph_one_line (n % 10)) h in
    elim (n / 10 == 0) as (λ last. is_one_line (if last then digit_glyph false (n % 10) ∷ text else digits_onto k 10 false (n / 10) (digit_glyph false (n % 10) ∷ text)) ≡ true) [
      | true ↦ more
      | false ↦ digits_onto_one_line k (n / 10) (digit_glyph false (n % 10) ∷ text) more
    ]

decimal_one_line : (n : ℕ) → is_one_line (decimal n) ≡ true
unfolding digits
decimal_one_line n = digits_onto_one_line 64 n [] refl

-- a length behind a comma
pub length_one_line : (n : ℕ) → IsTrue (is_one_line (44 ∷ 32 ∷ decimal n))
length_one_line n = decimal_one_line n

pub ruleset lengths = (length_one_line, spelled_made, call_passed)

-- parts between points, each of identifier bytes
parts_one_line : (test : Text → Bool) → ((part : Text) → test part ≡ true → list_all is_identifier_byte part ≡ true) → (ps : List Text) → list_all test ps ≡ true
    → is_one_line (join_with_byte 46 ps) ≡ true
parts_one_line test bytes [] h = refl
parts_one_line test bytes (p ∷ []) h = one_line_of is_identifier_byte refl p (bytes p (first_true _ _ h))
parts_one_line test bytes (p ∷ q ∷ qs) h = one_line_append p _ (one_line_of is_identifier_byte refl p (bytes p (first_true _ _ h))) (parts_one_line test bytes (q ∷ qs) (second_true _ _ h))

points_one_line : (test : Text → Bool) → ((part : Text) → test part ≡ true → list_all is_identifier_byte part ≡ true) → (text : Text) → list_all test (parts text) ≡ true → is_one_line text ≡ true
points_one_line test bytes text h = subst (λ t. is_one_line t ≡ true) (join_with_byte-slice_split 46 text) (parts_one_line test bytes (parts text) h)

build_bytes : (part : Text) → is_build_identifier part ≡ true → list_all is_identifier_byte part ≡ true
build_bytes part h = second_true _ _ h

pre_bytes : (part : Text) → is_pre_identifier part ≡ true → list_all is_identifier_byte part ≡ true
pre_bytes part h = build_bytes part (first_true _ _ h)

marked_pre : (text : Text) → is_pre_release text ≡ true → is_one_line (marked 45 text) ≡ true
marked_pre [] h = refl
marked_pre (b ∷ bs) h = points_one_line is_pre_identifier pre_bytes (b ∷ bs) h

marked_build : (text : Text) → is_build text ≡ true → is_one_line (marked 43 text) ≡ true
marked_build [] h = refl
marked_build (b ∷ bs) h = points_one_line is_build_identifier build_bytes (b ∷ bs) h

-- the text of the parts of a version
parts_text_one_line : (p : Parts) → IsValidVersion p → is_one_line (parts_text p) ≡ true
parts_text_one_line p h = search (std_rules, one_line_append, decimal_one_line, marked_pre, marked_build)

version_one_line : (text : Text) → is_version_text text ≡ true → is_one_line text ≡ true
version_one_line text h = let s = version_spells text h in subst (λ t. is_one_line t ≡ true) s.spelled (parts_text_one_line s.read s.valid)

marked_may_begin : (begun : Bool) (text : Text) → may_begin begun (64 ∷ text) ≡ true
marked_may_begin x text = search std_rules

-- a version after `@` may stand anywhere
pub version_may_stand : (begun : Bool) (version text : Text) → text ≡ 64 ∷ version → is_version_text version ≡ true → IsTrue (is_one_line text && may_begin begun text)
version_may_stand begun version text e h = search (std_rules, both_true, version_one_line, marked_may_begin)

-- and behind other text without it
pub plain_version_may_stand : (begun : Bool) (version text : Text) → text ≡ version → begun ≡ false → is_version_text version ≡ true → IsTrue (is_one_line text && may_begin begun text)
plain_version_may_stand begun version text e b h = search (std_rules, both_true, version_one_line)
