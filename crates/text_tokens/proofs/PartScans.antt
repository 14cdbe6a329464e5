-- What stands between two dots of a version, byte by byte: numerals and identifiers.
use Rattle.std.proofs.Common.{◌≡◌, refl, sym, ap, ◌∙◌, ℕ, Bool, true, false, ◌&&◌, ◌==◌, not, List, [], ◌∷◌, length, arith, nat_lt}
use Rattle.std.proofs.lemmas.Bool.{lt-ltb, or_left}
use Rattle.std.proofs.lemmas.{Bool.Decides.nat_tests}
use Rattle.std.specs.{Char.is_ascii_digit, List.list_all}
use Rattle.semver.specs.Grammar.{is_identifier_byte, is_build_identifier, is_pre_identifier}
use Rattle.semver.specs.Order.{is_numeric}
use Rattle.wit_model.specs.Names.{is_numeral}
use Rattle.text_tokens.specs.declared.number.Part.{Part}
use Rattle.text_tokens.specs.declared.number.Part.TheVariants.{Empty, Zero, Zeros, Digits, Letters, Bad}
use Rattle.text_tokens.specs.Numbers.{after_zero, after_digit, after_letter, part_step, numeral_is_ok, pre_is_ok, build_is_ok}
use Rattle.base_lemmas.proofs.{Bools.and-true, Bools.no-and}
use Rattle.text_tokens.proofs.Runs.{run}

-- ---- the classes of bytes

zero_digit : (c : ℕ) → (c == 48) ≡ true → is_ascii_digit c ≡ true
zero_digit c h = grind (arith, nat_tests)

-- a zero, another digit, a letter or a dash, or another byte
pub data Class (c : ℕ) : Type 0 where
  is_zero : (c == 48) ≡ true → is_ascii_digit c ≡ true → is_identifier_byte c ≡ true → Class c
  is_digit : (c == 48) ≡ false → is_ascii_digit c ≡ true → is_identifier_byte c ≡ true → Class c
  is_letter : (c == 48) ≡ false → is_ascii_digit c ≡ false → is_identifier_byte c ≡ true → Class c
  is_other : (c == 48) ≡ false → is_ascii_digit c ≡ false → is_identifier_byte c ≡ false → Class c

pub class_of : (c : ℕ) → Class c
class_of c = go (c == 48) (is_ascii_digit c) (is_identifier_byte c) refl refl refl
  where
    go : (z d i : Bool) → (c == 48) ≡ z → is_ascii_digit c ≡ d → is_identifier_byte c ≡ i → Class c
    go true d i e f g = is_zero e (zero_digit c e) (or_left _ _ (or_left _ _ (or_left _ _ (zero_digit c e))))
    go false true i e f g = is_digit e f (or_left _ _ (or_left _ _ (or_left _ _ f)))
    go false false true e f g = is_letter e f g
    go false false false e f g = is_other e f g

pub step-zero : (q : Part) (c : ℕ) → (c == 48) ≡ true → part_step q c ≡ after_zero q
step-zero q c e = rw e refl

pub step-digit : (q : Part) (c : ℕ) → (c == 48) ≡ false → is_ascii_digit c ≡ true → part_step q c ≡ after_digit q
step-digit q c e f = rw (e, f) refl

pub step-letter : (q : Part) (c : ℕ) → (c == 48) ≡ false → is_ascii_digit c ≡ false → is_identifier_byte c ≡ true → part_step q c ≡ after_letter q
step-letter q c e f g = rw (e, g, f) refl

pub step-other : (q : Part) (c : ℕ) → (c == 48) ≡ false → is_ascii_digit c ≡ false → is_identifier_byte c ≡ false → part_step q c ≡ Bad
step-other q c e f g = rw (e, g, f) refl

-- a test that each step keeps holds to the end
pub kept : (test : Part → Bool) → ((q : Part) → test q ≡ true → test (after_zero q) ≡ true) → ((q : Part) → test q ≡ true → test (after_digit q) ≡ true)
    → ((q : Part) → test q ≡ true → test (after_letter q) ≡ true) → test Bad ≡ true → (q : Part) (c : ℕ) → test q ≡ true → test (part_step q c) ≡ true
kept test zero digit letter other q c h = go (class_of c)
  where
    go : Class c → test (part_step q c) ≡ true
    go (is_zero e f g) = ap test (step-zero q c e) ∙ zero q h
    go (is_digit e f g) = ap test (step-digit q c e f) ∙ digit q h
    go (is_letter e f g) = ap test (step-letter q c e f g) ∙ letter q h
    go (is_other e f g) = ap test (step-other q c e f g) ∙ other

pub bad_stays : (c : ℕ) → part_step Bad c ≡ Bad
bad_stays c = go (class_of c)
  where
    go : Class c → part_step Bad c ≡ Bad
    go (is_zero e f g) = step-zero Bad c e
    go (is_digit e f g) = step-digit Bad c e f
    go (is_letter e f g) = step-letter Bad c e f g
    go (is_other e f g) = step-other Bad c e f g

pub bad-run : (cs : List ℕ) → run part_step Bad cs ≡ Bad
bad-run [] = refl
bad-run (c ∷ cs) = rw (bad_stays c) (bad-run cs)

pub some : (c : ℕ) (cs : List ℕ) → nat_lt 0 (length (c ∷ cs)) ≡ true
some c cs = lt-ltb 0 (length (c ∷ cs)) (omega arith)

-- ---- identifiers of build metadata

-- identifier bytes so far
abbrev goes_on : (Part → Bool) → List ℕ → Part → Type 0
goes_on ok cs q = ok (run part_step q cs) ≡ list_all is_identifier_byte cs

bad_ends : (ok : Part → Bool) (cs : List ℕ) → ok Bad ≡ false → ok (run part_step Bad cs) ≡ false
bad_ends ok cs e = ap ok (bad-run cs) ∙ e

build-run : (cs : List ℕ) (q : Part) → build_is_ok q ≡ true → goes_on build_is_ok cs q
build-run [] q h = h
build-run (c ∷ cs) q h = go (class_of c) (build-run cs)
  where
    after-zero : (p : Part) → build_is_ok p ≡ true → build_is_ok (after_zero p) ≡ true
    after-zero Empty e = absurd (cc e)
    after-zero Zero e = refl
    after-zero Zeros e = refl
    after-zero Digits e = refl
    after-zero Letters e = refl
    after-zero Bad e = absurd (cc e)

    after-digit : (p : Part) → build_is_ok p ≡ true → build_is_ok (after_digit p) ≡ true
    after-digit Empty e = absurd (cc e)
    after-digit Zero e = refl
    after-digit Zeros e = refl
    after-digit Digits e = refl
    after-digit Letters e = refl
    after-digit Bad e = absurd (cc e)

    after-letter : (p : Part) → build_is_ok p ≡ true → build_is_ok (after_letter p) ≡ true
    after-letter Empty e = absurd (cc e)
    after-letter Zero e = refl
    after-letter Zeros e = refl
    after-letter Digits e = refl
    after-letter Letters e = refl
    after-letter Bad e = absurd (cc e)

    go : Class c → ((p : Part) → build_is_ok p ≡ true → build_is_ok (run part_step p cs) ≡ list_all is_identifier_byte cs)
        → build_is_ok (run part_step (part_step q c) cs) ≡ (is_identifier_byte c && list_all is_identifier_byte cs)
    go (is_zero e f g) k = rw (step-zero q c e, g) (k (after_zero q) (after-zero q h))
    go (is_digit e f g) k = rw (step-digit q c e f, g) (k (after_digit q) (after-digit q h))
    go (is_letter e f g) k = rw (step-letter q c e f g, g) (k (after_letter q) (after-letter q h))
    go (is_other e f g) k = rw (step-other q c e f g, g) (bad_ends build_is_ok cs refl)

pub build_part : (text : List ℕ) → is_build_identifier text ≡ build_is_ok (run part_step Empty text)
build_part [] = refl
build_part (c ∷ cs) = rw (some c cs) (go (class_of c))
  where
    go : Class c → (is_identifier_byte c && list_all is_identifier_byte cs) ≡ build_is_ok (run part_step (part_step Empty c) cs)
    go (is_zero e f g) = rw (step-zero Empty c e, g) (sym (build-run cs Zero refl))
    go (is_digit e f g) = rw (step-digit Empty c e f, g) (sym (build-run cs Digits refl))
    go (is_letter e f g) = rw (step-letter Empty c e f g, g) (sym (build-run cs Letters refl))
    go (is_other e f g) = rw (step-other Empty c e f g, g) (sym (bad_ends build_is_ok cs refl))

-- ---- numerals

-- what no numeral begins with
abbrev pub no_numeral : Part → Bool
no_numeral Empty = false
no_numeral Zero = false
no_numeral Zeros = true
no_numeral Digits = false
no_numeral Letters = true
no_numeral Bad = true

pub no_numeral_stays : (q : Part) (c : ℕ) → no_numeral q ≡ true → no_numeral (part_step q c) ≡ true
no_numeral_stays q c h = kept no_numeral after-zero after-digit after-letter refl q c h
  where
    after-zero : (p : Part) → no_numeral p ≡ true → no_numeral (after_zero p) ≡ true
    after-zero Empty e = absurd (cc e)
    after-zero Zero e = absurd (cc e)
    after-zero Zeros e = refl
    after-zero Digits e = absurd (cc e)
    after-zero Letters e = refl
    after-zero Bad e = refl

    after-digit : (p : Part) → no_numeral p ≡ true → no_numeral (after_digit p) ≡ true
    after-digit Empty e = absurd (cc e)
    after-digit Zero e = absurd (cc e)
    after-digit Zeros e = refl
    after-digit Digits e = absurd (cc e)
    after-digit Letters e = refl
    after-digit Bad e = refl

    after-letter : (p : Part) → no_numeral p ≡ true → no_numeral (after_letter p) ≡ true
    after-letter Empty e = absurd (cc e)
    after-letter Zero e = absurd (cc e)
    after-letter Zeros e = refl
    after-letter Digits e = absurd (cc e)
    after-letter Letters e = refl
    after-letter Bad e = refl

pub no_numeral_ok : (q : Part) → no_numeral q ≡ true → numeral_is_ok q ≡ false
no_numeral_ok Empty e = refl
no_numeral_ok Zero e = absurd (cc e)
no_numeral_ok Zeros e = refl
no_numeral_ok Digits e = absurd (cc e)
no_numeral_ok Letters e = refl
no_numeral_ok Bad e = refl

no_numeral-run : (cs : List ℕ) (q : Part) → no_numeral q ≡ true → numeral_is_ok (run part_step q cs) ≡ false
no_numeral-run [] q h = no_numeral_ok q h
no_numeral-run (c ∷ cs) q h = no_numeral-run cs (part_step q c) (no_numeral_stays q c h)

digits-run : (cs : List ℕ) → numeral_is_ok (run part_step Digits cs) ≡ is_numeric cs
digits-run [] = refl
digits-run (c ∷ cs) = go (class_of c) (digits-run cs)
  where
    go : Class c → numeral_is_ok (run part_step Digits cs) ≡ is_numeric cs → numeral_is_ok (run part_step (part_step Digits c) cs) ≡ (is_ascii_digit c && is_numeric cs)
    go (is_zero e f g) k = rw (step-zero Digits c e, f) k
    go (is_digit e f g) k = rw (step-digit Digits c e f, f) k
    go (is_letter e f g) k = rw (step-letter Digits c e f g, f) (no_numeral-run cs Letters refl)
    go (is_other e f g) k = rw (step-other Digits c e f g, f) (no_numeral-run cs Bad refl)

after_one_zero : (c : ℕ) → no_numeral (part_step Zero c) ≡ true
after_one_zero c = go (class_of c)
  where
    go : Class c → no_numeral (part_step Zero c) ≡ true
    go (is_zero e f g) = ap no_numeral (step-zero Zero c e)
    go (is_digit e f g) = ap no_numeral (step-digit Zero c e f)
    go (is_letter e f g) = ap no_numeral (step-letter Zero c e f g)
    go (is_other e f g) = ap no_numeral (step-other Zero c e f g)

zero-numeral : (cs : List ℕ) → (is_numeric cs && not (nat_lt 0 (length cs))) ≡ numeral_is_ok (run part_step Zero cs)
zero-numeral [] = refl
zero-numeral (c ∷ cs) = rw (some c cs) (no-and (is_numeric (c ∷ cs)) ∙ sym (no_numeral-run cs (part_step Zero c) (after_one_zero c)))

pub numeral_part : (text : List ℕ) → is_numeral text ≡ numeral_is_ok (run part_step Empty text)
numeral_part [] = refl
numeral_part (c ∷ cs) = rw (some c cs) (go (class_of c))
  where
    go : Class c → ((is_ascii_digit c && is_numeric cs) && not ((c == 48) && nat_lt 0 (length cs))) ≡ numeral_is_ok (run part_step (part_step Empty c) cs)
    go (is_zero e f g) = rw (step-zero Empty c e, e, f) (zero-numeral cs)
    go (is_digit e f g) = rw (step-digit Empty c e f, e, f) (and-true (is_numeric cs) ∙ sym (digits-run cs))
    go (is_letter e f g) = rw (step-letter Empty c e f g, f) (sym (no_numeral-run cs Letters refl))
    go (is_other e f g) = rw (step-other Empty c e f g, f) (sym (no_numeral-run cs Bad refl))

-- ---- identifiers of a pre-release

letters-run : (cs : List ℕ) → goes_on pre_is_ok cs Letters
letters-run [] = refl
letters-run (c ∷ cs) = go (class_of c) (letters-run cs)
  where
    go : Class c → pre_is_ok (run part_step Letters cs) ≡ list_all is_identifier_byte cs → pre_is_ok (run part_step (part_step Letters c) cs) ≡ (is_identifier_byte c && list_all is_identifier_byte cs)
    go (is_zero e f g) k = rw (step-zero Letters c e, g) k
    go (is_digit e f g) k = rw (step-digit Letters c e f, g) k
    go (is_letter e f g) k = rw (step-letter Letters c e f g, g) k
    go (is_other e f g) k = rw (step-other Letters c e f g, g) (bad_ends pre_is_ok cs refl)

number-run : (cs : List ℕ) → goes_on pre_is_ok cs Digits
number-run [] = refl
number-run (c ∷ cs) = go (class_of c) (number-run cs)
  where
    go : Class c → pre_is_ok (run part_step Digits cs) ≡ list_all is_identifier_byte cs → pre_is_ok (run part_step (part_step Digits c) cs) ≡ (is_identifier_byte c && list_all is_identifier_byte cs)
    go (is_zero e f g) k = rw (step-zero Digits c e, g) k
    go (is_digit e f g) k = rw (step-digit Digits c e f, g) k
    go (is_letter e f g) k = rw (step-letter Digits c e f g, g) (letters-run cs)
    go (is_other e f g) k = rw (step-other Digits c e f g, g) (bad_ends pre_is_ok cs refl)

-- identifier bytes, and not all of them digits
abbrev not_digits : List ℕ → Bool
not_digits cs = list_all is_identifier_byte cs && not (is_numeric cs)

zeros-run : (cs : List ℕ) → not_digits cs ≡ pre_is_ok (run part_step Zeros cs)
zeros-run [] = refl
zeros-run (c ∷ cs) = go (class_of c) (zeros-run cs)
  where
    go : Class c → not_digits cs ≡ pre_is_ok (run part_step Zeros cs)
        → ((is_identifier_byte c && list_all is_identifier_byte cs) && not (is_ascii_digit c && is_numeric cs)) ≡ pre_is_ok (run part_step (part_step Zeros c) cs)
    go (is_zero e f g) k = rw (step-zero Zeros c e, g, f) k
    go (is_digit e f g) k = rw (step-digit Zeros c e f, g, f) k
    go (is_letter e f g) k = rw (step-letter Zeros c e f g, g, f) (and-true (list_all is_identifier_byte cs) ∙ sym (letters-run cs))
    go (is_other e f g) k = rw (step-other Zeros c e f g, g) (sym (bad_ends pre_is_ok cs refl))

-- a zero, and what follows it
zero-pre : (cs : List ℕ) → (list_all is_identifier_byte cs && not (is_numeric cs && nat_lt 0 (length cs))) ≡ pre_is_ok (run part_step Zero cs)
zero-pre [] = refl
zero-pre (c ∷ cs) = rw (some c cs, and-true (is_numeric (c ∷ cs))) (go (class_of c))
  where
    go : Class c → ((is_identifier_byte c && list_all is_identifier_byte cs) && not (is_ascii_digit c && is_numeric cs)) ≡ pre_is_ok (run part_step (part_step Zero c) cs)
    go (is_zero e f g) = rw (step-zero Zero c e, g, f) (zeros-run cs)
    go (is_digit e f g) = rw (step-digit Zero c e f, g, f) (zeros-run cs)
    go (is_letter e f g) = rw (step-letter Zero c e f g, g, f) (and-true (list_all is_identifier_byte cs) ∙ sym (letters-run cs))
    go (is_other e f g) = rw (step-other Zero c e f g, g) (sym (bad_ends pre_is_ok cs refl))

pub pre_part : (text : List ℕ) → is_pre_identifier text ≡ pre_is_ok (run part_step Empty text)
pre_part [] = refl
pre_part (c ∷ cs) = rw (some c cs) (go (class_of c))
  where
    go : Class c → ((is_identifier_byte c && list_all is_identifier_byte cs) && not ((is_ascii_digit c && is_numeric cs) && ((c == 48) && nat_lt 0 (length cs))))
        ≡ pre_is_ok (run part_step (part_step Empty c) cs)
    go (is_zero e f g) = rw (step-zero Empty c e, e, g, f) (zero-pre cs)
    go (is_digit e f g) = rw (step-digit Empty c e f, e, g, f, no-and (is_numeric cs)) (and-true (list_all is_identifier_byte cs) ∙ sym (number-run cs))
    go (is_letter e f g) = rw (step-letter Empty c e f g, g, f) (and-true (list_all is_identifier_byte cs) ∙ sym (letters-run cs))
    go (is_other e f g) = rw (step-other Empty c e f g, g) (sym (bad_ends pre_is_ok cs refl))
