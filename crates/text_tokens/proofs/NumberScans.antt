-- A scan of digits and versions is what the grammar says of them.
use Rattle.std.proofs.Common.{◌≡◌, refl, sym, ap, ◌∙◌, ℕ, ◌+◌, ◌≤◌, ◌<◌, Bool, true, false, ◌&&◌, ◌||◌, ◌==◌, if◌then◌else◌, List, [], ◌∷◌, ◌++◌, length, append-nil, arith, nat_lt, lit<}
use Rattle.std.proofs.lemmas.Bool.{lt-ltb}
use Rattle.std.proofs.lemmas.{Bool.Decides.nat_tests}
use Rattle.std.specs.{Char.is_ascii_digit, List.list_all}
use Rattle.semver.specs.Grammar.{is_build, is_pre_release, is_build_identifier, is_pre_identifier}
use Rattle.semver.specs.Order.{is_numeric, parts}
use Rattle.wit_model.specs.Names.{cut, is_marked_part, is_numeral, is_version_core, is_version_number, is_version_of}
use Rattle.text_tokens.specs.declared.number.Part.{Part}
use Rattle.text_tokens.specs.declared.number.Part.TheVariants.{Empty, Zero, Zeros, Digits, Letters, Bad}
use Rattle.text_tokens.specs.declared.number.Core.{Core}
use Rattle.text_tokens.specs.declared.number.Release.{Release}
use Rattle.text_tokens.specs.declared.number.Release.TheVariants.{InCore, InPre, Neither}
use Rattle.text_tokens.specs.declared.number.Number.{Number}
use Rattle.text_tokens.specs.declared.number.Number.TheVariants.{InRelease, InBuild, Nowhere}
use Rattle.text_tokens.specs.Numbers.{after_zero, after_digit, after_letter, part_step, digits_are_ok, numeral_is_ok, pre_is_ok, build_is_ok, core_step, core_is_ok, core_is_digits, release_step, release_is_ok, number_start, number_step, number_is_ok}
use Rattle.base_lemmas.proofs.{Bools.or_true, Bools.and-true, Bools.no-and}
use Rattle.text_tokens.proofs.Runs.{run, run-append, onto, onto_nil, split-yes, split-no, parts-run, cut-run, cut-front}
use Rattle.text_tokens.proofs.PartScans.{Class, Class.is_zero, Class.is_digit, Class.is_letter, Class.is_other, class_of, step-zero, step-digit, step-letter, step-other, some, bad_stays, kept, build_part, pre_part, numeral_part}

-- the part after a text
abbrev part_of : List ℕ → Part
part_of p = run part_step Empty p

-- ---- build metadata and pre-releases

nowhere-run : (cs : List ℕ) → run number_step Nowhere cs ≡ Nowhere
nowhere-run [] = refl
nowhere-run (c ∷ cs) = nowhere-run cs

neither-run : (cs : List ℕ) → run release_step Neither cs ≡ Neither
neither-run [] = refl
neither-run (c ∷ cs) = neither-run cs

-- a version: digits alone are none
abbrev version_is_ok : Number → Bool
version_is_ok (InRelease r) = release_is_ok r
version_is_ok (InBuild part) = build_is_ok part
version_is_ok Nowhere = false

in_build : (p : List ℕ) (c : ℕ) → (c == 46) ≡ false → number_step (InBuild (part_of p)) c ≡ InBuild (part_of (p ++ c ∷ []))
in_build p c e = rw (e, run-append part_step Empty p c) refl

build_dot : (p : List ℕ) (c : ℕ) → (c == 46) ≡ true → number_step (InBuild (part_of p)) c ≡ (if is_build_identifier p then InBuild Empty else Nowhere)
build_dot p c e = rw (e, build_part p) refl

marked_build : (cs : List ℕ) → is_marked_part is_build cs ≡ list_all is_build_identifier (onto [] (parts cs))
marked_build [] = refl
marked_build (c ∷ cs) = rw (some c cs, onto_nil 46 (c ∷ cs)) refl

build-run : (cs : List ℕ) → version_is_ok (run number_step (InBuild Empty) cs) ≡ is_marked_part is_build cs
build-run cs = sym (marked_build cs ∙ parts-run number_step version_is_ok 46 is_build_identifier (λ p. InBuild (part_of p)) Nowhere build_part in_build build_dot
    (λ xs. ap version_is_ok (nowhere-run xs)) [] cs)

in_pre : (p : List ℕ) (c : ℕ) → (c == 46) ≡ false → release_step (InPre (part_of p)) c ≡ InPre (part_of (p ++ c ∷ []))
in_pre p c e = rw (e, run-append part_step Empty p c) refl

pre_dot : (p : List ℕ) (c : ℕ) → (c == 46) ≡ true → release_step (InPre (part_of p)) c ≡ (if is_pre_identifier p then InPre Empty else Neither)
pre_dot p c e = rw (e, pre_part p) refl

marked_pre : (cs : List ℕ) → is_marked_part is_pre_release cs ≡ list_all is_pre_identifier (onto [] (parts cs))
marked_pre [] = refl
marked_pre (c ∷ cs) = rw (some c cs, onto_nil 46 (c ∷ cs)) refl

pre-run : (cs : List ℕ) → release_is_ok (run release_step (InPre Empty) cs) ≡ is_marked_part is_pre_release cs
pre-run cs = sym (marked_pre cs ∙ parts-run release_step release_is_ok 46 is_pre_identifier (λ p. InPre (part_of p)) Neither pre_part in_pre pre_dot (λ xs. ap release_is_ok (neither-run xs)) [] cs)

-- ---- the numbers

abbrev core : ℕ → Part → Core
core d q = record { dots = d; part = q }

pub no_dot : (k : Core) (c : ℕ) → (c == 46) ≡ false → core_step k c ≡ core k.dots (part_step k.part c)
no_dot k c e = rw e refl

core_bad_stays : (d c : ℕ) → core_step (core d Bad) c ≡ core d Bad
core_bad_stays d c = go (c == 46) refl
  where
    go : (b : Bool) → (c == 46) ≡ b → core_step (core d Bad) c ≡ core d Bad
    go true e = rw e refl
    go false e = rw (e, bad_stays c) refl

core_bad-run : (d : ℕ) (cs : List ℕ) → core_is_ok (run core_step (core d Bad) cs) ≡ false
core_bad-run d [] = no-and (d == 2)
core_bad-run d (c ∷ cs) = ap (λ s. core_is_ok (run core_step s cs)) (core_bad_stays d c) ∙ core_bad-run d cs

in_core : (d : ℕ) (p : List ℕ) (c : ℕ) → (c == 46) ≡ false → core_step (core d (part_of p)) c ≡ core d (part_of (p ++ c ∷ []))
in_core d p c e = rw (e, run-append part_step Empty p c) refl

-- so many parts more make three
abbrev three : ℕ → List (List ℕ) → Bool
three d ps = (d + length ps) == 3

one_more : (d : ℕ) (p : List ℕ) → three d (p ∷ []) ≡ (d == 2)
one_more d p = grind (arith, nat_tests)

three_after : (d : ℕ) (p : List ℕ) (ps : List (List ℕ)) → three d (p ∷ ps) ≡ three (d + 1) ps
three_after d p ps = ap (λ n. n == 3) (omega arith)

too_many : (d : ℕ) (p : List ℕ) (ps : List (List ℕ)) → 2 ≤ d → 0 < length ps → three d (p ∷ ps) ≡ false
too_many d p ps h k = grind (arith, nat_tests)

some_parts : (p : List ℕ) (ps : List (List ℕ)) → 0 < length (onto p ps)
some_parts p [] = omega arith
some_parts p (part ∷ ps) = omega arith

-- The parts so far and those to come are three numerals.
abbrev Says : ℕ → List ℕ → List ℕ → Type 0
Says d p cs = (three d (onto p (parts cs)) && list_all is_numeral (onto p (parts cs))) ≡ core_is_ok (run core_step (core d (part_of p)) cs)

core-run : (cs : List ℕ) (d : ℕ) (p : List ℕ) → d ≤ 2 → Says d p cs
core-run [] d p h = rw (append-nil p, one_more d p, numeral_part p, and-true (numeral_is_ok (part_of p))) refl
core-run (c ∷ cs) d p h = go (c == 46) refl (core-run cs d (p ++ c ∷ []) h) (core-run cs (d + 1) [])
  where
    dotted : (f : Bool) → is_numeral p ≡ f → (r : Bool) → nat_lt d 2 ≡ r → (d + 1 ≤ 2 → Says (d + 1) [] cs)
        → (three d (p ∷ onto [] (parts cs)) && (f && list_all is_numeral (onto [] (parts cs))))
        ≡ core_is_ok (run core_step (if f && r then core (d + 1) Empty else core d Bad) cs)
    dotted true e true r k = ap (λ b. b && list_all is_numeral (onto [] (parts cs))) (three_after d p (onto [] (parts cs))) ∙ k (grind (arith, nat_tests))
    dotted true e false r k =
        ap (λ b. b && list_all is_numeral (onto [] (parts cs))) (too_many d p (onto [] (parts cs)) (grind (arith, nat_tests)) (some_parts [] (parts cs)))
        ∙ sym (core_bad-run d cs)
    dotted false e r s k = no-and (three d (p ∷ onto [] (parts cs))) ∙ sym (core_bad-run d cs)

    step_dot : (c == 46) ≡ true → core_step (core d (part_of p)) c ≡ (if is_numeral p && nat_lt d 2 then core (d + 1) Empty else core d Bad)
    step_dot e = rw (e, numeral_part p) refl

    go : (b : Bool) → (c == 46) ≡ b → Says d (p ++ c ∷ []) cs → (d + 1 ≤ 2 → Says (d + 1) [] cs) → Says d p (c ∷ cs)
    go true e k j =
        ap (λ ps. three d ps && list_all is_numeral ps) (split-yes 46 p c cs e)
        ∙ (dotted (is_numeral p) refl (nat_lt d 2) refl j ∙ ap (λ s. core_is_ok (run core_step s cs)) (sym (step_dot e)))
    go false e k j =
        ap (λ ps. three d ps && list_all is_numeral ps) (split-no 46 p c cs e)
        ∙ (k ∙ ap (λ s. core_is_ok (run core_step s cs)) (sym (in_core d p c e)))

abbrev core_start : Core
core_start = core 0 Empty

core_scan : (text : List ℕ) → is_version_core is_numeral text ≡ core_is_ok (run core_step core_start text)
core_scan text =
    ap (λ ps. (length ps == 3) && list_all is_numeral ps) (sym (onto_nil 46 text))
    ∙ (ap (λ n. (n == 3) && list_all is_numeral (onto [] (parts text))) (omega arith) ∙ core-run text 0 [] (omega arith))

-- ---- versions

dash : (k : Core) (c : ℕ) → (c == 45) ≡ true → release_step (InCore k) c ≡ (if core_is_ok k then InPre Empty else Neither)
dash k c e = rw e refl

no_dash : (k : Core) (c : ℕ) → (c == 45) ≡ false → release_step (InCore k) c ≡ InCore (core_step k c)
no_dash k c e = rw e refl

number_scan : (text : List ℕ) → is_version_number is_numeral text ≡ release_is_ok (run release_step (InCore core_start) text)
number_scan text =
    cut-front (is_version_core is_numeral) (λ t. core_is_ok (run core_step core_start t)) (is_marked_part is_pre_release) text core_scan (cut 45 text)
    ∙ cut-run release_step release_is_ok core_step core_is_ok InCore (InPre Empty) Neither 45 (is_marked_part is_pre_release)
    (λ k. refl) no_dash dash pre-run (λ cs. ap release_is_ok (neither-run cs)) core_start text

plus : (r : Release) (c : ℕ) → (c == 43) ≡ true → number_step (InRelease r) c ≡ (if release_is_ok r then InBuild Empty else Nowhere)
plus r c e = rw e refl

no_plus : (r : Release) (c : ℕ) → (c == 43) ≡ false → number_step (InRelease r) c ≡ InRelease (release_step r c)
no_plus r c e = rw e refl

version_scan : (text : List ℕ) → is_version_of is_numeral text ≡ version_is_ok (run number_step number_start text)
version_scan text =
    cut-front (is_version_number is_numeral) (λ t. release_is_ok (run release_step (InCore core_start) t)) (is_marked_part is_build) text number_scan (cut 43 text)
    ∙ cut-run number_step version_is_ok release_step release_is_ok InRelease (InBuild Empty) Nowhere 43 (is_marked_part is_build)
    (λ r. refl) no_plus plus build-run (λ cs. ap version_is_ok (nowhere-run cs)) (InCore core_start) text

-- ---- digits

-- digits alone
abbrev number_is_digits : Number → Bool
number_is_digits (InRelease (InCore k)) = core_is_digits k
number_is_digits (InRelease (InPre part)) = false
number_is_digits (InRelease Neither) = false
number_is_digits (InBuild part) = false
number_is_digits Nowhere = false

-- neither digits nor nothing
abbrev pub no_digits : Part → Bool
no_digits Empty = false
no_digits Zero = false
no_digits Zeros = false
no_digits Digits = false
no_digits Letters = true
no_digits Bad = true

-- no more bytes make digits of it
abbrev never_digits : Number → Bool
never_digits (InRelease (InCore k)) = nat_lt 0 k.dots || no_digits k.part
never_digits (InRelease (InPre part)) = true
never_digits (InRelease Neither) = true
never_digits (InBuild part) = true
never_digits Nowhere = true

pub no_digits_stays : (q : Part) (c : ℕ) → no_digits q ≡ true → no_digits (part_step q c) ≡ true
no_digits_stays q c h = kept no_digits after-zero after-digit after-letter refl q c h
  where
    after-zero : (p : Part) → no_digits p ≡ true → no_digits (after_zero p) ≡ true
    after-zero Empty e = absurd (cc e)
    after-zero Zero e = absurd (cc e)
    after-zero Zeros e = absurd (cc e)
    after-zero Digits e = absurd (cc e)
    after-zero Letters e = refl
    after-zero Bad e = refl

    after-digit : (p : Part) → no_digits p ≡ true → no_digits (after_digit p) ≡ true
    after-digit Empty e = absurd (cc e)
    after-digit Zero e = absurd (cc e)
    after-digit Zeros e = absurd (cc e)
    after-digit Digits e = absurd (cc e)
    after-digit Letters e = refl
    after-digit Bad e = refl

    after-letter : (p : Part) → no_digits p ≡ true → no_digits (after_letter p) ≡ true
    after-letter Empty e = absurd (cc e)
    after-letter Zero e = absurd (cc e)
    after-letter Zeros e = absurd (cc e)
    after-letter Digits e = absurd (cc e)
    after-letter Letters e = refl
    after-letter Bad e = refl

pub no_digits_ok : (q : Part) → no_digits q ≡ true → digits_are_ok q ≡ false
no_digits_ok Empty e = refl
no_digits_ok Zero e = absurd (cc e)
no_digits_ok Zeros e = absurd (cc e)
no_digits_ok Digits e = absurd (cc e)
no_digits_ok Letters e = refl
no_digits_ok Bad e = refl

some_dots : (d : ℕ) → nat_lt 0 d ≡ true → (d == 0) ≡ false
some_dots d h = grind (arith, nat_tests)

never_ok : (s : Number) → never_digits s ≡ true → number_is_digits s ≡ false
never_ok (InRelease (InCore k)) h = go (nat_lt 0 k.dots) refl h
  where
    go : (b : Bool) → nat_lt 0 k.dots ≡ b → (b || no_digits k.part) ≡ true → ((k.dots == 0) && digits_are_ok k.part) ≡ false
    go true e f = rw (some_dots k.dots e) refl
    go false e f = rw (no_digits_ok k.part f) (no-and (k.dots == 0))
never_ok (InRelease (InPre part)) h = refl
never_ok (InRelease Neither) h = refl
never_ok (InBuild part) h = refl
never_ok Nowhere h = refl

more_dots : (d : ℕ) → nat_lt 0 (d + 1) ≡ true
more_dots d = lt-ltb 0 (d + 1) (omega arith)

core_never : (k : Core) (c : ℕ) → (nat_lt 0 k.dots || no_digits k.part) ≡ true → never_digits (InRelease (InCore (core_step k c))) ≡ true
core_never k c h = go (c == 46) refl
  where
    dotted : (b : Bool) → never_digits (InRelease (InCore (if b then core (k.dots + 1) Empty else core k.dots Bad))) ≡ true
    dotted true = rw (more_dots k.dots) refl
    dotted false = or_true (nat_lt 0 k.dots)

    same : (b : Bool) → nat_lt 0 k.dots ≡ b → (b || no_digits k.part) ≡ true → (b || no_digits (part_step k.part c)) ≡ true
    same true e f = refl
    same false e f = no_digits_stays k.part c f

    go : (b : Bool) → (c == 46) ≡ b → never_digits (InRelease (InCore (core_step k c))) ≡ true
    go true e = rw e (dotted (numeral_is_ok k.part && nat_lt k.dots 2))
    go false e = rw e (same (nat_lt 0 k.dots) refl h)

never_stays : (s : Number) (c : ℕ) → never_digits s ≡ true → never_digits (number_step s c) ≡ true
never_stays (InRelease (InCore k)) c h = go (c == 43) refl (c == 45) refl
  where
    plused : (b : Bool) → never_digits (if b then InBuild Empty else Nowhere) ≡ true
    plused true = refl
    plused false = refl

    dashed : (b : Bool) → never_digits (InRelease (if b then InPre Empty else Neither)) ≡ true
    dashed true = refl
    dashed false = refl

    go : (b : Bool) → (c == 43) ≡ b → (d : Bool) → (c == 45) ≡ d → never_digits (number_step (InRelease (InCore k)) c) ≡ true
    go true e d f = rw e (plused (core_is_ok k))
    go false e true f = rw (e, f) (dashed (core_is_ok k))
    go false e false f = ap never_digits (no_plus (InCore k) c e ∙ ap InRelease (no_dash k c f)) ∙ core_never k c h
never_stays (InRelease (InPre part)) c h = go (c == 43) refl (c == 46) refl
  where
    plused : (b : Bool) → never_digits (if b then InBuild Empty else Nowhere) ≡ true
    plused true = refl
    plused false = refl

    dotted : (b : Bool) → never_digits (InRelease (if b then InPre Empty else Neither)) ≡ true
    dotted true = refl
    dotted false = refl

    go : (b : Bool) → (c == 43) ≡ b → (d : Bool) → (c == 46) ≡ d → never_digits (number_step (InRelease (InPre part)) c) ≡ true
    go true e d f = rw e (plused (pre_is_ok part))
    go false e true f = rw (e, f) (dotted (pre_is_ok part))
    go false e false f = rw (e, f) refl
never_stays (InRelease Neither) c h = go (c == 43) refl
  where
    go : (b : Bool) → (c == 43) ≡ b → never_digits (number_step (InRelease Neither) c) ≡ true
    go true e = rw e refl
    go false e = rw e refl
never_stays (InBuild part) c h = go (c == 46) refl
  where
    dotted : (b : Bool) → never_digits (if b then InBuild Empty else Nowhere) ≡ true
    dotted true = refl
    dotted false = refl

    go : (b : Bool) → (c == 46) ≡ b → never_digits (number_step (InBuild part) c) ≡ true
    go true e = rw e (dotted (build_is_ok part))
    go false e = rw e refl
never_stays Nowhere c h = refl

never-run : (cs : List ℕ) (s : Number) → never_digits s ≡ true → number_is_digits (run number_step s cs) ≡ false
never-run [] s h = never_ok s h
never-run (c ∷ cs) s h = never-run cs (number_step s c) (never_stays s c h)

abbrev digits : Part → Number
digits q = InRelease (InCore (core 0 q))

digit_no_mark : (c m : ℕ) → is_ascii_digit c ≡ true → m < 48 → (c == m) ≡ false
digit_no_mark c m h k = grind (arith, nat_tests)

digit_step : (q : Part) (c : ℕ) → is_ascii_digit c ≡ true → number_step (digits q) c ≡ digits (part_step q c)
digit_step q c h = rw (digit_no_mark c 43 h (lit< tt), digit_no_mark c 45 h (lit< tt), digit_no_mark c 46 h (lit< tt)) refl

other_never : (q : Part) (c : ℕ) → is_ascii_digit c ≡ false → never_digits (number_step (digits q) c) ≡ true
other_never q c h = go (c == 43) refl (c == 45) refl (c == 46) refl
  where
    plused : (b : Bool) → never_digits (if b then InBuild Empty else Nowhere) ≡ true
    plused true = refl
    plused false = refl

    dashed : (b : Bool) → never_digits (InRelease (if b then InPre Empty else Neither)) ≡ true
    dashed true = refl
    dashed false = refl

    dotted : (b : Bool) → never_digits (InRelease (InCore (if b then core (0 + 1) Empty else core 0 Bad))) ≡ true
    dotted true = refl
    dotted false = refl

    letter : Class c → no_digits (part_step q c) ≡ true
    letter (is_zero e f g) = absurd (cc (f, h))
    letter (is_digit e f g) = absurd (cc (f, h))
    letter (is_letter e f g) = ap no_digits (step-letter q c e f g) ∙ any q
      where
        any : (p : Part) → no_digits (after_letter p) ≡ true
        any Empty = refl
        any Zero = refl
        any Zeros = refl
        any Digits = refl
        any Letters = refl
        any Bad = refl
    letter (is_other e f g) = ap no_digits (step-other q c e f g)

    go : (a : Bool) → (c == 43) ≡ a → (b : Bool) → (c == 45) ≡ b → (d : Bool) → (c == 46) ≡ d → never_digits (number_step (digits q) c) ≡ true
    go true e b f d g = rw e (plused (core_is_ok (core 0 q)))
    go false e true f d g = rw (e, f) (dashed (core_is_ok (core 0 q)))
    go false e false f true g = ap never_digits (no_plus (InCore (core 0 q)) c e ∙ ap InRelease (no_dash (core 0 q) c f)) ∙ rw g (dotted (numeral_is_ok q && nat_lt 0 2))
    go false e false f false g = ap never_digits (no_plus (InCore (core 0 q)) c e ∙ ap InRelease (no_dash (core 0 q) c f)) ∙ go_on g
      where
        go_on : (c == 46) ≡ false → never_digits (InRelease (InCore (core_step (core 0 q) c))) ≡ true
        go_on x = ap (λ s. never_digits (InRelease (InCore s))) (no_dot (core 0 q) c x) ∙ letter (class_of c)

after_digits : (q : Part) (c : ℕ) → is_ascii_digit c ≡ true → digits_are_ok q ≡ true → digits_are_ok (part_step q c) ≡ true
after_digits q c h k = go (class_of c)
  where
    zero : (p : Part) → digits_are_ok p ≡ true → digits_are_ok (after_zero p) ≡ true
    zero Empty e = absurd (cc e)
    zero Zero e = refl
    zero Zeros e = refl
    zero Digits e = refl
    zero Letters e = absurd (cc e)
    zero Bad e = absurd (cc e)

    digit : (p : Part) → digits_are_ok p ≡ true → digits_are_ok (after_digit p) ≡ true
    digit Empty e = absurd (cc e)
    digit Zero e = refl
    digit Zeros e = refl
    digit Digits e = refl
    digit Letters e = absurd (cc e)
    digit Bad e = absurd (cc e)

    go : Class c → digits_are_ok (part_step q c) ≡ true
    go (is_zero e f g) = ap digits_are_ok (step-zero q c e) ∙ zero q k
    go (is_digit e f g) = ap digits_are_ok (step-digit q c e f) ∙ digit q k
    go (is_letter e f g) = absurd (cc (f, h))
    go (is_other e f g) = absurd (cc (f, h))

digits-run : (cs : List ℕ) (q : Part) → digits_are_ok q ≡ true → is_numeric cs ≡ number_is_digits (run number_step (digits q) cs)
digits-run [] q h = sym h
digits-run (c ∷ cs) q h = go (is_ascii_digit c) refl (digits-run cs (part_step q c))
  where
    go : (b : Bool) → is_ascii_digit c ≡ b → (digits_are_ok (part_step q c) ≡ true → is_numeric cs ≡ number_is_digits (run number_step (digits (part_step q c)) cs))
        → (b && is_numeric cs) ≡ number_is_digits (run number_step (number_step (digits q) c) cs)
    go true e k = k (after_digits q c e h) ∙ ap (λ s. number_is_digits (run number_step s cs)) (sym (digit_step q c e))
    go false e k = sym (never-run cs (number_step (digits q) c) (other_never q c e))

first_digit : (c : ℕ) → is_ascii_digit c ≡ true → digits_are_ok (part_step Empty c) ≡ true
first_digit c h = go (class_of c)
  where
    go : Class c → digits_are_ok (part_step Empty c) ≡ true
    go (is_zero e f g) = ap digits_are_ok (step-zero Empty c e)
    go (is_digit e f g) = ap digits_are_ok (step-digit Empty c e f)
    go (is_letter e f g) = absurd (cc (f, h))
    go (is_other e f g) = absurd (cc (f, h))

-- ---- both

either_is : (s : Number) → number_is_ok s ≡ (number_is_digits s || version_is_ok s)
either_is (InRelease (InCore k)) = refl
either_is (InRelease (InPre part)) = refl
either_is (InRelease Neither) = refl
either_is (InBuild part) = refl
either_is Nowhere = refl

-- Digits, or a version, where the scan ends well.
pub numbers : (c : ℕ) (cs : List ℕ) → is_ascii_digit c ≡ true → (is_numeric (c ∷ cs) || is_version_of is_numeral (c ∷ cs)) ≡ number_is_ok (run number_step number_start (c ∷ cs))
numbers c cs h =
    ap (λ b. b || is_version_of is_numeral (c ∷ cs)) numeric
    ∙ (ap (λ b. number_is_digits (run number_step number_start (c ∷ cs)) || b) (version_scan (c ∷ cs)) ∙ sym (either_is (run number_step number_start (c ∷ cs))))
  where
    numeric : is_numeric (c ∷ cs) ≡ number_is_digits (run number_step number_start (c ∷ cs))
    numeric = ap (λ b. b && is_numeric cs) h ∙ (digits-run cs (part_step Empty c) (first_digit c h) ∙ ap (λ s. number_is_digits (run number_step s cs)) (sym (digit_step Empty c h)))
