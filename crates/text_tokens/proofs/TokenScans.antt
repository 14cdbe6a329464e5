-- A scan finds the longest token.
use Rattle.std.proofs.Common.{◌≡◌, refl, sym, ap, ◌∙◌, ℕ, suc, Bool, true, false, ◌&&◌, ◌||◌, ◌==◌, if◌then◌else◌, List, [], ◌∷◌, ◌++◌, Option, Some, None, take, drop, append-nil, append_assoc}
use Rattle.std.specs.{Prelude.is_some, Option.option_map, Char.is_ascii_alphabetic, Char.is_ascii_digit, List.list_all, List.slice_split}
use Rattle.std.specs.Str.Parse.{digits_value}
use Rattle.semver.specs.Order.{is_numeric}
use Rattle.wit_model.specs.Names.{is_fragment, is_label, is_numeral, is_version_of}
use Rattle.print_grammar.specs.{Keyword.keyword_of, Token.Token.Quoted, Token.Token.Digits as DigitsToken, Token.Token.VersionText, Token.Token.Escaped}
use Rattle.print_grammar.specs.Token.{Token, Taken, StringState as states, longest, mark_of, mark_texts, number_token, spelled, string_characters, word_token}
use Rattle.text_tokens.specs.declared.number.Part.{Part}
use Rattle.text_tokens.specs.declared.number.Part.TheVariants.{Empty, Zero, Zeros, Digits, Letters, Bad}
use Rattle.text_tokens.specs.declared.number.Core.{Core}
use Rattle.text_tokens.specs.declared.number.Release.TheVariants.{InCore, InPre, Neither}
use Rattle.text_tokens.specs.declared.number.Number.{Number}
use Rattle.text_tokens.specs.declared.number.Number.TheVariants.{InRelease, InBuild, Nowhere}
use Rattle.text_tokens.specs.declared.quote.Quote.TheVariants.{Between}
use Rattle.text_tokens.specs.declared.state.State.{State}
use Rattle.text_tokens.specs.declared.state.State.TheVariants.{Start, Percent, InWord, InNumber, InQuote, Minus, Done, Dead}
use Rattle.text_tokens.specs.declared.word.Word.{Word}
use Rattle.text_tokens.specs.Numbers.{core_is_dead, core_is_ok, core_is_digits, core_step, numeral_is_ok, number_is_dead, number_is_ok, number_start, number_step, release_step}
use Rattle.text_tokens.specs.States.{is_dead, is_ok, mark_step, reach, step, taken}
use Rattle.text_tokens.specs.Words.{word_start, word_step}
use Rattle.text_tokens.proofs.MarkScans.{marks}
use Rattle.text_tokens.proofs.NumberScans.{numbers, no_digits, no_digits_ok, no_digits_stays, no_dot}
use Rattle.text_tokens.proofs.PartScans.{bad_stays}
use Rattle.text_tokens.proofs.QuoteScans.{dead-run, dead_quote_stays, is_some-map, string-run}
use Rattle.base_lemmas.proofs.{Bools.no-and}
use Rattle.text_tokens.proofs.Runs.{run, run-append}
use Rattle.text_tokens.proofs.WordScans.{fragments, dead_word_not_ok, dead_word_stays}

-- ---- a dead scan

core_dead : (d : ℕ) (q : Part) → core_is_dead (record { dots = d; part = q }) ≡ no_digits q
core_dead d Empty = refl
core_dead d Zero = refl
core_dead d Zeros = refl
core_dead d Digits = refl
core_dead d Letters = refl
core_dead d Bad = refl

no_digits_numeral : (q : Part) → no_digits q ≡ true → numeral_is_ok q ≡ false
no_digits_numeral Empty e = refl
no_digits_numeral Zero e = absurd (cc e)
no_digits_numeral Zeros e = absurd (cc e)
no_digits_numeral Digits e = absurd (cc e)
no_digits_numeral Letters e = refl
no_digits_numeral Bad e = refl

core_not_ok : (k : Core) → no_digits k.part ≡ true → core_is_ok k ≡ false
core_not_ok k h = ap (λ b. (k.dots == 2) && b) (no_digits_numeral k.part h) ∙ no-and (k.dots == 2)

core_no_digits : (k : Core) → no_digits k.part ≡ true → core_is_digits k ≡ false
core_no_digits k h = ap (λ b. (k.dots == 0) && b) (no_digits_ok k.part h) ∙ no-and (k.dots == 0)

dead_core_stays : (k : Core) (c : ℕ) → no_digits k.part ≡ true → no_digits ((core_step k c).part) ≡ true
dead_core_stays k c h = go (c == 46) refl
  where
    go : (b : Bool) → (c == 46) ≡ b → no_digits ((core_step k c).part) ≡ true
    go true e = rw (e, no_digits_numeral k.part h) refl
    go false e = ap (λ (s : Core). no_digits s.part) (no_dot k c e) ∙ no_digits_stays k.part c h

dead_number_not_ok : (s : Number) → number_is_dead s ≡ true → number_is_ok s ≡ false
dead_number_not_ok (InRelease (InCore k)) h =
    let d = sym (core_dead k.dots k.part) ∙ h in
    ap (λ b. b || core_is_ok k) (core_no_digits k d) ∙ core_not_ok k d
dead_number_not_ok (InRelease (InPre Empty)) h = refl
dead_number_not_ok (InRelease (InPre Zero)) h = absurd (cc h)
dead_number_not_ok (InRelease (InPre Zeros)) h = refl
dead_number_not_ok (InRelease (InPre Digits)) h = absurd (cc h)
dead_number_not_ok (InRelease (InPre Letters)) h = absurd (cc h)
dead_number_not_ok (InRelease (InPre Bad)) h = refl
dead_number_not_ok (InRelease Neither) h = refl
dead_number_not_ok (InBuild Empty) h = refl
dead_number_not_ok (InBuild Zero) h = absurd (cc h)
dead_number_not_ok (InBuild Zeros) h = absurd (cc h)
dead_number_not_ok (InBuild Digits) h = absurd (cc h)
dead_number_not_ok (InBuild Letters) h = absurd (cc h)
dead_number_not_ok (InBuild Bad) h = refl
dead_number_not_ok Nowhere h = refl

-- in a part that is bad
dead_pre : (c : ℕ) → number_is_dead (number_step (InRelease (InPre Bad)) c) ≡ true
dead_pre c = go (c == 43) refl (c == 46) refl
  where
    go : (a : Bool) → (c == 43) ≡ a → (b : Bool) → (c == 46) ≡ b → number_is_dead (number_step (InRelease (InPre Bad)) c) ≡ true
    go true e b f = rw e refl
    go false e true f = rw (e, f) refl
    go false e false f = rw (e, f, bad_stays c) refl

dead_build : (c : ℕ) → number_is_dead (number_step (InBuild Bad) c) ≡ true
dead_build c = go (c == 46) refl
  where
    go : (b : Bool) → (c == 46) ≡ b → number_is_dead (number_step (InBuild Bad) c) ≡ true
    go true f = rw f refl
    go false f = rw (f, bad_stays c) refl

dead_number_stays : (s : Number) (c : ℕ) → number_is_dead s ≡ true → number_is_dead (number_step s c) ≡ true
dead_number_stays (InRelease (InCore k)) c h = go (c == 43) refl (c == 45) refl
  where
    d : no_digits k.part ≡ true
    d = sym (core_dead k.dots k.part) ∙ h

    in_release : (c == 43) ≡ false → number_step (InRelease (InCore k)) c ≡ InRelease (release_step (InCore k) c)
    in_release e = rw e refl

    in_core : (c == 45) ≡ false → release_step (InCore k) c ≡ InCore (core_step k c)
    in_core e = rw e refl

    go : (a : Bool) → (c == 43) ≡ a → (b : Bool) → (c == 45) ≡ b → number_is_dead (number_step (InRelease (InCore k)) c) ≡ true
    go true e b f = rw (e, core_not_ok k d) refl
    go false e true f = rw (e, f, core_not_ok k d) refl
    go false e false f =
        ap number_is_dead (in_release e ∙ ap InRelease (in_core f))
        ∙ (core_dead ((core_step k c).dots) ((core_step k c).part) ∙ dead_core_stays k c d)
dead_number_stays (InRelease (InPre Empty)) c h = absurd (cc h)
dead_number_stays (InRelease (InPre Zero)) c h = absurd (cc h)
dead_number_stays (InRelease (InPre Zeros)) c h = absurd (cc h)
dead_number_stays (InRelease (InPre Digits)) c h = absurd (cc h)
dead_number_stays (InRelease (InPre Letters)) c h = absurd (cc h)
dead_number_stays (InRelease (InPre Bad)) c h = dead_pre c
dead_number_stays (InRelease Neither) c h = go (c == 43) refl
  where
    go : (b : Bool) → (c == 43) ≡ b → number_is_dead (number_step (InRelease Neither) c) ≡ true
    go true e = rw e refl
    go false e = rw e refl
dead_number_stays (InBuild Empty) c h = absurd (cc h)
dead_number_stays (InBuild Zero) c h = absurd (cc h)
dead_number_stays (InBuild Zeros) c h = absurd (cc h)
dead_number_stays (InBuild Digits) c h = absurd (cc h)
dead_number_stays (InBuild Letters) c h = absurd (cc h)
dead_number_stays (InBuild Bad) c h = dead_build c
dead_number_stays Nowhere c h = refl

pub dead_not_ok : (s : State) → is_dead s ≡ true → is_ok s ≡ false
dead_not_ok Start h = refl
dead_not_ok Percent h = refl
dead_not_ok (InWord word) h = dead_word_not_ok word h
dead_not_ok (InNumber number) h = dead_number_not_ok number h
dead_not_ok (InQuote quote) h = refl
dead_not_ok Minus h = refl
dead_not_ok Done h = absurd (cc h)
dead_not_ok Dead h = refl

dead_stays : (s : State) (c : ℕ) → is_dead s ≡ true → is_dead (step s c) ≡ true
dead_stays Start c h = absurd (cc h)
dead_stays Percent c h = absurd (cc h)
dead_stays (InWord word) c h = dead_word_stays word c h
dead_stays (InNumber number) c h = dead_number_stays number c h
dead_stays (InQuote quote) c h = dead_quote_stays quote c h
dead_stays Minus c h = absurd (cc h)
dead_stays Done c h = absurd (cc h)
dead_stays Dead c h = refl

pub dead-reach : (s : State) (cs : List ℕ) → is_dead s ≡ true → reach s cs ≡ None
dead-reach s [] h = rw (dead_not_ok s h) refl
dead-reach s (c ∷ cs) h = rw h refl

-- ---- a text is a token where the scan ends well

word-run : (w : Word) (cs : List ℕ) → run step (InWord w) cs ≡ InWord (run word_step w cs)
word-run w [] = refl
word-run w (c ∷ cs) = word-run (word_step w c) cs

number-run : (s : Number) (cs : List ℕ) → run step (InNumber s) cs ≡ InNumber (run number_step s cs)
number-run s [] = refl
number-run s (c ∷ cs) = number-run (number_step s c) cs

labelled : (c : ℕ) (cs : List ℕ) → is_ascii_alphabetic c ≡ true → is_label (c ∷ cs) ≡ is_ok (run step (InWord (word_step word_start c)) cs)
labelled c cs h = ap (λ b. b && list_all is_fragment (slice_split (λ b. b == 45) (c ∷ cs))) h ∙ (fragments (c ∷ cs) ∙ ap is_ok (sym (word-run (word_step word_start c) cs)))

is_some-if : {X : Type 0} (b : Bool) (x : X) → is_some (if b then Some x else None) ≡ b
is_some-if true x = refl
is_some-if false x = refl

escaped : (cs : List ℕ) → is_label cs ≡ is_ok (run step Percent cs)
escaped [] = refl
escaped (c ∷ cs) = go (is_ascii_alphabetic c) refl
  where
    go : (b : Bool) → is_ascii_alphabetic c ≡ b → is_label (c ∷ cs) ≡ is_ok (run step (if b then InWord (word_step word_start c) else Dead) cs)
    go true e = labelled c cs e
    go false e = ap (λ b. b && list_all is_fragment (slice_split (λ b. b == 45) (c ∷ cs))) e ∙ sym (dead-run cs)

number_some : (text : List ℕ) → is_some (number_token text) ≡ (is_numeric text || is_version_of is_numeral text)
number_some text = go (is_numeric text)
  where
    go : (b : Bool)
        → is_some (elim b [ true ↦ Some (DigitsToken (digits_value 10 text)) | false ↦ (if is_version_of is_numeral text then Some (VersionText text) else None) ])
        ≡ (b || is_version_of is_numeral text)
    go true = refl
    go false = is_some-if (is_version_of is_numeral text) (VersionText text)

-- the token by its first byte's tests
abbrev by_first : Bool → Bool → Bool → Bool → ℕ → List ℕ → Option Token
by_first a d p q c cs =
    elim a [
      | true ↦ (if is_label (c ∷ cs) then Some (word_token (c ∷ cs) (keyword_of (c ∷ cs))) else None)
      | false ↦ elim d [
        | true ↦ number_token (c ∷ cs)
        | false ↦ elim p [
          | true ↦ (if is_label cs then Some (Escaped cs) else None)
          | false ↦ elim q [
            | true ↦ option_map Quoted (string_characters states.Between cs)
            | false ↦ mark_of mark_texts (c ∷ cs)
          ]
        ]
      ]
    ]

pub spelled_ok : (text : List ℕ) → is_some (spelled text) ≡ is_ok (run step Start text)
spelled_ok [] = refl
spelled_ok (c ∷ cs) = go (is_ascii_alphabetic c) refl (is_ascii_digit c) refl (c == 37) (c == 34)
  where
    go : (a : Bool) → is_ascii_alphabetic c ≡ a → (d : Bool) → is_ascii_digit c ≡ d → (p q : Bool)
        → is_some (by_first a d p q c cs)
        ≡ is_ok (run step (if a then InWord (word_step word_start c) else (if d then InNumber (number_step number_start c) else
        (if p then Percent else (if q then InQuote Between else mark_step c)))) cs)
    go true e d f p q = is_some-if (is_label (c ∷ cs)) (word_token (c ∷ cs) (keyword_of (c ∷ cs))) ∙ labelled c cs e
    go false e true f p q = number_some (c ∷ cs) ∙ (numbers c cs f ∙ ap is_ok (sym (number-run (number_step number_start c) cs)))
    go false e false f true q = is_some-if (is_label cs) (Escaped cs) ∙ escaped cs
    go false e false f false true = is_some-map Quoted (string_characters states.Between cs) ∙ string-run cs Between
    go false e false f false false = marks c cs

-- ---- the longest

pub reach_ok : (cs : List ℕ) (s : State) (n : ℕ) → reach s cs ≡ Some n → is_ok (run step s (take n cs)) ≡ true
reach_ok [] s n h = go (is_ok s) refl h
  where
    go : (b : Bool) → is_ok s ≡ b → (if b then Some 0 else None) ≡ Some n → is_ok (run step s (take n [])) ≡ true
    go true e f = let z : 0 ≡ n = cc in rw (← z) e
    go false e f = absurd cc
reach_ok (c ∷ cs) s n h = go (is_dead s) (reach (step s c) cs) refl (reach_ok cs (step s c)) h
  where
    here : (b : Bool) → is_ok s ≡ b → (if b then Some 0 else None) ≡ Some n → is_ok (run step s (take n (c ∷ cs))) ≡ true
    here true e f = let z : 0 ≡ n = cc in rw (← z) e
    here false e f = absurd cc

    go : (d : Bool) (o : Option ℕ) → reach (step s c) cs ≡ o → ((m : ℕ) → reach (step s c) cs ≡ Some m → is_ok (run step (step s c) (take m cs)) ≡ true)
        → (if d then None else elim o [ Some m ↦ Some (suc m) | None ↦ if is_ok s then Some 0 else None ]) ≡ Some n → is_ok (run step s (take n (c ∷ cs))) ≡ true
    go true o e k f = absurd cc
    go false (Some m) e k f = let z : suc m ≡ n = cc in rw (← z) (k m e)
    go false None e k f = here (is_ok s) refl f

mapped_none : {X Y : Type 0} (f : X → Y) (o : Option X) → is_some o ≡ false → option_map f o ≡ None
mapped_none f None h = refl
mapped_none f (Some x) h = absurd (cc h)

run-app : (s : State) (xs ys : List ℕ) → run step s (xs ++ ys) ≡ run step (run step s xs) ys
run-app s [] ys = refl
run-app s (x ∷ xs) ys = run-app (step s x) xs ys

-- what is taken where the scan stands
here_taken : (front rest : List ℕ) (b : Bool) → is_some (spelled front) ≡ b
    → option_map (λ t. record { token = t; rest = rest }) (spelled front) ≡ taken front rest (if b then Some 0 else None)
here_taken front rest true e = rw (append-nil front) refl
here_taken front rest false e = mapped_none (λ t. record { token = t; rest = rest }) (spelled front) (e)

-- a longer one, or else this
abbrev or_here : List ℕ → List ℕ → Option Taken → Option Taken
or_here front text (Some t) = Some t
or_here front text None = option_map (λ t. record { token = t; rest = text }) (spelled front)

longest-taken : (front rest : List ℕ) → longest front rest ≡ taken front rest (reach (run step Start front) rest)
longest-taken front [] = here_taken front [] (is_ok (run step Start front)) (spelled_ok front)
longest-taken front (c ∷ cs) =
    ap (or_here front (c ∷ cs)) (longest-taken (front ++ c ∷ []) cs ∙ ap (λ s. taken (front ++ c ∷ []) cs (reach s cs)) (run-append step Start front c))
    ∙ go (is_dead (run step Start front)) refl (reach (step (run step Start front) c) cs) refl
  where
    found : (n : ℕ) (o : Option Token) → is_some o ≡ true → spelled ((front ++ c ∷ []) ++ take n cs) ≡ o
        → or_here front (c ∷ cs) (option_map (λ t. record { token = t; rest = drop n cs }) o) ≡ option_map (λ t. record { token = t; rest = drop n cs }) (spelled (front ++ (c ∷ take n cs)))
    found n None e f = absurd (cc e)
    found n (Some t) e f = rw (← append_assoc front (c ∷ []) (take n cs), f) refl

    longer : (n : ℕ) → reach (step (run step Start front) c) cs ≡ Some n → is_some (spelled ((front ++ c ∷ []) ++ take n cs)) ≡ true
    longer n e =
        spelled_ok ((front ++ c ∷ []) ++ take n cs)
        ∙ (ap is_ok (run-app Start (front ++ c ∷ []) (take n cs)) ∙ (ap (λ s. is_ok (run step s (take n cs))) (run-append step Start front c) ∙ reach_ok cs (step (run step Start front) c) n e))

    go : (d : Bool) → is_dead (run step Start front) ≡ d → (o : Option ℕ) → reach (step (run step Start front) c) cs ≡ o
        → or_here front (c ∷ cs) (taken (front ++ c ∷ []) cs o)
        ≡ taken front (c ∷ cs) (if d then None else elim o [ Some n ↦ Some (suc n) | None ↦ if is_ok (run step Start front) then Some 0 else None ])
    go true e (Some n) f = absurd (cc (dead-reach (step (run step Start front) c) cs (dead_stays (run step Start front) c e), f))
    go true e None f = mapped_none (λ t. record { token = t; rest = c ∷ cs }) (spelled front) ((spelled_ok front ∙ dead_not_ok (run step Start front) e))
    go false e (Some n) f = found n (spelled ((front ++ c ∷ []) ++ take n cs)) (longer n f) refl
    go false e None f = here_taken front (c ∷ cs) (is_ok (run step Start front)) (spelled_ok front)

pub longest_scan : (text : List ℕ) → longest [] text ≡ taken [] text (reach Start text)
longest_scan text = longest-taken [] text
