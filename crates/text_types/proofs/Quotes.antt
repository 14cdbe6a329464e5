-- Strings as they are read, byte by byte. Serves strings.
use Rattle.std.proofs.Common.{◌≡◌, ◌∙◌, sym, ap, refl, ℕ, ◌+◌, ◌*◌, ◌<◌, ◌≤◌, Bool, true, false, nat_lt, List}
use Rattle.std.proofs.Common.{[], ◌∷◌, ◌++◌, length, drop, get_or, ◌==◌, Global, String, append-nil, append_assoc, Option, Some, None, option_map, arith}
use Rattle.std.specs.{Option.option_map_or, Str.chars}
use Rattle.std.specs.Prelude.{string_bytes, encode_utf8, encode_utf8_all}
use Rattle.std.proofs.lemmas.Str.{chars-nil, chars_from_encodes, encodes-chars, IsUtf8-string_bytes}
use Rattle.std.proofs.lemmas.Bool.Decides.{nat_tests}
use lib.Utf8.{scalar}
use Rattle.std.proofs.lemmas.List.{drop_more, drop_all}
use Rattle.print_grammar.specs.Token.{StringState as states, StringStep as steps, string_characters, string_step, only_at_end, code_step, hexadecimal}
use Rattle.text_types.specs.declared.strings.Quote.{Quote}
use Rattle.text_types.specs.declared.strings.Quote.TheVariants as quote
use Rattle.text_types.specs.declared.strings.Step.{Step}
use Rattle.text_types.specs.declared.strings.Step.TheVariants as step
use Rattle.text_types.specs.declared.strings.Read.{Read}
use Rattle.text_types.specs.declared.strings.Read.TheVariants as read
use Rattle.text_trees.specs.Seen.{characters_of}
use Rattle.text_types.specs.Strings.{quoting, step_there, is_dead, told, follows_in, is_at_dead, ReadsOn}

-- the characters behind a step
abbrev behind : steps → List ℕ → Option (List ℕ)
behind steps.Refused cs = None
behind steps.Closed cs = only_at_end cs
behind (steps.Goes next) cs = string_characters next cs
behind (steps.Reads y) cs = option_map (λ xs. y ∷ xs) (string_characters states.Between cs)

stepped : (state : states) (c : ℕ) (cs : List ℕ) → string_characters state (c ∷ cs) ≡ behind (string_step state c) cs
stepped state c cs = go (string_step state c)
  where
    go : (s : steps) → (elim s [
      | steps.Refused ↦ None
      | steps.Closed ↦ only_at_end cs
      | steps.Goes next ↦ string_characters next cs
      | steps.Reads y ↦ option_map (λ xs. y ∷ xs) (string_characters states.Between cs)
    ]) ≡ behind s cs
    go steps.Refused = refl
    go steps.Closed = refl
    go (steps.Goes next) = refl
    go (steps.Reads y) = refl

stepped_as : (state : states) (c : ℕ) (cs : List ℕ) {s : steps} → s ≡ string_step state c → string_characters state (c ∷ cs) ≡ behind s cs
stepped_as state c cs e = stepped state c cs ∙ ap (λ s. behind s cs) (sym e)

-- ---- codes that are too large

no_scalar : (n : ℕ) → nat_lt 1114111 n ≡ true → scalar n ≡ false
no_scalar n h = grind (arith, nat_tests)

larger : (n d : ℕ) → nat_lt 1114111 n ≡ true → nat_lt 1114111 (16 * n + d) ≡ true
larger n d h = grind (arith, nat_tests)

dead_one : (c : ℕ) (cs : List ℕ) (n : ℕ) → nat_lt 1114111 n ≡ true → ((d : ℕ) → string_characters (states.InCode (16 * n + d)) cs ≡ None)
    → string_characters (states.InCode n) (c ∷ cs) ≡ None
dead_one c cs n h ih = stepped (states.InCode n) c cs ∙ go (c == 125) refl
  where
    coded : (o : Option ℕ) → behind (code_step n o) cs ≡ None
    coded (Some d) = ih d
    coded None = refl

    go : (b : Bool) → (c == 125) ≡ b → behind (string_step (states.InCode n) c) cs ≡ None
    go true e = rw (e, no_scalar n h) refl
    go false e = rw e (coded (hexadecimal c))

dead_none : (cs : List ℕ) (n : ℕ) → nat_lt 1114111 n ≡ true → string_characters (states.InCode n) cs ≡ None
dead_none [] n h = refl
dead_none (c ∷ cs) n h = dead_one c cs n h (λ d. dead_none cs (16 * n + d) (larger n d h))

dead_quote : (q : Quote) (cs : List ℕ) → is_dead q ≡ true → string_characters (quoting q) cs ≡ None
dead_quote quote.Between cs h = absurd (cc h)
dead_quote quote.AfterBackslash cs h = absurd (cc h)
dead_quote quote.AfterU cs h = absurd (cc h)
dead_quote quote.AfterBrace cs h = absurd (cc h)
dead_quote (quote.InCode n) cs h = dead_none cs n h

-- ---- one byte

pub told_more : (front : List ℕ) (y : ℕ) (r : Option (List ℕ)) → told (front ++ y ∷ []) r ≡ told front (option_map (λ xs. y ∷ xs) r)
told_more front y None = refl
told_more front y (Some cs) = append_assoc front (y ∷ []) cs

module _ (old : List ℕ) (state : states) (byte : ℕ) {s : Step} (e : step_there s ≡ string_step state byte) where
  pub on_dead : {next : Quote} → s ≡ step.Goes next → is_dead next ≡ true → ReadsOn old state byte old read.Stops
  on_dead {next = next} is h = record {
    tells = λ cs. ap (told old) (sym (stepped_as state byte cs (ap step_there (sym is) ∙ e)
        ∙ dead_quote next cs h));
    alive = refl;
  }

  pub on_reads : {c : ℕ} (new : List ℕ) → s ≡ step.Reads c → new ≡ old ++ c ∷ [] → ReadsOn old state byte new (read.Goes quote.Between)
  on_reads {c = c} new is f = record {
    tells = λ cs.
        ap (λ l. told l (string_characters states.Between cs)) f ∙ told_more old c (string_characters states.Between cs)
        ∙ ap (told old) (sym (stepped_as state byte cs (ap step_there (sym is) ∙ e)));
    alive = refl;
  }

-- one character more
pub chars_pushed : (old new : String Global) (c : ℕ) → string_bytes new ≡ string_bytes old ++ encode_utf8 c
    → chars (string_bytes new) ≡ chars (string_bytes old) ++ c ∷ []
chars_pushed old new c e =
    sym (chars_from_encodes (chars (string_bytes old) ++ c ∷ []) (string_bytes new) (IsUtf8-string_bytes new)
    (encodes-one (chars (string_bytes old)) c ∙ (ap (λ t. t ++ encode_utf8 c) (encodes-chars (string_bytes old) (IsUtf8-string_bytes old)) ∙ sym e)))
  where
    encodes-one : (xs : List ℕ) (c : ℕ) → encode_utf8_all (xs ++ c ∷ []) ≡ encode_utf8_all xs ++ encode_utf8 c
    encodes-one [] c = append-nil (encode_utf8 c)
    encodes-one (x ∷ xs) c = ap (λ t. encode_utf8 x ++ t) (encodes-one xs c) ∙ sym (append_assoc (encode_utf8 x) (encode_utf8_all xs) (encode_utf8 c))

-- ---- a string

module _ (rest : List ℕ) (i : ℕ) (state : states) (old new whole : List ℕ) (r : Read) (so_far : told old (string_characters state (drop i rest)) ≡ whole)
    (within : i < length rest)
    (k : ReadsOn old state (get_or rest i 0) new r) where
  told_on : told new (follows_in r (drop (i + 1) rest)) ≡ whole
  told_on = k.tells (drop (i + 1) rest) ∙ (ap (λ l. told old (string_characters state l)) (sym (drop_more rest i 0 within)) ∙ so_far)

  told_as : {s : Read} → r ≡ s → told new (follows_in s (drop (i + 1) rest)) ≡ whole
  told_as is = ap (λ s. told new (follows_in s (drop (i + 1) rest))) (sym is) ∙ told_on

  pub goes_on : {next : Quote} → r ≡ read.Goes next → told new (string_characters (quoting next) (drop (i + 1) rest)) ≡ whole
  goes_on is = told_as is

  pub stays_alive : {next : Quote} → r ≡ read.Goes next → is_dead next ≡ false
  stays_alive is = ap is_at_dead (sym is) ∙ k.alive

  pub stopped : r ≡ read.Stops → [] ≡ whole
  stopped is = told_as is

  pub ended : r ≡ read.Ends → length rest ≤ i + 1 → new ≡ whole
  ended is e = sym (append-nil new) ∙ (ap (λ l. told new (only_at_end l)) (sym (drop_all (i + 1) rest e)) ∙ told_as is)

  pub ended_early : r ≡ read.Ends → i + 1 < length rest → [] ≡ whole
  ended_early is e = ap (λ l. told new (only_at_end l)) (sym (drop_more rest (i + 1) 0 e)) ∙ told_as is

pub never_ended : (rest : List ℕ) (i : ℕ) (state : states) (old whole : List ℕ) → told old (string_characters state (drop i rest)) ≡ whole
    → length rest ≤ i → [] ≡ whole
never_ended rest i state old whole e h = ap (λ l. told old (string_characters state l)) (sym (drop_all i rest h)) ∙ e

-- at the beginning
pub told_nothing : (r : Option (List ℕ)) → told [] r ≡ option_map_or (λ cs. cs) r []
told_nothing None = refl
told_nothing (Some cs) = refl

pub characters_told : (spelling rest : List ℕ) → rest ≡ drop 1 spelling → told [] (string_characters states.Between rest) ≡ characters_of spelling
characters_told spelling rest e = told_nothing (string_characters states.Between rest)
    ∙ ap (λ r. option_map_or (λ cs. cs) (string_characters states.Between r) []) e

pub no_characters : (s : String Global) → string_bytes s ≡ [] → chars (string_bytes s) ≡ []
no_characters s e = ap chars e ∙ chars-nil

pub empty_told : (s : String Global) (spelling : List ℕ) → string_bytes s ≡ [] → length spelling ≡ 0 → chars (string_bytes s) ≡ characters_of spelling
empty_told s [] e h = no_characters s e
empty_told s (c ∷ cs) e h = absurd (omega (arith, h))
