-- A scan of strings is what the grammar says of them.
use Rattle.std.proofs.Common.{◌≡◌, refl, sym, ap, ◌∙◌, ℕ, ◌+◌, ◌*◌, Bool, true, false, ◌==◌, List, [], ◌∷◌, Option, Some, None, arith, nat_lt}
use Rattle.std.proofs.lemmas.{Bool.Decides.nat_tests}
use Rattle.std.specs.{Prelude.is_some, Option.option_map}
use lib.Utf8.{scalar}
use Rattle.print_grammar.specs.Token.{StringState as states, StringStep as steps, string_step, string_characters, only_at_end, hexadecimal, code_step}
use Rattle.text_tokens.specs.declared.quote.Quote.{Quote}
use Rattle.text_tokens.specs.declared.quote.Quote.TheVariants.{Between, AfterBackslash, AfterU, AfterBrace, InCode}
use Rattle.text_tokens.specs.declared.state.State.TheVariants.{InQuote, Done, Dead}
use Rattle.text_tokens.specs.Quotes.{quoting, quote_in, state_after, quote_is_dead}
use Rattle.text_tokens.specs.States.{after_quote, step, is_ok, is_dead}
use Rattle.text_tokens.proofs.Runs.{run}

pub dead-run : (cs : List ℕ) → is_ok (run step Dead cs) ≡ false
dead-run [] = refl
dead-run (c ∷ cs) = dead-run cs

pub is_some-map : {X Y : Type 0} (f : X → Y) (o : Option X) → is_some (option_map f o) ≡ is_some o
is_some-map f None = refl
is_some-map f (Some x) = refl

same_state : (s : states) → quoting (quote_in s) ≡ s
same_state states.Between = refl
same_state states.AfterBackslash = refl
same_state states.AfterU = refl
same_state states.AfterBrace = refl
same_state (states.InCode n) = refl

closed : (cs : List ℕ) → is_some (only_at_end cs) ≡ is_ok (run step Done cs)
closed [] = refl
closed (c ∷ cs) = sym (dead-run cs)

-- the characters from a state on are read where the scan ends well
abbrev Says : List ℕ → Quote → Type 0
Says cs q = is_some (string_characters (quoting q) cs) ≡ is_ok (run step (InQuote q) cs)

pub string-run : (cs : List ℕ) (q : Quote) → Says cs q
string-run [] q = refl
string-run (c ∷ cs) q = go (string_step (quoting q) c) (string-run cs)
  where
    go : (x : steps) → ((p : Quote) → Says cs p)
        → is_some (elim x [
          | steps.Refused ↦ None
          | steps.Closed ↦ only_at_end cs
          | steps.Goes next ↦ string_characters next cs
          | steps.Reads y ↦ option_map (λ xs. y ∷ xs) (string_characters states.Between cs)
        ])
        ≡ is_ok (run step (after_quote (state_after x)) cs)
    go steps.Refused k = sym (dead-run cs)
    go steps.Closed k = closed cs
    go (steps.Goes next) k = ap (λ s. is_some (string_characters s cs)) (sym (same_state next)) ∙ k (quote_in next)
    go (steps.Reads y) k = is_some-map (λ xs. y ∷ xs) (string_characters states.Between cs) ∙ k Between

no_scalar : (n : ℕ) → nat_lt 1114111 n ≡ true → scalar n ≡ false
no_scalar n h = grind (arith, nat_tests)

larger : (n d : ℕ) → nat_lt 1114111 n ≡ true → nat_lt 1114111 (16 * n + d) ≡ true
larger n d h = grind (arith, nat_tests)

pub dead_quote_stays : (q : Quote) (c : ℕ) → quote_is_dead q ≡ true → is_dead (step (InQuote q) c) ≡ true
dead_quote_stays Between c h = absurd (cc h)
dead_quote_stays AfterBackslash c h = absurd (cc h)
dead_quote_stays AfterU c h = absurd (cc h)
dead_quote_stays AfterBrace c h = absurd (cc h)
dead_quote_stays (InCode n) c h = go (c == 125) refl (hexadecimal c)
  where
    coded : (o : Option ℕ) → is_dead (after_quote (state_after (code_step n o))) ≡ true
    coded (Some d) = larger n d h
    coded None = refl

    go : (b : Bool) → (c == 125) ≡ b → Option ℕ → is_dead (step (InQuote (InCode n)) c) ≡ true
    go true e o = rw (e, no_scalar n h) refl
    go false e o = rw e (coded (hexadecimal c))
