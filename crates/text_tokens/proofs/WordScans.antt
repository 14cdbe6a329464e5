-- A scan of fragments is what the grammar says of them.
use Rattle.std.proofs.Common.{◌≡◌, refl, sym, ap, ◌∙◌, ℕ, Bool, true, false, ◌&&◌, ◌||◌, ◌==◌, not, if◌then◌else◌, List, [], ◌∷◌, ◌++◌, length, length-append, arith, nat_lt}
use Rattle.std.proofs.lemmas.Bool.{lt-ltb}
use Rattle.std.proofs.lemmas.List.Folds.{list_all-append}
use Rattle.std.specs.List.{list_all, slice_split}
use Rattle.wit_model.specs.Names.{is_fragment, is_lower_byte, is_upper_byte}
use Rattle.text_tokens.specs.declared.word.Word.{Word}
use Rattle.text_tokens.specs.Words.{word_start, word_ok, word_is_dead, word_step}
use Rattle.base_lemmas.proofs.{Bools.and-true}
use Rattle.text_tokens.proofs.Runs.{run, onto_nil, parts-run}

some-append : (p : List ℕ) (c : ℕ) → nat_lt 0 (length (p ++ c ∷ [])) ≡ true
some-append p c = lt-ltb 0 (length (p ++ c ∷ [])) (omega (arith, length-append p (c ∷ [])))

all-append : (test : ℕ → Bool) (p : List ℕ) (c : ℕ) → list_all test (p ++ c ∷ []) ≡ (list_all test p && test c)
all-append test p c = list_all-append test p (c ∷ []) ∙ ap (λ b. list_all test p && b) (and-true (test c))

-- the state after this fragment
abbrev state_of : List ℕ → Word
state_of p = record { alive = true; some = nat_lt 0 (length p); lower = list_all is_lower_byte p; upper = list_all is_upper_byte p }

-- after a dash that ends no fragment
abbrev dead_word : Word
dead_word = record { alive = false; some = false; lower = true; upper = true }

step-no : (p : List ℕ) (c : ℕ) → (c == 45) ≡ false → word_step (state_of p) c ≡ state_of (p ++ c ∷ [])
step-no p c e = rw (e, some-append p c, all-append is_lower_byte p c, all-append is_upper_byte p c) refl

step-yes : (p : List ℕ) (c : ℕ) → (c == 45) ≡ true → word_step (state_of p) c ≡ (if is_fragment p then state_of [] else dead_word)
step-yes p c e = rw e (go (is_fragment p))
  where
    go : (f : Bool) → (record { alive = f; some = false; lower = true; upper = true }) ≡ (if f then state_of [] else dead_word)
    go true = refl
    go false = refl

-- a dead scan ends badly
dead-run : (s : Word) (cs : List ℕ) → s.alive ≡ false → word_ok (run word_step s cs) ≡ false
dead-run s [] e = rw e refl
dead-run s (c ∷ cs) e = dead-run (word_step s c) cs (go (c == 45) refl)
  where
    go : (b : Bool) → (c == 45) ≡ b → (word_step s c).alive ≡ false
    go true d = rw (d, e) refl
    go false d = rw (d, e) refl

pub fragments : (text : List ℕ) → list_all is_fragment (slice_split (λ b. b == 45) text) ≡ word_ok (run word_step word_start text)
fragments text = ap (list_all is_fragment) (sym (onto_nil 45 text)) ∙ parts-run word_step word_ok 45 is_fragment state_of dead_word (λ p. refl) step-no step-yes
    (λ cs. dead-run dead_word cs refl) [] text

-- ---- a dead scan

dead_not_ok : (a s l u : Bool) → not (a && (l || u)) ≡ true → (a && (s && (l || u))) ≡ false
dead_not_ok false s l u e = refl
dead_not_ok true s true u e = absurd (cc e)
dead_not_ok true s false true e = absurd (cc e)
dead_not_ok true true false false e = refl
dead_not_ok true false false false e = refl

dead_stays : (a l u p q : Bool) → not (a && (l || u)) ≡ true → not (a && ((l && p) || (u && q))) ≡ true
dead_stays false l u p q e = refl
dead_stays true true u p q e = absurd (cc e)
dead_stays true false true p q e = absurd (cc e)
dead_stays true false false p q e = refl

pub dead_word_not_ok : (s : Word) → word_is_dead s ≡ true → word_ok s ≡ false
dead_word_not_ok s e = dead_not_ok s.alive s.some s.lower s.upper e

pub dead_word_stays : (s : Word) (c : ℕ) → word_is_dead s ≡ true → word_is_dead (word_step s c) ≡ true
dead_word_stays s c e = go (c == 45) refl
  where
    go : (b : Bool) → (c == 45) ≡ b → word_is_dead (word_step s c) ≡ true
    go true d = rw (d, dead_not_ok s.alive s.some s.lower s.upper e) refl
    go false d = rw d (dead_stays s.alive s.lower s.upper (is_lower_byte c) (is_upper_byte c) e)
