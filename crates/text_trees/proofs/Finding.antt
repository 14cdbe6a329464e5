-- What readers find, by the steps that they are made of, and by lists.
use Rattle.std.proofs.Common.{◌≡◌, refl, sym, subst, ℕ, Bool, true, false, List, [], ◌∷◌, zero, suc, if◌then◌else◌, ◌⊎◌, inl, inr, ◌&&◌}
use Rattle.base_lemmas.proofs.Bools.{left_of, right_of}
use Rattle.wit_model.specs.Text.{Text}
use Rattle.print_grammar.specs.{Keyword.Keyword, Token.Token, Token.Mark, Grammar.IsId, Grammar.Repeated, Grammar.CommaList}
use Rattle.print_grammar.specs.{Grammar.IsId.plain, Grammar.IsId.with_percent, Grammar.Repeated.closed, Grammar.Repeated.again}
use Rattle.print_grammar.specs.Grammar.CommaList.{last, last_with_comma, next}
use Rattle.print_grammar.specs.Token.Mark.{Comma}
use Rattle.print_grammar.specs.Token.Token.{Word, Escaped, Key, VersionText, Digits, Quoted, Punctuation}
use Rattle.text_trees.specs.{Grammar.Documentation, ReadDeclared.if_free}
use Rattle.text_trees.specs.Reading.{Wanted, Reading, Reading.Found, Reading.Refused, then_read, made, behind, begins, behind_mark, if_mark, begins_key, behind_key, if_key, id_in_front, if_id, version_in_front, digits_in_front, quoted_in_front, begins_word, if_word, things_in_front, until, repeated, more_in_front, thing_and_more, listed_in_front, listed}
use Rattle.text_trees.proofs.Fronts.{begins_is, begins_key_is, begins_word_is}

-- ---- one reading

-- What is found, with what follows it, is so.
pub record Finds {X : Type 0} (r : Reading X) (P : X → List Token → Type 0) : Type 0 where
  pub found : (x : X) (rest : List Token) → r ≡ Found x rest → P x rest

pub finds : {X : Type 0} {x : X} {rest : List Token} {P : X → List Token → Type 0} → P x rest → Finds (Found x rest) P
finds {x = x} {rest = rest} {P = P} p = record { found = λ y after e. subst (λ t. P y t) (cc e) (subst (λ y. P y rest) (cc e) p) }

pub refuses : {X : Type 0} {wanted : Wanted} {rest : List Token} {P : X → List Token → Type 0} → Finds (Refused wanted rest) P
refuses = record { found = λ y after e. absurd (cc e) }

then_finds : {X Y : Type 0} (r : Reading X) {read_on : X → List Token → Reading Y} {P : X → List Token → Type 0} {Q : Y → List Token → Type 0} → Finds r P
    → ((x : X) (rest : List Token) → P x rest → Finds (read_on x rest) Q) → Finds (then_read r read_on) Q
unfolding then_read
then_finds (Found x rest) f g = g x rest (f.found x rest refl)
then_finds (Refused wanted rest) f g = refuses

made_finds : {X Y : Type 0} (f : X → Y) (r : Reading X) {P : Y → List Token → Type 0} → Finds r (λ x rest. P (f x) rest) → Finds (made f r) P
unfolding made
made_finds f (Found x rest) h = finds (h.found x rest refl)
made_finds f (Refused wanted rest) h = refuses

-- what is found is found by another relation too
finds_as : {X : Type 0} {r : Reading X} {P Q : X → List Token → Type 0} → Finds r P → ((x : X) (rest : List Token) → P x rest → Q x rest) → Finds r Q
finds_as f g = record { found = λ x rest e. g x rest (f.found x rest e) }

-- a choice by a test, of which each side knows the test's value
pub either_finds : {X : Type 0} (b : Bool) {x y : Reading X} {P : X → List Token → Type 0} → (b ≡ true → Finds x P) → (b ≡ false → Finds y P) → Finds (if b then x else y) P
either_finds true f g = f refl
either_finds false f g = g refl

-- tokens that are others
pub as_begun : {X : Type 0} (Q : List Token → X → List Token → Type 0) {r : Reading X} {ts us : List Token} → ts ≡ us → Finds r (Q us) → Finds r (Q ts)
as_begun Q {r = r} e f = subst (λ ts. Finds r (Q ts)) (sym e) f

-- ---- a reader

-- What a reader finds is there by a relation.
pub record Sound {X : Type 0} (Reads : List Token → X → List Token → Type 0) (read : List Token → Reading X) : Type 0 where
  pub at : (ts : List Token) → Finds (read ts) (Reads ts)

-- what is found is there
pub is_there : {X : Type 0} {Reads : List Token → X → List Token → Type 0} {read : List Token → Reading X} → Sound Reads read
    → (ts rest : List Token) (x : X) → read ts ≡ Found x rest → Reads ts x rest
is_there sound ts rest x e = (sound.at ts).found x rest e

-- a reader's relation, by what it finds
pub sound_of : {X : Type 0} {Reads : List Token → X → List Token → Type 0} {read : List Token → Reading X}
    → ((ts rest : List Token) (x : X) → read ts ≡ Found x rest → Reads ts x rest) → Sound Reads read
sound_of f = record { at = λ ts. record { found = λ x rest e. f ts rest x e } }

module _ {X : Type 0} {Q : List Token → X → List Token → Type 0} where
  pub found_sound : {x : X} → ((ts : List Token) → Q ts x ts) → Sound Q (Found x)
  found_sound f = record { at = λ ts. finds (f ts) }

  pub refused_sound : {wanted : Wanted} → Sound Q (Refused wanted)
  refused_sound = record { at = λ ts. refuses }

  pub then_sound : {Y : Type 0} {R : List Token → Y → List Token → Type 0} {read : List Token → Reading Y} {read_on : Y → List Token → Reading X} → Sound R read
      → ((y : Y) → Sound (λ between x rest. (ts : List Token) → R ts y between → Q ts x rest) (read_on y)) → Sound Q (λ ts. then_read (read ts) read_on)
  then_sound {read = read} f g =
      record { at = λ ts. then_finds (read ts) (f.at ts) (λ y between r. finds_as ((g y).at between) (λ x rest q. q ts r)) }

  pub made_sound : {Y : Type 0} (make : Y → X) {read : List Token → Reading Y} → Sound (λ ts y rest. Q ts (make y) rest) read → Sound Q (λ ts. made make (read ts))
  made_sound make {read = read} f = record { at = λ ts. made_finds make (read ts) (f.at ts) }

  pub sound_as : {R : List Token → X → List Token → Type 0} {read : List Token → Reading X} → Sound R read
      → ((ts rest : List Token) (x : X) → R ts x rest → Q ts x rest) → Sound Q read
  sound_as f g = record { at = λ ts. finds_as (f.at ts) (λ x rest r. g ts rest x r) }

  -- a reader that looks at the documentation in front of what it reads
  pub by_docs_sound : (docs : Documentation) (read : List Text → List Token → Reading X)
      → ((lines : List Text) → Sound (λ ts x rest. docs ts ≡ lines → Q ts x rest) (read lines)) → Sound Q (λ ts. read (docs ts) ts)
  by_docs_sound docs read f = record { at = λ ts. finds_as ((f (docs ts)).at ts) (λ x rest q. q refl) }

  -- the same, where it makes no difference which documentation it is
  pub any_docs_sound : (docs : Documentation) (read : List Text → List Token → Reading X) → ((lines : List Text) → Sound Q (read lines)) → Sound Q (λ ts. read (docs ts) ts)
  any_docs_sound docs read f = record { at = λ ts. (f (docs ts)).at ts }

  -- ---- marks, keywords, words

  pub mark_sound : (mark : Mark) {read_on : List Token → Reading X} → Sound (λ rest. Q (Punctuation mark ∷ rest)) read_on → Sound Q (behind_mark mark read_on)
  unfolding behind_mark
  mark_sound mark f = record { at = λ ts. either_finds (begins mark ts) (λ h. as_begun Q (begins_is mark ts h) (f.at (behind ts))) (λ h. refuses) }

  pub if_mark_sound : (mark : Mark) {read_on other : List Token → Reading X} → Sound (λ rest. Q (Punctuation mark ∷ rest)) read_on → Sound Q other
      → Sound Q (if_mark mark read_on other)
  unfolding if_mark
  if_mark_sound mark f g = record { at = λ ts. either_finds (begins mark ts) (λ h. as_begun Q (begins_is mark ts h) (f.at (behind ts))) (λ h. g.at ts) }

  pub key_sound : (keyword : Keyword) {read_on : List Token → Reading X} → Sound (λ rest. Q (Key keyword ∷ rest)) read_on → Sound Q (behind_key keyword read_on)
  unfolding behind_key
  key_sound keyword f = record { at = λ ts. either_finds (begins_key keyword ts) (λ h. as_begun Q (begins_key_is keyword ts h) (f.at (behind ts))) (λ h. refuses) }

  pub if_key_sound : (keyword : Keyword) {read_on other : List Token → Reading X} → Sound (λ rest. Q (Key keyword ∷ rest)) read_on → Sound Q other
      → Sound Q (if_key keyword read_on other)
  unfolding if_key
  if_key_sound keyword f g = record { at = λ ts. either_finds (begins_key keyword ts) (λ h. as_begun Q (begins_key_is keyword ts h) (f.at (behind ts))) (λ h. g.at ts) }

  pub if_word_sound : (text : Text) {read_on other : List Token → Reading X} → Sound (λ rest. Q (Word text ∷ rest)) read_on → Sound Q other
      → Sound Q (if_word text read_on other)
  unfolding if_word
  if_word_sound text f g = record { at = λ ts. either_finds (begins_word text ts) (λ h. as_begun Q (begins_word_is text ts h) (f.at (behind ts))) (λ h. g.at ts) }

  pub if_free_sound : (free : Bool) (text : Text) {read_on other : List Token → Reading X} → (free ≡ true → Sound (λ rest. Q (Word text ∷ rest)) read_on)
      → Sound Q other → Sound Q (if_free free text read_on other)
  unfolding if_free
  if_free_sound free text f g = record {
    at = λ ts.
        either_finds (free && begins_word text ts)
        (λ h. as_begun Q (begins_word_is text ts (right_of free _ h)) ((f (left_of free _ h)).at (behind ts))) (λ h. g.at ts);
  }

  -- ---- names, versions, numbers, strings

  pub id_sound : {read_on : Text → List Token → Reading X} → ((t : Token) (label : Text) → IsId t label → Sound (λ rest. Q (t ∷ rest)) (read_on label))
      → Sound Q (λ ts. then_read (id_in_front ts) read_on)
  unfolding id_in_front then_read
  id_sound {read_on} f = record { at = go }
    where
      go : (ts : List Token) → Finds (then_read (id_in_front ts) read_on) (Q ts)
      go (Word label ∷ ts) = (f (Word label) label plain).at ts
      go (Escaped label ∷ ts) = (f (Escaped label) label with_percent).at ts
      go _ = refuses

  pub if_id_sound : {read_on : Text → List Token → Reading X} {other : List Token → Reading X}
      → ((t : Token) (label : Text) → IsId t label → Sound (λ rest. Q (t ∷ rest)) (read_on label)) → Sound Q other → Sound Q (if_id read_on other)
  unfolding if_id
  if_id_sound {read_on} {other} f g = record { at = go }
    where
      go : (ts : List Token) → Finds (if_id read_on other ts) (Q ts)
      go (Word label ∷ ts) = (f (Word label) label plain).at ts
      go (Escaped label ∷ ts) = (f (Escaped label) label with_percent).at ts
      go ts = g.at ts

  pub either_sound : (test : List Token → Bool) {read other : List Token → Reading X} → Sound Q read → Sound Q other
      → Sound Q (λ ts. if test ts then read ts else other ts)
  either_sound test f g = record { at = λ ts. either_finds (test ts) (λ h. f.at ts) (λ h. g.at ts) }

  pub version_sound : {read_on : Text → List Token → Reading X} → ((text : Text) → Sound (λ rest. Q (VersionText text ∷ rest)) (read_on text))
      → Sound Q (λ ts. then_read (version_in_front ts) read_on)
  unfolding version_in_front then_read
  version_sound {read_on} f = record { at = go }
    where
      go : (ts : List Token) → Finds (then_read (version_in_front ts) read_on) (Q ts)
      go (VersionText text ∷ ts) = (f text).at ts
      go _ = refuses

  pub digits_sound : {read_on : ℕ → List Token → Reading X} → ((n : ℕ) → Sound (λ rest. Q (Digits n ∷ rest)) (read_on n))
      → Sound Q (λ ts. then_read (digits_in_front ts) read_on)
  unfolding digits_in_front then_read
  digits_sound {read_on} f = record { at = go }
    where
      go : (ts : List Token) → Finds (then_read (digits_in_front ts) read_on) (Q ts)
      go (Digits n ∷ ts) = (f n).at ts
      go _ = refuses

  pub quoted_sound : {read_on : List ℕ → List Token → Reading X} → ((characters : List ℕ) → Sound (λ rest. Q (Quoted characters ∷ rest)) (read_on characters))
      → Sound Q (λ ts. then_read (quoted_in_front ts) read_on)
  unfolding quoted_in_front then_read
  quoted_sound {read_on} f = record { at = go }
    where
      go : (ts : List Token) → Finds (then_read (quoted_in_front ts) read_on) (Q ts)
      go (Quoted characters ∷ ts) = (f characters).at ts
      go _ = refuses

-- an id, and nothing read on
pub id_alone : {Q : List Token → Text → List Token → Type 0} → ((t : Token) (label : Text) → IsId t label → (rest : List Token) → Q (t ∷ rest) label rest)
    → Sound Q id_in_front
unfolding id_in_front
id_alone {Q} f = record { at = go }
  where
    go : (ts : List Token) → Finds (id_in_front ts) (Q ts)
    go (Word label ∷ ts) = finds (f (Word label) label plain ts)
    go (Escaped label ∷ ts) = finds (f (Escaped label) label with_percent ts)
    go _ = refuses

-- ---- lists

-- Things are found one after the other, by a relation that holds at the end and in front of a further thing.
things_sound : {X : Type 0} {ends : List Token → Bool} {read : List Token → Reading X} {Reads : List Token → X → List Token → Type 0}
    (Q : List Token → List X → List Token → Type 0) → Sound Reads read → ((ts : List Token) → ends ts ≡ true → Q ts [] ts)
    → ((ts between rest : List Token) (x : X) (xs : List X) → Reads ts x between → Q between xs rest → Q ts (x ∷ xs) rest)
    → (n : ℕ) → Sound Q (things_in_front ends read n)
unfolding things_in_front
things_sound Q sound none more zero = refused_sound
things_sound {ends = ends} {read = read} Q sound none more (suc n) = record {
  at = λ ts.
      either_finds (ends ts) (λ h. finds (none ts h)) (λ h.
      then_finds (read ts) (sound.at ts) (λ x between r.
      let loop = things_sound {ends = ends} Q sound none more n in made_finds _ _ (finds_as (loop.at between) (λ xs rest q. more ts between rest x xs r q))));
}

pub until_sound : {X : Type 0} {ends : List Token → Bool} {read : List Token → Reading X} {Reads : List Token → X → List Token → Type 0}
    (Q : List Token → List X → List Token → Type 0) → Sound Reads read → ((ts : List Token) → ends ts ≡ true → Q ts [] ts)
    → ((ts between rest : List Token) (x : X) (xs : List X) → Reads ts x between → Q between xs rest → Q ts (x ∷ xs) rest) → Sound Q (until ends read)
unfolding until
until_sound Q sound none more = record { at = λ ts. (things_sound Q sound none more _).at ts }

pub repeated_sound : {X : Type 0} {read : List Token → Reading X} {Reads : List Token → X → List Token → Type 0} {close : Mark} → Sound Reads read
    → Sound (Repeated Reads (Punctuation close)) (repeated read close)
unfolding repeated
repeated_sound {X} {read} {Reads} {close} sound = then_sound ended (λ xs. record { at = λ ts. finds (λ us q. q) })
  where
    Ended : List Token → List X → List Token → Type 0
    Ended ts xs rest = Repeated Reads (Punctuation close) ts xs (behind rest)

    ended : Sound Ended (until (begins close) read)
    ended =
        until_sound Ended sound (λ ts h. subst (λ us. Repeated Reads (Punctuation close) us [] (behind ts)) (sym (begins_is close ts h)) closed)
        (λ ts between rest x xs r q. again r q)

-- what tokens begin with by whether more follows: a comma, or the closing mark, perhaps behind a comma
abbrev pub MoreSays : Mark → List Token → Bool → List Token → Type 0
MoreSays close ts true rest = ts ≡ Punctuation Comma ∷ rest
MoreSays close ts false rest = (ts ≡ Punctuation close ∷ rest) ⊎ (ts ≡ Punctuation Comma ∷ Punctuation close ∷ rest)

pub more_sound : (close : Mark) → Sound (MoreSays close) (more_in_front close)
more_sound close =
    if_mark_sound _ (found_sound (λ ts. inl refl)) (mark_sound _ (if_mark_sound _ (found_sound (λ ts. inr refl)) (found_sound (λ ts. refl))))

listed_in_front_sound : {X : Type 0} {read : List Token → Reading X} {Reads : List Token → X → List Token → Type 0} {close : Mark} → Sound Reads read
    → (n : ℕ) → Sound (CommaList Reads (Punctuation close)) (listed_in_front read close n)
unfolding listed_in_front
listed_in_front_sound sound zero = refused_sound
listed_in_front_sound {X} {read} {Reads} {close} sound (suc n) = record {
  at = λ ts.
      then_finds (read ts) (sound.at ts) (λ x between r. then_finds _ ((more_sound close).at between) (λ more rest m. go (listed_in_front_sound {close = close} sound n) ts x between rest more r m));
}
  where
    go : Sound (CommaList Reads (Punctuation close)) (listed_in_front read close n) → (ts : List Token) (x : X) (between rest : List Token) (more : Bool) → Reads ts x between
        → MoreSays close between more rest → Finds (thing_and_more x (listed_in_front read close n rest) more rest) (CommaList Reads (Punctuation close) ts)
    go loop ts x between rest true r m = made_finds _ _ (finds_as (loop.at rest) (λ xs after l. next (subst (Reads ts x) m r) l))
    go loop ts x between rest false r (inl m) = finds (last (subst (Reads ts x) m r))
    go loop ts x between rest false r (inr m) = finds (last_with_comma (subst (Reads ts x) m r))

pub listed_sound : {X : Type 0} {read : List Token → Reading X} {Reads : List Token → X → List Token → Type 0} {close : Mark} → Sound Reads read
    → Sound (CommaList Reads (Punctuation close)) (listed read close)
unfolding listed
listed_sound sound = record { at = λ ts. (listed_in_front_sound sound _).at ts }
