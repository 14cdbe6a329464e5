-- A reader answers alike for tokens that begin alike: up to the place where it stops, and at the first token there, or at `@` and the token behind it.
use Rattle.std.proofs.Common.{◌≡◌, refl, sym, ap, ◌∙◌, ℕ, Bool, true, false, List, [], ◌∷◌, ◌++◌, append_assoc, ◌&&◌, if◌then◌else◌, Option, Some, None}
use Rattle.wit_model.specs.Text.{Text}
use Rattle.print_grammar.specs.{Keyword.Keyword, Token.Token, Token.Mark}
use Rattle.print_grammar.specs.Token.Mark.{At}
use Rattle.print_grammar.specs.Token.Token.{Word, Escaped, VersionText, Digits, Quoted, Punctuation}
use Rattle.text_trees.specs.Reading.{Wanted, Reading, Reading.Found, Reading.Refused, then_read, made, behind, begins, behind_mark, if_mark, begins_key, behind_key, if_key, id_in_front, if_id, version_in_front, digits_in_front, quoted_in_front, begins_word, if_word}
use Rattle.text_trees.specs.ReadDeclared.{if_free}
use Rattle.text_trees.specs.Places.{first_alone, window, rest_of, put}

-- ---- windows

first_same : (a b : List Token) → window a ≡ window b → first_alone a ≡ first_alone b
first_same a b e = sym (first_of_window a) ∙ (ap first_alone e ∙ first_of_window b)
  where
    first_of_window : (ts : List Token) → first_alone (window ts) ≡ first_alone ts
    first_of_window [] = refl
    first_of_window (Punctuation At ∷ ts) = refl
    first_of_window (t ∷ ts) = refl

pub window_append : (front a b : List Token) → window a ≡ window b → window (front ++ a) ≡ window (front ++ b)
window_append [] a b e = e
window_append (Punctuation At ∷ []) a b e = ap (λ x. Punctuation At ∷ x) (first_same a b e)
window_append (Punctuation At ∷ t ∷ front) a b e = refl
window_append (t ∷ front) a b e = refl

-- a test looks at no more than the window
abbrev pub Windowed : {B : Type 0} → (List Token → B) → Type 0
Windowed test = (a b : List Token) → window a ≡ window b → test a ≡ test b

-- what looks at the first token alone
pub of_first : {B : Type 0} (test : List Token → B) → ((ts : List Token) → test (first_alone ts) ≡ test ts) → Windowed test
of_first test f a b e = sym (f a) ∙ (ap test (first_same a b e) ∙ f b)

pub begins_windowed : (mark : Mark) → Windowed (begins mark)
begins_windowed mark = of_first (begins mark) (elim [ [] ↦ refl | t ∷ ts ↦ refl ])

pub begins_key_windowed : (keyword : Keyword) → Windowed (begins_key keyword)
begins_key_windowed keyword = of_first (begins_key keyword) (elim [ [] ↦ refl | t ∷ ts ↦ refl ])

begins_word_first : (text : Text) (ts : List Token) → begins_word text (first_alone ts) ≡ begins_word text ts
begins_word_first text [] = refl
begins_word_first text (Word word ∷ ts) = refl
begins_word_first text (t ∷ ts) = refl

begins_word_windowed : (text : Text) → Windowed (begins_word text)
begins_word_windowed text = of_first (begins_word text) (begins_word_first text)

no_front : (front rest : List Token) → [] ≡ front ++ rest → rest ≡ []
no_front [] rest e = sym e
no_front (t ∷ front) rest e = absurd (cc e)

no_window : (ts : List Token) → window ts ≡ [] → ts ≡ []
no_window [] e = refl
no_window (Punctuation At ∷ ts) e = absurd (cc e)
no_window (t ∷ ts) e = absurd (cc e)

-- the same first token
same_first : (other : List Token) (t : Token) (ts : List Token) → window other ≡ window (t ∷ ts) → (us : List Token) × (other ≡ t ∷ us)
same_first [] t ts e = absurd (cc (first_same [] (t ∷ ts) e))
same_first (u ∷ us) t ts e = let f = first_same (u ∷ us) (t ∷ ts) e in (us, cc f)

-- ---- readers

-- A reader answers alike for all tokens that begin as these do.
pub record SteadyAt {X : Type 0} (read : List Token → Reading X) (ts : List Token) (r : Reading X) : Type 0 where
  pub front : List Token
  pub before : ts ≡ front ++ rest_of r
  pub alike : (other : List Token) → window other ≡ window (rest_of r) → read (front ++ other) ≡ put r other

pub record Steady {X : Type 0} (read : List Token → Reading X) : Type 0 where
  pub at : (ts : List Token) → SteadyAt read ts (read ts)

-- the same window as those tokens have
pub same_window : (front rest other : List Token) {ts : List Token} → ts ≡ front ++ rest → window other ≡ window rest → window (front ++ other) ≡ window ts
same_window front rest other e w = window_append front other rest w ∙ ap window (sym e)

module _ {X : Type 0} where
  pub found_steady : {x : X} → Steady (Found x)
  found_steady = record { at = λ ts. record { front = []; before = refl; alike = λ other e. refl } }

  pub refused_steady : {wanted : Wanted} → Steady {X = X} (Refused wanted)
  refused_steady = record { at = λ ts. record { front = []; before = refl; alike = λ other e. refl } }

  then_at : {Y : Type 0} (read : List Token → Reading Y) (f : Y → List Token → Reading X) → ((y : Y) → Steady (f y)) → (ts : List Token) (r : Reading Y) → SteadyAt read ts r
      → SteadyAt (λ ts. then_read (read ts) f) ts (then_read r f)
  unfolding then_read
  then_at read f steady ts (Refused wanted rest) s = record { front = s.front; before = s.before; alike = λ other e. rw (s.alike other e) refl }
  then_at read f steady ts (Found y between) s =
      let t = (steady y).at between in
      let rest = rest_of (f y between) in
      record {
        front = s.front ++ t.front;
        before = s.before ∙ (ap (λ x. s.front ++ x) t.before ∙ sym (append_assoc s.front t.front rest));
        alike = λ other e.
            rw (append_assoc s.front t.front other, s.alike (t.front ++ other) (same_window t.front rest other t.before e)) (t.alike other e);
      }

  pub then_steady : {Y : Type 0} {read : List Token → Reading Y} {f : Y → List Token → Reading X} → Steady read → ((y : Y) → Steady (f y)) → Steady (λ ts. then_read (read ts) f)
  then_steady {read = read} {f = f} s h = record { at = λ ts. then_at read f h ts (read ts) (s.at ts) }

  made_at : {Y : Type 0} (make : Y → X) (read : List Token → Reading Y) (ts : List Token) (r : Reading Y) → SteadyAt read ts r → SteadyAt (λ ts. made make (read ts)) ts (made make r)
  unfolding made
  made_at make read ts (Found y rest) s = record { front = s.front; before = s.before; alike = λ other e. rw (s.alike other e) refl }
  made_at make read ts (Refused wanted rest) s = record { front = s.front; before = s.before; alike = λ other e. rw (s.alike other e) refl }

  pub made_steady : {Y : Type 0} (make : Y → X) {read : List Token → Reading Y} → Steady read → Steady (λ ts. made make (read ts))
  made_steady make {read = read} s = record { at = λ ts. made_at make read ts (read ts) (s.at ts) }

  -- ---- tests

  either_at : (test : List Token → Bool) → Windowed test → (read other : List Token → Reading X) (ts : List Token) (b : Bool) → test ts ≡ b → SteadyAt read ts (read ts)
      → SteadyAt other ts (other ts) → SteadyAt (λ ts. if test ts then read ts else other ts) ts (if b then read ts else other ts)
  either_at test windowed read other ts true h s t = record {
    front = s.front;
    before = s.before;
    alike = λ us e. rw (windowed (s.front ++ us) ts (same_window s.front (rest_of (read ts)) us s.before e) ∙ h) (s.alike us e);
  }
  either_at test windowed read other ts false h s t = record {
    front = t.front;
    before = t.before;
    alike = λ us e. rw (windowed (t.front ++ us) ts (same_window t.front (rest_of (other ts)) us t.before e) ∙ h) (t.alike us e);
  }

  pub either_steady : (test : List Token → Bool) → Windowed test → {read other : List Token → Reading X} → Steady read → Steady other
      → Steady (λ ts. if test ts then read ts else other ts)
  either_steady test windowed {read} {other} s t = record { at = λ ts. either_at test windowed read other ts (test ts) refl (s.at ts) (t.at ts) }

  put_rest : (r : Reading X) {rest : List Token} → rest_of r ≡ rest → r ≡ put r rest
  put_rest (Found x rest) e = ap (Found x) e
  put_rest (Refused wanted rest) e = ap (Refused wanted) e

  -- what reads behind the first token
  pub behind_steady : {read : List Token → Reading X} → Steady read → Steady (λ ts. read (behind ts))
  behind_steady {read} s = record { at = go }
    where
      go : (ts : List Token) → SteadyAt (λ ts. read (behind ts)) ts (read (behind ts))
      go [] =
          let t = s.at [] in
          let ends = no_front t.front (rest_of (read [])) t.before in
          record {
            front = [];
            before = sym ends;
            alike = λ other e. rw (no_window other (e ∙ ap window ends)) (put_rest (read []) ends);
          }
      go (u ∷ ts) = let t = s.at ts in record { front = u ∷ t.front; before = ap (λ x. u ∷ x) t.before; alike = t.alike }

  -- ---- marks, keywords, words

  pub mark_steady : (mark : Mark) {read : List Token → Reading X} → Steady read → Steady (behind_mark mark read)
  unfolding behind_mark
  mark_steady mark s = either_steady (begins mark) (begins_windowed mark) (behind_steady s) refused_steady

  pub if_mark_steady : (mark : Mark) {read other : List Token → Reading X} → Steady read → Steady other → Steady (if_mark mark read other)
  unfolding if_mark
  if_mark_steady mark s t = either_steady (begins mark) (begins_windowed mark) (behind_steady s) t

  pub key_steady : (keyword : Keyword) {read : List Token → Reading X} → Steady read → Steady (behind_key keyword read)
  unfolding behind_key
  key_steady keyword s = either_steady (begins_key keyword) (begins_key_windowed keyword) (behind_steady s) refused_steady

  pub if_key_steady : (keyword : Keyword) {read other : List Token → Reading X} → Steady read → Steady other → Steady (if_key keyword read other)
  unfolding if_key
  if_key_steady keyword s t = either_steady (begins_key keyword) (begins_key_windowed keyword) (behind_steady s) t

  pub if_word_steady : (text : Text) {read other : List Token → Reading X} → Steady read → Steady other → Steady (if_word text read other)
  unfolding if_word
  if_word_steady text s t = either_steady (begins_word text) (begins_word_windowed text) (behind_steady s) t

  pub if_free_steady : (free : Bool) (text : Text) {read other : List Token → Reading X} → Steady read → Steady other → Steady (if_free free text read other)
  unfolding if_free
  if_free_steady free text s t =
      either_steady (λ ts. free && begins_word text ts) (λ a b e. ap (λ x. free && x) (begins_word_windowed text a b e)) (behind_steady s) t

-- ---- one token

-- a token taken for something, or what is wanted
abbrev pub taken_as : {X : Type 0} → Wanted → Token → List Token → Option X → Reading X
taken_as wanted t ts (Some x) = Found x ts
taken_as wanted t ts None = Refused wanted (t ∷ ts)

-- what a token is taken for by a function
abbrev pub taken : {X : Type 0} → (Token → Option X) → Wanted → List Token → Reading X
taken pick wanted [] = Refused wanted []
taken pick wanted (t ∷ ts) = taken_as wanted t ts (pick t)

module _ {X : Type 0} (pick : Token → Option X) (wanted : Wanted) where
  taken_one : (t : Token) (ts : List Token) (o : Option X) → pick t ≡ o → SteadyAt (taken pick wanted) (t ∷ ts) (taken_as wanted t ts o)
  taken_one t ts (Some x) h = record { front = t ∷ []; before = refl; alike = λ other e. ap (taken_as wanted t other) h }
  taken_one t ts None h = record {
    front = [];
    before = refl;
    alike = λ other e. let (us, same) = same_first other t ts e in rw same (ap (taken_as wanted t us) h);
  }

  taken_at : (ts : List Token) → SteadyAt (taken pick wanted) ts (taken pick wanted ts)
  taken_at [] = record { front = []; before = refl; alike = λ other e. rw (no_window other e) refl }
  taken_at (t ∷ ts) = taken_one t ts (pick t) refl

  pub taken_steady : Steady (taken pick wanted)
  taken_steady = record { at = taken_at }

-- a reader that answers as a steady one does
pub steady_as : {X : Type 0} {read : List Token → Reading X} (more : List Token → Reading X) → ((ts : List Token) → read ts ≡ more ts) → Steady more → Steady read
steady_as {read = read} more same s = record {
  at = λ ts.
      let t = s.at ts in
      rw (same ts) (record { front = t.front; before = t.before; alike = λ other e. same (t.front ++ other) ∙ t.alike other e });
}

abbrev id_of : Token → Option Text
id_of (Word label) = Some label
id_of (Escaped label) = Some label
id_of t = None

id_taken : (ts : List Token) → id_in_front ts ≡ taken id_of Wanted.AnId ts
unfolding id_in_front
id_taken [] = refl
id_taken (Word label ∷ ts) = refl
id_taken (t ∷ ts) = refl

pub id_steady : Steady id_in_front
id_steady = steady_as (taken id_of Wanted.AnId) id_taken (taken_steady id_of Wanted.AnId)

abbrev version_of : Token → Option Text
version_of (VersionText text) = Some text
version_of t = None

version_taken : (ts : List Token) → version_in_front ts ≡ taken version_of Wanted.AVersion ts
unfolding version_in_front
version_taken [] = refl
version_taken (VersionText text ∷ ts) = refl
version_taken (t ∷ ts) = refl

pub version_steady : Steady version_in_front
version_steady = steady_as (taken version_of Wanted.AVersion) version_taken (taken_steady version_of Wanted.AVersion)

abbrev digits_of : Token → Option ℕ
digits_of (Digits n) = Some n
digits_of t = None

digits_taken : (ts : List Token) → digits_in_front ts ≡ taken digits_of Wanted.ANumber ts
unfolding digits_in_front
digits_taken [] = refl
digits_taken (Digits n ∷ ts) = refl
digits_taken (t ∷ ts) = refl

pub digits_steady : Steady digits_in_front
digits_steady = steady_as (taken digits_of Wanted.ANumber) digits_taken (taken_steady digits_of Wanted.ANumber)

abbrev quoted_of : Token → Option (List ℕ)
quoted_of (Quoted characters) = Some characters
quoted_of t = None

quoted_taken : (ts : List Token) → quoted_in_front ts ≡ taken quoted_of Wanted.AString ts
unfolding quoted_in_front
quoted_taken [] = refl
quoted_taken (Quoted characters ∷ ts) = refl
quoted_taken (t ∷ ts) = refl

pub quoted_steady : Steady quoted_in_front
quoted_steady = steady_as (taken quoted_of Wanted.AString) quoted_taken (taken_steady quoted_of Wanted.AString)

-- whether an id stands in front
abbrev begins_id : List Token → Bool
begins_id (Word label ∷ ts) = true
begins_id (Escaped label ∷ ts) = true
begins_id ts = false

begins_id_first : (ts : List Token) → begins_id (first_alone ts) ≡ begins_id ts
begins_id_first [] = refl
begins_id_first (Word label ∷ ts) = refl
begins_id_first (t ∷ ts) = refl

if_id_split : {X : Type 0} (read_on : Text → List Token → Reading X) (other : List Token → Reading X) (ts : List Token)
    → if_id read_on other ts ≡ (if begins_id ts then then_read (id_in_front ts) read_on else other ts)
unfolding if_id id_in_front then_read
if_id_split read_on other [] = refl
if_id_split read_on other (Word label ∷ ts) = refl
if_id_split read_on other (t ∷ ts) = refl

pub if_id_steady : {X : Type 0} {read_on : Text → List Token → Reading X} {other : List Token → Reading X} → ((name : Text) → Steady (read_on name)) → Steady other
    → Steady (if_id read_on other)
if_id_steady {read_on = read_on} {other = other} s t =
    steady_as (λ ts. if begins_id ts then then_read (id_in_front ts) read_on else other ts) (if_id_split read_on other)
    (either_steady begins_id (of_first begins_id begins_id_first) (then_steady id_steady s) t)
