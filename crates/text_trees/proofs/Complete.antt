-- What is there is found: the steps that readers are made of, and lists.
use Rattle.std.proofs.Common.{◌≡◌, refl, sym, ap, subst, ℕ, ◌<◌, ◌==◌, Bool, true, false, List, [], ◌∷◌, length, arith, zero, suc}
use Rattle.std.specs.List.{list_all}
use Rattle.base_lemmas.proofs.Bools.{left_of, right_of}
use Rattle.base_lemmas.proofs.Numbers.{same-number}
use Rattle.wit_model.specs.Text.{Text}
use Rattle.print_grammar.specs.{Keyword.Keyword, Token.Token, Token.Mark, Grammar.IsId, Grammar.Repeated, Grammar.CommaList}
use Rattle.print_grammar.specs.{Grammar.IsId.plain, Grammar.IsId.with_percent, Grammar.Repeated.closed, Grammar.Repeated.again}
use Rattle.print_grammar.specs.Grammar.CommaList.{last, last_with_comma, next}
use Rattle.print_grammar.specs.Token.Mark.{Comma}
use Rattle.print_grammar.specs.Token.Token.{Punctuation}
use Rattle.text_trees.specs.Reading.{Reading, Reading.Found, Reading.Refused, then_read, made, behind, begins, begins_key, is_mark, mark_number, behind_mark, if_mark, is_key, id_in_front, if_id, things_in_front, until, repeated, more_in_front, listed_in_front, listed}
use Rattle.text_trees.proofs.{Fronts.begins_is, Lengths.Shortens}

-- ---- steps

pub then_gives : {X Y : Type 0} (read_on : X → List Token → Reading Y) {r : Reading X} {x : X} {between rest : List Token} {y : Y} → r ≡ Found x between
    → read_on x between ≡ Found y rest → then_read r read_on ≡ Found y rest
unfolding then_read
then_gives read_on e f = rw e f

pub made_gives : {X Y : Type 0} (make : X → Y) {r : Reading X} {x : X} {rest : List Token} → r ≡ Found x rest → made make r ≡ Found (make x) rest
unfolding made
made_gives make e = rw e refl

pub id_gives : {t : Token} {label : Text} (rest : List Token) → IsId t label → id_in_front (t ∷ rest) ≡ Found label rest
unfolding id_in_front
id_gives rest plain = refl
id_gives rest with_percent = refl

pub if_id_gives : {X : Type 0} (read_on : Text → List Token → Reading X) (other : List Token → Reading X) {t : Token} {label : Text} (rest : List Token) → IsId t label
    → if_id read_on other (t ∷ rest) ≡ read_on label rest
unfolding if_id
if_id_gives read_on other rest plain = refl
if_id_gives read_on other rest with_percent = refl

-- an id is no keyword and no mark
pub id_no_key : (keyword : Keyword) {t : Token} {label : Text} → IsId t label → is_key keyword t ≡ false
id_no_key keyword plain = refl
id_no_key keyword with_percent = refl

pub id_no_mark : (mark : Mark) {t : Token} {label : Text} → IsId t label → is_mark mark t ≡ false
id_no_mark mark plain = refl
id_no_mark mark with_percent = refl

-- ---- lists

-- whether something is found
abbrev pub is_found : {X : Type 0} → Reading X → Bool
is_found (Found x rest) = true
is_found (Refused wanted rest) = false

-- Where nothing is found while a test holds, the test fails where something is found.
test_fails : {X : Type 0} {r : Reading X} {x : X} {rest : List Token} (b : Bool) → (b ≡ true → is_found r ≡ false) → r ≡ Found x rest → b ≡ false
test_fails true shut e = absurd (cc (ap is_found e, shut refl))
test_fails false shut e = refl

-- nothing is found where a test holds
abbrev pub Shut : {X : Type 0} → (List Token → Bool) → (List Token → Reading X) → Type 0
Shut ends read = (ts : List Token) → ends ts ≡ true → is_found (read ts) ≡ false

-- nothing is found where this mark stands
pub shut_at : {X : Type 0} (mark : Mark) (read : List Token → Reading X) → ((rest : List Token) → is_found (read (Punctuation mark ∷ rest)) ≡ false) → Shut (begins mark) read
shut_at mark read f ts h = subst (λ us. is_found (read us) ≡ false) (sym (begins_is mark ts h)) (f (behind ts))

module _ {X : Type 0} (ends : List Token → Bool) (read : List Token → Reading X) where
  pub things_end : (n : ℕ) {ts : List Token} → length ts < n → ends ts ≡ true → things_in_front ends read n ts ≡ Found [] ts
  unfolding things_in_front
  things_end zero l h = absurd (omega (arith, l))
  things_end (suc n) l h = rw h refl

  pub things_step : (n : ℕ) {ts between rest : List Token} {x : X} {xs : List X} → Shut ends read → read ts ≡ Found x between
      → things_in_front ends read n between ≡ Found xs rest → things_in_front ends read (suc n) ts ≡ Found (x ∷ xs) rest
  unfolding things_in_front then_read made
  things_step n {ts} shut e f = rw (test_fails (ends ts) (shut ts) e, e, f) refl

-- tokens that begin with a mark pass the test for it
begins_itself : (mark : Mark) (ts : List Token) → begins mark (Punctuation mark ∷ ts) ≡ true
begins_itself mark ts = same-number (mark_number mark)

-- A comma follows, or a closing mark.
pub data EndsAt (close : Mark) : List Token → Type 0 where
  at_comma : {ts : List Token} → EndsAt close (Punctuation Comma ∷ ts)
  at_close : {ts : List Token} → EndsAt close (Punctuation close ∷ ts)

-- other marks don't follow, and no keyword does
pub ends_no_mark : {close : Mark} {ts : List Token} (mark : Mark) → (mark_number Comma == mark_number mark) ≡ false → (mark_number close == mark_number mark) ≡ false
    → EndsAt close ts → begins mark ts ≡ false
ends_no_mark mark p q at_comma = p
ends_no_mark mark p q at_close = q

pub ends_no_key : {close : Mark} {ts : List Token} (keyword : Keyword) → EndsAt close ts → begins_key keyword ts ≡ false
ends_no_key keyword at_comma = refl
ends_no_key keyword at_close = refl

-- What a relation says of things is what a reader finds, where the test of a thing holds.
module _ {X : Type 0} {Reads : List Token → X → List Token → Type 0} (close : Mark) (read : List Token → Reading X) (fits : X → Bool)
    (short : Shortens Reads) (shut : Shut (begins close) read) where
  module _ (goes_on : List Token → Bool) (at_end : (ts : List Token) → goes_on (Punctuation close ∷ ts) ≡ false)
      (begun : (ts rest : List Token) (x : X) → Reads ts x rest → goes_on ts ≡ false)
      (one : (ts rest : List Token) (x : X) → Reads ts x rest → goes_on rest ≡ false → fits x ≡ true → read ts ≡ Found x rest) where
    -- what stands in front of things goes on with none
    begins_fresh : {ts rest : List Token} {xs : List X} → Repeated Reads (Punctuation close) ts xs rest → goes_on ts ≡ false
    begins_fresh (closed {after}) = at_end after
    begins_fresh (again r m) = begun _ _ _ r

    things-complete : (n : ℕ) {ts rest : List Token} {xs : List X} → Repeated Reads (Punctuation close) ts xs rest → length ts < n → list_all fits xs ≡ true
        → things_in_front (begins close) read n ts ≡ Found xs (Punctuation close ∷ rest)
    things-complete n (closed {after}) l h = things_end (begins close) read n l (begins_itself close after)
    things-complete zero (again r m) l h = absurd (omega (arith, l))
    things-complete (suc n) (again {x} r m) l h =
        let k = short _ _ _ r in
        let more = things-complete n m (omega (arith, k, l)) (right_of (fits x) _ h) in
        things_step (begins close) read n shut (one _ _ _ r (begins_fresh m) (left_of _ _ h)) more

    -- Things up to a closing mark are found, where none begins as tokens do that go on with one.
    pub fresh-complete : {ts rest : List Token} {xs : List X} → Repeated Reads (Punctuation close) ts xs rest → list_all fits xs ≡ true
        → repeated read close ts ≡ Found xs rest
    unfolding repeated until
    fresh-complete {ts} r h = then_gives _ (things-complete (suc (length ts)) r (omega arith) h) refl

  -- Things up to a closing mark are found.
  pub repeated-complete : ((ts rest : List Token) (x : X) → Reads ts x rest → fits x ≡ true → read ts ≡ Found x rest)
      → {ts rest : List Token} {xs : List X} → Repeated Reads (Punctuation close) ts xs rest → list_all fits xs ≡ true → repeated read close ts ≡ Found xs rest
  repeated-complete one = fresh-complete (λ ts. false) (λ ts. refl) (λ ts rest x r. refl) (λ ts rest x r e h. one ts rest x r h)

  module _ (other : (mark_number Comma == mark_number close) ≡ false)
      (one : (ts rest : List Token) (x : X) → Reads ts x rest → EndsAt close rest → fits x ≡ true → read ts ≡ Found x rest) where
    more_at_end : (ts : List Token) → more_in_front close (Punctuation close ∷ ts) ≡ Found false ts
    unfolding if_mark
    more_at_end ts = rw (begins_itself close ts) refl

    more_at_comma_end : (ts : List Token) → more_in_front close (Punctuation Comma ∷ Punctuation close ∷ ts) ≡ Found false ts
    unfolding if_mark behind_mark
    more_at_comma_end ts = rw (other, begins_itself close ts) refl

    more_at_comma : (ts : List Token) → begins close ts ≡ false → more_in_front close (Punctuation Comma ∷ ts) ≡ Found true ts
    unfolding if_mark behind_mark
    more_at_comma ts h = rw (other, h) refl

    -- the first of listed things is found
    pub first_found : {ts rest : List Token} {xs : List X} → CommaList Reads (Punctuation close) ts xs rest → list_all fits xs ≡ true → begins close ts ≡ false
    first_found {ts} (last r) h = test_fails (begins close ts) (shut ts) (one _ _ _ r at_close (left_of _ _ h))
    first_found {ts} (last_with_comma r) h = test_fails (begins close ts) (shut ts) (one _ _ _ r at_comma (left_of _ _ h))
    first_found {ts} (next r l) h = test_fails (begins close ts) (shut ts) (one _ _ _ r at_comma (left_of _ _ h))

    pub listed_in_front-complete : (n : ℕ) {ts rest : List Token} {xs : List X} → CommaList Reads (Punctuation close) ts xs rest → length ts < n → list_all fits xs ≡ true
        → listed_in_front read close n ts ≡ Found xs rest
    unfolding listed_in_front made
    listed_in_front-complete zero r l h = absurd (omega (arith, l))
    listed_in_front-complete (suc n) (last {after} r) l h =
        then_gives _ (one _ _ _ r at_close (left_of _ _ h)) (then_gives _ (more_at_end after) refl)
    listed_in_front-complete (suc n) (last_with_comma {after} r) l h =
        then_gives _ (one _ _ _ r at_comma (left_of _ _ h)) (then_gives _ (more_at_comma_end after) refl)
    listed_in_front-complete (suc n) (next {between} {x} r m) l h =
        let k = short _ _ _ r in
        let others = right_of (fits x) _ h in
        then_gives _ (one _ _ _ r at_comma (left_of _ _ h)) (then_gives _ (more_at_comma between (first_found m others))
        (rw (listed_in_front-complete n m (omega (arith, k, l)) others) refl))

    -- Things with commas between, up to a closing mark, are found.
    pub listed-complete : {ts rest : List Token} {xs : List X} → CommaList Reads (Punctuation close) ts xs rest → list_all fits xs ≡ true → listed read close ts ≡ Found xs rest
    unfolding listed
    listed-complete {ts} r h = listed_in_front-complete (suc (length ts)) r (omega arith) h
