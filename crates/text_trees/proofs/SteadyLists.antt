-- Readers of lists answer alike for tokens that begin alike, where what they read is shorter each time.
use Rattle.std.proofs.Common.{◌≡◌, refl, sym, ap, ◌∙◌, ℕ, ◌<◌, ◌+◌, Bool, true, false, List, [], ◌∷◌, ◌++◌, append_assoc, length, length-append, arith, zero, suc, if◌then◌else◌}
use Rattle.print_grammar.specs.{Token.Token, Token.Mark}
use Rattle.text_trees.specs.Reading.{Wanted, Reading, Reading.Found, Reading.Refused, then_read, made, begins, things_in_front, until, repeated, more_in_front, thing_and_more, listed_in_front, listed}
use Rattle.text_trees.specs.Places.{window, rest_of, put}
use Rattle.text_trees.proofs.Steady.{SteadyAt, Steady, Windowed, same_window, begins_windowed, found_steady, then_steady, made_steady, either_steady, behind_steady, if_mark_steady, mark_steady}
use Rattle.text_trees.proofs.Finding.{Sound, sound_of, is_there, then_sound, made_sound, sound_as, MoreSays, more_sound}
use Rattle.print_grammar.specs.Token.Mark.{Comma}

rest_made : {X Y : Type 0} (f : X → Y) (r : Reading X) → rest_of (made f r) ≡ rest_of r
unfolding made
rest_made f (Found x rest) = refl
rest_made f (Refused wanted rest) = refl

put_made : {X Y : Type 0} (f : X → Y) (r : Reading X) (other : List Token) → put (made f r) other ≡ made f (put r other)
unfolding made
put_made f (Found x rest) other = refl
put_made f (Refused wanted rest) other = refl

-- ---- a loop

-- What one round of a loop gives: the last things, or a thing with more behind it.
data Round (X : Type 0) : Type 0 where
  Ends : List X → Round X
  Goes : X → Round X

-- the end of a loop, or a thing in front of what more rounds give
abbrev going_on : {X : Type 0} → Reading (List X) → Round X → List Token → Reading (List X)
going_on more (Ends xs) rest = Found xs rest
going_on more (Goes x) rest = made (λ xs. x ∷ xs) more

-- rounds, as many as the number says at most
looped : {X : Type 0} → (List Token → Reading (Round X)) → ℕ → List Token → Reading (List X)
looped one zero ts = Refused Wanted.AMember ts
looped one (suc n) ts = then_read (one ts) (λ round rest. going_on (looped one n rest) round rest)

-- a round with more behind it leaves fewer tokens
abbrev pub Shrinks : {X : Type 0} → (List Token → Reading X) → Type 0
Shrinks {X} read = (ts rest : List Token) (x : X) → read ts ≡ Found x rest → length rest < length ts

-- A loop answers alike for all tokens that begin as these do, however many rounds it may make.
record LoopSteady {X : Type 0} (one : List Token → Reading (Round X)) (ts : List Token) (r : Reading (List X)) : Type 0 where
  pub front : List Token
  pub before : ts ≡ front ++ rest_of r
  pub alike : (other : List Token) → window other ≡ window (rest_of r) → (m : ℕ) → length (front ++ other) < m → looped one m (front ++ other) ≡ put r other

module _ {X : Type 0} (one : List Token → Reading (Round X)) (steady : Steady one)
    (short : (ts rest : List Token) (x : X) → one ts ≡ Found (Goes x) rest → length rest < length ts) where
  -- the first round, where it ends the loop
  ended : (ts : List Token) (r : Reading (Round X)) (s : SteadyAt one ts r) (after : Reading (List X)) → rest_of r ≡ rest_of after
      → ((other : List Token) (m : ℕ) → one (s.front ++ other) ≡ put r other → looped one (suc m) (s.front ++ other) ≡ put after other) → LoopSteady one ts after
  ended ts r s after same f = record {
    front = s.front;
    before = s.before ∙ ap (λ x. s.front ++ x) same;
    alike = λ other e m l. go other (s.alike other (e ∙ ap window (sym same))) m l;
  }
    where
      go : (other : List Token) → one (s.front ++ other) ≡ put r other → (m : ℕ) → length (s.front ++ other) < m → looped one m (s.front ++ other) ≡ put after other
      go other a zero l = absurd (omega (arith, l))
      go other a (suc m) l = f other m a

  again_alike : (n : ℕ) (ts between : List Token) (x : X) (s : SteadyAt one ts (Found (Goes x) between)) (t : LoopSteady one between (looped one n between))
      → length between < length ts → (other : List Token) → window other ≡ window (rest_of (looped one n between)) → (m : ℕ) → length ((s.front ++ t.front) ++ other) < m
      → looped one m ((s.front ++ t.front) ++ other) ≡ put (made (λ xs. x ∷ xs) (looped one n between)) other
  unfolding looped then_read
  again_alike n ts between x s t shorter other e zero k = absurd (omega (arith, k))
  again_alike n ts between x s t shorter other e (suc m) k =
      let first = s.alike (t.front ++ other) (same_window t.front (rest_of (looped one n between)) other t.before e) in
      let all : length ts ≡ length s.front + length between = ap length s.before ∙ length-append s.front between in
      let some : length (s.front ++ (t.front ++ other)) ≡ length s.front + length (t.front ++ other) = length-append s.front (t.front ++ other) in
      let whole : length ((s.front ++ t.front) ++ other) ≡ length (s.front ++ (t.front ++ other)) = ap length (append_assoc s.front t.front other) in
      let fewer : length (t.front ++ other) < m = omega (arith, shorter, all, some, whole, k) in
      rw (append_assoc s.front t.front other, first) (ap (made (λ xs. x ∷ xs)) (t.alike other e m fewer) ∙ sym (put_made (λ xs. x ∷ xs) (looped one n between) other))

  loop_step : (n : ℕ) (ts : List Token) (r : Reading (Round X)) → one ts ≡ r → SteadyAt one ts r → length ts < suc n
      → ((us : List Token) → length us < n → LoopSteady one us (looped one n us)) → LoopSteady one ts (then_read r (λ round rest. going_on (looped one n rest) round rest))
  unfolding looped then_read
  loop_step n ts (Refused wanted rest) h s l loop = ended ts (Refused wanted rest) s (Refused wanted rest) refl (λ other m a. rw a refl)
  loop_step n ts (Found (Ends xs) rest) h s l loop = ended ts (Found (Ends xs) rest) s (Found xs rest) refl (λ other m a. rw a refl)
  loop_step n ts (Found (Goes x) between) h s l loop =
      let shorter = short ts between x h in
      let t = loop between (omega (arith, shorter, l)) in
      let rest = rest_of (looped one n between) in
      let same = rest_made (λ xs. x ∷ xs) (looped one n between) in
      record {
        front = s.front ++ t.front;
        before = s.before ∙ (ap (λ us. s.front ++ us) (t.before ∙ ap (λ us. t.front ++ us) (sym same)) ∙ sym (append_assoc s.front t.front _));
        alike = λ other e m k. again_alike n ts between x s t shorter other (e ∙ ap window same) m k;
      }

  loop_at : (n : ℕ) (ts : List Token) → length ts < n → LoopSteady one ts (looped one n ts)
  unfolding looped
  loop_at zero ts l = absurd (omega (arith, l))
  loop_at (suc n) ts l = loop_step n ts (one ts) refl (steady.at ts) l (λ us k. loop_at n us k)

-- ---- things, one after the other

module _ {X : Type 0} {read : List Token → Reading X} (steady : Steady read) (short : Shrinks read) where
  module _ (ends : List Token → Bool) (windowed : Windowed ends) where
    one_thing : List Token → Reading (Round X)
    one_thing ts = if ends ts then Found (Ends []) ts else made Goes (read ts)

    thing_steady : Steady one_thing
    unfolding one_thing
    thing_steady = either_steady ends windowed found_steady (made_steady Goes steady)

    goes_made : (r : Reading X) (x : X) (rest : List Token) → made Goes r ≡ Found (Goes x) rest → r ≡ Found x rest
    unfolding made
    goes_made (Found y after) x rest e = cc e
    goes_made (Refused wanted after) x rest e = absurd (cc e)

    thing_shorter : (ts rest : List Token) (x : X) → one_thing ts ≡ Found (Goes x) rest → length rest < length ts
    unfolding one_thing
    thing_shorter ts rest x e = go (ends ts) e
      where
        go : (b : Bool) → (if b then Found (Ends []) ts else made Goes (read ts)) ≡ Found (Goes x) rest → length rest < length ts
        go true e = absurd (cc e)
        go false e = short ts rest x (goes_made (read ts) x rest e)

    as_looped : (n : ℕ) (ts : List Token) → things_in_front ends read n ts ≡ looped one_thing n ts
    unfolding things_in_front looped one_thing then_read made
    as_looped zero ts = refl
    as_looped (suc n) ts = go (as_looped n) (ends ts) (read ts)
      where
        go : ((us : List Token) → things_in_front ends read n us ≡ looped one_thing n us) → (b : Bool) (r : Reading X)
            → (if b then Found [] ts else then_read r (λ x rest. made (λ xs. x ∷ xs) (things_in_front ends read n rest)))
            ≡ then_read (if b then Found (Ends []) ts else made Goes r) (λ round rest. going_on (looped one_thing n rest) round rest)
        go loop true r = refl
        go loop false (Found x rest) = ap (made (λ xs. x ∷ xs)) (loop rest)
        go loop false (Refused wanted rest) = refl

    until_at : (ts : List Token) → SteadyAt (until ends read) ts (until ends read ts)
    unfolding until
    until_at ts =
        let s = loop_at one_thing thing_steady thing_shorter (suc (length ts)) ts (omega arith) in
        rw (as_looped (suc (length ts)) ts) (record {
          front = s.front;
          before = s.before;
          alike = λ other e. as_looped _ (s.front ++ other) ∙ s.alike other e _ (omega arith);
        })

    pub until_steady : Steady (until ends read)
    until_steady = record { at = until_at }

  pub repeated_steady : (close : Mark) → Steady (repeated read close)
  unfolding repeated
  repeated_steady close = then_steady (until_steady (begins close) (begins_windowed close)) (λ xs. behind_steady found_steady)

  -- ---- things with commas between

  module _ (close : Mark) where
    abbrev after_thing : X → Bool → Round X
    after_thing x true = Goes x
    after_thing x false = Ends (x ∷ [])

    one_listed : List Token → Reading (Round X)
    one_listed ts = then_read (read ts) (λ x rest. made (after_thing x) (more_in_front close rest))

    listed_one_steady : Steady one_listed
    unfolding one_listed
    listed_one_steady =
        then_steady steady (λ x. made_steady (after_thing x) (if_mark_steady close found_steady (mark_steady Comma (if_mark_steady close found_steady found_steady))))

    -- what a round says of lengths
    Shorter : List Token → Round X → List Token → Type 0
    Shorter ts round rest = (x : X) → round ≡ Goes x → length rest < length ts

    listed_one_shorter : Sound Shorter one_listed
    unfolding one_listed Shorter
    listed_one_shorter =
        then_sound short_sound (λ x. made_sound (after_thing x) (sound_as (more_sound close) (λ between rest more m ts h y e. shorter x between rest more m ts h y e)))
      where
        short_sound : Sound (λ ts x rest. length rest < length ts) read
        short_sound = sound_of (λ ts rest x e. short ts rest x e)

        shorter : (x : X) (between rest : List Token) (more : Bool) → MoreSays close between more rest → (ts : List Token) → length between < length ts → (y : X)
            → after_thing x more ≡ Goes y → length rest < length ts
        shorter x between rest true m ts h y e = let k = ap length m in omega (arith, h, k)
        shorter x between rest false m ts h y e = absurd (cc e)

    listed_as_looped : (n : ℕ) (ts : List Token) → listed_in_front read close n ts ≡ looped one_listed n ts
    unfolding listed_in_front looped one_listed then_read made
    listed_as_looped zero ts = refl
    listed_as_looped (suc n) ts = first (listed_as_looped n) (read ts)
      where
        second : ((us : List Token) → listed_in_front read close n us ≡ looped one_listed n us) → (x : X) (q : Reading Bool)
            → then_read q (λ more rest. thing_and_more x (listed_in_front read close n rest) more rest)
            ≡ then_read (made (after_thing x) q) (λ round rest. going_on (looped one_listed n rest) round rest)
        second loop x (Found true rest) = ap (made (λ xs. x ∷ xs)) (loop rest)
        second loop x (Found false rest) = refl
        second loop x (Refused wanted rest) = refl

        first : ((us : List Token) → listed_in_front read close n us ≡ looped one_listed n us) → (r : Reading X)
            → then_read r (λ x rest. then_read (more_in_front close rest) (λ more rest. thing_and_more x (listed_in_front read close n rest) more rest))
            ≡ then_read (then_read r (λ x rest. made (after_thing x) (more_in_front close rest))) (λ round rest. going_on (looped one_listed n rest) round rest)
        first loop (Found x between) = second loop x (more_in_front close between)
        first loop (Refused wanted rest) = refl

    listed_at : (ts : List Token) → SteadyAt (listed read close) ts (listed read close ts)
    unfolding listed Shorter
    listed_at ts =
        let s = loop_at one_listed listed_one_steady (λ us rest x e. is_there listed_one_shorter us rest (Goes x) e x refl) (suc (length ts)) ts (omega arith) in
        rw (listed_as_looped (suc (length ts)) ts) (record {
          front = s.front;
          before = s.before;
          alike = λ other e. listed_as_looped _ (s.front ++ other) ∙ s.alike other e _ (omega arith);
        })

    pub listed_steady : Steady (listed read close)
    listed_steady = record { at = listed_at }
