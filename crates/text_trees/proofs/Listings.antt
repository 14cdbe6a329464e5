-- Loops over lists with commas between.
use Rattle.std.proofs.Common.{◌≡◌, refl, ap, sym, ◌∙◌, subst, ℕ, ◌+◌, ◌≤◌, ◌<◌, List, [], ◌∷◌, ◌++◌, map, length, zero, suc, Bool, true, false, arith}
use Rattle.print_grammar.specs.Token.{Token, Mark}
use Rattle.text_trees.specs.declared.front.Tokens.{Tokens}
use Rattle.text_trees.specs.declared.refusal.Refusal.{Refusal}
use Rattle.text_trees.specs.Reading.{Reading, Reading.Found, then_read, with_first, more_in_front, thing_and_more, listed_in_front, listed, made}
use Rattle.text_trees.specs.Seen.{RefusesAs, ahead, count_of}
use Rattle.text_trees.proofs.Ahead.{length_ahead}
use Rattle.text_trees.proofs.Going.{made-refuses, then-refuses}

-- things in front of what is read
abbrev pub prepended : {X : Type 0} → List X → Reading (List X) → Reading (List X)
prepended [] r = r
prepended (x ∷ xs) r = with_first x (prepended xs r)

pub prepended-append : {X : Type 0} (xs : List X) (x : X) (r : Reading (List X)) → prepended (xs ++ x ∷ []) r ≡ prepended xs (with_first x r)
prepended-append [] x r = refl
prepended-append (y ∷ xs) x r = ap (with_first y) (prepended-append xs x r)

pub prepended-found : {X : Type 0} (xs ys : List X) (rest : List Token) → prepended xs (Found ys rest) ≡ Found (xs ++ ys) rest
unfolding made
prepended-found [] ys rest = refl
prepended-found (x ∷ xs) ys rest = ap (with_first x) (prepended-found xs ys rest)

pub prepended-refuses : {X : Type 0} (them : Tokens) (xs : List X) (r : Reading (List X)) (e : Refusal) → RefusesAs them e r → RefusesAs them e (prepended xs r)
prepended-refuses them [] r e h = h
prepended-refuses them (x ∷ xs) r e h = made-refuses them (λ ys. x ∷ ys) (prepended xs r) e (prepended-refuses them xs r e h)

pub map-append : {T X : Type 0} (view : T → X) (xs : List T) (x : T) → map view (xs ++ x ∷ []) ≡ map view xs ++ view x ∷ []
map-append view [] x = refl
map-append view (y ∷ xs) x = ap (λ r. view y ∷ r) (map-append view xs x)

-- What a loop over a list keeps: what is read in all is what is read from here on, behind the things so far.
pub record Listing {T X : Type 0} (them : Tokens) (read : List Token → Reading X) (close : Mark) (view : T → X) (from at : ℕ) (items : List T) : Type 0 where
  pub fuel : ℕ
  pub same : listed read close (ahead them from) ≡ prepended (map view items) (listed_in_front read close (suc fuel) (ahead them at))
  pub enough : count_of them ≤ at + fuel
  pub within : at ≤ count_of them
  pub passed : from ≤ at

module _ {T X : Type 0} (them : Tokens) (read : List Token → Reading X) (close : Mark) (view : T → X) (from : ℕ) where
  pub listing_begins : from ≤ count_of them → Listing them read close view from from []
  unfolding listed
  listing_begins h = record {
    fuel = length (ahead them from);
    same = refl;
    enough = let e = length_ahead them from in omega (arith, e, h);
    within = h;
    passed = omega arith;
  }

  -- what is read where a thing is found, and what follows it
  step : (fuel at end behind : ℕ) (item : T) (more : Bool) → read (ahead them at) ≡ Found (view item) (ahead them end) → more_in_front close (ahead them end) ≡ Found more (ahead them behind)
      → listed_in_front read close (suc fuel) (ahead them at) ≡ thing_and_more (view item) (listed_in_front read close fuel (ahead them behind)) more (ahead them behind)
  unfolding then_read listed_in_front
  step fuel at end behind item more e f =
      ap (λ r. then_read r (λ x rest. then_read (more_in_front close rest) (λ more rest. thing_and_more x (listed_in_front read close fuel rest) more rest))) e
      ∙ ap (λ r. then_read r (λ more rest. thing_and_more (view item) (listed_in_front read close fuel rest) more rest)) f

  pub listing_goes_on : (at end behind : ℕ) (items : List T) (item : T) (more : Bool) → Listing them read close view from at items
      → read (ahead them at) ≡ Found (view item) (ahead them end) → more_in_front close (ahead them end) ≡ Found more (ahead them behind) → more ≡ true
      → at < end → end < behind → behind ≤ count_of them → (all : List T) → all ≡ items ++ item ∷ [] → Listing them read close view from behind all
  listing_goes_on at end behind items item more l e f m p q r all g = subst (Listing them read close view from behind) (sym g) (go l.fuel refl)
    where
      go : (n : ℕ) → l.fuel ≡ n → Listing them read close view from behind (items ++ item ∷ [])
      go zero h = let k = l.enough in absurd (omega (arith, h, k, p, q, r))
      go (suc n) h = record {
        fuel = n;
        same =
            l.same ∙ ap (prepended (map view items)) (ap (λ m. listed_in_front read close (suc m) (ahead them at)) h
            ∙ step (suc n) at end behind item true e (f ∙ ap (λ b. Found b (ahead them behind)) m))
            ∙ sym (prepended-append (map view items) (view item) (listed_in_front read close (suc n) (ahead them behind)))
            ∙ ap (λ xs. prepended xs (listed_in_front read close (suc n) (ahead them behind))) (sym (map-append view items item));
        enough = let k = l.enough in omega (arith, h, k, p, q, r);
        within = r;
        passed = let k = l.passed in omega (arith, k, p, q);
      }

  pub listing_ends : (at end behind : ℕ) (items : List T) (item : T) (more : Bool) → Listing them read close view from at items
      → read (ahead them at) ≡ Found (view item) (ahead them end) → more_in_front close (ahead them end) ≡ Found more (ahead them behind) → more ≡ false
      → (all : List T) → all ≡ items ++ item ∷ [] → listed read close (ahead them from) ≡ Found (map view all) (ahead them behind)
  listing_ends at end behind items item more l e f m all g =
      l.same ∙ ap (prepended (map view items)) (step l.fuel at end behind item false e (f ∙ ap (λ b. Found b (ahead them behind)) m))
      ∙ prepended-found (map view items) (view item ∷ []) (ahead them behind)
      ∙ ap (λ xs. Found xs (ahead them behind)) (sym (map-append view items item) ∙ ap (map view) (sym g))

  pub listing_refuses : (at : ℕ) (items : List T) → Listing them read close view from at items → (e : Refusal) → RefusesAs them e (read (ahead them at))
      → RefusesAs them e (listed read close (ahead them from))
  unfolding listed_in_front
  listing_refuses at items l e h =
      subst (RefusesAs them e) (sym l.same) (prepended-refuses them (map view items) _ e (then-refuses them (read (ahead them at)) _ e h))

  pub listing_refuses_more : (at end : ℕ) (items : List T) (item : T) → Listing them read close view from at items → read (ahead them at) ≡ Found (view item) (ahead them end)
      → (e : Refusal) → RefusesAs them e (more_in_front close (ahead them end)) → RefusesAs them e (listed read close (ahead them from))
  unfolding then_read listed_in_front
  listing_refuses_more at end items item l f e h =
      subst (RefusesAs them e) (sym (l.same ∙ ap (prepended (map view items))
      (ap (λ r. then_read r (λ x rest. then_read (more_in_front close rest) (λ more rest. thing_and_more x (listed_in_front read close l.fuel rest) more rest))) f)))
      (prepended-refuses them (map view items) _ e (then-refuses them (more_in_front close (ahead them end)) _ e h))
