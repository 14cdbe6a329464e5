-- Loops over things up to what ends them.
use Rattle.std.proofs.Common.{◌≡◌, refl, ap, sym, ◌∙◌, subst, ℕ, ◌+◌, ◌≤◌, ◌<◌, List, [], ◌∷◌, ◌++◌, map, length, zero, suc, Bool, true, false, if◌then◌else◌, arith}
use Rattle.std.proofs.lemmas.List.{append-nil}
use Rattle.print_grammar.specs.Token.{Token}
use Rattle.text_trees.specs.declared.front.Tokens.{Tokens}
use Rattle.text_trees.specs.declared.refusal.Refusal.{Refusal}
use Rattle.text_trees.specs.Reading.{Reading, Reading.Found, then_read, with_first, things_in_front, until}
use Rattle.text_trees.specs.Seen.{RefusesAs, ahead, count_of}
use Rattle.text_trees.proofs.Ahead.{length_ahead}
use Rattle.text_trees.proofs.Going.{then-refuses}
use Rattle.text_trees.proofs.Listings.{prepended, prepended-append, prepended-found, prepended-refuses, map-append}

-- What a loop over things keeps: what is read in all is what is read from here on, behind the things so far.
pub record Reaching {T X : Type 0} (them : Tokens) (read : List Token → Reading X) (ends : List Token → Bool) (view : T → X) (from at : ℕ) (items : List T) : Type 0 where
  pub fuel : ℕ
  pub same : until ends read (ahead them from) ≡ prepended (map view items) (things_in_front ends read (suc fuel) (ahead them at))
  pub enough : count_of them ≤ at + fuel
  pub within : at ≤ count_of them
  pub passed : from ≤ at

module _ {T X : Type 0} (them : Tokens) (read : List Token → Reading X) (ends : List Token → Bool) (view : T → X) (from : ℕ) where
  pub reaching_begins : from ≤ count_of them → Reaching them read ends view from from []
  unfolding until
  reaching_begins h = record {
    fuel = length (ahead them from);
    same = refl;
    enough = let e = length_ahead them from in omega (arith, e, h);
    within = h;
    passed = omega arith;
  }

  -- what is read where nothing ends it
  goes_on : (fuel at : ℕ) → ends (ahead them at) ≡ false
      → things_in_front ends read (suc fuel) (ahead them at) ≡ then_read (read (ahead them at)) (λ x rest. with_first x (things_in_front ends read fuel rest))
  unfolding things_in_front
  goes_on fuel at e = ap (λ b. if b then Found [] (ahead them at) else then_read (read (ahead them at)) (λ x rest. with_first x (things_in_front ends read fuel rest))) e

  pub reaching_goes_on : (at behind : ℕ) (items : List T) (item : T) → Reaching them read ends view from at items → ends (ahead them at) ≡ false
      → read (ahead them at) ≡ Found (view item) (ahead them behind) → at < behind → behind ≤ count_of them → (all : List T) → all ≡ items ++ item ∷ []
      → Reaching them read ends view from behind all
  unfolding then_read
  reaching_goes_on at behind items item l n e p r all g = subst (Reaching them read ends view from behind) (sym g) (go l.fuel refl)
    where
      go : (n : ℕ) → l.fuel ≡ n → Reaching them read ends view from behind (items ++ item ∷ [])
      go zero h = let k = l.enough in absurd (omega (arith, h, k, p, r))
      go (suc m) h = record {
        fuel = m;
        same =
            l.same ∙ ap (prepended (map view items)) (ap (λ k. things_in_front ends read (suc k) (ahead them at)) h ∙ goes_on (suc m) at n
            ∙ ap (λ x. then_read x (λ x rest. with_first x (things_in_front ends read (suc m) rest))) e)
            ∙ sym (prepended-append (map view items) (view item) (things_in_front ends read (suc m) (ahead them behind)))
            ∙ ap (λ xs. prepended xs (things_in_front ends read (suc m) (ahead them behind))) (sym (map-append view items item));
        enough = let k = l.enough in omega (arith, h, k, p, r);
        within = r;
        passed = let k = l.passed in omega (arith, k, p);
      }

  pub reaching_ends : (at : ℕ) (items : List T) → Reaching them read ends view from at items → ends (ahead them at) ≡ true
      → until ends read (ahead them from) ≡ Found (map view items) (ahead them at)
  unfolding things_in_front
  reaching_ends at items l e =
      l.same ∙ ap (prepended (map view items))
      (ap (λ b. if b then Found [] (ahead them at) else then_read (read (ahead them at)) (λ x rest. with_first x (things_in_front ends read l.fuel rest))) e)
      ∙ prepended-found (map view items) [] (ahead them at) ∙ ap (λ xs. Found xs (ahead them at)) (append-nil (map view items))

  pub reaching_refuses : (at : ℕ) (items : List T) → Reaching them read ends view from at items → ends (ahead them at) ≡ false → (e : Refusal)
      → RefusesAs them e (read (ahead them at)) → RefusesAs them e (until ends read (ahead them from))
  reaching_refuses at items l n e h =
      subst (RefusesAs them e) (sym (l.same ∙ ap (prepended (map view items)) (goes_on l.fuel at n)))
      (prepended-refuses them (map view items) _ e (then-refuses them (read (ahead them at)) _ e h))
