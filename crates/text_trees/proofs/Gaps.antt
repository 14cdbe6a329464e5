-- The gap in front of a place is the one in front of the token there, and its documentation that of the tokens from there on.
use Rattle.std.proofs.Common.{◌≡◌, refl, ap, sym, ◌∙◌, ℕ, ◌-◌, ◌≤◌, List, [], ◌∷◌, length, Some, None, slice_get, zero, suc, arith}
use Rattle.std.specs.Prelude.{slice_range}
use Rattle.std.specs.Option.{option_map_or}
use Rattle.text_tokens.specs.declared.token.Token.{Token}
use Rattle.text_tokens.specs.{Documentation.docs_from, Documentation.docs_in, Places.gaps_from}
use Rattle.text_trees.specs.declared.front.Tokens.{Tokens}
use Rattle.text_trees.specs.TreesSeen.{docs_of}
use Rattle.text_trees.specs.Seen.{ahead, count_of, docs_ahead, gap_start, text_of}
use Rattle.text_trees.proofs.Ahead.{length_ahead}

-- where the gap begins, if that in front of the first begins here
from_at : ℕ → List Token → ℕ → ℕ
from_at from places zero = from
from_at from places (suc n) = option_map_or (λ p. p.end) (slice_get places n) 0

from_is : (from : ℕ) (p : Token) (places : List Token) (n : ℕ) → from_at p.end places n ≡ from_at from (p ∷ places) (suc n)
unfolding from_at
from_is from p places zero = refl
from_is from p places (suc n) = refl

start_is : (places : List Token) (at : ℕ) → from_at 0 places at ≡ gap_start places at
unfolding from_at
start_is places zero = refl
start_is places (suc n) = refl

gap_there : (text : List ℕ) (from : ℕ) (places : List Token) (at : ℕ) (place : Token) → slice_get places at ≡ Some place
    → slice_get (gaps_from text from places) at ≡ Some (slice_range text (from_at from places at) place.start)
unfolding from_at
gap_there text from [] at place e = absurd (cc e)
gap_there text from (p ∷ places) zero place e = cc e
gap_there text from (p ∷ places) (suc n) place e =
    gap_there text p.end places n place e ∙ ap (λ x. Some (slice_range text x place.start)) (from_is from p places n)

gap_none : (text : List ℕ) (from : ℕ) (places : List Token) (at : ℕ) → slice_get places at ≡ None → slice_get (gaps_from text from places) at ≡ None
gap_none text from [] zero e = refl
gap_none text from [] (suc n) e = refl
gap_none text from (p ∷ places) zero e = absurd (cc e)
gap_none text from (p ∷ places) (suc n) e = gap_none text p.end places n e

as_many : (text : List ℕ) (from : ℕ) (places : List Token) → length (gaps_from text from places) ≡ length places
as_many text from [] = refl
as_many text from (p ∷ places) = ap suc (as_many text p.end places)

-- the number of the gap in front of what is left
number : (them : Tokens) (at : ℕ) → at ≤ count_of them
    → length (gaps_from (text_of them) 0 them.places.now) - length (ahead them at) ≡ at
number them at h =
    let l = length_ahead them at in
    let m = as_many (text_of them) 0 them.places.now in omega (arith, l, m, h)

docs_there : (them : Tokens) (at : ℕ) → at ≤ count_of them
    → docs_ahead them (ahead them at) ≡ option_map_or docs_in (slice_get (gaps_from (text_of them) 0 them.places.now) at) []
docs_there them at h = ap (λ n. option_map_or docs_in (slice_get (gaps_from (text_of them) 0 them.places.now) n) []) (number them at h)

pub docs_some : (them : Tokens) (at : ℕ) (place : Token) (start : ℕ) → at ≤ count_of them → slice_get them.places.now at ≡ Some place
    → start ≡ gap_start them.places.now at
    → docs_of (text_of them) (record { start = start; end = place.start }) ≡ docs_ahead them (ahead them at)
docs_some them at place start h e s =
    sym (docs_there them at h
    ∙ ap (λ o. option_map_or docs_in o []) (gap_there (text_of them) 0 them.places.now at place e)
    ∙ ap (λ x. docs_in (slice_range (text_of them) x place.start)) (start_is them.places.now at ∙ sym s))

pub docs_none : (them : Tokens) (at : ℕ) → at ≤ count_of them → slice_get them.places.now at ≡ None
    → docs_of (text_of them) (record { start = 0; end = 0 }) ≡ docs_ahead them (ahead them at)
unfolding docs_from
docs_none them at h e =
    sym (docs_there them at h ∙ ap (λ o. option_map_or docs_in o []) (gap_none (text_of them) 0 them.places.now at e))
