-- What stands among tokens from a place on.
use Rattle.std.specs.Prelude.{IfSome}
use Rattle.std.proofs.Common.{◌≡◌, refl, sym, ◌∙◌, ℕ, ◌+◌, ◌-◌, List, [], ◌∷◌, map, drop, length, Option, Some, None, slice_get, zero, suc, add-one, length-drop, arith, ◌<◌}
use Rattle.std.proofs.lemmas.List.{length-map}
use Rattle.std.proofs.lemmas.Grind.{common_steps}
use Rattle.print_grammar.specs.Token.{Token as Tok}
use Rattle.text_tokens.specs.declared.token.Token.{Token}
use Rattle.text_trees.specs.declared.front.Tokens.{Tokens}
use Rattle.text_trees.specs.Reading.{behind}
use Rattle.text_trees.specs.Reads.{first_byte}
use Rattle.text_trees.specs.Seen.{ahead, count_of, said, text_of}

some_suc : (text : List ℕ) (ts : List Token) (at : ℕ) (t : Token) → slice_get ts at ≡ Some t → drop at (map (said text) ts) ≡ said text t ∷ drop (suc at) (map (said text) ts)
some_suc text [] at t e = absurd (cc e)
some_suc text (x ∷ ts) zero t e = cc e
some_suc text (x ∷ ts) (suc at) t e = some_suc text ts at t e

some_at : (text : List ℕ) (ts : List Token) (at : ℕ) (t : Token) → slice_get ts at ≡ Some t → drop at (map (said text) ts) ≡ said text t ∷ drop (at + 1) (map (said text) ts)
some_at text ts at t e = rw add-one (some_suc text ts at t e)

none_at : (text : List ℕ) (ts : List Token) (at : ℕ) → slice_get ts at ≡ None → drop at (map (said text) ts) ≡ []
none_at text [] zero e = refl
none_at text [] (suc at) e = refl
none_at text (x ∷ ts) zero e = absurd (cc e)
none_at text (x ∷ ts) (suc at) e = none_at text ts at e

below_at : (ts : List Token) (at : ℕ) (t : Token) → slice_get ts at ≡ Some t → at < length ts
below_at [] at t e = absurd (cc e)
below_at (x ∷ ts) zero t e = omega arith
below_at (x ∷ ts) (suc at) t e = let h = below_at ts at t e in omega (arith, h)

-- where the token at a place begins
pub byte_some : (text : List ℕ) (places : List Token) (at : ℕ) (t : Token) → slice_get places at ≡ Some t → first_byte text (drop at places) ≡ t.start
byte_some text [] at t e = absurd (cc e)
byte_some text (x ∷ places) zero t e = cc e
byte_some text (x ∷ places) (suc at) t e = byte_some text places at t e

pub byte_none : (text : List ℕ) (places : List Token) (at : ℕ) → slice_get places at ≡ None → first_byte text (drop at places) ≡ length text
byte_none text [] zero e = refl
byte_none text [] (suc at) e = refl
byte_none text (x ∷ places) zero e = absurd (cc e)
byte_none text (x ∷ places) (suc at) e = byte_none text places at e

pub token_if : (them : Tokens) (at : ℕ) (o : Option Token) → o ≡ slice_get them.places.now at → IfSome o (λ t. ahead them at ≡ said (text_of them) t ∷ ahead them (at + 1))
unfolding ahead
token_if them at (Some t) e = some_at (text_of them) them.places.now at t (sym e)
token_if them at None e = tt

pub below_if : (them : Tokens) (at : ℕ) (o : Option Token) → o ≡ slice_get them.places.now at → IfSome o (λ t. at < count_of them)
below_if them at (Some t) e = below_at them.places.now at t (sym e)
below_if them at None e = tt

pub token_none : (them : Tokens) (at : ℕ) (o : Option Token) → o ≡ slice_get them.places.now at → o ≡ None → ahead them at ≡ []
unfolding ahead
token_none them at o e f = none_at (text_of them) them.places.now at (sym e ∙ f)

-- what follows the token at a place
pub behind_ahead : (them : Tokens) (at : ℕ) → behind (ahead them at) ≡ ahead them (at + 1)
unfolding ahead
behind_ahead them at = rw add-one (go (map (said (text_of them)) them.places.now) at)
  where
    go : (ts : List Tok) (at : ℕ) → behind (drop at ts) ≡ drop (suc at) ts
    go [] zero = refl
    go [] (suc at) = refl
    go (t ∷ ts) zero = refl
    go (t ∷ ts) (suc at) = go ts at

pub length_ahead : (them : Tokens) (at : ℕ) → length (ahead them at) ≡ count_of them - at
unfolding ahead
length_ahead them at = grind (arith, common_steps, length-drop, length-map)
