-- What the worked examples share: the tokens of a text, computed, and small trees.
use Rattle.std.proofs.Common.{rules as std_rules, ◌≡◌, List, [], ◌∷◌, ℕ, zero, suc, Option, Some, None, false, refl}
use Rattle.std.specs.Option.{option_map}
use Rattle.print_grammar.specs.Token.{Token, Tokens, Front, front_of_text, Tokens.no_tokens, Tokens.skip, Tokens.token}
use Rattle.print_grammar.specs.Tree.{Prefix, SignatureTree, Gates.Ungated}
use Rattle.print_grammar.specs.Token.Front.{Ended, Skipped, Found, Unknown}

-- the tokens from what stands at the front of a text, by those of what follows it
abbrev pub scan_on : (List ℕ → Option (List Token)) → Front → Option (List Token)
scan_on scan Ended = Some []
scan_on scan (Skipped rest) = scan rest
scan_on scan (Found t rest) = option_map (λ ts. t ∷ ts) (scan rest)
scan_on scan Unknown = None

-- the tokens of a text that is no more tokens, blanks and comments than the number says
abbrev pub scan : ℕ → List ℕ → Option (List Token)
scan zero text = None
scan (suc n) text = scan_on (scan n) (front_of_text text)

behind : (t : Token) (o : Option (List Token)) (ts : List Token) → option_map (λ xs. t ∷ xs) o ≡ Some ts → (xs : List Token) × (o ≡ Some xs) × (ts ≡ t ∷ xs)
behind t None ts e = absurd cc
behind t (Some xs) ts e = (xs, refl, cc)

pub scanned : (n : ℕ) (text : List ℕ) (ts : List Token) → scan n text ≡ Some ts → Tokens text ts
scanned zero text ts e = absurd cc
scanned (suc n) text ts e = go (scanned n) (front_of_text text) refl e
  where
    go : ((rest : List ℕ) (xs : List Token) → scan n rest ≡ Some xs → Tokens rest xs) → (f : Front) → front_of_text text ≡ f → scan_on (scan n) f ≡ Some ts → Tokens text ts
    go next Ended p q = search (std_rules, no_tokens)
    go next (Skipped rest) p q = skip p (next rest ts q)
    go next (Found t rest) p q = let m = behind t (scan n rest) ts q in rw m.2 (token p (next rest m.0 m.1))
    go next Unknown p q = absurd cc

-- nothing in front of an item
abbrev pub bare : Prefix
bare = record { docs = []; gates = Ungated; external_id = None }

-- a function without parameters and result
abbrev pub no_parameters : SignatureTree
no_parameters = record { is_async = false; params = []; result = None }
