-- A list of tokens begins with at most one list, parameter list, result or signature.
use Rattle.std.proofs.Common.{rules as std_rules, ◌≡◌, List, [], ◌∷◌, ℕ, refl, ap, sym, true, Option, Some}
use Rattle.print_grammar.specs.{Token.Token, Tree.TypeTree, Tree.ParamTree, Tree.SignatureTree, Grammar.ReadsParams.no_params, Grammar.ReadsParams.params}
use Rattle.print_grammar.specs.{Token.Token.Punctuation, Token.Token.Key, Grammar.Repeated.closed, Grammar.Repeated.again}
use Rattle.print_grammar.specs.{Token.Mark.Comma, Token.Mark.CloseParen}
use Rattle.print_grammar.specs.Grammar.{IsId, CommaList, Repeated, ReadsParam, ReadsParams, ReadsResult, ReadsSignature}
use Rattle.print_grammar.specs.Grammar.{CommaList.last, CommaList.last_with_comma, CommaList.next, ReadsParam.param, ReadsResult.no_result, ReadsResult.with_result}
use Rattle.print_grammar.proofs.TypeTokens.{id-unique, tail_same, type-unique, stops, no_less}

-- the same tree, and the same tokens after it
abbrev pub Same : {X : Type 0} → X → X → List Token → List Token → Type 0
Same a b x y = (a ≡ b) × (x ≡ y)

-- at most one tree at the front of these tokens
abbrev pub Unique : {X : Type 0} → (List Token → X → List Token → Type 0) → Type 0
Unique {X} Reads = (before : List Token) (a b : X) (x y : List Token) → Reads before a x → Reads before b y → Same a b x y

-- at most one tree at the front of these tokens, where a mark follows that ends it
abbrev pub UniqueBefore : {X : Type 0} → (List Token → X → List Token → Type 0) → Type 0
UniqueBefore {X} Reads = (before : List Token) (a b : X) (x y : List Token) → stops x ≡ true → stops y ≡ true → Reads before a x → Reads before b y → Same a b x y

pub head_same : {x y : Token} {a b : List Token} → x ∷ a ≡ y ∷ b → x ≡ y
head_same e = cc

-- no tree begins with this token
abbrev pub Never : {X : Type 0} → (List Token → X → List Token → Type 0) → Token → Type 0
Never {X} Reads t = (after : List Token) (x : X) (rest : List Token) → Reads (t ∷ after) x rest → ⊥

never_listed : {X : Type 0} {Reads : List Token → X → List Token → Type 0} {close t : Token} {after rest : List Token} {xs : List X} → Never Reads t → CommaList Reads close (t ∷ after) xs rest → ⊥
never_listed never x = search std_rules

pub listed-unique : {X : Type 0} {Reads : List Token → X → List Token → Type 0} {close : Token} → UniqueBefore Reads → ((ts : List Token) → stops (close ∷ ts) ≡ true) → (close ≡ Punctuation Comma → ⊥)
    → Never Reads close → {before after rest : List Token} {xs ys : List X} → CommaList Reads close before xs after → CommaList Reads close before ys rest → Same xs ys after rest
listed-unique one stop other never (last a) (last b) = let h = one _ _ _ _ _ (stop _) (stop _) a b in (ap (λ x. x ∷ []) h.0, tail_same h.1)
listed-unique one stop other never (last a) (last_with_comma b) = let h = one _ _ _ _ _ (stop _) refl a b in absurd (other (head_same h.1))
listed-unique one stop other never (last a) (next b m) = let h = one _ _ _ _ _ (stop _) refl a b in absurd (other (head_same h.1))
listed-unique one stop other never (last_with_comma a) (last b) = let h = one _ _ _ _ _ refl (stop _) a b in absurd (other (head_same (sym h.1)))
listed-unique one stop other never (last_with_comma a) (last_with_comma b) = let h = one _ _ _ _ _ refl refl a b in (ap (λ x. x ∷ []) h.0, tail_same (tail_same h.1))
listed-unique one stop other never (last_with_comma a) (next b m) = let h = one _ _ _ _ _ refl refl a b in absurd (never_listed never (rw (← tail_same h.1) at m))
listed-unique one stop other never (next a l) (last b) = let h = one _ _ _ _ _ refl (stop _) a b in absurd (other (head_same (sym h.1)))
listed-unique one stop other never (next a l) (last_with_comma b) = let h = one _ _ _ _ _ refl refl a b in absurd (never_listed never (rw (tail_same h.1) at l))
listed-unique one stop other never (next a l) (next b m) =
    let h = one _ _ _ _ _ refl refl a b in let k = listed-unique one stop other never l (rw (← tail_same h.1) at m) in (cc (h.0, k.0), k.1)

pub repeated-same : {X : Type 0} {Reads : List Token → X → List Token → Type 0} {close : Token} → Unique Reads → Never Reads close
    → {before same after rest : List Token} {xs ys : List X} → before ≡ same → Repeated Reads close before xs after → Repeated Reads close same ys rest → Same xs ys after rest
repeated-same one never e closed closed = (refl, tail_same e)
repeated-same one never e closed (again b m) = absurd (never _ _ _ (rw (← e) at b))
repeated-same one never e (again a l) closed = absurd (never _ _ _ (rw e at a))
repeated-same one never e (again a l) (again b m) = let h = one _ _ _ _ _ (rw e at a) b in let k = repeated-same one never h.1 l m in (cc (h.0, k.0), k.1)

-- ---- signatures

pub no_id_mark : {mark : Rattle.print_grammar.specs.Token.Mark} {label : List ℕ} → IsId (Punctuation mark) label → ⊥
no_id_mark i = elim i [ ]

pub no_id_key : {keyword : Rattle.print_grammar.specs.Keyword.Keyword} {label : List ℕ} → IsId (Key keyword) label → ⊥
no_id_key i = elim i [ ]

param-unique : UniqueBefore ReadsParam
param-unique _ _ _ x y s t (param i a) (param j b) = let h = type-unique (no_less x s) (no_less y t) a b in (cc (id-unique i j, h.0), h.1)

param-never : (mark : Rattle.print_grammar.specs.Token.Mark) → Never ReadsParam (Punctuation mark)
param-never mark _ _ _ (param i a) = no_id_mark i

pub params-unique : {before after rest : List Token} {a b : List ParamTree} → ReadsParams before a after → ReadsParams before b rest → Same a b after rest
params-unique no_params no_params = (refl, refl)
params-unique no_params (params l) = absurd (never_listed (param-never CloseParen) l)
params-unique (params l) no_params = absurd (never_listed (param-never CloseParen) l)
params-unique (params l) (params m) = listed-unique param-unique (λ ts. refl) (λ e. cc e) (param-never CloseParen) l m

pub result-unique : {before after rest : List Token} {a b : Option TypeTree} → stops after ≡ true → stops rest ≡ true → ReadsResult before a after → ReadsResult before b rest → Same a b after rest
result-unique s t no_result no_result = (refl, refl)
result-unique s t no_result (with_result b) = absurd (cc s)
result-unique s t (with_result a) no_result = absurd (cc t)
result-unique {after} {rest} s t (with_result a) (with_result b) = let h = type-unique (no_less after s) (no_less rest t) a b in (ap (λ t. Some t) h.0, h.1)

-- parameters and then a result
pub arguments-unique : {before between middle after rest : List Token} {p q : List ParamTree} {s t : Option TypeTree} → stops after ≡ true → stops rest ≡ true → ReadsParams before p between
    → ReadsResult between s after → ReadsParams before q middle → ReadsResult middle t rest → (p ≡ q) × (s ≡ t) × (after ≡ rest)
arguments-unique e f a c b d = let h = params-unique a b in let k = result-unique e f c (rw (← h.1) at d) in (h.0, k.0, k.1)

pub signature-unique : {before after rest : List Token} {a b : SignatureTree} → stops after ≡ true → stops rest ≡ true → ReadsSignature before a after → ReadsSignature before b rest
    → Same a b after rest
signature-unique s t x y = search (std_rules, arguments-unique)
