-- What is printed of a signature is read as it: lists with commas between, parameters, results.
use Rattle.std.proofs.Common.{◌≡◌, refl, Bool, true, false, List, [], ◌∷◌, ◌++◌, append-nil, append_assoc, codes, Option, Some, None, map}
use Rattle.std.specs.{List.list_all, Prelude.option_map}
use Rattle.wit_model.specs.{Names.is_label, Rules.passes}
use Rattle.print_grammar.specs.{Keyword.Keyword.Func, Keyword.Keyword.Async, AsRead.type_as_read, AsRead.bare_param, AsRead.bare_signature, Token.Token, Token.Mark, Grammar.ReadsParam, Grammar.ReadsParams, Grammar.ReadsResult, Grammar.ReadsSignature, Grammar.CommaList, Tree.TypeTree, Tree.ParamTree, Tree.SignatureTree, WellNamed.is_well_type, WellNamed.is_well_param, WellNamed.is_well_signature}
use Rattle.print_grammar.specs.Calls.{type_calls, param_calls, params_calls, result_calls, signature_calls, separated, space as space_call}
use Rattle.print_grammar.specs.Token.{Token.Punctuation, Token.Key, Mark.Colon, Mark.CloseParen, Mark.Arrow}
use Rattle.print_grammar.specs.Grammar.CommaList.{last, next}
use Rattle.print_output.specs.{OutputCall.OutputCall, OutputCall.OutputCall.Str}
use Rattle.print_grammar.proofs.{TokenFacts.id_token, TokenFacts.id_is, Printing.Prints.by_keyword, Printing.Prints.by_param, TypeTokens.type_reads}
use Rattle.print_grammar.proofs.TextOf.{text_of}
use Rattle.print_grammar.proofs.Printing.{Follows, Printed, EndsWord, Ended, relist, word_call, id_call, comma_call, open_call, paren_call, space, arrow, mark}
use Rattle.base_lemmas.proofs.Bools.{left_of, right_of}

-- a colon and a space
pub colon_call : {more : List OutputCall} {ts : List Token} → Follows false more ts → Follows false (Str (codes ": ") ∷ more) (Punctuation Colon ∷ ts)
colon_call f = record { at = λ level. mark Colon refl (space (f.at level)) }

-- a space
pub space_before : {more : List OutputCall} {ts : List Token} → Follows false more ts → Follows false (space_call ∷ more) ts
space_before f = record { at = λ level. space (f.at level) }

-- What is printed of a list with commas between is read as it.
pub listed_reads : {X : Type 0} (calls : X → List OutputCall) (well : X → Bool) (read : X → X) (Reads : List Token → X → List Token → Type 0) (close : Mark)
    → ((x : X) → well x ≡ true → (more : List OutputCall) (ts : List Token) → Ended more ts → Printed false (calls x ++ more) (λ before. Reads before (read x) ts))
    → (x : X) (xs : List X) → list_all well (x ∷ xs) ≡ true → {more : List OutputCall} {after : List Token} → Ended more (Punctuation close ∷ after)
    → Printed false (separated (Str (codes ", ")) (map calls (x ∷ xs)) ++ more) (λ before. CommaList Reads (Punctuation close) before (map read (x ∷ xs)) after)
listed_reads calls well read Reads close each x [] h e = let i = each x (left_of _ _ h) _ _ e in simp append-nil (i.0, i.1, last i.2)
listed_reads calls well read Reads close each x (y ∷ ys) h e =
    let r = listed_reads calls well read Reads close each y ys (right_of (well x) _ h) e in
    let i = each x (left_of _ _ h) _ _ (comma_call r.1) in relist (i.0, i.1, next i.2 r.2) (simp append_assoc)

param_reads : (p : ParamTree) → is_well_param p ≡ true → (more : List OutputCall) (ts : List Token) → Ended more ts
    → Printed false (param_calls p ++ more) (λ before. ReadsParam before (bare_param type_as_read p) ts)
param_reads p h more ts e =
    let i = type_reads p.ty (right_of (is_label p.name) _ h) e in
    (id_token p.name ∷ Punctuation Colon ∷ i.0, id_call p.name by_param (left_of _ _ h) (λ level. refl) (colon_call i.1), ReadsParam.param (id_is p.name) i.2)

-- parameters in parentheses
pub args_reads : (params : List ParamTree) → list_all is_well_param params ≡ true → {more : List OutputCall} {after : List Token} → Follows false more after
    → Printed false (Str (codes "(") ∷ ((separated (Str (codes ", ")) (map param_calls params) ++ (Str (codes ")") ∷ [])) ++ more))
    (λ before. ReadsParams before (map (bare_param type_as_read) params) after)
args_reads [] h f = (_, open_call (paren_call f).follows, ReadsParams.no_params)
args_reads (p ∷ ps) h f =
    let i = listed_reads param_calls is_well_param (bare_param type_as_read) ReadsParam CloseParen param_reads p ps h (paren_call f) in
    relist (_, open_call i.1, ReadsParams.params i.2) (simp append_assoc)

pub result_reads : (result : Option TypeTree) → passes is_well_type result ≡ true → {more : List OutputCall} {ts : List Token} → Ended more ts
    → Printed false (result_calls result ++ more) (λ before. ReadsResult before (option_map type_as_read result) ts)
result_reads None h {ts = ts} e = (ts, e.follows, ReadsResult.no_result)
result_reads (Some ty) h {more} e =
    let i = type_reads ty h e in
    (Punctuation Arrow ∷ i.0, record { at = λ level. space (arrow (32 ∷ text_of false level (type_calls ty ++ more)) (space (i.1.at level))) }, ReadsResult.with_result i.2)

-- What is read of parameters and of a result, in turn.
abbrev pub ReadsArguments : List ParamTree → Option TypeTree → List Token → List Token → Type 0
ReadsArguments params result after before = (between : List Token) × ReadsParams before (map (bare_param type_as_read) params) between × ReadsResult between (option_map type_as_read result) after

pub arguments_reads : (params : List ParamTree) (result : Option TypeTree) → list_all is_well_param params ≡ true → passes is_well_type result ≡ true → {more : List OutputCall} {ts : List Token}
    → Ended more ts → Printed false (params_calls params result ++ more) (ReadsArguments params result ts)
arguments_reads params result h g e =
    let r = result_reads result g e in let i = args_reads params h r.1 in relist (i.0, i.1, (r.0, i.2, r.2)) (simp append_assoc)

-- no word goes on into parameters
pub arguments_end : (params : List ParamTree) (result : Option TypeTree) (more : List OutputCall) → EndsWord (params_calls params result ++ more)
arguments_end params result more level = refl

func_reads : (is_async : Bool) (params : List ParamTree) (result : Option TypeTree) → list_all is_well_param params ≡ true → passes is_well_type result ≡ true
    → {more : List OutputCall} {ts : List Token} → Ended more ts
    → Printed false (signature_calls (record { is_async = is_async; params = params; result = result }) ++ more)
    (λ before. ReadsSignature before (bare_signature type_as_read (record { is_async = is_async; params = params; result = result })) ts)
func_reads false params result h g {more} e =
    let i = arguments_reads params result h g e in
    (Key Func ∷ i.0, word_call (Key Func) by_keyword refl refl (arguments_end params result more) i.1, ReadsSignature.func i.2.1 i.2.2)
func_reads true params result h g {more} e =
    let i = arguments_reads params result h g e in (
      Key Async ∷ Key Func ∷ i.0,
      word_call (Key Async) by_keyword refl refl (λ level. refl) (space_before (word_call (Key Func) by_keyword refl refl (arguments_end params result more) i.1)),
      ReadsSignature.async_func i.2.1 i.2.2,
    )

-- What is printed of a signature is read as it.
pub signature_reads : (s : SignatureTree) → is_well_signature s ≡ true → {more : List OutputCall} {ts : List Token} → Ended more ts
    → Printed false (signature_calls s ++ more) (λ before. ReadsSignature before (bare_signature type_as_read s) ts)
signature_reads s h e = func_reads s.is_async s.params s.result (left_of _ _ h) (right_of (list_all is_well_param s.params) _ h) e
