-- A type or signature that is there by the grammar is found.
use Rattle.std.proofs.Common.{◌≡◌, refl, ap, ℕ, ◌<◌, ◌≤◌, true, false, List, [], ◌∷◌, length, arith, zero, suc, Option}
use Rattle.std.specs.List.{list_all}
use Rattle.std.proofs.lemmas.Bool.{leb-true}
use Rattle.base_lemmas.proofs.Bools.{left_of, right_of}
use Rattle.wit_model.specs.{Rules.passes}
use Rattle.print_grammar.specs.{Keyword.Keyword, Keyword.PrimitiveName, Keyword.PrimitiveName.Bool_, Token.Token}
use Rattle.print_grammar.specs.Token.Mark.{CloseParen, Less, Greater, Comma, Arrow}
use Rattle.print_grammar.specs.Token.Token.{Key, Punctuation}
use Rattle.print_grammar.specs.Tree.{TypeTree, TypeTrees, TypeTrees.NoTypes, TypeTrees.AndTypes, ParamTree, SignatureTree}
use Rattle.print_grammar.specs.Grammar.{ReadsType, ReadsTypes, ReadsParam, ReadsParams, ReadsResult, ReadsSignature}
use Rattle.print_grammar.specs.Grammar.ReadsType.{primitive, named, named_with_percent, own, borrow, tuple, option, map, list, fixed_list, future, future_of, stream, stream_of, result, result_ok, result_of, result_err}
use Rattle.print_grammar.specs.Grammar.ReadsTypes.{last_type, last_type_with_comma, next_type}
use Rattle.print_grammar.specs.Grammar.{ReadsParam.param, ReadsParams.no_params, ReadsParams.params, ReadsResult.no_result, ReadsResult.with_result, ReadsSignature.func, ReadsSignature.async_func}
use Rattle.text_trees.specs.Reading.{Reading.Found, then_read, made, begins, begins_key, behind_mark, if_mark, behind_key, if_key, id_in_front, digits_in_front, listed, listed_in_front, more_in_front}
use Rattle.text_trees.specs.ReadTypes.{tuple_types, type_in_front, level_in_front, param_in_front, params_in_front, result_in_front, signature_in_front}
use Rattle.text_trees.specs.Levels.{levels, deepest, fits_type, fits_param, fits_signature}
use Rattle.text_trees.proofs.Lengths.{type-shortens, param-shortens}
use Rattle.text_trees.proofs.Complete.{EndsAt, ends_no_mark, id_gives, Shut, shut_at, first_found, listed-complete}

-- the types of a tuple, as a list
abbrev type_list : TypeTrees → List TypeTree
type_list NoTypes = []
type_list (AndTypes ty types) = ty ∷ type_list types

tuple_types-type_list : (types : TypeTrees) → tuple_types (type_list types) ≡ types
tuple_types-type_list NoTypes = refl
tuple_types-type_list (AndTypes ty types) = ap (AndTypes ty) (tuple_types-type_list types)

-- no type begins with `>`
type_no_greater : {ts rest : List Token} {ty : TypeTree} → ReadsType ts ty rest → begins Greater ts ≡ false
type_no_greater primitive = refl
type_no_greater named = refl
type_no_greater named_with_percent = refl
type_no_greater (own i) = refl
type_no_greater _ = refl

primitive_no_underscore : (p : PrimitiveName) → begins_key Keyword.Underscore (Key (Keyword.PrimitiveWord p) ∷ []) ≡ false
primitive_no_underscore Bool_ = refl
primitive_no_underscore _ = refl

-- no type begins with `_`
type_no_underscore : {ts rest : List Token} {ty : TypeTree} → ReadsType ts ty rest → begins_key Keyword.Underscore ts ≡ false
type_no_underscore (primitive {p}) = primitive_no_underscore p
type_no_underscore named = refl
type_no_underscore named_with_percent = refl
type_no_underscore (own i) = refl
type_no_underscore _ = refl

types_no_greater : {ts rest : List Token} {types : TypeTrees} → ReadsTypes ts types rest → begins Greater ts ≡ false
types_no_greater (last_type r) = type_no_greater r
types_no_greater (last_type_with_comma r) = type_no_greater r
types_no_greater (next_type r s) = type_no_greater r

comma_first : (rest : List Token) → begins Greater rest ≡ false → more_in_front Greater (Punctuation Comma ∷ rest) ≡ Found true rest
unfolding if_mark behind_mark
comma_first rest h = rw h refl

mutual
  unfolding level_in_front listed_in_front listed then_read made if_mark behind_mark if_key digits_in_front

  -- A type that is read by the grammar, and isn't continued by what follows it, is found where there is room for its levels.
  pub type-complete : (room : ℕ) {ts rest : List Token} {ty : TypeTree} → ReadsType ts ty rest → begins Less rest ≡ false → levels ty ≤ room
      → type_in_front room ts ≡ Found ty rest
  type-complete room primitive e h = refl
  type-complete room named e h = refl
  type-complete room named_with_percent e h = refl
  type-complete zero (own i) e h = absurd (omega (arith, h))
  type-complete (suc room) (own {after} i) e h = rw (id_gives (Punctuation Greater ∷ after) i) refl
  type-complete zero (borrow i) e h = absurd (omega (arith, h))
  type-complete (suc room) (borrow {after} i) e h = rw (id_gives (Punctuation Greater ∷ after) i) refl
  type-complete zero (tuple r) e h = absurd (omega (arith, h))
  type-complete (suc room) (tuple {before} {types} r) e h =
      rw (types-complete room (suc (length before)) r (omega arith) (omega (arith, h)), tuple_types-type_list types) refl
  type-complete zero (option r) e h = absurd (omega (arith, h))
  type-complete (suc room) (option r) e h = rw (type-complete room r refl (omega (arith, h))) refl
  type-complete zero (map r s) e h = absurd (omega (arith, h))
  type-complete (suc room) (map r s) e h = rw (type-complete room r refl (omega (arith, h)), type-complete room s refl (omega (arith, h))) refl
  type-complete zero (list r) e h = absurd (omega (arith, h))
  type-complete (suc room) (list r) e h = rw (type-complete room r refl (omega (arith, h))) refl
  type-complete zero (fixed_list r) e h = absurd (omega (arith, h))
  type-complete (suc room) (fixed_list r) e h = rw (type-complete room r refl (omega (arith, h))) refl
  type-complete zero future e h = absurd (omega (arith, h))
  type-complete (suc room) future e h = rw e refl
  type-complete zero (future_of r) e h = absurd (omega (arith, h))
  type-complete (suc room) (future_of r) e h = rw (type-complete room r refl (omega (arith, h))) refl
  type-complete zero stream e h = absurd (omega (arith, h))
  type-complete (suc room) stream e h = rw e refl
  type-complete zero (stream_of r) e h = absurd (omega (arith, h))
  type-complete (suc room) (stream_of r) e h = rw (type-complete room r refl (omega (arith, h))) refl
  type-complete zero result e h = absurd (omega (arith, h))
  type-complete (suc room) result e h = rw e refl
  type-complete zero (result_ok r) e h = absurd (omega (arith, h))
  type-complete (suc room) (result_ok r) e h = rw (type_no_underscore r, type-complete room r refl (omega (arith, h))) refl
  type-complete zero (result_of r s) e h = absurd (omega (arith, h))
  type-complete (suc room) (result_of r s) e h =
      rw (type_no_underscore r, type-complete room r refl (omega (arith, h)), type-complete room s refl (omega (arith, h))) refl
  type-complete zero (result_err r) e h = absurd (omega (arith, h))
  type-complete (suc room) (result_err r) e h = rw (type-complete room r refl (omega (arith, h))) refl

  types-complete : (room n : ℕ) {ts rest : List Token} {types : TypeTrees} → ReadsTypes ts types rest → length ts < n → deepest types ≤ room
      → listed_in_front (type_in_front room) Greater n ts ≡ Found (type_list types) rest
  types-complete room zero r l h = absurd (omega (arith, l))
  types-complete room (suc n) (last_type r) l h = rw (type-complete room r refl (omega (arith, h))) refl
  types-complete room (suc n) (last_type_with_comma r) l h = rw (type-complete room r refl (omega (arith, h))) refl
  types-complete room (suc n) (next_type {between} r s) l h =
      let k = type-shortens r in
      rw (type-complete room r refl (omega (arith, h)), comma_first between (types_no_greater s), types-complete room n s (omega (arith, k, l)) (omega (arith, h))) refl

-- ---- signatures

module _ (room : ℕ) where
  -- a type of so many levels is found, where no `<` goes on with it
  pub type-found : {ts rest : List Token} {ty : TypeTree} → ReadsType ts ty rest → begins Less rest ≡ false → fits_type room ty ≡ true → type_in_front room ts ≡ Found ty rest
  type-found {ty = ty} r e h = type-complete room r e (leb-true (levels ty) room h)

  param-complete : (ts rest : List Token) (param : ParamTree) → ReadsParam ts param rest → EndsAt CloseParen rest → fits_param room param ≡ true
      → param_in_front room ts ≡ Found param rest
  unfolding then_read behind_mark
  param-complete _ _ _ (param i r) s h = rw (id_gives _ i, type-found r (ends_no_mark Less refl refl s) h) refl

  param-shut : Shut (begins CloseParen) (param_in_front room)
  unfolding then_read id_in_front
  param-shut = shut_at CloseParen (param_in_front room) (λ rest. refl)

  pub params-complete : {ts rest : List Token} {params : List ParamTree} → ReadsParams ts params rest → list_all (fits_param room) params ≡ true
      → params_in_front room ts ≡ Found params rest
  unfolding behind_mark if_mark
  params-complete no_params h = refl
  params-complete (params l) h =
      rw (
        first_found CloseParen (param_in_front room) (fits_param room) param-shortens param-shut refl param-complete l h,
        listed-complete CloseParen (param_in_front room) (fits_param room) param-shortens param-shut refl param-complete l h,
      ) refl

  pub result-complete : {ts rest : List Token} {result : Option TypeTree} → ReadsResult ts result rest → begins Less rest ≡ false → begins Arrow rest ≡ false → passes (fits_type room) result ≡ true
      → result_in_front room ts ≡ Found result rest
  unfolding if_mark made
  result-complete no_result e f h = rw f refl
  result-complete (with_result r) e f h = rw (type-found r e h) refl

  pub signature-complete : {ts rest : List Token} {signature : SignatureTree} → ReadsSignature ts signature rest → begins Less rest ≡ false → begins Arrow rest ≡ false
      → fits_signature room signature ≡ true
      → signature_in_front room ts ≡ Found signature rest
  unfolding if_key behind_key then_read
  signature-complete (func {params} p r) e f h =
      rw (params-complete p (left_of _ _ h), result-complete r e f (right_of (list_all (fits_param room) params) _ h)) refl
  signature-complete (async_func {params} p r) e f h =
      rw (params-complete p (left_of _ _ h), result-complete r e f (right_of (list_all (fits_param room) params) _ h)) refl
