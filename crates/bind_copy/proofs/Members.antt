-- Functions that are copied into a map one behind the other, and what holds of the members of those that are moved.
use Rattle.std.proofs.Common.{rules as std_rules, ◌≡◌, refl, ap, subst, ◌∙◌, ℕ, true, nat_lt, List, [], ◌∷◌, map}
use Rattle.std.specs.{List.AllZip, List.IsDistinct, Prelude.String, String.string_eq, Map.keys_of}
use Rattle.std.specs.declared.alloc.Global.{Global}
use Rattle.indexmap.specs.IndexMap.{insert_entry}
use Rattle.wit_model.proofs.Distinct.{text_eq_flip}
use Rattle.wit_model.specs.Text.{text_eq, text_of}
use Rattle.wit_model.specs.declared.model.{Case.Case, Field.Field, Function.Function, Param.Param, TypeId.TypeId, «Type».«Type» as ValueType}
use Rattle.bind_union.specs.Views.{optional_numbers, renamed_type, type_numbers}
use Rattle.bind_copy.specs.Copies.{all_below, are_cases_below, are_fields_below, are_names_below, are_params_below, are_parts_below, case_docs, cases_of, cases_under, field_docs, fields_of, fields_under, number_under, params_of, params_under, type_names, type_names_under, AreFunctionsBelow, CopiedSoFar, IsCaseUnder, IsFieldUnder, IsFunctionEntry, IsFunctionUnder, IsParamUnder, IsPartUnder, IsTypeEntry}
use Rattle.base_lemmas.proofs.{Bools.right_of, Lists.filter_all as all_pass}
use Rattle.bind_copy.proofs.Copied.{all_copied, one_copied}

module _ (types : List ℕ) where
  same_keys : (x y u v : String Global × Function) → IsFunctionEntry types x u → IsFunctionEntry types y v → string_eq v.0 u.0 ≡ string_eq x.0 y.0
  same_keys x y u v r s = ap (λ t. text_eq t (text_of u.0)) s.0 ∙ (ap (text_eq (text_of y.0)) r.0 ∙ text_eq_flip (text_of y.0) (text_of x.0))

  -- one more is copied
  pub function_more : (whole left rest done new : List (String Global × Function)) (e : String Global × Function) (name : String Global) (f : Function) → left ≡ e ∷ rest → text_of name ≡ text_of e.0
      → IsFunctionUnder types e.1 f → new ≡ insert_entry string_eq done name f → (IsDistinct string_eq (keys_of whole) → CopiedSoFar (IsFunctionEntry types) (λ e. true) whole left done)
      → IsDistinct string_eq (keys_of whole) → CopiedSoFar (IsFunctionEntry types) (λ e. true) whole rest new
  function_more whole left rest done new e name f step named copied added before apart = one_copied string_eq string_eq (IsFunctionEntry types) (λ e. true) same_keys whole rest done e
      (subst (λ l. CopiedSoFar (IsFunctionEntry types) (λ e. true) whole l done) step (before apart)) (name, f) new apart refl (named, copied) added

  -- all are copied
  pub functions_all : (whole left done : List (String Global × Function)) → left ≡ [] → (IsDistinct string_eq (keys_of whole) → CopiedSoFar (IsFunctionEntry types) (λ e. true) whole left done)
      → IsDistinct string_eq (keys_of whole) → AllZip (IsFunctionEntry types) whole done
  functions_all whole left done ended before apart = search (std_rules, all_pass, all_copied, same_keys)

-- ---- members that are moved

module _ (types : List ℕ) where
  pub params_are : (old new : List Param) → AllZip (IsParamUnder types) old new → params_of new ≡ params_under types old
  params_are [] [] z = refl
  params_are [] (y ∷ ys) z = absurd z
  params_are (x ∷ xs) [] z = absurd z
  params_are (x ∷ xs) (y ∷ ys) z = λ i. (z.0.0 i, z.0.1 i) ∷ params_are xs ys z.1 i

  pub names_are : (old new : List (String Global × TypeId)) → AllZip (IsTypeEntry types) old new → type_names new ≡ type_names_under types old
  names_are [] [] z = refl
  names_are [] (y ∷ ys) z = absurd z
  names_are (x ∷ xs) [] z = absurd z
  names_are (x ∷ xs) (y ∷ ys) z = λ i. (z.0.0 i, z.0.1 i) ∷ names_are xs ys z.1 i

  pub fields_are : (old new : List Field) → AllZip (IsFieldUnder types) old new → fields_of new ≡ fields_under types old
  fields_are [] [] z = refl
  fields_are [] (y ∷ ys) z = absurd z
  fields_are (x ∷ xs) [] z = absurd z
  fields_are (x ∷ xs) (y ∷ ys) z = λ i. (z.0.0 i, z.0.1.0 i) ∷ fields_are xs ys z.1 i

  pub field_docs_are : (old new : List Field) → AllZip (IsFieldUnder types) old new → field_docs new ≡ field_docs old
  field_docs_are [] [] z = refl
  field_docs_are [] (y ∷ ys) z = absurd z
  field_docs_are (x ∷ xs) [] z = absurd z
  field_docs_are (x ∷ xs) (y ∷ ys) z = λ i. z.0.1.1 i ∷ field_docs_are xs ys z.1 i

  pub cases_are : (old new : List Case) → AllZip (IsCaseUnder types) old new → cases_of new ≡ cases_under types old
  cases_are [] [] z = refl
  cases_are [] (y ∷ ys) z = absurd z
  cases_are (x ∷ xs) [] z = absurd z
  cases_are (x ∷ xs) (y ∷ ys) z = λ i. (z.0.0 i, z.0.1.0 i) ∷ cases_are xs ys z.1 i

  pub case_docs_are : (old new : List Case) → AllZip (IsCaseUnder types) old new → case_docs new ≡ case_docs old
  case_docs_are [] [] z = refl
  case_docs_are [] (y ∷ ys) z = absurd z
  case_docs_are (x ∷ xs) [] z = absurd z
  case_docs_are (x ∷ xs) (y ∷ ys) z = λ i. z.0.1.1 i ∷ case_docs_are xs ys z.1 i

  pub parts_are : (old new : List ValueType) → AllZip (IsPartUnder types) old new → new ≡ map (renamed_type (number_under types)) old
  parts_are [] [] z = refl
  parts_are [] (y ∷ ys) z = absurd z
  parts_are (x ∷ xs) [] z = absurd z
  parts_are (x ∷ xs) (y ∷ ys) z = λ i. z.0 i ∷ parts_are xs ys z.1 i

module _ (count : ℕ) where
  pub fields_later : (f : Field) (fs : List Field) → are_fields_below count (f ∷ fs) ≡ true → are_fields_below count fs ≡ true
  fields_later f fs h = right_of (all_below count (type_numbers f.ty)) (are_fields_below count fs) h

  pub cases_later : (c : Case) (cs : List Case) → are_cases_below count (c ∷ cs) ≡ true → are_cases_below count cs ≡ true
  cases_later c cs h = right_of (all_below count (optional_numbers c.ty)) (are_cases_below count cs) h

  pub parts_later : (t : ValueType) (ts : List ValueType) → are_parts_below count (t ∷ ts) ≡ true → are_parts_below count ts ≡ true
  parts_later t ts h = right_of (all_below count (type_numbers t)) (are_parts_below count ts) h

  pub params_later : (p : Param) (ps : List Param) → are_params_below count (p ∷ ps) ≡ true → are_params_below count ps ≡ true
  params_later p ps h = right_of (all_below count (type_numbers p.ty)) (are_params_below count ps) h

  pub names_later : (e : String Global × TypeId) (es : List (String Global × TypeId)) → are_names_below count (e ∷ es) ≡ true → are_names_below count es ≡ true
  names_later e es h = right_of (nat_lt e.1.0 count) (are_names_below count es) h

  pub functions_later : (e : String Global × Function) (es : List (String Global × Function)) → AreFunctionsBelow count (e ∷ es) → AreFunctionsBelow count es
  functions_later e es h = h.1
