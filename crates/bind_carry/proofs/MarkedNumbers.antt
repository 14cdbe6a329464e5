-- Numbers that are marked one list after the other.
use Rattle.bind_carry.specs.Needs.{mark_each, mark_numbers}
use Rattle.bind_union.specs.Views.{optional_numbers, type_numbers}
use Rattle.std.proofs.Common.{Bool, List, None, Option, Some, [], ap, filter_map, flat_map, length, map, option_to_list, refl, rules as std_rules, slice_set, sym, true, ℕ, ◌++◌, ◌∙◌, ◌∷◌, ◌≡◌, ◌≤◌}
use Rattle.std.proofs.Math.Seq.{set_out}
use Rattle.wit_model.specs.{Lookup.resource_of, Parts.function_numbers, Parts.function_types, Text.Text, Text.text_of, Types.number_of}
use Rattle.wit_model.specs.declared.model.{Case.Case, Field.Field, Function.Function, «Type».«Type» as ValueType}

-- a number without a mark leaves all as they are
pub set_beyond : (marks : List Bool) (n : ℕ) → length marks ≤ n → slice_set marks n true ≡ marks
set_beyond marks n h = set_out marks n true h

pub mark_more : (xs ys : List ℕ) (marks : List Bool) → mark_numbers marks (xs ++ ys) ≡ mark_numbers (mark_numbers marks xs) ys
mark_more [] ys marks = refl
mark_more (x ∷ xs) ys marks = mark_more xs ys (slice_set marks x true)

pub each_marks : {X : Type 0} (numbers : X → List ℕ) (xs : List X) (marks : List Bool) → mark_each numbers marks xs ≡ mark_numbers marks (flat_map numbers xs)
each_marks numbers [] marks = refl
each_marks numbers (x ∷ xs) marks = each_marks numbers xs (mark_numbers marks (numbers x)) ∙ sym (mark_more (numbers x) (flat_map numbers xs) marks)

each_mapped : {X Y : Type 0} (numbers : Y → List ℕ) (f : X → Y) (xs : List X) (marks : List Bool) → mark_each numbers marks (map f xs) ≡ mark_each (λ x. numbers (f x)) marks xs
each_mapped numbers f [] marks = refl
each_mapped numbers f (x ∷ xs) marks = each_mapped numbers f xs (mark_numbers marks (numbers (f x)))

each_more : {X : Type 0} (numbers : X → List ℕ) (xs ys : List X) (marks : List Bool) → mark_each numbers marks (xs ++ ys) ≡ mark_each numbers (mark_each numbers marks xs) ys
each_more numbers [] ys marks = refl
each_more numbers (x ∷ xs) ys marks = each_more numbers xs ys (mark_numbers marks (numbers x))

pub fields_marks : (fs : List Field) (marks : List Bool) → mark_each (λ f. type_numbers f.ty) marks fs
    ≡ mark_numbers marks (flat_map (λ (x : Text × ValueType). type_numbers x.1) (map (λ f. (text_of f.name, f.ty)) fs))
fields_marks fs marks = sym (each_mapped (λ (x : Text × ValueType). type_numbers x.1) (λ (f : Field). (text_of f.name, f.ty)) fs marks)
    ∙ each_marks (λ (x : Text × ValueType). type_numbers x.1) (map (λ f. (text_of f.name, f.ty)) fs) marks

pub cases_marks : (cs : List Case) (marks : List Bool) → mark_each (λ c. optional_numbers c.ty) marks cs
    ≡ mark_numbers marks (flat_map (λ (x : Text × Option ValueType). optional_numbers x.1) (map (λ c. (text_of c.name, c.ty)) cs))
cases_marks cs marks = sym (each_mapped (λ (x : Text × Option ValueType). optional_numbers x.1) (λ (c : Case). (text_of c.name, c.ty)) cs marks)
    ∙ each_marks (λ (x : Text × Option ValueType). optional_numbers x.1) (map (λ c. (text_of c.name, c.ty)) cs) marks

-- ---- functions

one_more : (t : ValueType) (ts : List ValueType) (marks : List Bool) → mark_numbers (mark_numbers marks (type_numbers t)) (filter_map number_of ts) ≡ mark_numbers marks (filter_map number_of (t ∷ ts))
one_more x ts marks = search std_rules

types_marks : (ts : List ValueType) (marks : List Bool) → mark_each type_numbers marks ts ≡ mark_numbers marks (filter_map number_of ts)
types_marks [] marks = refl
types_marks (t ∷ ts) marks = types_marks ts (mark_numbers marks (type_numbers t)) ∙ one_more t ts marks

given_marks : (o : Option ValueType) (marks : List Bool) → mark_numbers marks (optional_numbers o) ≡ mark_each type_numbers marks (option_to_list o)
given_marks None marks = refl
given_marks (Some t) marks = refl

pub function_marks : (f : Function) (marks : List Bool)
    → mark_numbers (mark_numbers (mark_each (λ p. type_numbers p.ty) marks f.params.items) (optional_numbers f.result)) (option_to_list (resource_of f.kind)) ≡ mark_numbers marks (function_numbers f)
function_marks f marks =
    let params = map (λ p. p.ty) f.params.items in
    let inner = mark_each (λ p. type_numbers p.ty) marks f.params.items in
    ap (λ l. mark_numbers l (option_to_list (resource_of f.kind)))
    (given_marks f.result inner ∙ (ap (λ l. mark_each type_numbers l (option_to_list f.result)) (sym (each_mapped type_numbers (λ p. p.ty) f.params.items marks))
    ∙ (sym (each_more type_numbers params (option_to_list f.result) marks) ∙ types_marks (function_types f) marks)))
    ∙ sym (mark_more (filter_map number_of (function_types f)) (option_to_list (resource_of f.kind)) marks)
