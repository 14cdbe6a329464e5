-- The functions of a world are those of its imports and those of its exports.
use Rattle.std.proofs.Common.{◌≡◌, ◌∙◌, refl, ap, ℕ, Bool, ◌&&◌, List, [], ◌∷◌, ◌++◌, filter_map, flat_map, option_to_list}
use Rattle.std.proofs.lemmas.List.{Elements.filter_map-append, Folds.list_all-append, Concat.flat_map-append as flat_append}
use Rattle.std.specs.List.{list_all}
use Rattle.wit_model.specs.declared.model.{Function.Function, WorldItem.WorldItem, «Type».«Type» as ValueType}
use Rattle.wit_model.specs.{Types.number_of, Parts.function_types, Checks.values_of, Checks.all_values, Valid.item_function}
use Rattle.wit_model.proofs.Lists.{list_all_filter_map}

pub of_items : (f : Function → List ℕ) (xs ys : List WorldItem)
    → flat_map f (filter_map item_function (xs ++ ys)) ≡ flat_map f (filter_map item_function xs) ++ flat_map f (filter_map item_function ys)
of_items f xs ys = ap (flat_map f) (filter_map-append item_function xs ys) ∙ flat_append f (filter_map item_function xs) (filter_map item_function ys)

-- a test of all that is given is a test of each
pub all_flat : {A B : Type 0} (p : B → Bool) (f : A → List B) (xs : List A) → list_all p (flat_map f xs) ≡ list_all (λ x. list_all p (f x)) xs
all_flat p f [] = refl
all_flat p f (x ∷ xs) = list_all-append p (f x) (flat_map f xs) ∙ ap (λ b. list_all p (f x) && b) (all_flat p f xs)

-- a test of types that passes primitives is a test of their numbers
module _ (p : ℕ → Bool) (q : ValueType → Bool) (same : (t : ValueType) → list_all p (option_to_list (number_of t)) ≡ q t) where
  pub types_test : (ts : List ValueType) → list_all p (filter_map number_of ts) ≡ list_all q ts
  types_test ts = list_all_filter_map p number_of ts ∙ ap (λ test. list_all test ts) (λ i t. same t i)

  pub functions_test : (fs : List Function) → list_all p (all_values fs) ≡ list_all (λ f. list_all q (function_types f)) fs
  functions_test fs = all_flat p values_of fs ∙ ap (λ test. list_all test fs) (λ i f. types_test (function_types f) i)
