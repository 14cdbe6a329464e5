-- The numbers that a function and a kind refer to are those of their parts.
use Rattle.std.proofs.Common.{rules as std_rules, ◌≡◌, ap, ◌∙◌, ℕ, Bool, ◌&&◌, List, ◌++◌, map, filter_map, option_to_list}
use Rattle.std.proofs.lemmas.List.{Folds.list_all-append, Elements.filter_map-append}
use Rattle.std.specs.List.{list_all}
use Rattle.wit_model.proofs.Lists.{list_all_filter_map, list_all_given}
use Rattle.wit_model.specs.declared.model.{«Type».«Type» as ValueType, Case.Case, Function.Function, TypeDefKind.TypeDefKind}
use Rattle.wit_model.specs.{Types.number_of, Uses.alias_target}
use Rattle.wit_model.specs.{Lookup.resource_of, Parts.function_numbers, Parts.handled, Parts.kind_numbers, Parts.member_types}

pub numbers_all : (p : ℕ → Bool) (xs ys : List ValueType) → list_all p (filter_map number_of (xs ++ ys)) ≡ (list_all p (filter_map number_of xs) && list_all p (filter_map number_of ys))
numbers_all p xs ys = ap (list_all p) (filter_map-append number_of xs ys) ∙ list_all-append p (filter_map number_of xs) (filter_map number_of ys)

-- the numbers of a function: those of its parameters, of its result, and its resource
pub function_all : (p : ℕ → Bool) (f : Function) →
    list_all p (function_numbers f)
    ≡ ((list_all p (filter_map number_of (map (λ x. x.ty) f.params.items)) && list_all p (filter_map number_of (option_to_list f.result))) && list_all p (option_to_list (resource_of f.kind)))
function_all p f = search (std_rules, list_all-append, numbers_all)

-- the numbers of a kind: those of its members, a handle's target and an alias's
pub kind_all : (p : ℕ → Bool) (k : TypeDefKind)
    → list_all p (kind_numbers k) ≡ (list_all p (filter_map number_of (member_types k)) && (list_all p (option_to_list (handled k)) && list_all p (option_to_list (alias_target k))))
kind_all p k = search std_rules

-- the numbers of the cases of a variant
pub given_cases : (p : ℕ → Bool) (cs : List Case) → list_all p (filter_map number_of (filter_map (λ c. c.ty) cs)) ≡ list_all (λ c. list_all p (filter_map number_of (option_to_list c.ty))) cs
given_cases p cs = search (std_rules, list_all_given, list_all_filter_map)
