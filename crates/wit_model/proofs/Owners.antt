-- What is met at a number may be summed up along the list of types, where each refers to smaller numbers alone.
use Rattle.std.proofs.Common.{rules as std_rules, ◌≡◌, refl, sym, ap, subst, ◌∙◌, ℕ, zero, suc, ◌+◌, ◌<◌, ◌≤◌, Bool, true, false, ◌&&◌, ◌||◌, not, ◌==◌, nat_lt, nat_le, T, ltb→lt, List, [], ◌∷◌, length, take, filter, flat_map, option_to_list, Some, None, Option, unwrap_or, slice_get, is_some, arith, String}
use Rattle.std.proofs.lemmas.{Option.slice_get_past, List.Folds.list_all-append, Bool.Decides.nat_tests, List.Concat.flat_map-append as flat_append}
use Rattle.std.specs.declared.alloc.Global.{Global}
use Rattle.std.specs.{List.list_all, Option.option_map_or}
use Rattle.indexmap.specs.IndexMap.{values}
use Rattle.wit_model.specs.declared.model.{Resolve.Resolve, Interface.Interface, TypeDef.TypeDef, TypeOwner.TypeOwner, Function.Function}
use Rattle.wit_model.specs.{Lookup.type_at, Lookup.interface_at, Lookup.resource_of, Rules.function_stays, Rules.type_stays, Rules.is_use, Rules.is_member}
use Rattle.wit_model.specs.Parts.{kind_numbers, met_by, met_at, met_of, numbered_from, used_by_type, used_by_function, same_owner, has_owner}
use Rattle.wit_model.specs.{Uses.once, Uses.interface_used_by, Uses.direct_deps, Valid.Keeps, Checks.references}
use Rattle.wit_model.proofs.{Lists.list_all_filter_map, Tables.grow_at, Tables.grow_keeps, Checks.below_at, Functions.all_flat}
use Rattle.base_lemmas.proofs.{Bools.and-true, Bools.left_of as first_true, Bools.right_of as second_true, Elements.flat-same as flat_same}
use Rattle.base_lemmas.proofs.Lists.{slice_take as get_take}
use Rattle.wit_model.specs.declared.model.TypeOwner.TheVariants as owner

pub numbered_at : {A : Type 0} (k : ℕ) (xs : List A) (n : ℕ) (x : A) → slice_get xs n ≡ Some x → slice_get (numbered_from k xs) n ≡ Some (k + n, x)
numbered_at k [] n x e = search std_rules
numbered_at k (y ∷ ys) zero x e = search std_rules
numbered_at k (y ∷ ys) (suc n) x e = search (std_rules, numbered_at (k + 1) ys n x e)

numbered_long : {A : Type 0} (k : ℕ) (xs : List A) → length (numbered_from k xs) ≡ length xs
numbered_long k [] = refl
numbered_long k (x ∷ xs) = ap suc (numbered_long (k + 1) xs)

-- what is met at a number: itself where it has a name, and else what its type uses
pub met_step : (r : Resolve) → Keeps references r → (n : ℕ) (def : TypeDef) → type_at r n ≡ Some def → met_by (met_of r) n ≡ option_map_or (λ name. n ∷ []) def.name (used_by_type r def)
unfolding met_of
met_step r below n def is = ap (λ o. unwrap_or o []) (grow_at met_at (numbered_from 0 r.types.items) n (n, def) here)
    ∙ ap (λ xs. option_map_or (λ name. n ∷ []) def.name xs) (flat_same (met_by (take n (met_of r))) (met_by (met_of r)) n (kind_numbers def.kind)
    (λ m low. ap (λ o. unwrap_or o []) (get_take (met_of r) n m low)) (below_at r below n def is))
  where
    here : slice_get (numbered_from 0 r.types.items) n ≡ Some (n, def)
    here = let zero_n : 0 + n ≡ n = omega arith in subst (λ m. slice_get (numbered_from 0 r.types.items) n ≡ Some (m, def)) zero_n (numbered_at 0 r.types.items n def is)

pub nothing_past : (r : Resolve) (n : ℕ) → length r.types.items ≤ n → met_by (met_of r) n ≡ []
unfolding met_of
nothing_past r n h =
    let made = grow_keeps met_at [] (numbered_from 0 r.types.items) in
    let long : length (met_of r) ≤ n = omega (arith, h, ap length made.1, made.2, numbered_long 0 r.types.items) in
    ap (λ o. unwrap_or o []) (slice_get_past (met_of r) n long)

module _ (r : Resolve) (below : Keeps references r) (n : ℕ) (def : TypeDef) (is : type_at r n ≡ Some def) (o : TypeOwner) where
  -- a named type is met alone
  pub named_met : is_some def.name ≡ true → same_owner def.owner o ≡ list_all (has_owner r o) (met_by (met_of r) n)
  named_met h = sym (ap (list_all (has_owner r o)) (met_step r below n def is) ∙ go def.name h)
    where
      go : (name : Option (String Global)) → is_some name ≡ true → list_all (has_owner r o) (option_map_or (λ name. n ∷ []) name (used_by_type r def)) ≡ same_owner def.owner o
      go None e = cc
      go (Some name) e = and-true (has_owner r o n) ∙ ap (λ d. option_map_or (λ x. same_owner x.owner o) d false) is

  -- an unnamed type is opened
  pub unnamed_met : is_some def.name ≡ false → list_all (λ m. list_all (has_owner r o) (met_by (met_of r) m)) (kind_numbers def.kind) ≡ list_all (has_owner r o) (met_by (met_of r) n)
  unnamed_met h = sym (ap (list_all (has_owner r o)) (met_step r below n def is ∙ go def.name h) ∙ all_flat (has_owner r o) (met_by (met_of r)) (kind_numbers def.kind))
    where
      go : (name : Option (String Global)) → is_some name ≡ false → option_map_or (λ name. n ∷ []) name (used_by_type r def) ≡ used_by_type r def
      go None e = refl
      go (Some name) e = cc

pub all_same_below : (p q : ℕ → Bool) (n : ℕ) (ns : List ℕ) → ((m : ℕ) → m < n → p m ≡ q m) → list_all (λ m. nat_lt m n) ns ≡ true → list_all p ns ≡ list_all q ns
all_same_below p q n [] same h = refl
all_same_below p q n (m ∷ ns) same h = λ i. same m (ltb→lt m n (subst T (sym (first_true _ _ h)) tt)) i && all_same_below p q n ns same (second_true _ _ h) i

-- ---- a function's own resource

-- a resource that a function belongs to has the function's owner, and a name
member_met : (r : Resolve) → Keeps references r → (o : TypeOwner) (f : Function) → is_member r o f ≡ true
    → list_all (has_owner r o) (flat_map (met_by (met_of r)) (option_to_list (resource_of f.kind))) ≡ true
member_met r below o f h = search (std_rules, list_all-append, named_met)

-- all that a function uses belongs to its owner
pub function_home : (r : Resolve) → Keeps references r → (o : TypeOwner) (f : Function) → function_stays r o f ≡ true → is_member r o f ≡ true → list_all (has_owner r o) (used_by_function r f) ≡ true
function_home r below o f stays belongs = search (std_rules, flat_append, list_all-append, member_met)

-- what the rule says of a type that has an owner
pub owned_stays : (r : Resolve) (def : TypeDef) → type_stays r def ≡ true → same_owner def.owner owner.None ≡ false → (list_all (has_owner r def.owner) (used_by_type r def) || is_use r def) ≡ true
owned_stays r def h owned = search std_rules

-- ---- an interface uses smaller ones alone

pub all_filter : (p q : ℕ → Bool) (ns : List ℕ) → list_all p (filter q ns) ≡ list_all (λ n. not (q n) || p n) ns
all_filter p q [] = refl
all_filter p q (n ∷ ns) = search (std_rules, all_filter p q ns)

-- a test that a number passes asks nothing of its repetitions
repeated : (p : ℕ → Bool) (n : ℕ) → p n ≡ true → (m : ℕ) → (not (not (m == n)) || p m) ≡ p m
repeated p n e m = search std_rules

pub all_once : (p : ℕ → Bool) (ns : List ℕ) → list_all p (once ns) ≡ list_all p ns
all_once p [] = refl
all_once p (n ∷ ns) = search (std_rules, all_filter, repeated, all_once p ns)

within : (n m : ℕ) → (not (not (m == n)) || nat_lt m n) ≡ nat_le m n
within n m = grind (arith, nat_tests)

pub used_within : (r : Resolve) (n : ℕ) (i : Interface) → interface_at r n ≡ Some i →
    list_all (λ id. list_all (λ m. nat_le m n) (option_to_list (interface_used_by r id.0))) (values i.types) ≡ list_all (λ m. nat_lt m n) (direct_deps r n)
used_within r n i is = search (std_rules, list_all_filter_map, all_once, within, all_filter)
