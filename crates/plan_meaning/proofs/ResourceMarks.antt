-- Which numbers are resources: the marks along a plan's types say what following aliases finds.
use Rattle.std.proofs.Common.{rules as std_rules, ◌≡◌, refl, sym, ap, ◌∙◌, ℕ, zero, suc, ◌+◌, ◌<◌, ◌≤◌, Bool, true, false, ◌&&◌, not, nat_lt, ltb→lt, List, [], ◌∷◌, length, map, take, filter_map, option_map, option_to_list, Option, Some, None, slice_get, unwrap_or, arith}
use Rattle.std.proofs.lemmas.{Option.slice_get_past, Option.slice_get-map as get_of_map, Bool.and_from as both}
use Rattle.std.specs.{List.list_all, List.cons_option, Option.option_map_or}
use Rattle.wit_model.specs.declared.model.{Resolve.Resolve, TypeDefKind.TypeDefKind, «Type».«Type» as ValueType, TypeOwner.TypeOwner, Function.Function}
use Rattle.wit_model.specs.declared.model.TypeDef.{TypeDef}
use Rattle.wit_model.specs.{Lookup.type_at, Types.number_of, Rules.passes, Checks.references}
use Rattle.wit_model.specs.{Parts.member_types, Parts.handled, Parts.function_types, Parts.is_resource_type, Parts.is_resource_kind, Valid.Keeps, Valid.handles}
use Rattle.wit_model.proofs.{Lists.list_all_filter_map, Tables.grow_at, Tables.grow_keeps}
use Rattle.wit_model.proofs.{Checks.below_at, Checks.references_kept, Checks.keeps_three, Resources.resource_step, Resources.no_resource}
use Rattle.plan_meaning.specs.Plan.{PlannedType, part_number, marked_at, resource_marks}
use Rattle.plan_meaning.specs.{PlanRules.IsPlan, Built.part_of, Built.planned_kind, Built.planned_type, Built.planned_function}
use Rattle.plan_meaning.proofs.Lists.{each_built, each_from_built}
use Rattle.plan_meaning.proofs.Words.{plan_of, behind, number_part, kind_numbers_are, value_numbers_are}
use Rattle.plan_meaning.proofs.FunctionRules.{interfaces_pass, worlds_pass, formed_pass, members_pass}
use Rattle.base_lemmas.proofs.{Bools.left_of as first_true, Bools.right_of as second_true, Lists.length_of_map, Lists.slice_take}
use Rattle.wit_model.specs.declared.model.TypeDefKind.TheVariants as kind
use Rattle.wit_model.specs.declared.model.Handle.TheVariants as handle
use Rattle.wit_model.specs.Parts as parts
use Rattle.plan_meaning.specs.Plan as plan
use Rattle.plan_meaning.specs.PlanRules as planned

pub nothing : {A : Type 0} (xs : List A) (k : ℕ) → slice_get xs k ≡ None → length xs ≤ k
nothing [] k e = omega arith
nothing (x ∷ xs) zero e = absurd (let wrong : ⊥ = cc in wrong)
nothing (x ∷ xs) (suc k) e = omega (arith, nothing xs k e)

module _ (r : Resolve) (m : ℕ) (below : Keeps references r) where
  abbrev marks : List Bool
  marks = resource_marks (plan_of r m)

  -- the mark of a type with a kind, from those before n
  abbrev mark : ℕ → TypeDef → Bool
  mark n def = marked_at (take n marks) (planned_type def)

  module _ (n : ℕ) (same : (j : ℕ) → j < n → plan.is_resource (plan_of r m) j ≡ parts.is_resource r j) where
    alias_mark : (t : ValueType) → list_all (λ j. nat_lt j n) (option_to_list (number_of t)) ≡ true
        → option_map_or (λ j. unwrap_or (slice_get (take n marks) j) false) (part_number (part_of t)) false ≡ option_map_or (parts.is_resource r) (number_of t) false
    alias_mark t low = ap (λ o. option_map_or (λ j. unwrap_or (slice_get (take n marks) j) false) o false) (number_part t) ∙ go (number_of t) low
      where
        go : (o : Option ℕ) → list_all (λ j. nat_lt j n) (option_to_list o) ≡ true
            → option_map_or (λ j. unwrap_or (slice_get (take n marks) j) false) o false ≡ option_map_or (parts.is_resource r) o false
        go None low = refl
        go (Some j) low = search (std_rules, ltb→lt, first_true, slice_take)

    mark_is : (k : TypeDefKind) (x : PlannedType) → x.kind ≡ planned_kind k → list_all (λ j. nat_lt j n) (parts.kind_numbers k) ≡ true
        → marked_at (take n marks) x ≡ is_resource_kind (parts.is_resource r) k
    mark_is (kind.Type_ t) x e low = ap (λ y. marked_at (take n marks) (record x { kind = y })) e ∙ alias_mark t low
    mark_is kind.Resource x e low = ap (λ y. marked_at (take n marks) (record x { kind = y })) e
    mark_is (kind.Handle (handle.Own id)) x e low = ap (λ z. marked_at (take n marks) (record x { kind = z })) e
    mark_is _ x e low = ap (λ z. marked_at (take n marks) (record x { kind = z })) e

  marked : (n : ℕ) (def : TypeDef) → type_at r n ≡ Some def → plan.is_resource (plan_of r m) n ≡ mark n def
  unfolding resource_marks
  marked n def e = ap (λ o. unwrap_or o false) (grow_at marked_at (map planned_type r.types.items) n (planned_type def) (get_of_map planned_type r.types.items n ∙ ap (option_map planned_type) e))

  unmarked : (n : ℕ) → length r.types.items ≤ n → plan.is_resource (plan_of r m) n ≡ false
  unfolding resource_marks
  unmarked n h = search (std_rules, grow_keeps marked_at [] (map planned_type r.types.items), plan_of r m, plan_of r m, length_of_map planned_type r.types.items, slice_get_past)

  resource_step_is : (n : ℕ) → ((j : ℕ) → j < n → plan.is_resource (plan_of r m) j ≡ parts.is_resource r j) → plan.is_resource (plan_of r m) n ≡ parts.is_resource r n
  resource_step_is n same = go (type_at r n) refl
    where
      go : (o : Option TypeDef) → type_at r n ≡ o → plan.is_resource (plan_of r m) n ≡ parts.is_resource r n
      go (Some def) e = marked n def e ∙ (mark_is n same def.kind (planned_type def) refl (below_at r below n def e) ∙ sym (resource_step r below n def e))
      go None e = let past : length r.types.items ≤ n = nothing r.types.items n e in unmarked n past ∙ sym (no_resource r n past)

  resource_by : (s n : ℕ) → n < s → plan.is_resource (plan_of r m) n ≡ parts.is_resource r n
  resource_by zero n h = absurd (omega (arith, h))
  resource_by (suc s) n h = resource_step_is n (λ j low. resource_by s j (omega (arith, low, h)))

  pub resource_is : (n : ℕ) → plan.is_resource (plan_of r m) n ≡ parts.is_resource r n
  resource_is n = resource_by (suc n) n (omega arith)

module _ (r : Resolve) (m : ℕ) (is : IsPlan (plan_of r m)) where
  pub references_hold : Keeps references r
  unfolding references
  references_hold = search (std_rules, references_kept, each_built, kind_numbers_are)

  abbrev no_resource_at : ℕ → Bool
  no_resource_at n = not (plan.is_resource (plan_of r m) n)

  -- the test of a part
  abbrev value_part : ℕ → Bool
  value_part k = list_all no_resource_at (option_to_list (part_number k))

  value_passes : (t : ValueType) → value_part (part_of t) ≡ true → not (is_resource_type r t) ≡ true
  value_passes t h = search (std_rules, number_part, resource_is, references_hold, first_true)

  abbrev takes_values : TypeOwner → Function → Bool
  takes_values o f = list_all (λ t. not (is_resource_type r t)) (function_types f)

  function_passes : (o : TypeOwner) (f : Function) → planned.takes_values (plan_of r m) (planned_function f) ≡ true → takes_values o f ≡ true
  function_passes o f h = members (function_types f) (sym (list_all_filter_map no_resource_at number_of (function_types f)) ∙ (ap (list_all no_resource_at) (sym (value_numbers_are f)) ∙ h))
    where
      members : (ts : List ValueType) → list_all (λ t. list_all no_resource_at (option_to_list (number_of t))) ts ≡ true → list_all (λ t. not (is_resource_type r t)) ts ≡ true
      members [] h = refl
      members (t ∷ ts) h = both _ _ (value_passes t (ap (λ o. list_all no_resource_at (option_to_list o)) (number_part t) ∙ first_true _ _ h)) (members ts (second_true _ _ h))

  -- a kind that is no handle
  of_values : (k : TypeDefKind) (ks : List ℕ) → formed_pass value_part (planned_kind k) ≡ list_all value_part ks → handled k ≡ None → list_all no_resource_at (filter_map part_number ks) ≡ true
      → (list_all (λ t. not (is_resource_type r t)) (member_types k) && passes (parts.is_resource r) (handled k)) ≡ true
  of_values k ks same none h = search (std_rules, both, members_pass, value_passes, list_all_filter_map)

  of_handle : (n : ℕ) → list_all (plan.is_resource (plan_of r m)) (filter_map part_number ((14 + n) ∷ [])) ≡ true → parts.is_resource r n ≡ true
  of_handle n h = sym (resource_is r m references_hold n) ∙ first_true _ true (ap (λ o. list_all (plan.is_resource (plan_of r m)) (cons_option o [])) (sym (behind n)) ∙ h)

  kind_passes : (k : TypeDefKind) → planned.handles_resources (plan_of r m) (planned_kind k) ≡ true
      → (list_all (λ t. not (is_resource_type r t)) (member_types k) && passes (parts.is_resource r) (handled k)) ≡ true
  kind_passes (kind.Record x) h = of_values (kind.Record x) (plan.kind_parts (planned_kind (kind.Record x))) refl refl h
  kind_passes (kind.Handle (handle.Own id)) h = of_handle id.0 h
  kind_passes (kind.Handle (handle.Borrow id)) h = of_handle id.0 h
  kind_passes (kind.Tuple x) h = of_values (kind.Tuple x) (plan.kind_parts (planned_kind (kind.Tuple x))) refl refl h
  kind_passes (kind.Variant x) h = of_values (kind.Variant x) (plan.kind_parts (planned_kind (kind.Variant x))) refl refl h
  kind_passes (kind.Option t) h = of_values (kind.Option t) (part_of t ∷ []) refl refl h
  kind_passes (kind.Result x) h = of_values (kind.Result x) (plan.kind_parts (planned_kind (kind.Result x))) refl refl h
  kind_passes (kind.List t) h = of_values (kind.List t) (part_of t ∷ []) refl refl h
  kind_passes (kind.Map k v) h = of_values (kind.Map k v) (part_of k ∷ part_of v ∷ []) refl refl h
  kind_passes (kind.FixedLengthList t n) h = of_values (kind.FixedLengthList t n) (part_of t ∷ []) refl refl h
  kind_passes (kind.Future t) h = of_values (kind.Future t) (plan.kind_parts (planned_kind (kind.Future t))) refl refl h
  kind_passes (kind.Stream t) h = of_values (kind.Stream t) (plan.kind_parts (planned_kind (kind.Stream t))) refl refl h
  kind_passes _ h = refl

  pub handles_kept : Keeps handles r
  unfolding handles
  handles_kept = keeps_three handles r refl (interfaces_pass r m (λ o f. planned.takes_values (plan_of r m) f) takes_values function_passes is.functions_take_values)
      (worlds_pass r m (λ o f. planned.takes_values (plan_of r m) f) takes_values function_passes is.functions_take_values)
      (each_from_built planned_type (λ t. planned.handles_resources (plan_of r m) t.kind)
      (λ def. list_all (λ t. not (is_resource_type r t)) (member_types def.kind) && passes (parts.is_resource r) (handled def.kind)) (λ def h. kind_passes def.kind h) r.types.items is.handles)
