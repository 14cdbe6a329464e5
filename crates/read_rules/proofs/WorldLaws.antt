-- Imports and exports of a world, one by one, and what stands earlier.
use Rattle.std.proofs.Common.{rules as std_rules, ◌≡◌, refl, sym, ap, ◌∙◌, subst, ℕ, ◌+◌, ◌<◌, ◌≤◌, Bool, true, false, ◌&&◌, ◌||◌, List, [], ◌∷◌, ◌++◌, map, drop, take, length, get_or, Option, is_some, option_to_list, Result, Ok, Err, IfOk}
use Rattle.std.proofs.Math.ListN.{drop_of_length-le}
use Rattle.std.proofs.lemmas.{List.append-nil, List.drop_more, List.map-append, List.take_more, List.Folds.list_all-append}
use Rattle.std.specs.{Borrow.Bor, List.flat_map, List.list_all, List.list_any, Option.option_map_or}
use Rattle.wit_model.specs.{Text.Text, Uses.has, Names.is_label}
use Rattle.comp_meaning.specs.Rules.{distinct}
use Rattle.plan_meaning.specs.{NumberedRules.is_declared, NumberedRules.is_function, NumberedRules.is_interface, NumberedViews.function_at}
use Rattle.plan_meaning.specs.NumberedWorlds.{NumberedSeen, are_imports, is_item, is_resource_seen, others_than, path_seen, place_of_key, resources_seen, stand_earlier, used_by, uses_of}
use Rattle.read_rules.specs.declared.{scopes.Seen.Seen, scopes.Shown.Shown, views.View.View}
use Rattle.read_rules.specs.declared.{tables.Tables.Tables, views.ViewType.ViewType, scopes.InstanceKey.InstanceKey, tables.FunctionType.FunctionType}
use Rattle.read_rules.specs.{Places.places_of, Resources.AreSame, Uses.IsPlaceAdded, Uses.item_stands}
use Rattle.read_rules.specs.{Scopes.numbered_key, Scopes.numbered_seen, Scopes.numbered_shown, Worlds.IsAdded, Worlds.may_be_exported, Worlds.may_be_imported}
use Rattle.read_rules.specs.{Tables.known_in, Tables.now_of, Tables.numbered_function_type, Tables.numbered_tables, Views.numbered_type, Views.numbered_view}
use Rattle.read_rules.proofs.{PlaceLaws.same_before, PlaceLaws.stands_earlier, ResourceLaws.one_or_none}
use Rattle.base_lemmas.proofs.{Bools.and-true as and_true, Bools.or_false, Bools.or_line, Lists.map_of_map}
use Rattle.plan_meaning.specs.NumberedViews as views
use Rattle.read_rules.specs.declared.scopes.Shown.TheVariants as variants

-- ---- resources that were seen

seen_behind : (test : Text → Bool) (before : List NumberedSeen) (s : NumberedSeen)
    → list_any test (resources_seen (before ++ s ∷ [])) ≡ (list_any test (resources_seen before) || (is_resource_seen s.shown && test s.key))
seen_behind test [] s = one_or_none test s.key [] (is_resource_seen s.shown) ∙ or_false (is_resource_seen s.shown && test s.key)
seen_behind test (x ∷ xs) s = search (std_rules, one_or_none, or_line, seen_behind test xs s)

-- ---- imports

module _ (t : Tables) (home : ℕ) where
  module _ (xs : List Seen) (i : ℕ) where
    abbrev before : ℕ → List NumberedSeen
    before n = map numbered_seen (take n xs)

    abbrev later : ℕ → List NumberedSeen
    later n = map numbered_seen (drop n xs)

    module _ (d : Seen) (more : i < length xs) (ks : List Text) (same : AreSame ks (resources_seen (before i))) where
      abbrev one : Seen
      one = get_or xs i d

      next : before (i + 1) ≡ before i ++ numbered_seen one ∷ []
      next = ap (map numbered_seen) (take_more xs i d more) ∙ map-append numbered_seen (take i xs) (one ∷ [])

      module _ {v : Bool} (kept : are_imports (numbered_tables t) (known_in t) home (before i) (later i) ≡ v) where
        here : (may_be_imported t home ks (numbered_seen one) && are_imports (numbered_tables t) (known_in t) home (before i ++ numbered_seen one ∷ []) (later (i + 1))) ≡ v
        here = ap (λ b. b && are_imports (numbered_tables t) (known_in t) home (before i ++ numbered_seen one ∷ []) (later (i + 1))) (search std_rules)
            ∙ (sym (ap (λ ys. are_imports (numbered_tables t) (known_in t) home (before i) (map numbered_seen ys)) (drop_more xs i d more)) ∙ kept)

        pub import_fails : may_be_imported t home ks (numbered_seen one) ≡ false → false ≡ v
        import_fails fails = sym (ap (λ b. b && are_imports (numbered_tables t) (known_in t) home (before i ++ numbered_seen one ∷ []) (later (i + 1))) fails) ∙ here

        pub import_passes : may_be_imported t home ks (numbered_seen one) ≡ true → (new : List Text) → IsAdded ks (numbered_seen one) new
            → AreSame new (resources_seen (before (i + 1))) × (are_imports (numbered_tables t) (known_in t) home (before (i + 1)) (later (i + 1)) ≡ v)
        import_passes passes new added = (
          λ test. added test ∙ ((λ j. same test j || (is_resource_seen (numbered_seen one).shown && test one.key.now))
              ∙ (sym (seen_behind test (before i) (numbered_seen one)) ∙ ap (λ ss. list_any test (resources_seen ss)) (sym next))),
          ap (λ ss. are_imports (numbered_tables t) (known_in t) home ss (later (i + 1))) next
              ∙ (sym (ap (λ b. b && are_imports (numbered_tables t) (known_in t) home (before i ++ numbered_seen one ∷ []) (later (i + 1))) passes) ∙ here),
        )

    pub imports_end : length xs ≤ i → {v : Bool} → are_imports (numbered_tables t) (known_in t) home (before i) (later i) ≡ v → true ≡ v
    imports_end past kept = sym (ap (λ ys. are_imports (numbered_tables t) (known_in t) home (before i) (map numbered_seen ys)) (drop_of_length-le xs past)) ∙ kept

-- ---- keys

pub keys_apart : {E : Type 0} (r : Result Bool E) (xs : List Seen) → IfOk r (λ b. b ≡ distinct (map (λ s. s.key.now) xs)) → IfOk r (λ b. b ≡ distinct (map (λ s. s.key) (map numbered_seen xs)))
keys_apart r xs = subst (λ ts. IfOk r (λ b. b ≡ distinct ts)) (sym (map_of_map (λ s. s.key) numbered_seen xs))

-- ---- what is used

pub outside_some : (o : Option Text) (p : ℕ) → true ≡ is_some o → p ∷ [] ≡ option_map_or (λ path. p ∷ []) o []
outside_some x p e = search std_rules

pub outside_none : (o : Option Text) (p : ℕ) → false ≡ is_some o → [] ≡ option_map_or (λ path. p ∷ []) o []
outside_none x p e = search std_rules

others_append : (own : ℕ) (ps qs : List ℕ) → others_than own (ps ++ qs) ≡ others_than own ps ++ others_than own qs
others_append own [] qs = refl
others_append own (p ∷ ps) qs = search (std_rules, others_append own ps qs)

pub uses_along : (t : views.Tables) (h : ℕ → Bool) (own : ℕ) (xs : List ViewType)
    → list_all h (others_than own (flat_map (λ x. used_by t x.declared) (map numbered_type xs))) ≡ list_all (λ x. list_all h (others_than own (used_by t x.declared))) xs
uses_along t h own [] = refl
uses_along t h own (x ∷ xs) = search (std_rules, others_append, list_all-append, uses_along t h own xs)

-- ---- what stands earlier

same_stand : (t : views.Tables) (a b : List ℕ) → ((n : ℕ) → has a n ≡ has b n) → (seen : List NumberedSeen) → stand_earlier t a seen ≡ stand_earlier t b seen
same_stand t a b same seen = stands_earlier t a seen ∙ (same_before a b same (map (places_of t) seen) ∙ sym (stands_earlier t b seen))

module _ (t : views.Tables) (xs : List Seen) (i : ℕ) (ks : List ℕ) (rest : List NumberedSeen) {v : Bool} (kept : stand_earlier t ks (map numbered_seen (drop i xs) ++ rest) ≡ v) where
  module _ (d : Seen) (more : i < length xs) where
    abbrev two : Seen
    two = get_or xs i d

    at_one : (list_all (has ks) (uses_of t (numbered_shown two.shown)) && stand_earlier t (ks ++ path_seen (numbered_shown two.shown)) (map numbered_seen (drop (i + 1) xs) ++ rest)) ≡ v
    at_one = sym (ap (λ ys. stand_earlier t ks (map numbered_seen ys ++ rest)) (drop_more xs i d more)) ∙ kept

    pub use_fails : item_stands t ks (numbered_seen two) ≡ false → v ≡ false
    use_fails fails = sym at_one ∙ ap (λ b. b && stand_earlier t (ks ++ path_seen (numbered_shown two.shown)) (map numbered_seen (drop (i + 1) xs) ++ rest)) fails

    pub use_passes : item_stands t ks (numbered_seen two) ≡ true → (new : List ℕ) → IsPlaceAdded ks (numbered_seen two) new → stand_earlier t new (map numbered_seen (drop (i + 1) xs) ++ rest) ≡ v
    use_passes passes new same = same_stand t new (ks ++ path_seen (numbered_shown two.shown)) same (map numbered_seen (drop (i + 1) xs) ++ rest)
        ∙ (sym (ap (λ b. b && stand_earlier t (ks ++ path_seen (numbered_shown two.shown)) (map numbered_seen (drop (i + 1) xs) ++ rest)) passes) ∙ at_one)

  pub uses_end : length xs ≤ i → v ≡ stand_earlier t ks rest
  uses_end past = sym kept ∙ ap (λ ys. stand_earlier t ks (map numbered_seen ys ++ rest)) (drop_of_length-le xs past)

pub place_added : {X E : Type 0} (old new : List ℕ) (s : NumberedSeen) (p : Option ℕ) → option_to_list p ≡ path_seen s.shown → (r : Result X E)
    → IfOk r (λ _. (n : ℕ) → has new n ≡ has (old ++ option_to_list p) n) → IfOk r (λ _. IsPlaceAdded old s new)
place_added old new s p is x h = search std_rules

-- imports, and then exports
module _ (t : views.Tables) (before between after : List ℕ) (none : before ≡ []) (imports exports : List NumberedSeen) where
  pub imports_late : (b : Bool) → ((rest : List NumberedSeen) → stand_earlier t before (imports ++ rest) ≡ (b && stand_earlier t between rest)) → b ≡ false
      → false ≡ stand_earlier t [] (imports ++ exports)
  imports_late b first late = sym (ap (λ ks. stand_earlier t ks (imports ++ exports)) (sym none) ∙ (first exports ∙ ap (λ c. c && stand_earlier t between exports) late))

  pub exports_decide : (b : Bool) → ((rest : List NumberedSeen) → stand_earlier t before (imports ++ rest) ≡ (b && stand_earlier t between rest)) → b ≡ true → {E : Type 0} (r : Result Bool E)
      → IfOk r (λ c. (rest : List NumberedSeen) → stand_earlier t between (exports ++ rest) ≡ (c && stand_earlier t after rest)) → IfOk r (λ c. c ≡ stand_earlier t [] (imports ++ exports))
  exports_decide b first stands (Ok c) second = search (std_rules, append-nil exports, and_true c)
  exports_decide b first stands (Err e) second = tt

-- ---- exports

pub no_resources : (t : Tables) (home : ℕ) (ks : List (Bor (List ℕ))) → ks ≡ [] → (s : NumberedSeen) → {E : Type 0} (r : Result Bool E) → IfOk r (λ b. b ≡ may_be_imported t home (map now_of ks) s)
    → IfOk r (λ b. b ≡ may_be_exported t home s)
no_resources t home ks none s x h = search std_rules

-- ---- one item

module _ (t : Tables) (home : ℕ) (rs : List Text) (key : Text) (s : Shown) {E : Type 0} where
  abbrev Answers : Result Bool E → Type 0
  Answers r = IfOk r (λ b. b ≡ is_item (numbered_tables t) (known_in t) home rs key (numbered_shown s))

  pub instance_item : (k : InstanceKey) (v : View) → s ≡ variants.Instance k v → (p : ℕ) → p ≡ place_of_key (numbered_key k) → (r : Result Bool E)
      → IfOk r (λ b. b ≡ is_interface (numbered_tables t) (known_in t) p (numbered_view v)) → Answers r
  instance_item k v is p at y h = search std_rules

  pub function_item : (n : ℕ) → s ≡ variants.Function n → (shape : FunctionType) → numbered_function_type shape ≡ function_at (numbered_tables t) n → (r : Result Bool E)
      → IfOk r (λ b. b ≡ is_function (numbered_tables t) (known_in t) home rs key (numbered_function_type shape)) → Answers r
  function_item n is shape at y h = search std_rules

pub declared_item : (t : Tables) (home : ℕ) (rs : List Text) (key : Text) (s : Shown) (part : ℕ) (d : Option ℕ) → s ≡ variants.Declares part d → (b : Bool)
    → b ≡ (is_label key && is_declared (numbered_tables t) (known_in t) home d) → b ≡ is_item (numbered_tables t) (known_in t) home rs key (numbered_shown s)
declared_item t home rs key s part d is b h = h ∙ ap (λ x. is_item (numbered_tables t) (known_in t) home rs key (numbered_shown x)) (sym is)
