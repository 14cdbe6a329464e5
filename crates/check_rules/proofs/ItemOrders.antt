-- The order of a world's items, by what is shown and by how far its functions reach.
use Rattle.std.proofs.Common.{rules as std_rules, ◌≡◌, refl, sym, ap, subst, ◌∙◌, ℕ, ◌+◌, Bool, true, false, ◌&&◌, ◌||◌, not, nat_le, List, [], ◌∷◌, ◌++◌, take, length, map, filter, filter_map, option_to_list, Some, append_assoc, append-nil, length-append, arith}
use Rattle.std.proofs.lemmas.List.{Elements.filter_map-append, Folds.list_any-append}
use Rattle.std.specs.{List.list_all, List.cons_option, Map.values_of}
use Rattle.indexmap.specs.IndexMap.{values}
use Rattle.wit_model.specs.declared.model.{Resolve.Resolve, World.World, WorldKey.WorldKey, WorldItem.WorldItem, Function.Function}
use Rattle.wit_model.specs.{Text.text_of, Lookup.world_at, Uses.has, Uses.item_interface, Uses.items_of, ItemOrders.uses_are_shown, ItemOrders.reaches_within}
use Rattle.wit_model.specs.Parts.{function_numbers, met_by, met_of, used_by_function, has_owner}
use Rattle.wit_model.specs.Rules.{passes, each_from, each_after, is_name_key, item_type, world_type_numbers, are_in_order, used_by_number, used_interfaces, used_types, uses_stand_before, is_member}
use Rattle.wit_model.specs.Valid.{Keeps, as_world, item_function, functions_of_world, function_names, order_of_items, order_of_types, owners}
use Rattle.wit_model.specs.Checks.{KeepsIn, references, listings, list_orders, rank_of, reach_of}
use Rattle.wit_model.proofs.{Lists.list_all_filter_map, Shown.after_both, Shown.after_append, Shown.interfaces_before}
use Rattle.wit_model.proofs.{Entries.each_from_at, Entries.free_passes, Entries.lists_pass, Checks.keeps_lists, Checks.keeps_three, Checks.references_kept}
use Rattle.wit_model.proofs.{Owners.all_filter, Owners.function_home, InOrder.highest_within}
use Rattle.check_rules.proofs.{Ordered.highest_flat, OwnerOrder.stands_in, OwnerOrder.owned_place, OwnerOrder.all_same, OwnerOrder.before_seam, ListOrders.world_listed, ListOrders.world_placed}
use Rattle.base_lemmas.proofs.{Bools.left_of as first_true, Bools.right_of as second_true, Elements.all_weaker as all_imply}
use Rattle.wit_model.specs.declared.error.EntryList.TheVariants as lists
use Rattle.wit_model.specs.declared.model.WorldItem.TheVariants as item

-- ---- the parts of the rule on the order of types

each_first : {A : Type 0} (p q : ℕ → A → Bool) (k : ℕ) (xs : List A) → each_from (λ n x. p n x && q n x) k xs ≡ true → each_from p k xs ≡ true
each_first p q k [] h = refl
each_first p q k (x ∷ xs) h = λ i. first_true (p k x) (q k x) (first_true (p k x && q k x) _ h) i && each_first p q (k + 1) xs (second_true (p k x && q k x) _ h) i

each_second : {A : Type 0} (p q : ℕ → A → Bool) (k : ℕ) (xs : List A) → each_from (λ n x. p n x && q n x) k xs ≡ true → each_from q k xs ≡ true
each_second p q k [] h = refl
each_second p q k (x ∷ xs) h = λ i. second_true (p k x) (q k x) (first_true (p k x && q k x) _ h) i && each_second p q (k + 1) xs (second_true (p k x && q k x) _ h) i

pub order_refers : (r : Resolve) → Keeps order_of_types r → Keeps references r
unfolding references listings order_of_types
order_refers r kept = references_kept r (each_first (references.type_ r) (listings.type_ r) 0 r.types.items (lists_pass order_of_types r kept).3)

pub order_lists : (r : Resolve) → Keeps order_of_types r → Keeps listings r
unfolding references listings list_orders order_of_types
order_lists r kept = keeps_three listings r refl (each_first (listings.interface_ r) (list_orders.interface_ r) 0 r.interfaces.items (lists_pass order_of_types r kept).1)
    (each_first (listings.world_ r) (list_orders.world_ r) 0 r.worlds.items (lists_pass order_of_types r kept).2)
    (each_second (references.type_ r) (listings.type_ r) 0 r.types.items (lists_pass order_of_types r kept).3)

order_stands : (r : Resolve) → Keeps order_of_types r → (n : ℕ) (w : World) → world_at r n ≡ Some w → are_in_order r (world_type_numbers w) ≡ true
unfolding order_of_types
order_stands r kept n w at = second_true _ _ (each_from_at (order_of_types.world_ r) 0 r.worlds.items n w (lists_pass order_of_types r kept).2 at)

-- ---- lists

-- a walk with what stands before is a walk with places
places_before : {V : Type 0} (vs : List V) (q : List V → V → Bool) (t : ℕ → V → Bool) → ((done : List V) (v : V) (rest : List V) → vs ≡ done ++ v ∷ rest → q done v ≡ t (length done) v)
    → (done rest : List V) → vs ≡ done ++ rest → each_after q done rest ≡ each_from t (length done) rest
places_before vs q t same done [] e = refl
places_before vs q t same done (v ∷ rest) e = search (std_rules, length-append, append_assoc, places_before vs q t same (done ++ v ∷ []) rest (e ∙ sym (append_assoc done (v ∷ []) rest)))

-- a walk whose test always passes behind a list
passes_behind : {V : Type 0} (q : List V → V → Bool) (base : List V) → ((done : List V) (v : V) → q (base ++ done) v ≡ true) → (done rest : List V) → each_after q (base ++ done) rest ≡ true
passes_behind q base all done [] = refl
passes_behind q base all done (v ∷ rest) = search (std_rules, append_assoc, passes_behind q base all (done ++ v ∷ []) rest)

after_at : {V : Type 0} (q : List V → V → Bool) (before xs : List V) (v : V) (ys : List V) → each_after q before (xs ++ v ∷ ys) ≡ true → q (before ++ xs) v ≡ true
after_at q before [] v ys h = ap (λ b. q b v) (append-nil before) ∙ first_true _ _ h
after_at q before (x ∷ xs) v ys h = search (std_rules, append_assoc, second_true, after_at q (before ++ x ∷ []) xs v ys (second_true (q before x) _ h))

all_there : {V : Type 0} (p : V → Bool) (xs : List V) (v : V) (ys : List V) → list_all p (xs ++ v ∷ ys) ≡ true → p v ≡ true
all_there p [] v ys h = first_true _ _ h
all_there p (x ∷ xs) v ys h = all_there p xs v ys (second_true (p x) _ h)

all_yes : (p : ℕ → Bool) → ((m : ℕ) → p m ≡ true) → (ns : List ℕ) → list_all p ns ≡ true
all_yes p all [] = refl
all_yes p all (m ∷ ns) = λ i. all m i && all_yes p all ns i

-- a test of what is kept, where what is kept passes
kept_pass : (c p : ℕ → Bool) → ((m : ℕ) → c m ≡ true → p m ≡ true) → (ns : List ℕ) → list_all p (filter c ns) ≡ true
kept_pass c p step ns = search (std_rules, all_filter, all_yes)

all_kept : (c p : ℕ → Bool) (ns : List ℕ) → list_all c ns ≡ true → list_all p (filter c ns) ≡ list_all p ns
all_kept c p ns h = all_filter p c ns ∙ all_same c (λ m. not (c m) || p m) p (λ m e. ap (λ b. not b || p m) e) ns h

-- ---- the types of one world

module _ (r : Resolve) (order : Keeps order_of_types r) (own : Keeps owners r) (names : Keeps function_names r) (n : ℕ) (w : World) (at : world_at r n ≡ Some w) where
  -- a type of the world stands in its imports
  stands : (m : ℕ) → has_owner r (as_world n) m ≡ true → has (world_type_numbers w) m ≡ true
  stands = stands_in r (order_lists r order) item_type (as_world n) w.imports.entries is_name_key refl (world_listed r n w at) (world_placed r n w at)

  -- it stands before an import where its place is at most that of the import
  place_before : (done : List WorldItem) (v : WorldItem) (rest : List WorldItem) → values w.imports ≡ done ++ v ∷ rest → (m : ℕ) → has_owner r (as_world n) m ≡ true
      → has (filter_map item_type done) m ≡ nat_le (rank_of r m) (length done)
  place_before done v rest e m h = ap (λ vs. has (filter_map item_type vs) m) (sym (before_seam w.imports.entries done v rest e))
      ∙ (ap (λ b. not b || has (filter_map item_type (values_of (take (length done) w.imports.entries))) m) (sym (stands m h))
      ∙ owned_place r (order_lists r order) item_type (as_world n) w.imports.entries is_name_key refl (world_listed r n w at) (world_placed r n w at) (length done) m h)

  -- ---- what one import uses

  abbrev ready : List WorldItem → WorldItem → Bool
  ready before v = list_all (has (filter_map item_type before)) (used_types r n v)

  -- a type of the world's list uses what stands earlier in it
  type_ready : (done : List WorldItem) (k : ℕ) (rest : List WorldItem) (v : WorldItem) → values w.imports ≡ done ++ v ∷ rest → item_type v ≡ Some k →
      list_all (has (filter_map item_type done)) (filter (has_owner r (as_world n)) (used_by_number r k)) ≡ true
  type_ready done k rest v e is = all_filter (has (filter_map item_type done)) (has_owner r (as_world n)) (used_by_number r k)
      ∙ all_imply (λ m. not (has (world_type_numbers w) m) || has (filter_map item_type done) m) (λ m. not (has_owner r (as_world n) m) || has (filter_map item_type done) m) step
      (used_by_number r k) before
    where
      given : world_type_numbers w ≡ filter_map item_type done ++ k ∷ filter_map item_type rest
      given = ap (filter_map item_type) e ∙ (filter_map-append item_type done (v ∷ rest) ∙ ap (λ o. filter_map item_type done ++ cons_option o (filter_map item_type rest)) is)

      before : list_all (λ m. not (has (world_type_numbers w) m) || has (filter_map item_type done) m) (used_by_number r k) ≡ true
      before = after_at (λ b j. list_all (λ m. not (has (world_type_numbers w) m) || has b m) (used_by_number r j)) [] (filter_map item_type done) k (filter_map item_type rest)
          (ap (each_after (λ b j. list_all (λ m. not (has (world_type_numbers w) m) || has b m) (used_by_number r j)) []) (sym given) ∙ order_stands r order n w at)

      step : (m : ℕ) → (not (has (world_type_numbers w) m) || has (filter_map item_type done) m) ≡ true → (not (has_owner r (as_world n) m) || has (filter_map item_type done) m) ≡ true
      step m h = go (has_owner r (as_world n) m) refl
        where
          go : (b : Bool) → has_owner r (as_world n) m ≡ b → (not b || has (filter_map item_type done) m) ≡ true
          go false f = refl
          go true f = ap (λ b. not b || has (filter_map item_type done) m) (sym (stands m f)) ∙ h

  -- what holds of each function of the world holds of an import
  of_import : (test : Function → Bool) → list_all test (functions_of_world w) ≡ true → (done : List WorldItem) (f : Function) (rest : List WorldItem)
      → values w.imports ≡ done ++ item.Function f ∷ rest → test f ≡ true
  of_import test all done f rest e = search (std_rules, list_all_filter_map, append_assoc, first_true, all_there)

  -- an entry that is a function is a member of the world
  entry_belongs : (es : List (WorldKey × WorldItem)) → list_all (λ e. passes (λ f. is_name_key (text_of f.name) e.0 && is_member r (as_world n) f) (item_function e.1)) es ≡ true
      → list_all (λ x. list_all (is_member r (as_world n)) (option_to_list (item_function x))) (values_of es) ≡ true
  entry_belongs [] h = refl
  entry_belongs (e ∷ es) h =
      search (std_rules, first_true, second_true, entry_belongs es (second_true (passes (λ f. is_name_key (text_of f.name) e.0 && is_member r (as_world n) f) (item_function e.1)) _ h))

  members : list_all (is_member r (as_world n)) (functions_of_world w) ≡ true
  unfolding function_names
  members =
      let here : 0 + n ≡ n = omega arith in
      let all = subst (λ k. function_names.world_ r k w ≡ true) here (each_from_at (function_names.world_ r) 0 r.worlds.items n w (lists_pass function_names r names).2 at) in
      list_all_filter_map (is_member r (as_world n)) item_function (items_of w)
      ∙ (ap (list_all (λ x. list_all (is_member r (as_world n)) (option_to_list (item_function x)))) (sym (map_append (λ e. e.1) w.imports.entries w.exports.entries))
      ∙ entry_belongs (w.imports.entries ++ w.exports.entries) all)
    where
      map_append : {X Y : Type 0} (f : X → Y) (xs ys : List X) → map f (xs ++ ys) ≡ map f xs ++ map f ys
      map_append f [] ys = refl
      map_append f (x ∷ xs) ys = ap (λ zs. f x ∷ zs) (map_append f xs ys)

  -- a function uses types of the world alone
  home_of : (done : List WorldItem) (f : Function) (rest : List WorldItem) → values w.imports ≡ done ++ item.Function f ∷ rest → list_all (has_owner r (as_world n)) (used_by_function r f) ≡ true
  unfolding owners
  home_of done f rest e = search (std_rules, each_from_at, lists_pass, function_home, order_refers, of_import, members)

  function_ready : (done : List WorldItem) (f : Function) (rest : List WorldItem) → values w.imports ≡ done ++ item.Function f ∷ rest →
      list_all (has (filter_map item_type done)) (filter (has_owner r (as_world n)) (used_by_function r f)) ≡ reaches_within (reach_of r) (length done) f
  function_ready done f rest e =
      let home = home_of done f rest e in
      all_kept (has_owner r (as_world n)) (has (filter_map item_type done)) (used_by_function r f) home
      ∙ (all_same (has_owner r (as_world n)) (has (filter_map item_type done)) (λ m. nat_le (rank_of r m) (length done)) (place_before done (item.Function f) rest e) (used_by_function r f) home
      ∙ (sym (highest_within (rank_of r) (length done) (used_by_function r f)) ∙ ap (λ k. nat_le k (length done)) (highest_flat (rank_of r) (met_by (met_of r)) (function_numbers f))))

  import_ready : (done : List WorldItem) (v : WorldItem) (rest : List WorldItem) → values w.imports ≡ done ++ v ∷ rest
      → ready done v ≡ passes (reaches_within (reach_of r) (length done)) (item_function v)
  import_ready done x rest e = search (std_rules, type_ready, function_ready)

  -- all that is exported stands after the types
  behind : (done : List WorldItem) (m : ℕ) → has_owner r (as_world n) m ≡ true → has (filter_map item_type (values w.imports ++ done)) m ≡ true
  behind done m h = search (std_rules, filter_map-append, list_any-append, stands)

  export_ready : (done : List WorldItem) (v : WorldItem) → ready (values w.imports ++ done) v ≡ true
  export_ready done x = search (std_rules, kept_pass, behind)

  and_true : (b : Bool) → (b && true) ≡ b
  and_true x = search std_rules

  -- the world's types stand before what uses them exactly where each imported function reaches no further than its place
  types_before : each_after ready [] (items_of w) ≡ each_from (λ p v. passes (reaches_within (reach_of r) p) (item_function v)) 0 (values w.imports)
  types_before = after_append ready [] (values w.imports) (values w.exports)
      ∙ (ap (λ b. each_after ready [] (values w.imports) && b) exported ∙ (and_true (each_after ready [] (values w.imports))
      ∙ places_before (values w.imports) ready (λ p v. passes (reaches_within (reach_of r) p) (item_function v)) import_ready [] (values w.imports) refl))
    where
      exported : each_after ready (values w.imports) (values w.exports) ≡ true
      exported = ap (λ b. each_after ready b (values w.exports)) (sym (append-nil (values w.imports))) ∙ passes_behind ready (values w.imports) export_ready [] (values w.exports)

  -- the rule on the order of a world's items
  pub items_stand : each_after (uses_stand_before r n) [] (items_of w)
      ≡ (uses_are_shown r (λ k. false) (items_of w) && each_from (λ p v. passes (reaches_within (reach_of r) p) (item_function v)) 0 (values w.imports))
  items_stand = after_both (λ b i. list_all (has (filter_map item_interface b)) (used_interfaces r i)) ready [] (items_of w) ∙ (λ j. interfaces_before r [] (items_of w) j && types_before j)

-- a rule on worlds alone
pub items_kept : (r : Resolve) → KeepsIn order_of_items r lists.Worlds → Keeps order_of_items r
unfolding order_of_items
items_kept r ws = keeps_lists order_of_items r (free_passes r 0 r.packages.items) (free_passes r 0 r.interfaces.items) ws (free_passes r 0 r.types.items)
