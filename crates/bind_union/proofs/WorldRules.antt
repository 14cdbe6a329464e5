-- What the rules ask of a world holds of one in which another's entries stand.
use Rattle.std.proofs.Common.{rules as std_rules, ◌≡◌, refl, sym, ap, ◌∙◌, ℕ, Bool, true, false, ◌&&◌, ◌||◌, not, List, [], ◌∷◌, ◌++◌, append-nil, Option, Some, None, option_to_list, filter_map}
use Rattle.std.proofs.lemmas.{Bool.and_from as both, List.Folds.list_all-append, List.Folds.list_all-map, List.Elements.filter_map-append}
use Rattle.std.proofs.lemmas.List.{map-append}
use Rattle.std.specs.{Prelude.String, List.list_all, Option.option_map_or}
use Rattle.std.specs.declared.alloc.Global.{Global}
use Rattle.wit_model.specs.declared.model.{Resolve.Resolve, World.World, TypeDef.TypeDef, Function.Function, WorldKey.WorldKey, WorldItem.WorldItem}
use Rattle.wit_model.specs.{Text.text_of, Uses.has, Lookup.type_at, Lookup.world_at, Parts.has_owner, Parts.same_owner, Checks.references}
use Rattle.wit_model.specs.Rules.{passes, each_after, is_name_key, item_type, world_type_numbers, is_named_of, is_listed, is_listed_in_world, used_by_number, are_in_order, uses_stand_before}
use Rattle.wit_model.specs.Valid.{Keeps, KeepsRules, as_world, item_function, functions_of_world, order_of_types, order_of_items}
use Rattle.wit_model.proofs.{Lists.list_all_filter_map, Chains.all_has as passes_at, Shown.after_append, InOrder.found_stands, PartsLemmas.owner_same as owner_equal, ValidLemmas.type_passes, ValidLemmas.world_passes as world-passes}
use Rattle.bind_union.specs.{Carried.Renumbering, Carried.EntryBecomes, Carried.IsCarried, Joined.Joined, Joined.IsJoined}
use Rattle.bind_union.proofs.{Lists.no_true, Homes.owner_back, InterfaceRules.implied_all, InterfaceRules.named_of_there, InterfaceRules.number_uses}
use Rattle.bind_union.proofs.CopyRules.{added_pass}
use Rattle.bind_union.proofs.WorldOrder.{items, by_items, number_in, numbers_left, numbers_right, types_in, Covers, walk, item_stands, stands_still}
use Rattle.base_lemmas.proofs.Bools.{left_of as first_true, right_of as second_true}
use Rattle.wit_model.specs.declared.model.TypeOwner.TheVariants as owner
use Rattle.wit_model.specs.declared.model.WorldItem.TheVariants as item

-- a test on the function of an entry, where it is one
abbrev pub on_function : (Function → Bool) → WorldKey × WorldItem → Bool
on_function p e = list_all p (option_to_list (item_function e.1))

-- what is asked of each function of a world, by its entries
pub by_entries : (p : Function → Bool) (w : World)
    → list_all p (functions_of_world w) ≡ (list_all (λ (e : WorldKey × WorldItem). list_all p (option_to_list (item_function e.1))) w.imports.entries && list_all
    (λ (e : WorldKey × WorldItem). list_all p (option_to_list (item_function e.1))) w.exports.entries)
by_entries p w = search (std_rules, list_all_filter_map, list_all-append, list_all-map)

-- a test on the numbers of items
pub after_given : (t : List ℕ → ℕ → Bool) (h : WorldItem → Option ℕ) (before xs : List WorldItem)
    → each_after (λ ys x. passes (t (filter_map h ys)) (h x)) before xs ≡ each_after t (filter_map h before) (filter_map h xs)
after_given t h before [] = refl
after_given t h before (x ∷ xs) = search (std_rules, filter_map-append, append-nil, after_given t h (before ++ x ∷ []) xs)

-- a type that a world owns stands in its imports
pub owned_listed : (r : Resolve) → KeepsRules r → (n : ℕ) (w : World) → world_at r n ≡ Some w → (m : ℕ) → has_owner r (as_world n) m ≡ true → has (world_type_numbers w) m ≡ true
unfolding order_of_types
owned_listed r valid n w found m h = go (type_at r m) refl h
  where
    named : (def : TypeDef) → type_at r m ≡ Some def → def.owner ≡ as_world n → (name : Option (String Global))
        → option_map_or (λ x. is_listed r m (text_of x) def.owner) name (same_owner def.owner owner.None) ≡ true → has (world_type_numbers w) m ≡ true
    named def e home None k = no_true (sym (ap (λ o. same_owner o owner.None) home) ∙ k)
    named def e home (Some x) k =
        let listed : is_listed_in_world m (text_of x) w ≡ true = sym (ap (passes (is_listed_in_world m (text_of x))) found) ∙ (sym (ap (is_listed r m (text_of x)) home) ∙ k) in
        found_stands (is_name_key (text_of x)) item_type m w.imports.entries (first_true _ _ listed)

    go : (o : Option TypeDef) → type_at r m ≡ o → option_map_or (λ def. same_owner def.owner (as_world n)) o false ≡ true → has (world_type_numbers w) m ≡ true
    go None e k = no_true k
    go (Some def) e k =
        let home = owner_equal def.owner (as_world n) k in
        named def e home def.name (second_true _ _ (type_passes order_of_types r valid.order_of_types m def e))

-- what is used stands before
abbrev pub in_order : Resolve → List ℕ → List ℕ → ℕ → Bool
in_order r ns before k = list_all (λ m. not (has ns m) || has before m) (used_by_number r k)

module _ (r s : Resolve) (f : Renumbering) (valid : KeepsRules r) (is : IsCarried r s f) (below_s : Keeps references s) where
  pub order_passes : (n : ℕ) → f.carries_world n ≡ true → (own_imports own_exports imports exports new_imports new_exports : List (WorldKey × WorldItem)) → Joined f own_imports imports new_imports
      → Joined f own_exports exports new_exports → each_after (uses_stand_before s (f.worlds n)) [] (items own_imports ++ items own_exports) ≡ true
      → each_after (uses_stand_before r n) [] (items imports ++ items exports) ≡ true
      → each_after (uses_stand_before s (f.worlds n)) [] (items (own_imports ++ new_imports) ++ items (own_exports ++ new_exports)) ≡ true
  order_passes n carries own_imports own_exports imports exports new_imports new_exports joined_imports joined_exports own old =
      let t = uses_stand_before s (f.worlds n) in
      let u = uses_stand_before r n in
      let oi = items own_imports in
      let oe = items own_exports in
      let ni = items new_imports in
      let own_both : (each_after t [] oi && each_after t oi oe) ≡ true = sym (after_append t [] oi oe) ∙ own in
      let old_both : (each_after u [] (items imports) && each_after u (items imports) (items exports)) ≡ true = sym (after_append u [] (items imports) (items exports)) ∙ old in
      let step = item_stands r s f valid is below_s n carries in
      let first = walk f own_imports u t step [] oi imports new_imports joined_imports (λ h. number_in h own_imports) (λ h m e. no_true e) (first_true _ _ old_both) in
      let third = stands_still s (f.worlds n) oi (oi ++ ni) (λ h. numbers_left h oi ni) oe (second_true (each_after t [] oi) _ own_both) in
      let last = walk f own_exports u t step (items imports) ((oi ++ ni) ++ oe) exports new_exports joined_exports
      (λ h x c m e. numbers_right h (oi ++ ni) oe m (number_in h own_exports x c m e)) (λ h m e. numbers_left h.number (oi ++ ni) oe (h.under m) (first.1 h m e))
      (second_true (each_after u [] (items imports)) _ old_both) in
      (λ i. each_after t [] (map-append (λ (e : WorldKey × WorldItem). e.1) own_imports new_imports i ++ map-append (λ (e : WorldKey × WorldItem). e.1) own_exports new_exports i))
      ∙ (after_append t [] (oi ++ ni) (oe ++ items new_exports) ∙ both _ _ (after_append t [] oi ni ∙ both _ _ (first_true _ _ own_both) first.0)
      (after_append t (oi ++ ni) oe (items new_exports) ∙ both _ _ third last.0))

  -- types that stand in order here stand in order there
  module _ (here there : List ℕ) (back : (m : ℕ) → f.carries_type m ≡ true → has there (f.types m) ≡ true → has here m ≡ true) where
    item_in_order : (olds news : List WorldItem) (old new : WorldKey × WorldItem) → EntryBecomes f old new → Covers f olds news
        → passes (in_order r here (filter_map item_type olds)) (item_type old.1) ≡ true → passes (in_order s there (filter_map item_type news)) (item_type new.1) ≡ true
    item_in_order olds news (k, item.Type_ a) (l, item.Type_ b) z covers h =
        let uses = number_uses r s f valid is below_s a.0 z.1.1 in
        ap (in_order s there (filter_map item_type news)) z.1.0 ∙ (ap (list_all (λ m. not (has there m) || has (filter_map item_type news) m)) uses.0
        ∙ implied_all f.types f.carries_type (has here) (has (filter_map item_type olds)) (has there) (has (filter_map item_type news)) back (covers (types_in f)) (used_by_number r a.0) uses.1 h)
    item_in_order olds news (k, item.Interface a st docs ext) (l, item.Interface b st2 docs2 ext2) z covers h = refl
    item_in_order olds news (k, item.Function g) (l, item.Function e) z covers h = refl
    item_in_order olds news _ _ z covers h = absurd z.1

    pub types_in_order : (own olds news : List (WorldKey × WorldItem)) → Joined f own olds news → each_after (in_order r here) [] (filter_map item_type (items olds)) ≡ true
        → each_after (in_order s there) (filter_map item_type (items own)) (filter_map item_type (items news)) ≡ true
    types_in_order own olds news j h = sym (after_given (in_order s there) item_type (items own) (items news))
        ∙ (walk f own (λ ys x. passes (in_order r here (filter_map item_type ys)) (item_type x)) (λ ys x. passes (in_order s there (filter_map item_type ys)) (item_type x)) item_in_order []
        (items own) olds news j (λ h. number_in h own) (λ h m e. no_true e) (after_given (in_order r here) item_type [] (items olds) ∙ h)).0

module _ (r s : Resolve) (f : Renumbering) (valid : KeepsRules r) (is : IsCarried r s f) (below_s : Keeps references s) (n : ℕ) (own_imports own_exports : List (WorldKey × WorldItem)) (j : IsJoined r s f n own_imports own_exports) where
  abbrev number : ℕ
  number = f.worlds n

  -- tests on imports and on exports
  pub sides_pass : (p q p_export q_export : WorldKey × WorldItem → Bool) → ((a b : WorldKey × WorldItem) → EntryBecomes f a b → p a ≡ true → q b ≡ true)
      → ((a b : WorldKey × WorldItem) → EntryBecomes f a b → p_export a ≡ true → q_export b ≡ true) → list_all q own_imports ≡ true → list_all q_export own_exports ≡ true
      → (list_all p j.old.imports.entries && list_all p_export j.old.exports.entries) ≡ true → (list_all q j.image.imports.entries && list_all q_export j.image.exports.entries) ≡ true
  sides_pass p q p_export q_export one one_export oi oe h = search (std_rules, both, list_all-append, added_pass, first_true, second_true)

  -- order of items
  pub world_order_passes : each_after (uses_stand_before s number) [] (items own_imports ++ items own_exports) ≡ true → order_of_items.world_ s number j.image ≡ true
  unfolding order_of_items
  world_order_passes own = (λ i. each_after (uses_stand_before s number) [] (items (j.imports i) ++ items (j.exports i)))
      ∙ order_passes r s f valid is below_s n j.carries own_imports own_exports j.old.imports.entries j.old.exports.entries j.new_imports j.new_exports j.joined_imports j.joined_exports own
      (world-passes order_of_items r valid.order_of_items n j.old j.found)

  -- order of types
  abbrev pub numbers : List ℕ
  numbers = world_type_numbers j.image

  numbers_are : numbers ≡ filter_map item_type (items own_imports) ++ filter_map item_type (items j.new_imports)
  numbers_are = search (std_rules, items, map-append, filter_map-append)

  old_types : (list_all (is_named_of r (as_world n)) (world_type_numbers j.old) && are_in_order r (world_type_numbers j.old)) ≡ true
  unfolding order_of_types
  old_types = world-passes order_of_types r valid.order_of_types n j.old j.found

  entry_named : (a b : WorldKey × WorldItem) → EntryBecomes f a b → list_all (is_named_of r (as_world n)) (option_to_list (item_type a.1)) ≡ true
      → list_all (is_named_of s (as_world number)) (option_to_list (item_type b.1)) ≡ true
  entry_named x y z h = search (std_rules, both, named_of_there, first_true)

  all_named : list_all (is_named_of s (as_world number)) (filter_map item_type (items own_imports)) ≡ true → list_all (is_named_of s (as_world number)) numbers ≡ true
  all_named own = ap (list_all (is_named_of s (as_world number))) numbers_are
      ∙ (list_all-append (is_named_of s (as_world number)) (filter_map item_type (items own_imports)) (filter_map item_type (items j.new_imports))
      ∙ both _ _ own (by_items item_type (is_named_of s (as_world number)) j.new_imports
      ∙ added_pass f own_imports (λ e. list_all (is_named_of r (as_world n)) (option_to_list (item_type e.1))) (λ e. list_all (is_named_of s (as_world number)) (option_to_list (item_type e.1)))
      entry_named j.old.imports.entries j.new_imports j.joined_imports (sym (by_items item_type (is_named_of r (as_world n)) j.old.imports.entries) ∙ first_true _ _ old_types)))

  named_owned : (m : ℕ) → f.carries_type m ≡ true → is_named_of s (as_world number) (f.types m) ≡ true → has_owner s (as_world number) (f.types m) ≡ true
  named_owned m c h = search std_rules

  listed_back : list_all (is_named_of s (as_world number)) numbers ≡ true → (m : ℕ) → f.carries_type m ≡ true → has numbers (f.types m) ≡ true → has (world_type_numbers j.old) m ≡ true
  listed_back named m d k = owned_listed r valid n j.old j.found m
      (owner_back r s f valid is below_s (as_world n) m j.carries d (named_owned m d (passes_at (is_named_of s (as_world number)) numbers (f.types m) named k)))

  pub world_types_pass : list_all (is_named_of s (as_world number)) (filter_map item_type (items own_imports)) ≡ true
      → each_after (in_order s numbers) [] (filter_map item_type (items own_imports)) ≡ true → order_of_types.world_ s number j.image ≡ true
  unfolding order_of_types
  world_types_pass own order = both _ _ (all_named own) (ap (each_after (in_order s numbers) []) numbers_are
      ∙ (after_append (in_order s numbers) [] (filter_map item_type (items own_imports)) (filter_map item_type (items j.new_imports))
      ∙ both _ _ order (types_in_order r s f valid is below_s (world_type_numbers j.old) numbers (listed_back (all_named own)) own_imports j.old.imports.entries j.new_imports j.joined_imports
      (second_true (list_all (is_named_of r (as_world n)) (world_type_numbers j.old)) _ old_types))))
