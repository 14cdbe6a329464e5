-- Which interfaces stand before an item, item by item.
use Rattle.std.proofs.Common.{rules as std_rules, ◌≡◌, refl, sym, ap, ℕ, Bool, true, false, ◌&&◌, ◌||◌, not, ◌==◌, List, [], ◌∷◌, ◌++◌, filter_map, option_to_list, Some, Option, append_assoc, append-nil}
use Rattle.std.proofs.lemmas.List.{Elements.filter_map-append, Folds.list_any-append}
use Rattle.std.specs.{List.list_all, List.cons_option}
use Rattle.indexmap.specs.IndexMap.{values}
use Rattle.wit_model.specs.declared.model.{Resolve.Resolve, Interface.Interface, World.World, WorldItem.WorldItem}
use Rattle.wit_model.specs.{Lookup.interface_at, Uses.has, Uses.item_interface, Uses.interface_used_by, Uses.direct_deps, Uses.items_of}
use Rattle.wit_model.specs.{Rules.is_id, Rules.each_after, Rules.used_interfaces, ItemOrders.shown_with, ItemOrders.shown_after, ItemOrders.uses_are_shown}
use Rattle.wit_model.proofs.{Lists.list_all_filter_map, Owners.all_filter, Owners.all_once}
use Rattle.base_lemmas.proofs.Bools.{and_assoc, exchange as and_swap}

-- ---- tests of each element with those before it

pub after_both : {A : Type 0} (p q : List A → A → Bool) (before xs : List A) → each_after (λ b x. p b x && q b x) before xs ≡ (each_after p before xs && each_after q before xs)
after_both p q before [] = refl
after_both p q before (x ∷ xs) = search (std_rules, and_swap, after_both p q (before ++ x ∷ []) xs)

pub after_append : {A : Type 0} (p : List A → A → Bool) (before xs ys : List A) → each_after p before (xs ++ ys) ≡ (each_after p before xs && each_after p (before ++ xs) ys)
after_append p before [] ys = ap (λ b. each_after p b ys) (sym (append-nil before))
after_append p before (x ∷ xs) ys = search (std_rules, append_assoc, and_assoc, after_append p (before ++ x ∷ []) xs ys)

-- ---- what is shown

or_turn : (a b c : Bool) → (a || (b || c)) ≡ ((b || a) || c)
or_turn x y c = search std_rules

has_one : (ns : List ℕ) (o : Option ℕ) (n : ℕ) → (has ns n || has (cons_option o []) n) ≡ (is_id n o || has ns n)
has_one ns x n = search std_rules

one_more : (before : List WorldItem) (i : WorldItem) (n : ℕ) → has (filter_map item_interface (before ++ i ∷ [])) n ≡ shown_with i (has (filter_map item_interface before)) n
one_more before i n = search (std_rules, filter_map-append, list_any-append, has_one)

-- the test by what stands before is the test by what is shown
pub interfaces_before : (r : Resolve) (before items : List WorldItem) →
    each_after (λ b i. list_all (has (filter_map item_interface b)) (used_interfaces r i)) before items ≡ uses_are_shown r (has (filter_map item_interface before)) items
interfaces_before r before [] = refl
interfaces_before r before (i ∷ items) = search (std_rules, one_more, interfaces_before r (before ++ i ∷ []) items)

-- one more item is shown
pub after_more : (i : WorldItem) (items : List WorldItem) (old new : ℕ → Bool) → ((n : ℕ) → new n ≡ shown_with i old n) → (n : ℕ) → shown_after items new n ≡ shown_after (i ∷ items) old n
after_more i items old new same n = search std_rules

pub shown_append : (r : Resolve) (shown : ℕ → Bool) (xs ys : List WorldItem) → uses_are_shown r shown (xs ++ ys) ≡ (uses_are_shown r shown xs && uses_are_shown r (shown_after xs shown) ys)
shown_append r shown [] ys = refl
shown_append r shown (x ∷ xs) ys = search (std_rules, after_more, and_assoc, shown_append r (shown_with x shown) xs ys)

-- a world whose imports aren't ready isn't either
pub imports_first : (r : Resolve) (shown : ℕ → Bool) (w : World) → uses_are_shown r shown (values w.imports) ≡ false → uses_are_shown r shown (items_of w) ≡ false
imports_first r shown w e = search (std_rules, shown_append)

pub exports_next : (r : Resolve) (shown new : ℕ → Bool) (w : World) → uses_are_shown r shown (values w.imports) ≡ true → ((n : ℕ) → new n ≡ shown_after (values w.imports) shown n) →
    uses_are_shown r new (values w.exports) ≡ uses_are_shown r shown (items_of w)
exports_next r shown new w e same = search (std_rules, shown_append)

-- ---- what an interface uses

no_not : (b : Bool) → not (not b) ≡ b
no_not x = search std_rules

-- a test of what an interface uses is a test of its types
pub deps_pass : (p : ℕ → Bool) (r : Resolve) (n : ℕ) (i : Interface) → interface_at r n ≡ Some i →
    list_all (λ id. list_all (λ m. (m == n) || p m) (option_to_list (interface_used_by r id.0))) (values i.types) ≡ list_all p (direct_deps r n)
deps_pass p r n i is = search (std_rules, list_all_filter_map, all_once, no_not, all_filter)
