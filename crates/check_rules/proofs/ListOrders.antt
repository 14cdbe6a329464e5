-- The third part of the rule on the order of types, by places, for interfaces and worlds.
use Rattle.std.proofs.Common.{rules as std_rules, ◌≡◌, refl, sym, ap, subst, ◌∙◌, ℕ, ◌+◌, true, false, ◌&&◌, ◌==◌, count_by, position, string_bytes, Some, arith}
use Rattle.std.specs.{List.list_all, Option.option_map_or, Str.bytes_eq, Map.keys_of, HashMap.get_by_text}
use Rattle.indexmap.specs.IndexMap.{values}
use Rattle.wit_model.specs.declared.model.{Resolve.Resolve, Interface.Interface, World.World}
use Rattle.wit_model.specs.{Text.Text, Lookup.interface_at, Lookup.world_at}
use Rattle.wit_model.specs.Rules.{passes, is_id, is_name_key, item_type, each_from, is_named_of, is_listed, is_listed_in_interface, is_listed_in_world, interface_type_numbers, world_type_numbers, are_in_order}
use Rattle.wit_model.specs.Valid.{Keeps, Breaks, entry_keeps, owners, order_of_types, as_interface, as_world}
use Rattle.wit_model.specs.Checks.{references, list_orders, listings, rank_in, reach_of, stands_in_order}
use Rattle.wit_model.proofs.{Checks.keeps_three, Entries.each_from_at, Entries.lists_pass, Listings.given_all, Listings.given_found}
use Rattle.check_rules.proofs.{OwnerOrder.list_order, PackageNames.each_both}
use Rattle.wit_model.specs.declared.error.EntryList.TheVariants as lists

module _ (r : Resolve) (n : ℕ) (w : World) (at : world_at r n ≡ Some w) where
  -- a type of a world stands among its imports, and is ranked by its place there
  pub world_listed : (m : ℕ) (t : Text) → is_listed r m t (as_world n) ≡ true → is_listed_in_world m t w ≡ true
  world_listed m t h = sym (ap (passes (is_listed_in_world m t)) at) ∙ h

  pub world_placed : (t : Text) → rank_in r t (as_world n) ≡ option_map_or (λ k. k + 1) (position (is_name_key t) (keys_of w.imports.entries)) 0
  world_placed t = ap (λ x. option_map_or (λ w. option_map_or (λ k. k + 1) (position (is_name_key t) (keys_of w.imports.entries)) 0) x 0) at

module _ (r : Resolve) (refs : Keeps references r) (kept : Keeps listings r) (own : Keeps owners r) (f : ℕ → ℕ) (same : (m : ℕ) → f m ≡ reach_of r m) where
  -- the imports of a world stand in order exactly where each type stands by its place
  pub world_order : (n : ℕ) (w : World) → world_at r n ≡ Some w → each_from (λ p v. passes (stands_in_order r f p) (item_type v)) 0 (values w.imports) ≡ are_in_order r (world_type_numbers w)
  unfolding listings
  world_order n w at =
      let here : 0 + n ≡ n = omega arith in
      let all = subst (λ k. list_all (is_named_of r (as_world k)) (world_type_numbers w) ≡ true) here (each_from_at (listings.world_ r) 0 r.worlds.items n w (lists_pass listings r kept).2 at) in
      list_order r kept item_type (as_world n) w.imports.entries is_name_key refl (world_listed r n w at) (world_placed r n w at) refs own all f same

  -- the types of an interface stand in order exactly where each stands by its place
  pub interface_order : (n : ℕ) (i : Interface) → interface_at r n ≡ Some i → each_from (λ p id. stands_in_order r f p id.0) 0 (values i.types) ≡ are_in_order r (interface_type_numbers i)
  unfolding listings
  interface_order n i at =
      let here : 0 + n ≡ n = omega arith in
      let all = ap (list_all (is_named_of r (as_interface n))) (given_all (values i.types)) ∙ subst (λ k. list_all (is_named_of r (as_interface k)) (interface_type_numbers i) ≡ true) here
      (each_from_at (listings.interface_ r) 0 r.interfaces.items n i (lists_pass listings r kept).1 at) in
      list_order r kept (λ id. Some id.0) (as_interface n) i.types.entries (λ t k. bytes_eq t (string_bytes k)) refl
      (λ m t h. (λ j. is_id m (given_found (get_by_text i.types t) j) && (count_by (λ k. k == m) (given_all (values i.types) j) == 1)) ∙ (sym (ap (passes (is_listed_in_interface m t)) at) ∙ h))
      (λ t. ap (λ x. option_map_or (λ i. option_map_or (λ k. k + 1) (position (λ k. bytes_eq t (string_bytes k)) (keys_of i.types.entries)) 0) x 0) at) refs own all f same
      ∙ ap (are_in_order r) (given_all (values i.types))

-- ---- what breaks

pub interface_order_breaks : (r : Resolve) (n : ℕ) → entry_keeps list_orders r lists.Interfaces n ≡ Some false → Breaks r 5 lists.Interfaces n
unfolding list_orders order_of_types
interface_order_breaks r n e = search std_rules

pub world_order_breaks : (r : Resolve) (n : ℕ) → entry_keeps list_orders r lists.Worlds n ≡ Some false → Breaks r 5 lists.Worlds n
unfolding list_orders order_of_types
world_order_breaks r n e = search std_rules

-- ---- the three parts of the rule on the order of types

pub order_kept : (r : Resolve) → Keeps references r → Keeps listings r → Keeps list_orders r → Keeps order_of_types r
unfolding references listings list_orders order_of_types
order_kept r refs kept orders = keeps_three order_of_types r refl (each_both (listings.interface_ r) (list_orders.interface_ r) 0 r.interfaces.items (lists_pass listings r kept).1
    (lists_pass list_orders r orders).1) (each_both (listings.world_ r) (list_orders.world_ r) 0 r.worlds.items (lists_pass listings r kept).2 (lists_pass list_orders r orders).2)
    (each_both (references.type_ r) (listings.type_ r) 0 r.types.items (lists_pass references r refs).3 (lists_pass listings r kept).3)
