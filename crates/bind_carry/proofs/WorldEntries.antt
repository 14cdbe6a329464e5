-- What validity says of the keys of a world, and when a key is new under other numbers.
use Rattle.bind_carry.proofs.CopiesPlaced.{by_either}
use Rattle.std.proofs.Common.{rules as std_rules, ◌≡◌, refl, sym, ap, ap₂, ◌∙◌, ℕ, zero, suc, arith, Bool, true, false, not, ◌&&◌, ◌||◌, cond, List, [], ◌∷◌, Some, is_some, slice_get}
use Rattle.std.specs.{Prelude.String, List.list_all, List.list_any, List.Contains, Map.lookup}
use Rattle.std.specs.declared.alloc.Global.{Global}
use Rattle.wit_model.specs.declared.model.{Interface.Interface, InterfaceId.InterfaceId, Resolve.Resolve, World.World, WorldItem.WorldItem, WorldKey.WorldKey}
use Rattle.wit_model.specs.{Lookup.interface_at, Lookup.world_at, Valid.IsValid, Valid.is_place, Valid.key_eq, Valid.numbers_in_range, Valid.world_items}
use Rattle.wit_model.specs.Rules.{entries_in_range, export_stands, import_stands, in_list, is_interface_key, item_in_range, key_in_range, package_number, passes}
use Rattle.wit_model.specs.Uses.{item_interface}
use Rattle.wit_model.proofs.{OnePath.found-in, RulesLemmas.is_id_some as some_id, ValidLemmas.world_passes as world-passes}
use Rattle.bind_union.proofs.Lists.{no_true}
use Rattle.bind_copy.specs.Copies.{is_key_under, is_new_under, number_under}
use Rattle.bind_carry.specs.Shown.{any_new}
use Rattle.base_lemmas.proofs.{Bools.left_of as first_true, Bools.right_of as second_true, Elements.all-contained, Elements.contains-later}
use Rattle.wit_model.specs.declared.model.WorldKey.TheVariants as key

-- ---- lists

-- something that passes has a place
pub record IsPlacedIn {X : Type 0} (test : X → Bool) (xs : List X) : Type 0 where
  pub place : ℕ
  pub thing : X
  pub there : slice_get xs place ≡ Some thing
  pub passes_it : test thing ≡ true

pub any_place : {X : Type 0} (test : X → Bool) (xs : List X) → list_any test xs ≡ true → IsPlacedIn test xs
any_place test [] h = no_true h
any_place test (x ∷ xs) h = by_either (test x) (list_any test xs) h (λ e. record { place = zero; thing = x; there = refl; passes_it = e })
    (λ e k. let r = any_place test xs k in record { place = suc r.place; thing = r.thing; there = r.there; passes_it = r.passes_it })

-- ---- keys of a valid world

module _ (r : Resolve) (valid : IsValid r) (n : ℕ) (w : World) (at : world_at r n ≡ Some w) where
  -- An interface that is a key has a name, and the item is it.
  pub record IsKeyed (id : ℕ) (i : WorldItem) : Type 0 where
    pub def : Interface
    pub found : interface_at r id ≡ Some def
    pub named : is_some def.name ≡ true
    pub is_item : item_interface i ≡ Some id

  ranges : (entries_in_range r w.imports.entries && entries_in_range r w.exports.entries) ≡ true
  unfolding numbers_in_range
  ranges = second_true (passes (in_list r.packages.items) (package_number w.«package»)) (entries_in_range r w.imports.entries && entries_in_range r w.exports.entries)
      (second_true (is_place n) (passes (in_list r.packages.items) (package_number w.«package») && (entries_in_range r w.imports.entries && entries_in_range r w.exports.entries))
      (world-passes numbers_in_range r valid.rules.numbers_in_range n w at))

  stand : (list_all (λ (e : WorldKey × WorldItem). import_stands r n e.0 e.1) w.imports.entries && list_all (λ (e : WorldKey × WorldItem). export_stands r e.0 e.1) w.exports.entries) ≡ true
  unfolding world_items
  stand = world-passes world_items r valid.rules.world_items n w at

  pub import_range : (e : WorldKey × WorldItem) → Contains w.imports.entries e → (key_in_range r e.0 && item_in_range r e.1) ≡ true
  import_range e c = all-contained (λ (x : WorldKey × WorldItem). key_in_range r x.0 && item_in_range r x.1) w.imports.entries e
      (first_true (entries_in_range r w.imports.entries) (entries_in_range r w.exports.entries) ranges) c

  pub export_range : (e : WorldKey × WorldItem) → Contains w.exports.entries e → (key_in_range r e.0 && item_in_range r e.1) ≡ true
  export_range e c = all-contained (λ (x : WorldKey × WorldItem). key_in_range r x.0 && item_in_range r x.1) w.exports.entries e
      (second_true (entries_in_range r w.imports.entries) (entries_in_range r w.exports.entries) ranges) c

  pub import_so : (e : WorldKey × WorldItem) → Contains w.imports.entries e → import_stands r n e.0 e.1 ≡ true
  import_so e c = all-contained (λ (x : WorldKey × WorldItem). import_stands r n x.0 x.1) w.imports.entries e (first_true _ _ stand) c

  pub export_so : (e : WorldKey × WorldItem) → Contains w.exports.entries e → export_stands r e.0 e.1 ≡ true
  export_so e c = all-contained (λ (x : WorldKey × WorldItem). export_stands r x.0 x.1) w.exports.entries e (second_true _ _ stand) c

  keyed : (id : InterfaceId) (i : WorldItem) → in_list r.interfaces.items id.0 ≡ true → is_interface_key r id.0 i ≡ true → IsKeyed id.0 i
  keyed id i range is = search (std_rules, found-in, second_true, some_id, first_true)

  pub import_keyed : (e : WorldKey × WorldItem) → Contains w.imports.entries e → (id : InterfaceId) → e.0 ≡ key.Interface id → IsKeyed id.0 e.1
  import_keyed e c id is =
      keyed id e.1 (sym (ap (key_in_range r) is) ∙ first_true (key_in_range r e.0) (item_in_range r e.1) (import_range e c)) (sym (ap (λ k. import_stands r n k e.1) is) ∙ import_so e c)

  pub export_keyed : (e : WorldKey × WorldItem) → Contains w.exports.entries e → (id : InterfaceId) → e.0 ≡ key.Interface id → IsKeyed id.0 e.1
  export_keyed e c id is =
      keyed id e.1 (sym (ap (key_in_range r) is) ∙ first_true (key_in_range r e.0) (item_in_range r e.1) (export_range e c)) (sym (ap (λ k. export_stands r k e.1) is) ∙ export_so e c)

-- ---- new keys

-- the interface that a key is has one number in both
abbrev pub IsNumberedSame : List ℕ → List ℕ → WorldKey → Type 0
IsNumberedSame a b k = (id : InterfaceId) → k ≡ key.Interface id → number_under a id.0 ≡ number_under b id.0

pub new_under_same : (a b : List ℕ) (here : List (WorldKey × WorldItem)) (k : WorldKey) → IsNumberedSame a b k → is_new_under a here k ≡ is_new_under b here k
new_under_same a b here k same = search std_rules

pub any_new_same : (a b : List ℕ) (here es : List (WorldKey × WorldItem)) → ((e : WorldKey × WorldItem) → Contains es e → IsNumberedSame a b e.0) → any_new a here es ≡ any_new b here es
any_new_same a b here [] same = refl
any_new_same a b here (e ∷ es) same = ap₂ (λ p q. p || q) (new_under_same a b here e.0 (same e (0, omega arith, refl))) (any_new_same a b here es (λ x c. same x (contains-later e es x c)))

-- a label is new where nothing is found under it
pub label_new : (numbers : List ℕ) (label : String Global) (here : List (WorldKey × WorldItem)) → is_new_under numbers here (key.Name label) ≡ not (is_some (lookup (key_eq (key.Name label)) here))
label_new numbers label here = ap not (go here)
  where
    test_same : (k : WorldKey) → is_key_under numbers (key.Name label) k ≡ key_eq (key.Name label) k
    test_same (key.Name s) = refl
    test_same (key.Interface id) = refl

    go : (es : List (WorldKey × WorldItem)) → list_any (λ (x : WorldKey × WorldItem). is_key_under numbers (key.Name label) x.0) es ≡ is_some (lookup (key_eq (key.Name label)) es)
    go [] = refl
    go (x ∷ xs) = ap₂ (λ p q. p || q) (test_same x.0) (go xs) ∙ by (key_eq (key.Name label) x.0)
      where
        by : (b : Bool) → (b || is_some (lookup (key_eq (key.Name label)) xs)) ≡ is_some (cond b (Some x.1) (lookup (key_eq (key.Name label)) xs))
        by true = refl
        by false = refl
