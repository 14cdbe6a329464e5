-- Items of worlds of two `Resolve`s.
use Rattle.std.proofs.Common.{rules as std_rules, ◌≡◌, ◌↔◌, refl, sym, ap, subst, ◌∙◌, inl, inr, ℕ, Bool, true, false, cond, List, [], ◌∷◌, ◌++◌, map, Option, Some, None, is_some, IsSome, option_map, IsTrue, String}
use Rattle.std.proofs.lemmas.{Map.Made.Contains-from_values_of, List.map-append, List.Elements.Contains-push_cases}
use Rattle.std.specs.{Borrow.Bor, Option.option_copied, Option.option_map_or, List.Contains, Map.lookup, Map.values_of}
use Rattle.std.specs.declared.alloc.Global.{Global}
use Rattle.wit_model.specs.declared.model.{Resolve.Resolve, World.World, WorldKey.WorldKey, WorldItem.WorldItem, TypeId.TypeId}
use Rattle.wit_model.specs.{Lookup.key_text, Lookup.world_at, Lookup.interface_path, Text.Text, Text.text_eq, Text.text_of, Text.optional_text}
use Rattle.wit_model.specs.Meaning.{Entry, InterfaceSense, WorldSense, entries_sense, entry_sense, world_sense, Item, interface, inline, interface_sense, item_sense}
use Rattle.wit_model.specs.Meant.{entries_meaning, entry_meaning, world_meaning, world_meaning_at, interface_item, interface_meaning_at, type_meaning_at}
use Rattle.wit_model.specs.Rules.{item_in_range}
use Rattle.compat_meaning.specs.TwoSides.{indexed_sense, sense_entry, AllItemsInRange, BorrowedEntry, PutsFirst, SameInterfaceEntries}
use Rattle.compat_meaning.proofs.{Sided.never}
use Rattle.wit_compat.proofs.{SameMaps.maps_same, SameMaps.under, SameMaps.under_is}
use Rattle.base_lemmas.proofs.{Options.there as some-of}
use Rattle.wit_model.specs.declared.model.WorldItem.TheVariants as item

-- ---- The contents of a world by the texts of their keys.

-- ---- the first of two answers

abbrev pub or_first : {X : Type 0} → Option X → Option X → Option X
or_first (Some x) o = Some x
or_first None o = o

module _ {X : Type 0} where
  last_put : (q : Text) (es : List (Text × X)) (e : Text × X) (o : Option X) → or_first (under q (es ++ e ∷ [])) o ≡ or_first (under q es) (cond (text_eq q e.0) (Some e.1) o)
  last_put q [] e o = search std_rules
  last_put q (d ∷ ds) e o = search (std_rules, under, last_put q ds e o)

none_over : {X : Type 0} (o : Option X) → or_first o None ≡ o
none_over x = search std_rules

-- what a copy of what was lent is
pub copied_there : {A : Type 0} (o : Option (Bor A)) → is_some o ≡ true → is_some (option_copied o) ≡ true
copied_there x h = search std_rules

pub copied_missing : {A : Type 0} (o : Option (Bor A)) → is_some o ≡ false → option_copied o ≡ None
copied_missing x h = search std_rules

-- ---- the items of a list by their keys

module _ (r : Resolve) where
  -- what an item means
  abbrev pub sense_of_item : Bor WorldItem → Entry InterfaceSense
  sense_of_item i = entry_sense (entry_meaning r i.now)

  abbrev pub key_entry : WorldKey × WorldItem → Text × Entry InterfaceSense
  key_entry e = (key_text r e.0, entry_sense (entry_meaning r e.1))

  senses_are : (es : List (WorldKey × WorldItem)) → map (λ (e : Text × Entry _). (e.0, entry_sense e.1)) (entries_meaning r es) ≡ map key_entry es
  senses_are [] = refl
  senses_are (e ∷ es) = ap (λ xs. key_entry e ∷ xs) (senses_are es)

  -- the items so far come before those that are left
  abbrev pub IsSplit : List BorrowedEntry → List (WorldKey × WorldItem) → List (WorldKey × WorldItem) → Type 0
  IsSplit made rest all = (q : Text) → or_first (under q (map (sense_entry r) made)) (under q (map key_entry rest)) ≡ under q (map key_entry all)

  pub nothing_made : (made : List BorrowedEntry) (rest all : List (WorldKey × WorldItem)) → made ≡ [] → rest ≡ all → IsSplit made rest all
  nothing_made made rest all m e q = ap (λ es. or_first (under q (map (sense_entry r) es)) (under q (map key_entry rest))) m ∙ ap (λ es. under q (map key_entry es)) e

  pub all_made : (made : List BorrowedEntry) (rest all : List (WorldKey × WorldItem)) → IsSplit made rest all → rest ≡ [] → indexed_sense r made ≡ entries_sense (entries_meaning r all)
  all_made made rest all s e = search (std_rules, maps_same, none_over, under, senses_are)

  module _ (made : List BorrowedEntry) (rest next all : List (WorldKey × WorldItem)) (k : WorldKey) (i : WorldItem) (s : IsSplit made rest all) (split : rest ≡ (k, i) ∷ next) where
    opened : (q : Text) → or_first (under q (map (sense_entry r) made)) (cond (text_eq q (key_text r k)) (Some (key_entry (k, i)).1) (under q (map key_entry next))) ≡ under q (map key_entry all)
    opened q = ap (λ es. or_first (under q (map (sense_entry r) made)) (under q (map key_entry es))) (sym split) ∙ s q

    made_more : (key : String Global) (item : Bor WorldItem) (new : List BorrowedEntry) → text_of key ≡ key_text r k → item.now ≡ i → new ≡ made ++ (key, item) ∷ [] → IsSplit new next all
    made_more key item new text is n q = ap (λ es. or_first (under q (map (sense_entry r) es)) (under q (map key_entry next))) n
        ∙ ap (λ es. or_first (under q es) (under q (map key_entry next))) (map-append (sense_entry r) made ((key, item) ∷ []))
        ∙ last_put q (map (sense_entry r) made) (text_of key, entry_sense (entry_meaning r item.now)) (under q (map key_entry next))
        ∙ (λ j. or_first (under q (map (sense_entry r) made)) (cond (text_eq q (text j)) (Some (entry_sense (entry_meaning r (is j)))) (under q (map key_entry next)))) ∙ opened q

    made_stays : (y : Entry InterfaceSense) → under (key_text r k) (map (sense_entry r) made) ≡ Some y → IsSplit made next all
    made_stays y h q = (search std_rules) ∙ opened q

    found_again : (key : String Global) → IsSome (lookup (λ k. text_eq (text_of key) (text_of k)) made) → (y : Entry InterfaceSense) × (under (text_of key) (map (sense_entry r) made) ≡ Some y)
    found_again key h =
        let x = some-of (lookup (λ k. text_eq (text_of key) (text_of k)) made) h in (
          entry_sense (entry_meaning r x.0.now),
          under_is text_of sense_of_item (text_of key) made ∙ ap (option_map sense_of_item) x.1,
        )

    pub put_split : (key : String Global) (item : Bor WorldItem) (new : List BorrowedEntry) → text_of key ≡ key_text r k → item.now ≡ i → PutsFirst made new (key, item) → IsSplit new next all
    put_split key item new text is (inr n) = made_more key item new text is n
    put_split key item new text is (inl h) =
        let y = found_again key h.1 in
        subst (λ es. IsSplit es next all) (sym h.0) (made_stays y.0 (ap (λ t. under t (map (sense_entry r) made)) (sym text) ∙ y.1))

  pushed_in_range : (made new : List BorrowedEntry) (key : String Global) (item : Bor WorldItem) → new ≡ made ++ (key, item) ∷ [] → AllItemsInRange r made → item_in_range r item.now ≡ true
      → AllItemsInRange r new
  pushed_in_range made new key item n h is e c = search (std_rules, Contains-push_cases made (key, item) e (subst (λ es. Contains es e) n c))

  -- what stands among the values is in range
  pub value_in_range : (made : List BorrowedEntry) → AllItemsInRange r made → (item : Bor WorldItem) → Contains (values_of made) item → item_in_range r item.now ≡ true
  value_in_range made h item c = let k = Contains-from_values_of made item c in h (k.0, item) k.1

  pub put_in_range : (made new : List BorrowedEntry) (key : String Global) (item : Bor WorldItem) → PutsFirst made new (key, item) → AllItemsInRange r made → item_in_range r item.now ≡ true
      → AllItemsInRange r new
  put_in_range made new key item (inr n) h is = pushed_in_range made new key item n h is
  put_in_range made new key item (inl w) h is = subst (AllItemsInRange r) (sym w.0) h

-- maps that are the same as two others
pub lists_exact : {M : Type 0} {x y u w : M} (b : Bool) → x ≡ u → y ≡ w → (IsTrue b ↔ (x ≡ y)) → IsTrue b ↔ (u ≡ w)
lists_exact b p q h = (λ t. sym p ∙ h.0 t ∙ q, λ same. h.1 (p ∙ same ∙ sym q))

-- ---- worlds

module _ (a b : Resolve) (v w : World) where
  pub imports_back : world_sense (world_meaning a v) ≡ world_sense (world_meaning b w) → entries_sense (entries_meaning a v.imports.entries) ≡ entries_sense (entries_meaning b w.imports.entries)
  imports_back same = ap (λ (s : WorldSense). s.imports) same

  pub contents_exact : (y : Bool) → entries_sense (entries_meaning a v.imports.entries) ≡ entries_sense (entries_meaning b w.imports.entries)
      → (IsTrue y ↔ (entries_sense (entries_meaning a v.exports.entries) ≡ entries_sense (entries_meaning b w.exports.entries))) → IsTrue y
      ↔ (world_sense (world_meaning a v) ≡ world_sense (world_meaning b w))
  contents_exact y imports h = (λ t. let exports = h.0 t in λ k. record { imports = imports k; exports = exports k }, λ same. h.1 (ap (λ (s : WorldSense). s.exports) same))

pub worlds_exact : (a b : Resolve) (n m : ℕ) (v w : World) → world_at a n ≡ Some v → world_at b m ≡ Some w → (y : Bool)
    → (IsTrue y ↔ (world_sense (world_meaning a v) ≡ world_sense (world_meaning b w))) → IsTrue y ↔ (world_sense (world_meaning_at a n) ≡ world_sense (world_meaning_at b m))
worlds_exact a b n m v w vat wat y h = search std_rules

-- ---- Items of two worlds, in pairs.

module _ (a b : Resolve) where
  abbrev pub SameEntries : WorldItem → WorldItem → Type 0
  SameEntries i j = entry_sense (entry_meaning a i) ≡ entry_sense (entry_meaning b j)

  pub type_items : (n m : TypeId) (y : Bool) → (IsTrue y ↔ (type_meaning_at a n.0 ≡ type_meaning_at b m.0)) → IsTrue y ↔ SameEntries (item.Type_ n) (item.Type_ m)
  type_items n m y h = search std_rules

  -- ---- interfaces

  module _ (n m : ℕ) where
    abbrev pub SameInterfaceItems : Type 0
    SameInterfaceItems = item_sense (interface_item a n) ≡ item_sense (interface_item b m)

    at_path : (r : Resolve) (k : ℕ) (p : Text) → interface_path r k ≡ Some p → item_sense (interface_item r k) ≡ interface p
    at_path r k p e = ap (λ o. item_sense (option_map_or interface o (inline (interface_meaning_at r k)))) e

    without_path : (r : Resolve) (k : ℕ) → interface_path r k ≡ None → item_sense (interface_item r k) ≡ inline (interface_sense (interface_meaning_at r k))
    without_path r k e = ap (λ o. item_sense (option_map_or interface o (inline (interface_meaning_at r k)))) e

    abbrev path_in : Text → Item InterfaceSense → Text
    path_in d (interface path) = path
    path_in d _ = d

    abbrev sense_in : InterfaceSense → Item InterfaceSense → InterfaceSense
    sense_in d (inline i) = i
    sense_in d _ = d

    pub both_paths : (p q : Text) (y : Bool) → interface_path a n ≡ Some p → interface_path b m ≡ Some q → (IsTrue y ↔ (p ≡ q)) → IsTrue y ↔ SameInterfaceItems
    both_paths p q y e f h = (λ t. at_path a n p e ∙ ap interface (h.0 t) ∙ sym (at_path b m q f), λ same. h.1 (ap (path_in p) (sym (at_path a n p e) ∙ same ∙ at_path b m q f)))

    pub both_inline : (y : Bool) → interface_path a n ≡ None → interface_path b m ≡ None
        → (IsTrue y ↔ (interface_sense (interface_meaning_at a n) ≡ interface_sense (interface_meaning_at b m))) → IsTrue y ↔ SameInterfaceItems
    both_inline y e f h = (
      λ t. without_path a n e ∙ ap inline (h.0 t) ∙ sym (without_path b m f),
      λ same. h.1 (ap (sense_in (interface_sense (interface_meaning_at a n))) (sym (without_path a n e) ∙ same ∙ without_path b m f)),
    )

    pub first_inline : (q : Text) → interface_path a n ≡ None → interface_path b m ≡ Some q → IsTrue false ↔ SameInterfaceItems
    first_inline q e f = never _ (λ same. let wrong : inline (interface_sense (interface_meaning_at a n)) ≡ interface q = sym (without_path a n e) ∙ same ∙ at_path b m q f in let z : ⊥ = cc in z)

    pub second_inline : (p : Text) → interface_path a n ≡ Some p → interface_path b m ≡ None → IsTrue false ↔ SameInterfaceItems
    second_inline p e f = never _ (λ same. let wrong : interface p ≡ inline (interface_sense (interface_meaning_at b m)) = sym (at_path a n p e) ∙ same ∙ without_path b m f in let z : ⊥ = cc in z)

    module _ (i j : Option (String Global)) where
      pub interface_entries : (y : Bool) → optional_text i ≡ optional_text j → (IsTrue y ↔ SameInterfaceItems) → IsTrue y ↔ SameInterfaceEntries a b n m i j
      interface_entries y ids h = (λ t. let items = h.0 t in λ k. record { item = items k; external_id = ids k }, λ same. h.1 (ap (λ (e : Entry InterfaceSense). e.item) same))
