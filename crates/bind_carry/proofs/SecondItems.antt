-- What the second pass looks at: items that are types, labels, lists, and inline interfaces that are shown once.
use Rattle.base_lemmas.proofs.{Bools.right_of as second_true, Elements.lookup_stands, Numbers.equal, Numbers.same-number}
use Rattle.bind_carry.proofs.{CopiesPlaced.by_either, FirstWorlds.sum_least, FirstWorlds.inline_once, FirstWorlds.shown_count, FirstWorlds.sum_two, SecondInitial.is_shown_new}
use Rattle.bind_meaning.proofs.Listed.{by_option}
use Rattle.bind_carry.{proofs.FirstWorlds.count, proofs.FirstWorlds.count_front, proofs.WorldEntries.label_new}
use Rattle.bind_carry.specs.{BoundGains.type_under_key, Marked.is_shown_in, Renumbered.met_under, SecondPass.DoNotClash, Shown.type_in, Which.new_worlds, declared.fate.Fate.Fate, Fates.carries, Fates.copies, First.beside_first, First.flag_under, First.is_named_at, First.second_in, Renumbered.is_matched, Renumbered.second_of, declared.plan.Carried.Carried}
use Rattle.bind_copy.specs.Copies.{is_new_under}
use Rattle.bind_match.specs.Matching.{is_root_world}
use Rattle.bind_union.proofs.{Lists.no_true, WorldNamesakes.world_type, WorldNamesakes.is_declared, WorldNamesakes.not_declared}
use Rattle.bind_union.specs.Carried.{IsSameName, Renumbering, carries_owner, copies_owner, owner_under}
use Rattle.wit_model.specs.{Parts.same_owner, Valid.as_interface, Valid.as_world, Rules.is_id, Rules.item_type, Rules.times_shown, Lookup.interface_at, Lookup.key_text, Lookup.world_at, Meaning.Entry, Meaning.InterfaceSense, Meaning.item_sense, Meant.interface_item, Meant.item_meaning, Text.Text, Text.optional_text, Text.text_of, Uses.item_interface, Valid.IsValid, Valid.key_eq}
use Rattle.wit_model.specs.declared.model.InterfaceId.{InterfaceId}
use Rattle.wit_model.specs.declared.model.{Interface.Interface, PackageName.PackageName, Resolve.Resolve, TypeId.TypeId, TypeOwner.TypeOwner, World.World, WorldId.WorldId, WorldItem.WorldItem, WorldKey.WorldKey}
use Rattle.std.proofs.Common.{Bool, List, None, Option, Some, [], ap, arith, cond, false, if◌then◌else◌, is_some, map, not, option_and_then, option_map, refl, rules as std_rules, slice_get, subst, suc, sym, true, unwrap_or, zero, ℕ, ◌&&◌, ◌+◌, ◌||◌, ◌∙◌, ◌∷◌, ◌≡◌, ◌≤◌}
use Rattle.std.proofs.lemmas.{Bool.or_left, Bool.or_right, Option.slice_get-map}
use Rattle.std.specs.{List.AllByRecursion, List.Contains, List.IsDistinct, Map.keys_of, Map.lookup, Option.option_map_or, Prelude.String, declared.alloc.Global.Global}
use Rattle.wit_model.specs.declared.model.TypeOwner.TheVariants as owner
use Rattle.wit_model.specs.declared.model.WorldItem.TheVariants as item
use Rattle.wit_model.specs.declared.model.WorldKey.TheVariants as key
use Rattle.bind_carry.specs.declared.fate.Fate.TheVariants as fate

-- ---- items that are types

pub type_number : (i : WorldItem) (id : TypeId) → type_in i ≡ Some id → item_type i ≡ Some id.0
type_number y id e = search std_rules

pub number_type : (i : WorldItem) (t : ℕ) → item_type i ≡ Some t → (id : TypeId) × (type_in i ≡ Some id) × (id.0 ≡ t)
number_type x t e = search std_rules

-- what declares is a type
declared_type : (r : Resolve) (i : WorldItem) → is_declared (item_sense (item_meaning r i)) ≡ true → (id : TypeId) × (type_in i ≡ Some id)
declared_type r (item.Type_ a) h = (a, refl)
declared_type r (item.Interface a s d x) h = no_true (sym (not_declared r a.0) ∙ h)
declared_type r (item.Function g) h = no_true h

type_declared : (r : Resolve) (i : WorldItem) (id : TypeId) → type_in i ≡ Some id → is_declared (item_sense (item_meaning r i)) ≡ true
type_declared r x id e = search std_rules

pub same_label : (r : Resolve) (label : String Global) (k : WorldKey) → key_eq (key.Name label) k ≡ true → key_text r k ≡ text_of label
same_label r label x h = search std_rules

-- ---- labels of one text find the same

label_test : (a b : String Global) → text_of a ≡ text_of b → (k : WorldKey) → key_eq (key.Name a) k ≡ key_eq (key.Name b) k
label_test a b e x = search std_rules

-- labels of one text find the same
pub label_found : (a b : String Global) → text_of a ≡ text_of b → (es : List (WorldKey × WorldItem)) → lookup (key_eq (key.Name a)) es ≡ lookup (key_eq (key.Name b)) es
label_found a b e [] = refl
label_found a b e (x ∷ xs) = (λ i. cond (label_test a b e x.0 i) (Some x.1) (label_found a b e xs i))

apart_at : (k : WorldKey) (es : List (WorldKey × WorldItem)) → AllByRecursion (λ y. key_eq k y ≡ false) (keys_of es) → (n : ℕ) (x : WorldKey × WorldItem) → slice_get es n ≡ Some x
    → key_eq k x.0 ≡ false
apart_at k [] h n x e = let wrong : ⊥ = cc in absurd wrong
apart_at k (y ∷ ys) h zero x e = let same : y ≡ x = ap (λ o. unwrap_or o y) e in ap (λ (z : WorldKey × WorldItem). key_eq k z.0) (sym same) ∙ h.0
apart_at k (y ∷ ys) h (suc n) x e = apart_at k ys h.1 n x e

-- what stands under a label is found, where no key stands twice
pub label_held : (label : String Global) (es : List (WorldKey × WorldItem)) → IsDistinct key_eq (keys_of es) → (n : ℕ) (x : WorldKey × WorldItem) → slice_get es n ≡ Some x → (own : String Global)
    → x.0 ≡ key.Name own → text_of own ≡ text_of label → lookup (key_eq (key.Name label)) es ≡ Some x.1
unfolding IsDistinct
label_held label [] distinct n x e own is same = let wrong : ⊥ = cc in absurd wrong
label_held label (y ∷ ys) distinct zero x e own is same = search std_rules
label_held label (y ∷ ys) distinct (suc n) x e own is same = search (std_rules, apart_at y.0 ys distinct.0 n x e, label_test label own (sym same) y.0, label_held label ys distinct.1 n x e own is same)

-- what was carried stands for its copy
pub beside_carries : (g : Fate) (m : ℕ) → carries g ≡ true → carries (beside_first g m) ≡ true
beside_carries g m h = ap (λ b. carries (if b then fate.Stands m else fate.Left)) h

-- and isn't copied once more
pub beside_no_copy : (g : Fate) (m : ℕ) → copies (beside_first g m) ≡ false
beside_no_copy g m = search std_rules

pub beside_stands : (g : Fate) (m k : ℕ) → beside_first g m ≡ fate.Stands k → carries g ≡ true
beside_stands g m k e = search std_rules

-- ---- what a fate in what is gained says of the owner

module _ (other : Resolve) (matched : List (Option InterfaceId)) (c : Carried) (world other_world : ℕ) (here there : List (WorldKey × WorldItem)) (copied : List Bool) (interfaces : List ℕ)
    (fates : List Fate) (types : List ℕ) (o : TypeOwner) (f : Fate) where
  abbrev second : Renumbering
  second = second_of other matched c world other_world here there copied interfaces fates types

  abbrev fate_there : Fate
  fate_there = second_in other world other_world copied interfaces o f

  pub second_copies : (home : TypeOwner) (adds : Bool) → ((a : ℕ) → flag_under copied a ≡ true → adds ≡ true) → (o ≡ as_world other_world → home ≡ as_world world → adds ≡ true) → copies f ≡ false
      → fate_there ≡ fate.Copied home → (home ≡ owner_under second o) × (copies_owner second o ≡ true) × (adds ≡ true)
  second_copies home adds inline types_add bare e = grind (arith, equal)

  pub second_carries : same_owner o owner.None ≡ false → ((a : ℕ) → o ≡ as_interface a → (flag_under c.copied_interfaces.items a || is_matched matched a) ≡ true → carries f ≡ true)
      → carries_owner second o ≡ true → carries fate_there ≡ true
  second_carries some first h = grind (arith, no_true)

  pub second_stands : (k : ℕ) → fate_there ≡ fate.Stands k → (id : InterfaceId) × (o ≡ owner.Interface id) × (is_named_at other id.0 ≡ true) × (f ≡ fate.Stands k)
  second_stands k e = grind arith

-- ---- the two worlds

module _ (own other : Resolve) (valid_own : IsValid own) (valid_other : IsValid other) (other_world : ℕ) (w v : World) (at_v : world_at other other_world ≡ Some v) (agree : DoNotClash own other w v) where
  -- what stands under the key of a type has its text
  pub own_under : (e : WorldKey × WorldItem) → Contains v.imports.entries e → (t : ℕ) → item_type e.1 ≡ Some t → (i : WorldItem) → lookup (key_eq e.0) w.imports.entries ≡ Some i
      → (k : WorldKey) × Contains w.imports.entries (k, i) × (key_text own k ≡ key_text other e.0)
  own_under e held t is i found =
      let x = world_type other valid_other other_world v at_v e.0 e.1 held t is in
      let there = lookup_stands (key_eq e.0) w.imports.entries i found in
      (there.0, there.1, same_label own x.label there.0 (sym (ap (λ k. key_eq k there.0) x.keyed) ∙ there.2) ∙ sym (ap (key_text other) x.keyed))

  -- and is a type
  own_type_under : (e : WorldKey × WorldItem) → Contains v.imports.entries e → (id : TypeId) → type_in e.1 ≡ Some id → (i : WorldItem) → lookup (key_eq e.0) w.imports.entries ≡ Some i
      → (mine : TypeId) × (type_under_key w.imports.entries e.0 ≡ Some mine)
  own_type_under e held id is_type i found =
      let there = own_under e held id.0 (type_number e.1 id is_type) i found in
      let mine = declared_type own i (ap is_declared (ap (λ (s : Entry InterfaceSense). s.item) (agree.imports (there.0, i) e there.1 held there.2)) ∙ type_declared other e.1 id is_type) in
      (mine.0, ap (option_and_then type_in) found ∙ mine.1)

  -- where a type among imports isn't met, its key is new
  pub unmet_new : (numbers : List ℕ) (e : WorldKey × WorldItem) → Contains v.imports.entries e → (id : TypeId) → type_in e.1 ≡ Some id → type_under_key w.imports.entries e.0 ≡ None
      → is_new_under numbers w.imports.entries e.0 ≡ true
  unmet_new numbers e held id is_type unmet =
      let typed = world_type other valid_other other_world v at_v e.0 e.1 held id.0 (type_number e.1 id is_type) in
      by_option (lookup (key_eq e.0) w.imports.entries) (λ q. ap (is_new_under numbers w.imports.entries) typed.keyed
      ∙ (label_new numbers typed.label w.imports.entries ∙ (ap (λ k. not (is_some (lookup (key_eq k) w.imports.entries))) (sym typed.keyed) ∙ ap (λ o. not (is_some o)) q)))
      (λ i q. let m = own_type_under e held id is_type i q in let wrong : None ≡ Some m.0 = sym unmet ∙ m.1 in absurd cc)

-- ---- lists

-- what an item is that shows an interface
pub interface_meant : (r : Resolve) (y : WorldItem) (i : ℕ) → item_interface y ≡ Some i → item_meaning r y ≡ interface_item r i
interface_meant r x i e = search std_rules

pub is_shown : (y : WorldItem) (i : ℕ) → item_interface y ≡ Some i → is_id i (item_interface y) ≡ true
is_shown y i e = ap (is_id i) e ∙ same-number i

-- the item that is met is the first that shows the interface
pub record IsMetFirst (here es : List (WorldKey × WorldItem)) (n : ℕ) : Type 0 where
  pub place : ℕ
  pub entry : WorldKey × WorldItem
  pub there : slice_get es place ≡ Some entry
  pub shows : is_id n (item_interface entry.1) ≡ true
  pub met : met_under here es n ≡ option_and_then item_interface (lookup (key_eq entry.0) here)

pub met_first : (here es : List (WorldKey × WorldItem)) (n : ℕ) → is_shown_in es n ≡ true → IsMetFirst here es n
met_first here [] n h = no_true h
met_first here (e ∷ es) n h =
    let first = option_and_then item_interface (lookup (key_eq e.0) here) in
    by_either (is_id n (item_interface e.1)) (is_shown_in es n) h (λ q. record { place = zero; entry = e; there = refl; shows = q; met = ap (λ b. if b then first else met_under here es n) q })
    (λ q k. let r = met_first here es n k in
    record { place = suc r.place; entry = r.entry; there = r.there; shows = r.shows; met = ap (λ b. if b then first else met_under here es n) q ∙ r.met })

-- ---- an inline interface is shown once

module _ (r : Resolve) (valid : IsValid r) (n : ℕ) (v : World) (at : world_at r n ≡ Some v) (j : ℕ) (i : Interface) (found : interface_at r j ≡ Some i) (inline : i.name ≡ None) where
  abbrev pub items : List (WorldKey × WorldItem) → List WorldItem
  items es = map (λ (e : WorldKey × WorldItem). e.1) es

  at_most : count j (items v.imports.entries) + count j (items v.exports.entries) ≤ 1
  at_most = omega (arith, sum_least (times_shown j) r.worlds.items n v at, inline_once r valid j i found inline, count_front j (items v.imports.entries) (items v.exports.entries))

  one_of : (e : WorldKey × WorldItem) → is_id j (item_interface e.1) ≡ true → 1 ≤ cond (is_id j (item_interface e.1)) 1 0
  one_of e h = let one : ◌≡◌ {A = ℕ} (cond (is_id j (item_interface e.1)) 1 0) 1 = ap (λ b. cond b 1 0) h in omega (arith, one)

  item_at : (es : List (WorldKey × WorldItem)) (k : ℕ) (e : WorldKey × WorldItem) → slice_get es k ≡ Some e → slice_get (items es) k ≡ Some e.1
  item_at es k e there = slice_get-map (λ (x : WorldKey × WorldItem). x.1) es k ∙ ap (option_map (λ (x : WorldKey × WorldItem). x.1)) there

  -- by one import
  pub one_import : (k l : ℕ) (d e : WorldKey × WorldItem) → slice_get v.imports.entries k ≡ Some d → slice_get v.imports.entries l ≡ Some e → is_id j (item_interface d.1) ≡ true
      → is_id j (item_interface e.1) ≡ true → k ≡ l
  one_import k l d e at_d at_e shows_d shows_e = grind (arith, same-number, equal, sum_two, item_at, one_of, at_most)

  -- or by an export
  pub not_both : {A : Type 0} → is_shown_in v.imports.entries j ≡ true → is_shown_in v.exports.entries j ≡ true → A
  not_both h k = let one = shown_count j v.imports.entries h in let two = shown_count j v.exports.entries k in let most = at_most in absurd (omega (arith, one, two, most))

-- ---- tests

pub named_text : (o : Option (String Global)) (t : Text) → optional_text o ≡ Some t → is_some o ≡ true
named_text x t h = search std_rules

pub found_some : {A B : Type 0} (f : A → Option B) (o : Option A) (b : B) → option_and_then f o ≡ Some b → (a : A) × (o ≡ Some a)
found_some f x b h = search std_rules

pub not_some : {X : Type 0} (o : Option X) → not (is_some o) ≡ true → o ≡ None
not_some x h = search std_rules

-- what is shown under a new key is shown
pub shown_in : (r : Resolve) (interfaces : List ℕ) (here es : List (WorldKey × WorldItem)) (n : ℕ) → is_shown_new r interfaces here es n ≡ true → is_shown_in es n ≡ true
shown_in r interfaces here [] n h = no_true h
shown_in r interfaces here (e ∷ es) n h = by_either (is_new_under interfaces here e.0 && is_id n (item_interface e.1)) (is_shown_new r interfaces here es n) h
    (λ q. or_left (is_id n (item_interface e.1)) (is_shown_in es n) (second_true (is_new_under interfaces here e.0) (is_id n (item_interface e.1)) q))
    (λ q k. or_right (is_id n (item_interface e.1)) (is_shown_in es n) (shown_in r interfaces here es n k))

-- a world that is copied isn't left out
pub not_root : (r : Resolve) (ms : List (Option WorldId)) (ws : List World) (n : ℕ) → flag_under (new_worlds r ms ws) n ≡ true → option_map_or (is_root_world r) (slice_get ws n) false ≡ false
not_root r (m ∷ ms) (w ∷ ws) zero h = search std_rules
not_root r (m ∷ ms) (w ∷ ws) (suc n) h = not_root r ms ws n h
not_root r _ _ n h = no_true h

pub same_parts_of : (a b : PackageName) → b ≡ a → IsSameName a b
same_parts_of a b e = subst (λ x. IsSameName a x) (sym e) (record { namespace = refl; name = refl; version = refl })
