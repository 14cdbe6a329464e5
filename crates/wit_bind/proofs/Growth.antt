-- A merge adds what comes, and nothing where nothing is new.
use Rattle.std.proofs.Common.{rules as std_rules, ◌≡◌, inl, inr, refl, sym, ap, subst, ◌∙◌, arith, ℕ, zero, suc, ◌+◌, Bool, true, false, not, ◌&&◌, cond, List, [], ◌∷◌, ◌++◌, length, map, append-nil, Option, Some, None, is_some, option_and_then, slice_get, Contains, ◌≤◌, slice_set, unwrap_or}
use Rattle.std.specs.{Cmp.Lexicographic.nat_list_cmp_total, FinMap.get, FinMap.get-from_entries, Option.option_map_or}
use Rattle.wit_model.specs.declared.model.{Function.Function, Interface.Interface, Resolve.Resolve, TypeOwner.TypeOwner, World.World, WorldItem.WorldItem, WorldKey.WorldKey}
use Rattle.wit_model.specs.{Lookup.interface_path, Lookup.key_text, Lookup.path_of_interface, Lookup.path_of_world, Lookup.world_at, Text.Text, Text.text_eq}
use Rattle.wit_model.proofs.OnePath.{named-path}
use Rattle.bind_meaning.specs.{ByNumbers.interfaces_by_path, ByNumbers.worlds_by_path, Clash.carried_worlds, Clash.entry_under, Clash.CanUnite, Roots.root_path}
use Rattle.bind_meaning.proofs.Maps.{eq_by_text, found_keys, get-without}
use Rattle.bind_meaning.proofs.WorldBindings.{interface-found, world-found, world-path}
use Rattle.bind_carry.specs.{MadeOf.Come, MadeOf.IsOwnedBy, Numbers.copied_count, Bound.bound_interfaces, First.first_fates, Union.IsUnionOf, BoundGains.bound_fates, BoundGains.gained_inline, Whole.IsInterfaceCarried, Whole.IsWorldCarried, MatchedSame.AreMatchedAt, MatchedSame.NoneOfPath, Packaged.IsPackageCarried, Which.AreMatchedAll, TooLong.carried_interfaces, TooLong.carried_packages, TooLong.carried_worlds as carried_worlds_of, TooLong.copies_of, TooLong.gained_fates, TooLong.CarriedThings, TooLong.TypeFates, Shown.AreShownBelow}
use Rattle.bind_carry.proofs.{CountedCopies.flags_many, MetTypes.met_by}
use Rattle.std.proofs.Common.{is_none}
use Rattle.std.proofs.lemmas.List.{length-map}
use Rattle.wit_bind.proofs.{Bringing.new_package_copied, Bringing.new_world_copied, MatchedPaths.matches_have_paths}
use Rattle.bind_carry.proofs.Counting.{length_both, carried_all, carried_few, copied_long, inline_all}
use Rattle.bind_carry.proofs.{WhatComes.marked_count, Ready.bound_long, Ready.fates_long, Ready.numbers_count, SecondInitial.gained_long}
use Rattle.wit_bind.specs.declared.bindgen.Bindgen.{Bindgen}
use Rattle.wit_bind.specs.Bindings.{binding_of, IsBindgen}
use Rattle.wit_bind.specs.Comes.{is_new_package, is_new_world, is_one_of, BringsNothing, ExportIsGained, FunctionComes, FunctionIsGained, ImportIsGained, InlineIsGained, InterfaceComes, IsGained, NamedComes, NamedIsGained, OwnerComes, OwnerIsGained, TypeComes, TypeIsGained, WorldComes}
use Rattle.wit_bind.specs.Merges.{packages_to_come, worlds_to_come, AddsNothing, GrowsWithin, IsGrownBy, IsPlanOf}
use Rattle.wit_bind.proofs.{NumbersAgree.export-found, NumbersAgree.import-found, TooMany.packages-few, TooMany.shown, TooMany.worlds-few}
use Rattle.wit_bind.proofs.Coming.{copied-world, inline-come, interfaces-are, interfaces-come, types-come, types-gained}
use Rattle.base_lemmas.proofs.{Bools.left_of as first_true, Bools.not-false, Bools.right_of as second_true, Lists.within_there as element_at}
use Rattle.base_lemmas.proofs.Options.{there as some-of}
use Rattle.bind_add.specs.declared.added.Added.{Added}
use Rattle.bind_add.proofs.Gains.{set_length}

-- ---- Where nothing of the other is new, nothing comes.

-- ---- lists

pub unmarked : (marks : List Bool) → ((n : ℕ) → slice_get marks n ≡ Some true → ⊥) → copied_count marks ≡ 0
unmarked [] none = refl
unmarked (true ∷ bs) none = absurd (none zero refl)
unmarked (false ∷ bs) none = unmarked bs (λ n e. none (suc n) e)

pub none-comes : (P : ℕ → Type 0) → ((n : ℕ) → P n → ⊥) → (count : ℕ) → Come P count → count ≡ 0
none-comes P none count c = sym c.marked ∙ (marked_count c.marks ∙ unmarked c.marks (λ n e. none n (c.each n e)))

pub no-longer : {X : Type 0} (old more new : List X) (a b : ℕ) → new ≡ old ++ more → a ≡ 0 → b ≡ 0 → length new ≡ length old + (a + b) → new ≡ old
no-longer old [] new a b e p q long = e ∙ append-nil old
no-longer old (x ∷ xs) new a b e p q long = let all : length new ≡ length old + length (x ∷ xs) = ap length e ∙ length_both old (x ∷ xs) in absurd (omega (arith, all, long, p, q))

module _ (own other : Bindgen) (o : IsBindgen own) (t : IsBindgen other) (can : CanUnite (binding_of own) (binding_of other)) (nothing : BringsNothing (binding_of own) (binding_of other))
    (w v : World) (at_w : world_at own.resolve own.world.0 ≡ Some w) (at_v : world_at other.resolve other.world.0 ≡ Some v) where
  abbrev r : Resolve
  r = own.resolve

  abbrev s : Resolve
  s = other.resolve

  -- ---- by path

  pub no-world : (n : ℕ) → WorldComes r s n → ⊥
  no-world n c = not-false (is_one_of here path.0) (second_true (not (text_eq path.0 root_path)) (not (is_one_of here path.0)) new) known
    where
      path : (path : Text) × (option_and_then (path_of_world s) (world_at s n) ≡ Some path)
      path = world-path s t.valid n c.world c.found

      here : List Text
      here = map (λ e. e.0) (worlds_by_path r)

      has : path_of_world s c.world ≡ Some path.0
      has = sym (ap (option_and_then (path_of_world s)) c.found) ∙ path.1

      new : (not (text_eq path.0 root_path) && not (is_one_of here path.0)) ≡ true
      new = sym (ap (λ p. option_map_or (λ path. not (text_eq path root_path) && not (is_one_of here path)) p true) has) ∙ c.is_new

      other-root : (b : Bool) → not b ≡ true → b ≡ false
      other-root x h = search std_rules

      there : is_some (get (carried_worlds (binding_of other)) path.0) ≡ true
      there = ap is_some (get-without (binding_of other).worlds root_path path.0
          ∙ (ap (λ b. cond b None (get (binding_of other).worlds path.0)) (sym (eq_by_text path.0 root_path)
          ∙ other-root (text_eq path.0 root_path) (first_true (not (text_eq path.0 root_path)) (not (is_one_of here path.0)) new)) ∙ world-found s t.valid n path.0 path.1))

      known : is_one_of here path.0 ≡ true
      known = sym (found_keys path.0 (worlds_by_path r)) ∙ (sym (ap is_some (get-from_entries nat_list_cmp_total (worlds_by_path r) path.0)) ∙ nothing.worlds path.0 there)

  no-named : (n : ℕ) → NamedComes r s n → ⊥
  no-named n c = not-false (is_one_of here path.0) new known
    where
      path : (path : Text) × (interface_path s n ≡ Some path)
      path = some-of (interface_path s n) (named-path s t.valid n (ap (λ x. option_map_or (λ (i : Interface). is_some i.name) x false) c.found ∙ c.named))

      here : List Text
      here = map (λ e. e.0) (interfaces_by_path r)

      has : path_of_interface s c.interface ≡ Some path.0
      has = sym (ap (option_and_then (path_of_interface s)) c.found) ∙ path.1

      new : not (is_one_of here path.0) ≡ true
      new = sym (ap (λ p. option_map_or (λ path. not (is_one_of here path)) p true) has) ∙ c.is_new

      known : is_one_of here path.0 ≡ true
      known = sym (found_keys path.0 (interfaces_by_path r))
          ∙ (sym (ap is_some (get-from_entries nat_list_cmp_total (interfaces_by_path r) path.0)) ∙ nothing.interfaces path.0 (ap is_some (interface-found s t.valid n path.0 path.1)))

  pub no-interface : (n : ℕ) → InterfaceComes r s n → ⊥
  no-interface n (inl c) = no-named n c
  no-interface n (inr c) = no-world c.place c.comes

  no-owner : (h : TypeOwner) → OwnerComes r s h → ⊥
  no-owner x c = search (std_rules, no-interface, no-world)

  no-owned : (n : ℕ) → IsOwnedBy s.types.items (OwnerComes r s) n → ⊥
  no-owned n c = no-owner c.def.owner c.owned_so

  no-function : (f : Function) → FunctionComes r s f → ⊥
  no-function f (inl c) = no-interface c.place c.comes
  no-function f (inr c) = no-world c.place c.comes

  pub no-type : (n : ℕ) → TypeComes r s n → ⊥
  no-type n (inl c) = no-owned n c
  no-type n (inr (made, met)) =
      elim (met_by s.types.items (FunctionComes r s) (IsOwnedBy s.types.items (OwnerComes r s)) n met) [ inl x ↦ no-function x.0 x.1 | inr x ↦ no-owned x.0 x.1 ]

  -- ---- what is gained

  none-some : {X : Type 0} (x : Option X) → x ≡ None → is_some x ≡ true → ⊥
  none-some x e h = search std_rules

  no-import : (e : WorldKey × WorldItem) → ImportIsGained own other e → ⊥
  no-import e c =
      let held = subst (λ (l : List (WorldKey × WorldItem)). Contains l e) (ap (λ (z : Option World). option_map_or (λ (x : World). x.imports.entries) z []) at_v) c.held in
      none-some (entry_under (key_text s e.0) (binding_of own).bound.imports) c.is_new (nothing.imports (key_text s e.0) (ap is_some (import-found other t v at_v e held)))

  no-export : (e : WorldKey × WorldItem) → ExportIsGained own other e → ⊥
  no-export e c =
      let held = subst (λ (l : List (WorldKey × WorldItem)). Contains l e) (ap (λ (z : Option World). option_map_or (λ (x : World). x.exports.entries) z []) at_v) c.held in
      none-some (entry_under (key_text s e.0) (binding_of own).bound.exports) c.is_new (nothing.exports (key_text s e.0) (ap is_some (export-found other t v at_v e held)))

  no-gain : (e : WorldKey × WorldItem) → IsGained own other e → ⊥
  no-gain e x = search (std_rules, no-import, no-export)

  pub no-inline : (n : ℕ) → InlineIsGained own other n → ⊥
  no-inline n c = no-gain c.entry c.gained

  no-gained-owner : (h : TypeOwner) → OwnerIsGained own other h → ⊥
  no-gained-owner x c = search (std_rules, no-inline)

  no-gained-named : (n : ℕ) → NamedIsGained own other n → ⊥
  no-gained-named n (inl c) = no-gained-owner c.def.owner c.owned_so
  no-gained-named n (inr c) = no-import c.entry c.gained

  no-gained-function : (f : Function) → FunctionIsGained own other f → ⊥
  no-gained-function f (inl c) = no-inline c.place c.gained
  no-gained-function f (inr c) = no-gain c.entry c.gained

  pub no-gained-type : (n : ℕ) → TypeIsGained own other n → ⊥
  no-gained-type n (inl c) = no-gained-named n c
  no-gained-type n (inr (made, met)) =
      elim (met_by s.types.items (FunctionIsGained own other) (NamedIsGained own other) n met) [ inl x ↦ no-gained-function x.0 x.1 | inr x ↦ no-gained-named x.0 x.1 ]

-- ---- a merge adds what comes, and nothing where nothing is new

-- a list with more behind it, or with its elements changed and more behind it, is longer by that
longer : {X : Type 0} (old between more new : List X) (n : ℕ) → length between ≡ length old → new ≡ between ++ more → length more ≡ n → length new ≡ length old + n
longer old between more new n same is count = let all = ap length is ∙ length_both between more in omega (arith, same, all, count)

module _ (own other new : Bindgen) (o : IsBindgen own) (t : IsBindgen other) (can : CanUnite (binding_of own) (binding_of other)) (added : Added) (keys : List WorldKey) (p : IsPlanOf own other added keys) (g : IsGrownBy added other.metadata own new) where
  bound : (w : World) × (world_at own.resolve own.world.0 ≡ Some w)
  bound = element_at own.resolve.worlds.items own.world.0 o.in_range

  other-bound : (v : World) × (world_at other.resolve other.world.0 ≡ Some v)
  other-bound = element_at other.resolve.worlds.items other.world.0 t.in_range

  abbrev w : World
  w = bound.0

  abbrev v : World
  v = other-bound.0

  planned : IsUnionOf own.resolve other.resolve own.world.0 other.world.0 p.matches w v added keys
  planned = p.union w v bound.1 other-bound.1

  abbrev c : CarriedThings
  c = planned.carried

  abbrev fates : TypeFates
  fates = first_fates own.resolve other.resolve p.matches.interfaces.items c

  -- ---- packages and worlds

  paths : AreMatchedAll other.resolve p.matches × AreMatchedAt own.resolve other.resolve p.matches.interfaces.items c.packages.items
      × NoneOfPath own.resolve other.resolve p.matches.interfaces.items
  paths = matches_have_paths own other o t can p.matches p.matched own.world.0 other.world.0 w v added keys planned

  packages : length added.packages.items ≡ packages_to_come own.resolve other.resolve
  packages =
      let r = own.resolve in
      let s = other.resolve in
      let flags : c.new_packages.items ≡ carried_packages p.matches = planned.numbered.new_packages in
      let long : length c.new_packages.items ≡ length s.packages.items = ap length flags ∙ (length-map p.matches.packages.items is_none ∙ paths.0.packages) in
      let all : length planned.before.packages.items ≡ copied_count c.new_packages.items =
      carried_all (IsPackageCarried c) c.new_packages.items s.packages.items planned.before.packages.items long planned.first.packages in
      let same = ap length planned.second.packages in
      let most = packages-few r s o.valid t.valid p.matches p.matched in
      let least = flags_many (is_new_package r) c.new_packages.items s.packages.items long
      (λ n q at fresh. new_package_copied r s o.valid t.valid p.matches p.matched paths.0 c planned.numbered paths.1 n q at fresh) in
      let count = ap copied_count flags in
      omega (arith, all, same, most, least, count)

  worlds : length added.worlds.items ≡ worlds_to_come own.resolve other.resolve
  worlds =
      let r = own.resolve in
      let s = other.resolve in
      let flags : c.copied_worlds.items ≡ carried_worlds_of s p.matches = planned.numbered.copied_worlds in
      let all : length planned.before.worlds.items ≡ copied_count c.copied_worlds.items =
      carried_all (IsWorldCarried c planned.types) c.copied_worlds.items s.worlds.items planned.before.worlds.items planned.numbered.world_count planned.first.worlds in
      let same = ap length planned.second.worlds in
      let most = worlds-few r s o.valid t.valid p.matches p.matched in
      let least = flags_many (is_new_world r s) c.copied_worlds.items s.worlds.items planned.numbered.world_count
      (λ n x at fresh. let path = world-path s t.valid n x at in new_world_copied r s o.valid t.valid p.matches p.matched paths.0 c planned.numbered paths.1 n x path.0 at
      (sym (ap (option_and_then (path_of_world s)) at) ∙ path.1) fresh) in
      let count = ap copied_count flags in
      omega (arith, all, same, most, least, count)

  -- ---- interfaces

  interface-count : length new.resolve.interfaces.items ≡ length own.resolve.interfaces.items + (copied_count (carried_interfaces other.resolve p.matches) + copied_count
      (gained_inline other.resolve c.interfaces.items w v))
  interface-count =
      let s = other.resolve in
      let first : length planned.before.interfaces.items ≡ copied_count c.copied_interfaces.items =
      carried_all (IsInterfaceCarried c planned.types) c.copied_interfaces.items s.interfaces.items planned.before.interfaces.items planned.numbered.interface_count planned.first.interfaces in
      let long : length planned.second.copied ≡ length s.interfaces.items = ap length planned.second.copied_are ∙ gained_long s c.interfaces.items w v below.0 below.1 in
      let second : length added.interfaces.items ≡ length planned.before.interfaces.items + copied_count planned.second.copied =
      inline_all planned.second.types w.«package» planned.second.copied s.interfaces.items planned.before.interfaces.items added.interfaces.items long planned.second.inline_copied in
      let flags = ap copied_count planned.second.copied_are in
      let same = ap copied_count (interfaces-are own other o t can p.matches p.matched c planned.numbered) in
      let all = ap length g.all_added.interfaces ∙ length_both own.resolve.interfaces.items added.interfaces.items in
      omega (arith, first, second, flags, same, all)
    where
      below : AreShownBelow (length other.resolve.interfaces.items) v.imports.entries × AreShownBelow (length other.resolve.interfaces.items) v.exports.entries
      below = shown own.resolve other.resolve o.valid t.valid p.matches p.matched other.world.0 v other-bound.1

  -- ---- types

  abbrev later : TypeFates
  later = gained_fates own.resolve other.resolve own.world.0 other.world.0 w v c fates planned.types (length planned.before.interfaces.items)

  numbers-long : length planned.types ≡ length other.resolve.types.items
  numbers-long = numbers_count (length own.resolve.types.items) planned.types other.resolve.types.items fates [] planned.defs planned.types_copied ∙ fates_long own.resolve other.resolve p.matches c

  type-count : length new.resolve.types.items ≡ length own.resolve.types.items + (copies_of fates + copies_of later)
  type-count =
      let r = own.resolve in
      let s = other.resolve in
      let long = fates_long r s p.matches c in
      let first = copied_long (length r.types.items) planned.types s.types.items fates [] planned.defs long planned.types_copied in
      let same = ap length planned.first.type_defs in
      let fates-then = bound_fates s own.world.0 other.world.0 w v planned.second.copied planned.second.interfaces fates planned.types in
      let second = copied_long (length r.types.items) planned.second.types s.types.items fates-then planned.before.types.items added.types.items
      (bound_long s own.world.0 other.world.0 w v planned.second.copied planned.second.interfaces fates planned.types long numbers-long)
      planned.second.types_copied in
      let copied = planned.second.copied_are in
      let numbers = planned.second.interfaces_are ∙ ap (bound_interfaces r (length planned.before.interfaces.items) c) copied in
      let gained : copies_of fates-then ≡ copies_of later = λ i. copies_of (bound_fates s own.world.0 other.world.0 w v (copied i) (numbers i) fates planned.types) in
      let all = ap length g.all_added.types ∙ length_both r.types.items added.types.items in
      omega (arith, first, same, second, gained, all)

  -- ---- all of it

  pub merged_grows : GrowsWithin own other new
  merged_grows =
      let ps = g.all_added.packages in
      let bound_new = g.all_added.worlds w bound.1 in record {
        packages = longer own.resolve.packages.items ps.0 added.packages.items new.resolve.packages.items (packages_to_come own.resolve other.resolve) ps.1.count ps.2 packages;
        worlds = longer own.resolve.worlds.items (slice_set own.resolve.worlds.items own.world.0 bound_new.0) added.worlds.items new.resolve.worlds.items (worlds_to_come own.resolve other.resolve)
            (set_length own.resolve.worlds.items own.world.0 bound_new.0) bound_new.2 worlds;
        interfaces = record {
          first = copied_count (carried_interfaces other.resolve p.matches);
          first_come = interfaces-come own other o t can p.matches p.matched;
          second = copied_count (gained_inline other.resolve c.interfaces.items w v);
          second_come = inline-come own other o t can p.matches p.matched c planned.numbered w v bound.1 other-bound.1;
          length_is = interface-count;
        };
        types = record {
          first = copies_of fates;
          first_come = types-come own other o t can p.matches p.matched c planned.numbered;
          second = copies_of later;
          second_come = types-gained own other o t can p.matches p.matched c planned.numbered w v bound.1 other-bound.1 (length planned.before.interfaces.items) planned.types numbers-long;
          length_is = type-count;
        };
      }

  -- ---- where nothing is new

  module _ (nothing : BringsNothing (binding_of own) (binding_of other)) where
    no-worlds : length new.resolve.worlds.items ≡ length own.resolve.worlds.items
    no-worlds =
        let bound_new = g.all_added.worlds w bound.1 in
        let one : length planned.before.worlds.items ≤ copied_count c.copied_worlds.items =
        carried_few (IsWorldCarried c planned.types) c.copied_worlds.items other.resolve.worlds.items planned.before.worlds.items planned.first.worlds in
        let same = ap length planned.second.worlds in
        let none : copied_count c.copied_worlds.items ≡ 0 = unmarked c.copied_worlds.items (λ n e. no-world own other o t can nothing w v bound.1 other-bound.1 n
        (copied-world own other o t can p.matches p.matched c planned.numbered n (ap (λ x. unwrap_or x false) e))) in
        let set = set_length own.resolve.worlds.items own.world.0 bound_new.0 in
        let all = ap length bound_new.2 ∙ length_both (slice_set own.resolve.worlds.items own.world.0 bound_new.0) added.worlds.items in
        omega (arith, one, same, none, set, all)

    pub merged_nothing : AddsNothing own.resolve new.resolve
    merged_nothing =
        let ways = merged_grows in record {
          interfaces = no-longer own.resolve.interfaces.items added.interfaces.items new.resolve.interfaces.items ways.interfaces.first ways.interfaces.second g.all_added.interfaces
              (none-comes (InterfaceComes own.resolve other.resolve) (no-interface own other o t can nothing w v bound.1 other-bound.1) _ ways.interfaces.first_come)
              (none-comes (InlineIsGained own other) (no-inline own other o t can nothing w v bound.1 other-bound.1) _ ways.interfaces.second_come) ways.interfaces.length_is;
          worlds = no-worlds;
          types = no-longer own.resolve.types.items added.types.items new.resolve.types.items ways.types.first ways.types.second g.all_added.types
              (none-comes (TypeComes own.resolve other.resolve) (no-type own other o t can nothing w v bound.1 other-bound.1) _ ways.types.first_come)
              (none-comes (TypeIsGained own other) (no-gained-type own other o t can nothing w v bound.1 other-bound.1) _ ways.types.second_come) ways.types.length_is;
        }
