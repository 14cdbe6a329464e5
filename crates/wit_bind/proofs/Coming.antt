-- What is copied of other bindings comes by its path, or is gained by the own bound world.
use Rattle.std.proofs.Common.{rules as std_rules, ◌≡◌, ◌⊎◌, inl, inr, refl, sym, ap, subst, ◌∙◌, arith, ℕ, zero, suc, ◌+◌, Bool, true, false, not, ◌&&◌, ◌||◌, ◌==◌, List, [], ◌∷◌, length, map, Option, Some, None, is_none, is_some, slice_get, unwrap_or, Contains}
use Rattle.std.proofs.lemmas.{List.length-map, Option.slice_get_within}
use Rattle.std.specs.{Prelude.String, List.list_any, Option.option_map_or}
use Rattle.std.specs.declared.alloc.Global.{Global}
use Rattle.wit_model.specs.declared.model.{Function.Function, Interface.Interface, Resolve.Resolve, TypeOwner.TypeOwner, World.World, WorldItem.WorldItem, WorldKey.WorldKey}
use Rattle.wit_model.specs.{Lookup.interface_at, Lookup.interface_path, Lookup.key_text, Lookup.world_at, Meaning.WorldMeaning, Text.Text, Text.text_eq, Meant.entries_meaning, Rules.is_id, Uses.item_interface, Valid.item_function}
use Rattle.wit_model.proofs.{OnePath.named-path, RulesLemmas.is_id_some as some_id, TextLemmas.text_same as text-same}
use Rattle.bind_meaning.specs.Clash.{entry_under, CanUnite}
use Rattle.bind_meaning.proofs.WorldBindings.{export-key, import-key, keys-apart, IsKey}
use Rattle.bind_clash.specs.Faults.{IsMatched}
use Rattle.bind_clash.proofs.KeysMatched.{no-entry}
use Rattle.bind_copy.specs.Copies.{is_key_under, is_new_under, number_under}
use Rattle.bind_match.specs.declared.matches.Matches.{Matches}
use Rattle.bind_union.proofs.Lists.{no_true}
use Rattle.bind_carry.specs.{Bound.bound_interfaces, Shown.AreShownBelow, Which.new_interfaces, Which.AreMatchedAll, Which.IsNumbered, BoundGains.bound_fates, BoundGains.gained_inline, MadeOf.Come, MadeOf.IsMadeUp, MadeOf.IsMet, MadeOf.IsOwnedBy, Whole.kept, Fates.copies, TooLong.carried_interfaces, TooLong.carried_worlds, TooLong.copies_of, TooLong.CarriedThings, TooLong.TypeFates, First.first_fates, First.flag_under, First.is_named_at, Numbers.copied_count, Numbers.interface_number, Marked.is_inline_at, Marked.is_shown_in, Marked.mark_worlds, Marked.AreChosen, MatchedSame.AreMatchedAt, MatchedSame.NoneOfPath, Renumbered.is_matched, SecondPass.DoNotClash}
use Rattle.bind_carry.proofs.{FirstNumbers.matched_under, FirstNumbers.named_of_path, FirstNumbers.uncopied_under, Ready.fates_long, Ready.interface_count, Marking.are_chosen, WorldEntries.any_place, WorldEntries.export_keyed, WorldEntries.import_keyed, WorldEntries.new_under_same, Ranges.is_in_range, SecondInitial.gained_flag, SecondInitial.gained_long, SecondInitial.is_gained, SecondInitial.is_shown_new}
use Rattle.bind_carry.proofs.{CopiesPlaced.some_same, MetTypes.met_as}
use Rattle.bind_carry.proofs.WhatComes.{first_comes, marked_count, second_comes, IsNewImport}
use Rattle.bind_carry.proofs.CountedCopies.{interfaces_flagged, worlds_flagged}
use Rattle.wit_bind.specs.declared.bindgen.Bindgen.{Bindgen}
use Rattle.wit_bind.specs.Bindings.{binding_of, IsBindgen}
use Rattle.wit_bind.specs.Comes.{ExportIsGained, FunctionComes, FunctionIsGained, ImportIsGained, InlineComes, InlineIsGained, InterfaceComes, IsGained, NamedIsGained, OwnerComes, OwnerIsGained, OwnerIsShown, OwnerStands, TypeComes, TypeIsGained, WorldComes}
use Rattle.wit_bind.proofs.{MatchedPaths.all-matched, MatchedPaths.matched-with, MatchedPaths.none-of-path, NumbersAgree.meant, NumbersAgree.united_agree_by_numbers}
use Rattle.wit_bind.proofs.TooMany.{new-interface, new-world, shown}
use Rattle.base_lemmas.proofs.{Bools.left_of as first_true, Bools.right_of as second_true, Elements.get-contains, Lists.within_there, Options.none_some, Options.there as some-of}
use Rattle.wit_model.specs.declared.model.WorldKey.TheVariants as key

-- ---- lists

flag-there : {A : Type 0} (flags : List Bool) (xs : List A) (n : ℕ) → length flags ≡ length xs → flag_under flags n ≡ true → (x : A) × (slice_get xs n ≡ Some x)
flag-there {A} flags xs n long h = go (slice_get flags n) refl h
  where
    go : (o : Option Bool) → slice_get flags n ≡ o → unwrap_or o false ≡ true → (x : A) × (slice_get xs n ≡ Some x)
    go None e k = no_true k
    go (Some b) e k = within_there xs n (let less = slice_get_within flags n b e in omega (arith, less, long))

mark-flag : (marks : List Bool) (n : ℕ) → slice_get marks n ≡ Some true → flag_under marks n ≡ true
mark-flag marks n e = ap (λ o. unwrap_or o false) e

-- what is kept had its flag
kept-from : {A : Type 0} (flags : List Bool) (xs : List A) (p : ℕ) (x : A) → slice_get (kept flags xs) p ≡ Some x → (n : ℕ) × (slice_get xs n ≡ Some x) × (flag_under flags n ≡ true)
kept-from (true ∷ bs) (y ∷ ys) zero x e = (zero, e, refl)
kept-from (true ∷ bs) (y ∷ ys) (suc p) x e = let r = kept-from bs ys p x e in (suc r.0, r.1, r.2)
kept-from (false ∷ bs) (y ∷ ys) p x e = let r = kept-from bs ys p x e in (suc r.0, r.1, r.2)
kept-from _ _ p x e = let wrong : ⊥ = cc in absurd wrong

either-true : {P : Type 0} (a b : Bool) → (a ≡ true → P) → (b ≡ true → P) → (a || b) ≡ true → P
either-true x b f g h = search std_rules

-- what passes none of these isn't one
none-passes : {A : Type 0} (p : A → Bool) (xs : List A) (x : A) → not (list_any p xs) ≡ true → Contains xs x → p x ≡ false
none-passes p [] x h (i, l, e) = absurd (omega (arith, l))
none-passes p (y ∷ ys) x h (zero, l, e) = search std_rules
none-passes p (y ∷ ys) x h (suc i, l, e) = none-passes p ys x (later (p y) (list_any p ys) h) (i, omega (arith, l), e)
  where
    later : (a b : Bool) → not (a || b) ≡ true → not b ≡ true
    later x b k = search std_rules

module _ (own other : Bindgen) (o : IsBindgen own) (t : IsBindgen other) (can : CanUnite (binding_of own) (binding_of other)) (m : Matches) (matched : IsMatched own.resolve other.resolve m) where
  abbrev r : Resolve
  r = own.resolve

  abbrev s : Resolve
  s = other.resolve

  all : AreMatchedAll s m
  all = all-matched r s m matched

  none : NoneOfPath r s m.interfaces.items
  none = none-of-path own other o t can m matched

  has-path : (n : ℕ) → is_named_at s n ≡ true → is_some (interface_path s n) ≡ true
  has-path n h = named-path s t.valid n h

  -- ---- by path

  chosen : AreChosen s m.interfaces.items (carried_worlds s m) (carried_interfaces s m)
  chosen = are_chosen s m.interfaces.items (carried_worlds s m) all.interfaces (shown r s o.valid t.valid m matched)

  world-comes : (n : ℕ) → flag_under (carried_worlds s m) n ≡ true → WorldComes r s n
  world-comes n h =
      let w = flag-there (carried_worlds s m) s.worlds.items n (worlds_flagged s m.worlds.items s.worlds.items all.worlds) h in
      record { world = w.0; found = w.1; is_new = new-world r s o.valid t.valid m matched n w.0 w.1 h }

  pub interface-comes : (n : ℕ) → flag_under (carried_interfaces s m) n ≡ true → InterfaceComes r s n
  interface-comes n h = by (is_some i.0.name) refl
    where
      i : (i : Interface) × (interface_at s n ≡ Some i)
      i = flag-there (carried_interfaces s m) s.interfaces.items n (interfaces_flagged s m.interfaces.items (carried_worlds s m) all.interfaces) h

      shows : (es : List (WorldKey × WorldItem)) → is_shown_in es n ≡ true → (e : WorldKey × WorldItem) × Contains es e × (item_interface e.1 ≡ Some n)
      shows es k =
          let p = any_place (λ (e : WorldKey × WorldItem). is_id n (item_interface e.1)) es k in
          (p.thing, get-contains es p.place p.thing p.there, some_id n (item_interface p.thing.1) p.passes_it)

      by : (b : Bool) → is_some i.0.name ≡ b → InterfaceComes r s n
      by true e = inl (record { interface = i.0; found = i.1; named = e; is_new = new-interface r s o.valid t.valid m matched (carried_worlds s m) (carried_interfaces s m) chosen n i.0 i.1 h })
      by false e =
          let p = any_place (λ (w : World). is_shown_in w.imports.entries n || is_shown_in w.exports.entries n) (kept (carried_worlds s m) s.worlds.items) (sym (chosen.inline n i.0 i.1 e) ∙ h) in
          let k = kept-from (carried_worlds s m) s.worlds.items p.place p.thing p.there in
          let comes : WorldComes r s k.0 = record { world = p.thing; found = k.1; is_new = new-world r s o.valid t.valid m matched k.0 p.thing k.1 k.2 } in
          let inline : is_inline_at s n ≡ true = ap (λ x. option_map_or (λ (j : Interface). is_none j.name) x false) i.1 ∙ none_some i.0.name e in
          inr (either-true {P = InlineComes r s n} (is_shown_in p.thing.imports.entries n) (is_shown_in p.thing.exports.entries n)
          (λ q. let x = shows p.thing.imports.entries q in record { inline = inline; place = k.0; comes = comes; entry = x.0; held = inl x.1; shown = x.2 })
          (λ q. let x = shows p.thing.exports.entries q in record { inline = inline; place = k.0; comes = comes; entry = x.0; held = inr x.1; shown = x.2 })
          p.passes_it)

  pub interfaces-come : Come (InterfaceComes r s) (copied_count (carried_interfaces s m))
  interfaces-come = record { marks = carried_interfaces s m; marked = marked_count (carried_interfaces s m); each = λ n e. interface-comes n (mark-flag (carried_interfaces s m) n e) }

  stands : (w : TypeOwner) → OwnerComes r s w → OwnerStands r s w
  stands x h = search std_rules

  module _ (c : CarriedThings) (numbered : IsNumbered r s m c) where
    worlds-are : c.copied_worlds.items ≡ carried_worlds s m
    worlds-are = numbered.copied_worlds

    pub interfaces-are : c.copied_interfaces.items ≡ carried_interfaces s m
    interfaces-are = numbered.copied_interfaces ∙ ap (λ (l : List Bool). mark_worlds s (new_interfaces m.interfaces.items s.interfaces.items) l s.worlds.items) worlds-are

    pub copied-interface : (n : ℕ) → flag_under c.copied_interfaces.items n ≡ true → InterfaceComes r s n
    copied-interface n h = interface-comes n (ap (λ (l : List Bool). flag_under l n) (sym interfaces-are) ∙ h)

    pub copied-world : (n : ℕ) → flag_under c.copied_worlds.items n ≡ true → WorldComes r s n
    copied-world n h = world-comes n (ap (λ (l : List Bool). flag_under l n) (sym worlds-are) ∙ h)

    same : AreMatchedAt r s m.interfaces.items c.packages.items
    same = matched-with own other o t can m matched c numbered

    -- functions of what is copied
    interface-function : (n : ℕ) (i : Interface) → slice_get s.interfaces.items n ≡ Some i → flag_under c.copied_interfaces.items n ≡ true → (f : Function)
        → Contains (map (λ e. e.1) i.functions.entries) f → FunctionComes r s f
    interface-function n i at set f held = inl (record { place = n; comes = copied-interface n set; interface = i; found = at; held = held })

    world-function : (n : ℕ) (w : World) → slice_get s.worlds.items n ≡ Some w → flag_under c.copied_worlds.items n ≡ true → (e : WorldKey × WorldItem)
        → Contains w.imports.entries e ⊎ Contains w.exports.entries e → (f : Function) → item_function e.1 ≡ Some f → FunctionComes r s f
    world-function n w at set e held f is =
        let comes = copied-world n set in
        let same : w ≡ comes.world = some_same w comes.world (sym at ∙ comes.found) in
        inr (record {
          place = n;
          comes = comes;
          entry = e;
          held = subst (λ (x : World). Contains x.imports.entries e ⊎ Contains x.exports.entries e) same held;
          is_function = is;
        })

    abbrev fates : TypeFates
    fates = first_fates r s m.interfaces.items c

    pub type-comes : (n : ℕ) → slice_get (map copies fates) n ≡ Some true → TypeComes r s n
    type-comes = first_comes r s t.valid m.interfaces.items c (OwnerComes r s) (OwnerStands r s) (λ id h. copied-interface id.0 h) (λ id h. copied-world id.0 h) stands
        (λ id h. inl (same id.0 h).has_path) (FunctionComes r s) interface-function world-function

    pub types-come : Come (TypeComes r s) (copies_of fates)
    types-come = record { marks = map copies fates; marked = marked_count (map copies fates); each = type-comes }

    -- ---- keys that are new

    abbrev numbers : List ℕ
    numbers = c.interfaces.items

    own-number : (n : ℕ) (h : is_matched m.interfaces.items n ≡ true) → number_under numbers n ≡ (same n h).id.0
    own-number n h =
        let x = same n h in
        let name : is_some x.old.name ≡ true = named_of_path s n x.old x.found x.has_path in
        let flag : flag_under c.copied_interfaces.items n ≡ false = ap (λ (l : List Bool). flag_under l n) interfaces-are ∙ (chosen.named n x.old x.found name ∙ ap not h) in
        ap (λ (l : List ℕ). number_under l n) numbered.interfaces ∙ (uncopied_under (length r.interfaces.items) c.copied_interfaces.items (map interface_number m.interfaces.items) n
        (numbered.interface_count ∙ (sym all.interfaces ∙ sym (length-map m.interfaces.items interface_number))) flag ∙ matched_under m.interfaces.items n x.id x.given)

    text-apart : (k x : WorldKey) → IsKey s t.valid k → IsKey r o.valid x → is_key_under numbers k x ≡ false → text_eq (key_text s k) (key_text r x) ≡ false
    text-apart (key.Name a) (key.Name b) g h e = keys-apart r o.valid (key.Name a) (key.Name b) g h e
    text-apart (key.Name a) (key.Interface b) g h e = keys-apart r o.valid (key.Name a) (key.Interface b) g h e
    text-apart (key.Interface a) (key.Name b) g h e = keys-apart s t.valid (key.Interface a) (key.Name b) g h refl
    text-apart (key.Interface a) (key.Interface b) g h e = go (is_matched m.interfaces.items a.0) refl
      where
        go : (y : Bool) → is_matched m.interfaces.items a.0 ≡ y → text_eq (key_text s (key.Interface a)) (key_text r (key.Interface b)) ≡ false
        go true q =
            let x = same a.0 q in
            let path : interface_path r x.id.0 ≡ interface_path s a.0 = x.path in
            ap (λ (p : Option Text). text_eq (unwrap_or p []) (key_text r (key.Interface b))) (sym path)
            ∙ keys-apart r o.valid (key.Interface x.id) (key.Interface b) (ap is_some path ∙ g) h (ap (λ (k : ℕ). k == b.0) (sym (own-number a.0 q)) ∙ e)
        go false q = same-or (text_eq (key_text s (key.Interface a)) (key_text r (key.Interface b))) refl
          where
            same-or : (y : Bool) → text_eq (key_text s (key.Interface a)) (key_text r (key.Interface b)) ≡ y → y ≡ false
            same-or false z = refl
            same-or true z =
                let theirs = some-of (interface_path s a.0) g in
                let ours = some-of (interface_path r b.0) h in
                let one : theirs.0 ≡ ours.0 = sym (ap (λ (p : Option Text). unwrap_or p []) theirs.1)
                ∙ (text-same (key_text s (key.Interface a)) (key_text r (key.Interface b)) z ∙ ap (λ (p : Option Text). unwrap_or p []) ours.1) in
                absurd (none a.0 b.0 q g (ours.1 ∙ (ap Some (sym one) ∙ sym theirs.1)))

    -- under the text of a new key the own side has nothing
    absent : (here : List (WorldKey × WorldItem)) → ((x : WorldKey × WorldItem) → Contains here x → IsKey r o.valid x.0) → (k : WorldKey) → IsKey s t.valid k → is_new_under numbers here k ≡ true
        → entry_under (key_text s k) (entries_meaning r here) ≡ None
    absent here keys k g new = no-entry r (key_text s k) here (λ x held. text-apart k x.0 g (keys x held) (none-passes (λ (e : WorldKey × WorldItem). is_key_under numbers k e.0) here x new held))

    -- ---- what the bound world gains

    module _ (w v : World) (at_w : world_at r own.world.0 ≡ Some w) (at_v : world_at s other.world.0 ≡ Some v) where
      import-gained : (e : WorldKey × WorldItem) → Contains v.imports.entries e → is_new_under numbers w.imports.entries e.0 ≡ true → ImportIsGained own other e
      import-gained e held new = record {
        held = subst (λ (l : List (WorldKey × WorldItem)). Contains l e) (sym (ap (λ (z : Option World). option_map_or (λ (x : World). x.imports.entries) z []) at_v)) held;
        is_new = ap (λ (b : WorldMeaning). entry_under (key_text s e.0) b.imports) (sym (meant own o w at_w)) ∙ absent w.imports.entries (import-key r o.valid own.world.0 w at_w) e.0
            (import-key s t.valid other.world.0 v at_v e held) new;
      }

      export-gained : (e : WorldKey × WorldItem) → Contains v.exports.entries e → is_new_under numbers w.exports.entries e.0 ≡ true → ExportIsGained own other e
      export-gained e held new = record {
        held = subst (λ (l : List (WorldKey × WorldItem)). Contains l e) (sym (ap (λ (z : Option World). option_map_or (λ (x : World). x.exports.entries) z []) at_v)) held;
        is_new = ap (λ (b : WorldMeaning). entry_under (key_text s e.0) b.exports) (sym (meant own o w at_w)) ∙ absent w.exports.entries (export-key r o.valid own.world.0 w at_w) e.0
            (export-key s t.valid other.world.0 v at_v e held) new;
      }

      abbrev gained : List Bool
      gained = gained_inline s numbers w v

      below : AreShownBelow (length s.interfaces.items) v.imports.entries × AreShownBelow (length s.interfaces.items) v.exports.entries
      below = shown r s o.valid t.valid m matched other.world.0 v at_v

      shown-gained : (here es : List (WorldKey × WorldItem)) → ((e : WorldKey × WorldItem) → Contains es e → is_new_under numbers here e.0 ≡ true → IsGained own other e) → (n : ℕ)
          → is_inline_at s n ≡ true → is_shown_new s numbers here es n ≡ true → InlineIsGained own other n
      shown-gained here es gain n inline q =
          let p = any_place (λ (e : WorldKey × WorldItem). is_new_under numbers here e.0 && is_id n (item_interface e.1)) es q in
          let e = p.thing in
          record {
            inline = inline;
            entry = e;
            gained = gain e (get-contains es p.place e p.there) (first_true (is_new_under numbers here e.0) (is_id n (item_interface e.1)) p.passes_it);
            shown = some_id n (item_interface e.1) (second_true (is_new_under numbers here e.0) (is_id n (item_interface e.1)) p.passes_it);
          }

      pub inline-gained : (n : ℕ) → flag_under gained n ≡ true → InlineIsGained own other n
      inline-gained n h =
          let both = sym (gained_flag s numbers w v below.0 below.1 n) ∙ h in
          let inline = first_true (is_inline_at s n) (is_gained s numbers w v below.0 below.1 n) both in
          either-true {P = InlineIsGained own other n} (is_shown_new s numbers w.imports.entries v.imports.entries n) (is_shown_new s numbers w.exports.entries v.exports.entries n)
          (shown-gained w.imports.entries v.imports.entries (λ e held new. inl (import-gained e held new)) n inline)
          (shown-gained w.exports.entries v.exports.entries (λ e held new. inr (export-gained e held new)) n inline)
          (second_true (is_inline_at s n) (is_gained s numbers w v below.0 below.1 n) both)

      pub inline-come : Come (InlineIsGained own other) (copied_count gained)
      inline-come = record { marks = gained; marked = marked_count gained; each = λ n e. inline-gained n (mark-flag gained n e) }

      -- ---- types

      module _ (before : ℕ) where
        abbrev later : List ℕ
        later = bound_interfaces r before c gained

        -- interfaces with a name have one number in both
        named-same : (n : ℕ) (i : Interface) → interface_at s n ≡ Some i → is_some i.name ≡ true → number_under later n ≡ number_under numbers n
        named-same n i at name = uncopied_under (length r.interfaces.items + before) gained numbers n long (no-flag (flag_under gained n) refl)
          where
            long : length gained ≡ length numbers
            long = gained_long s numbers w v below.0 below.1 ∙ sym (interface_count r s m c (is_in_range s t.valid) all numbered)

            not-inline : (x : Option (String Global)) → is_some x ≡ true → is_none x ≡ true → ⊥
            not-inline x e k = search std_rules

            no-flag : (b : Bool) → flag_under gained n ≡ b → flag_under gained n ≡ false
            no-flag false e = e
            no-flag true e = absurd (not-inline i.name name (sym (ap (λ x. option_map_or (λ (j : Interface). is_none j.name) x false) at) ∙ (inline-gained n e).inline))

        import-same : (e : WorldKey × WorldItem) → Contains v.imports.entries e → is_new_under later w.imports.entries e.0 ≡ true → ImportIsGained own other e
        import-same e held new = import-gained e held (sym (new_under_same later numbers w.imports.entries e.0
            (λ id is. let k = import_keyed s t.valid other.world.0 v at_v e held id is in named-same id.0 k.def k.found k.named)) ∙ new)

        export-same : (e : WorldKey × WorldItem) → Contains v.exports.entries e → is_new_under later w.exports.entries e.0 ≡ true → ExportIsGained own other e
        export-same e held new = export-gained e held (sym (new_under_same later numbers w.exports.entries e.0
            (λ id is. let k = export_keyed s t.valid other.world.0 v at_v e held id is in named-same id.0 k.def k.found k.named)) ∙ new)

        -- functions of what is gained
        inline-function : (n : ℕ) (i : Interface) → slice_get s.interfaces.items n ≡ Some i → flag_under gained n ≡ true → (f : Function)
            → Contains (map (λ e. e.1) i.functions.entries) f → FunctionIsGained own other f
        inline-function n i at set f held = inl (record { place = n; gained = inline-gained n set; interface = i; found = at; held = held })

        import-function : (e : WorldKey × WorldItem) → Contains v.imports.entries e → is_new_under later w.imports.entries e.0 ≡ true → (f : Function) → item_function e.1 ≡ Some f
            → FunctionIsGained own other f
        import-function e held new f is = inr (record { entry = e; gained = inl (import-same e held new); is_function = is })

        export-function : (e : WorldKey × WorldItem) → Contains v.exports.entries e → is_new_under later w.exports.entries e.0 ≡ true → (f : Function) → item_function e.1 ≡ Some f
            → FunctionIsGained own other f
        export-function e held new f is = inr (record { entry = e; gained = inr (export-same e held new); is_function = is })

        shown-owner : (w : TypeOwner) → OwnerIsGained own other w → OwnerIsShown own other w
        shown-owner x h = search std_rules

        agree : DoNotClash r s w v
        agree = (united_agree_by_numbers own other o t can w v at_w at_v).bound

        abbrev later_fates : List ℕ → TypeFates
        later_fates ns = bound_fates s own.world.0 other.world.0 w v gained later fates ns

        pub type-gained : (ns : List ℕ) → length ns ≡ length s.types.items → (n : ℕ) → slice_get (map copies (later_fates ns)) n ≡ Some true → TypeIsGained own other n
        type-gained ns long n e = by (second_comes r s o.valid t.valid own.world.0 other.world.0 w v at_v agree gained later fates ns (fates_long r s m c) long (OwnerIsGained own other)
            (OwnerIsShown own other) (λ id h. inline-gained id.0 h) shown-owner (λ id h. inl (has-path id.0 h)) (λ id h. h) (FunctionIsGained own other) inline-function import-function
            export-function n e)
          where
            Named : ℕ → Type 0
            Named k = IsOwnedBy s.types.items (OwnerIsGained own other) k ⊎ IsNewImport later w.imports.entries v.imports.entries k

            named : (k : ℕ) → Named k → NamedIsGained own other k
            named k (inl x) = inl x
            named k (inr x) = inr (record { entry = x.entry; gained = import-same x.entry x.held x.is_new; is_type = x.is_type })

            by : Named n ⊎ (IsMadeUp s.types.items (OwnerIsShown own other) n × IsMet s.types.items (FunctionIsGained own other) Named n) → TypeIsGained own other n
            by (inl x) = inl (named n x)
            by (inr (made, met)) = inr (made, met_as s.types.items (FunctionIsGained own other) Named (NamedIsGained own other) named n met)

        pub types-gained : (ns : List ℕ) → length ns ≡ length s.types.items → Come (TypeIsGained own other) (copies_of (later_fates ns))
        types-gained ns long = record { marks = map copies (later_fates ns); marked = marked_count (map copies (later_fates ns)); each = type-gained ns long }
