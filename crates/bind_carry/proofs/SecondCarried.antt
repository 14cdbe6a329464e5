-- What the second pass carries, and that it is copied and joined as the laws on unions ask for it: interfaces, worlds, and the bound world with what it gains.
use Rattle.bind_union.specs.Joined.{Joined}
use Rattle.bind_union.specs.Carried.{IsCarried, IsInterface, KeyBecomes, Renumbering, Rises, carries_owner}
use Rattle.bind_carry.proofs.CopiesPlaced.{by_either, by_test, copied_behind, copied_from, fates_rise, copied_home, copied_past, copy_placed, kept_from, some_same}
use Rattle.bind_carry.proofs.{Counting.carried_all, Counting.copied_long as types_copied_long, Counting.inline_all, FirstInterfaces.copy_stands, FirstInterfaces.home_number, FirstNumbers.flag_within, FirstOfUnion.grown_name, FirstWorlds.first_is_copied, InsertedBehind.new_behind, Joined.items_join, KeptPlaced.IsKeptAt, KeptPlaced.kept_here, KeptPlaced.kept_placed, KeysGained.entries_apart, PackagesFrom.package_from, Ready.interface_count, WorldEntries.IsNumberedSame, WorldEntries.IsPlacedIn, PassedTypes.copied_carried, PassedTypes.parts_hold, SecondInitial.IsUnified, SecondInitial.shows_gained, SecondInitial.is_shown_new}
use Rattle.bind_carry.proofs.FirstNumbers.{interface_is, interfaces_once, own_path, type_low, types_are}
use Rattle.bind_carry.proofs.FirstWorlds.{first_worlds_are_copied, one_shows, some_count, times_of}
use Rattle.bind_carry.proofs.WorldEntries.{any_place, export_keyed, export_range, export_so, import_keyed, import_range, label_new, new_under_same}
use Rattle.bind_carry.proofs.SecondItems.{type_number, same_label, not_some, shown_in, not_root, same_parts_of}
use Rattle.bind_meaning.proofs.Listed.{by_option}
use Rattle.base_lemmas.proofs.{Bools.left_of as first_true, Bools.right_of as second_true, Elements.all-contained, Elements.get-contains, Elements.lookup_stands, Lists.front_at, Lists.within_there, Numbers.equal, Numbers.same-number}
use Rattle.bind_carry.specs.{CarriedParts.is_function_carried, FirstPass.IsFirstPass, Marked.is_inline_at, Marked.is_shown_in, Numbers.interface_number, Numbers.numbers_of, Numbers.world_number, ReadyItems.AreReady, ReadyItems.IsItemReady, ReadyItems.IsKeyReady, Renumbered.is_copied, Renumbered.is_matched, SecondPass.ArePackagesMerged, SecondPass.IsSecondPass, SecondPass.is_left_out, Shown.any_new, Shown.type_in, Whole.IsInterfaceCarried, Whole.IsWorldCarried, declared.fate.Fate.Fate, declared.plan.Carried.Carried, Fates.is_carried, Fates.numbers_by, First.flag_under, First.is_named_at}
use Rattle.bind_copy.specs.Copies.{IsInterfaceUnder, become_one, is_key_under, is_new_under, number_under}
use Rattle.bind_match.specs.declared.matches.Matches.{Matches}
use Rattle.bind_union.{proofs.Lists.no_true, proofs.MatchedStand.numbers_rise, proofs.WorldRules.by_entries, proofs.WorldNamesakes.IsWorldType, specs.Joined.IsJoined, specs.Merged.AreCopies, specs.Merged.IsCopyUnder, specs.Merged.IsMerged}
use Rattle.std.proofs.Common.{Bool, List, None, Option, Some, [], ap, append-nil, append_assoc, arith, false, filter_map, if◌then◌else◌, inl, inr, is_none, is_some, length, map, not, option_and_then, option_map, option_to_list, refl, rules as std_rules, slice_get, subst, sym, true, unwrap_or, ℕ, ◌&&◌, ◌++◌, ◌+◌, ◌<◌, ◌==◌, ◌||◌, ◌∙◌, ◌≡◌, ◌≤◌, ◌⊎◌}
use Rattle.std.proofs.lemmas.{Bool.and_from as both, Bool.cases_lt as in_two, Bool.or_left, Bool.or_right, Bool.true_from_ne_false, Option.slice_get_within, List.length-append, List.length-map, Map.Keys.any_passes_from_place as any_at}
use Rattle.std.specs.{List.Contains, List.IsDistinct, List.list_all, List.list_any, Map.keys_of, Map.lookup, Option.option_map_or, Prelude.String, declared.alloc.Global.Global}
use Rattle.wit_model.proofs.{Chains.all_has as passes_at, Elements.contains-get, OnePath.found-in, TextLemmas.text_same as text-same}
use Rattle.wit_model.specs.{Lookup.interface_at, Lookup.interface_path, Lookup.key_text, Lookup.type_at, Lookup.world_at, Rules.export_stands, Rules.interface_type_numbers, Text.text_of, Uses.has, Uses.item_interface, Uses.items_of, Valid.IsValid, Valid.as_interface, Valid.as_world, Valid.item_function, Valid.key_eq, declared.model.Function.Function}
use Rattle.wit_model.specs.Rules.{is_id, item_in_range, item_type, key_in_range, package_number}
use Rattle.wit_model.specs.declared.model.{Interface.Interface, InterfaceId.InterfaceId, Resolve.Resolve, TypeDef.TypeDef, TypeId.TypeId, World.World, WorldItem.WorldItem, WorldKey.WorldKey}
use Rattle.wit_model.specs.declared.model.WorldItem.TheVariants as item
use Rattle.wit_model.specs.declared.model.WorldKey.TheVariants as key
use Rattle.bind_carry.specs.declared.fate.Fate.TheVariants as fate
use Rattle.bind_carry.proofs.SecondPass as pass
use Rattle.bind_carry.proofs.{Needed.gained_export_marked, Needed.gained_import_marked, Needed.gained_interface_marked, Needed.gained_many, Needed.item_marked, PassedTypes.carried_within, PassedTypes.functions_hold, SettledParts.settled_long}
use Rattle.bind_carry.specs.{BoundGains.gained_marks, Fates.is_carried, Fates.settled_from}
use Rattle.wit_model.specs.Valid.{functions_of_interface}

module _ (own other merged : Resolve) (valid_own : IsValid own) (valid_other : IsValid other) (world other_world : ℕ) (w v : World) (m : Matches) (c : Carried) (first_numbers : List ℕ)
    (p : IsFirstPass own other merged m c first_numbers) (copied : List Bool) (interfaces types : List ℕ)
    (s : IsSecondPass own other merged world other_world w v m c first_numbers p copied interfaces types) where
  abbrev matched : List (Option InterfaceId)
  matched = pass.matched own other merged valid_own valid_other world other_world w v m c first_numbers p copied interfaces types s

  abbrev before_fates : List Fate
  before_fates = pass.before_fates own other merged valid_own valid_other world other_world w v m c first_numbers p copied interfaces types s

  abbrev first : Renumbering
  first = pass.first own other merged valid_own valid_other world other_world w v m c first_numbers p copied interfaces types s

  abbrev adds : Bool
  adds = pass.adds own other merged valid_own valid_other world other_world w v m c first_numbers p copied interfaces types s

  abbrev before : List Fate
  before = pass.before own other merged valid_own valid_other world other_world w v m c first_numbers p copied interfaces types s

  abbrev initial : List Fate
  initial = pass.initial own other merged valid_own valid_other world other_world w v m c first_numbers p copied interfaces types s

  abbrev fates : List Fate
  fates = pass.fates own other merged valid_own valid_other world other_world w v m c first_numbers p copied interfaces types s

  abbrev second : Renumbering
  second = pass.second own other merged valid_own valid_other world other_world w v m c first_numbers p copied interfaces types s

  abbrev interfaces_behind : ℕ
  interfaces_behind = length own.interfaces.items + length p.new_interfaces

  interfaces_many : length c.interfaces.items ≡ length other.interfaces.items
  interfaces_many = interface_count own other m c (pass.range _ _ _ valid_own valid_other _ _ _ _ _ _ _ _ _ _ _ s) p.all p.numbered

  -- ---- which are carried

  -- an interface that is copied is inline
  pub copied_inline : (n : ℕ) → flag_under copied n ≡ true → is_inline_at other n ≡ true
  copied_inline n set = first_true (is_inline_at other n) (shows_gained other c.interfaces.items w v n) (sym ((pass.gained _ _ _ valid_own valid_other _ _ _ _ _ _ _ _ _ _ _ s) n) ∙ set)

  pub copied_there : (n : ℕ) → flag_under copied n ≡ true → (i : Interface) × (interface_at other n ≡ Some i) × (i.name ≡ None)
  copied_there n set =
      let i = within_there other.interfaces.items n (omega (arith, flag_within copied n set, (pass.copied_long _ _ _ valid_own valid_other _ _ _ _ _ _ _ _ _ _ _ s), interfaces_many)) in
      (i.0, i.1, none_is i.0.name (sym (ap (λ o. option_map_or (λ (j : Interface). is_none j.name) o false) i.1) ∙ copied_inline n set))
    where
      none_is : {X : Type 0} (o : Option X) → is_none o ≡ true → o ≡ None
      none_is None h = refl
      none_is (Some x) h = no_true h

  -- An interface that is carried without a copy has a name.
  pub record IsNamedThere (n : ℕ) : Type 0 where
    pub shown : Interface
    pub there : interface_at other n ≡ Some shown
    pub has_name : is_some shown.name ≡ true

  pub uncopied_named : (n : ℕ) → second.carries_interface n ≡ true → flag_under copied n ≡ false → IsNamedThere n
  uncopied_named n h e = search std_rules

  -- what is carried has the number that is handed on
  pub carried_number : (n : ℕ) → second.carries_interface n ≡ true → second.interfaces n ≡ number_under interfaces n
  carried_number n h = grind (arith, unwrap_or, no_true, uncopied_named, (pass.is_named_there _ _ _ valid_own valid_other _ _ _ _ _ _ _ _ _ _ _ s))

  -- ---- types of interfaces

  each_type : (n : ℕ) (i : Interface) → interface_at other n ≡ Some i → (q : ℕ → Bool)
      → ((t : ℕ) (def : TypeDef) → type_at other t ≡ Some def → is_some def.name ≡ true → def.owner ≡ as_interface n → q t ≡ true) → list_all q (interface_type_numbers i) ≡ true
  each_type = search (std_rules, types_are, (pass.chosen _ _ _ valid_own valid_other _ _ _ _ _ _ _ _ _ _ _ s), (pass.long _ _ _ valid_own valid_other _ _ _ _ _ _ _ _ _ _ _ s))

  pub types_carried : (n : ℕ) (i : Interface) → second.carries_interface n ≡ true → interface_at other n ≡ Some i → list_all second.carries_type (interface_type_numbers i) ≡ true
  types_carried n i h there = each_type n i there second.carries_type (λ t def at named home. (pass.named_carried _ _ _ valid_own valid_other _ _ _ _ _ _ _ _ _ _ _ s) t def at named
      (ap (carries_owner second) home ∙ h))

  -- ---- interfaces that are copied

  inline_here : merged.interfaces.items ≡ (own.interfaces.items ++ p.new_interfaces) ++ (s.inline_copied.more ++ [])
  inline_here = search (std_rules, append-nil, append_assoc)

  pub inline_place : (n : ℕ) (i : Interface) → interface_at other n ≡ Some i → flag_under copied n ≡ true
      → IsKeptAt (IsInterfaceUnder types w.«package») i ((own.interfaces.items ++ p.new_interfaces) ++ (s.inline_copied.more ++ []))
      (number_under (numbers_of interfaces_behind copied c.interfaces.items) n)
  inline_place n i there set = search (std_rules, kept_placed, (pass.copied_long _ _ _ valid_own valid_other _ _ _ _ _ _ _ _ _ _ _ s), length-append)

  pub copied_carries : (n : ℕ) → flag_under copied n ≡ true → second.carries_interface n ≡ true
  copied_carries n set = or_left (flag_under copied n) (is_named_at other n && (flag_under c.copied_interfaces.items n || is_matched m.interfaces.items n)) set

  pub inline_at : (n : ℕ) (i : Interface) (there : interface_at other n ≡ Some i) (set : flag_under copied n ≡ true)
      → interface_at merged (second.interfaces n) ≡ Some (inline_place n i there set).image
  inline_at n i there set = search (std_rules, carried_number n (copied_carries n set), copied_carries n set, inline_here, inline_place n i there set)

  abbrev all : List Fate
  all = settled_from adds [] other.types.items initial

  abbrev marks : List Bool
  marks = gained_marks other copied interfaces w v

  many : length marks ≡ length other.types.items
  many = gained_many other copied interfaces w v

  all_within : (n : ℕ) → is_carried all n ≡ true → n < length other.types.items
  all_within n h =
      let less = carried_within all n h in
      let same = settled_long adds other.types.items initial (pass.starts _ _ _ valid_own valid_other _ _ _ _ _ _ _ _ _ _ _ s).long in omega (arith, less, same)

  -- all types of the functions of an inline interface that is gained are carried
  inline_functions : (n : ℕ) (i : Interface) → interface_at other n ≡ Some i → flag_under copied n ≡ true → second.carries_interface n ≡ true
      → list_all (is_function_carried (is_carried fates)) (functions_of_interface i) ≡ true
  inline_functions n i there set carried =
      let before = (parts_hold other valid_other second adds initial (pass.starts _ _ _ valid_own valid_other _ _ _ _ _ _ _ _ _ _ _ s) marks many
      ((pass.known _ _ _ valid_own valid_other _ _ _ _ _ _ _ _ _ _ _ s).inline_adds n set)).of_interfaces n i there carried in
      functions_hold other valid_other second adds initial (pass.starts _ _ _ valid_own valid_other _ _ _ _ _ _ _ _ _ _ _ s) marks many (functions_of_interface i) before
      (gained_interface_marked (is_carried all) (length other.types.items) all_within other copied interfaces w v refl n i there set before)

  copy_interface : (n : ℕ) (i : Interface) → interface_at other n ≡ Some i → i.name ≡ None → flag_under copied n ≡ true → IsInterface other merged second n
  copy_interface n i there inline set =
      let place = inline_place n i there set in
      let carried = copied_carries n set in
      copy_stands other merged valid_other second types refl n i place.image w.«package» there (inline_at n i there set) place.is (λ h. no_true (sym (ap is_some inline) ∙ h))
      (types_carried n i carried there)
      (each_type n i there second.copies_type (λ t def at named home. (pass.inline_type_copied _ _ _ valid_own valid_other _ _ _ _ _ _ _ _ _ _ _ s) t def n at home set))
      (inline_functions n i there set carried)

  -- ---- those with a name

  named_interface : (n : ℕ) → IsNamedThere n → flag_under copied n ≡ false → IsInterface other merged second n
  named_interface n x bare = record {
    old = t.old;
    found = t.found;
    image = t.image;
    at_image = ap (interface_at merged) ((pass.second_named _ _ _ valid_own valid_other _ _ _ _ _ _ _ _ _ _ _ s) n x.shown x.there x.has_name) ∙ t.at_image;
    name = t.name;
    in_package = t.in_package;
    types = λ k h.
        let y = t.types k h in
        let stay = passes_at stays (interface_type_numbers t.old) y.0 (each_type n t.old t.found stays
        (λ k def at named home. let q = (pass.same_types _ _ _ valid_own valid_other _ _ _ _ _ _ _ _ _ _ _ s) k def n x.shown at named home x.there x.has_name in
        both (is_carried fates k) (second.types k == first.types k) q.1 (ap (λ (y : ℕ). second.types k == y) (sym q.0) ∙ same-number (second.types k)))) y.1 in (
          y.0,
          y.1,
          first_true (is_carried fates y.0) (second.types y.0 == first.types y.0) stay,
          equal (second.types y.0) (first.types y.0) (second_true (is_carried fates y.0) (second.types y.0 == first.types y.0) stay) ∙ y.3,
        );
    copied = λ h. no_true (sym bare ∙ h);
  }
    where
      t : IsInterface other merged first n
      t = (pass.by_path _ _ _ valid_own valid_other _ _ _ _ _ _ _ _ _ _ _ s).interfaces n ((pass.known _ _ _ valid_own valid_other _ _ _ _ _ _ _ _ _ _ _ s).names n x.shown x.there x.has_name)

      stays : ℕ → Bool
      stays k = is_carried fates k && (second.types k == first.types k)

  -- each interface that is carried stands under its new number
  pub interfaces_hold : (n : ℕ) → second.carries_interface n ≡ true → IsInterface other merged second n
  interfaces_hold n h = by_test (flag_under copied n) (λ e. let i = copied_there n e in copy_interface n i.0 i.1 i.2 e) (λ e. named_interface n (uncopied_named n h e) e)

  -- ---- numbers

  -- what is carried by path has a number in front of what is gained
  pub path_low : (n : ℕ) → first.carries_interface n ≡ true → first.interfaces n < interfaces_behind
  path_low n h =
      let flags : length c.copied_interfaces.items ≡ length m.interfaces.items = (pass.long _ _ _ valid_own valid_other _ _ _ _ _ _ _ _ _ _ _ s) in
      by_test (flag_under c.copied_interfaces.items n) (λ e.
      let i = within_there other.interfaces.items n (omega (arith, flag_within c.copied_interfaces.items n e, p.numbered.interface_count)) in
      let place = kept_here (IsInterfaceCarried c first_numbers) c.copied_interfaces.items (map interface_number m.interfaces.items) other.interfaces.items p.new_interfaces p.interfaces
      (flags ∙ sym (length-map m.interfaces.items interface_number)) (length own.interfaces.items) own.interfaces.items [] refl c.interfaces.items p.numbered.interfaces
      (own.interfaces.items ++ (p.new_interfaces ++ [])) refl n i.0 e i.1 in
      omega (
        arith,
        (slice_get_within (own.interfaces.items ++ (p.new_interfaces ++ [])) (number_under c.interfaces.items n) place.image place.at_image),
        (length-append own.interfaces.items (p.new_interfaces ++ []) ∙ ap (λ l. length own.interfaces.items + length l) (append-nil p.new_interfaces)),
      )) (λ e.
      let k : is_matched m.interfaces.items n ≡ true = sym (ap (λ b. b || is_matched m.interfaces.items n) e) ∙ h in
      let same = p.same n k in
      omega (
        arith,
        (interface_is own other valid_own valid_other m.interfaces.items c first_numbers (pass.chosen _ _ _ valid_own valid_other _ _ _ _ _ _ _ _ _ _ _ s) p.same p.none flags
            p.numbered.interfaces (length own.types.items + length {A = TypeDef} []) p.types.numbers_are n k),
        slice_get_within own.interfaces.items same.id.0 same.image same.at_image,
      ))

  -- what is gained has one behind those
  gained_high : (n : ℕ) → flag_under copied n ≡ true → interfaces_behind ≤ second.interfaces n
  gained_high n set = subst (λ (x : ℕ). interfaces_behind ≤ x) (sym (carried_number n (copied_carries n set) ∙ ap (λ (l : List ℕ). number_under l n) s.interfaces_are))
      (copied_behind interfaces_behind copied c.interfaces.items n (pass.copied_long _ _ _ valid_own valid_other _ _ _ _ _ _ _ _ _ _ _ s) set)

  pub interfaces_rise : Rises second.interfaces second.carries_interface second.copies_interface
  interfaces_rise k n h set before = subst (λ (x : ℕ). x < second.interfaces n) (sym (carried_number k h))
      (subst (λ (x : ℕ). number_under interfaces k < x) (sym (carried_number n (copied_carries n set)))
      (subst (λ l. number_under l k < number_under l n) (sym s.interfaces_are)
      (numbers_rise interfaces_behind copied c.interfaces.items second.carries_interface (sym (pass.copied_long _ _ _ valid_own valid_other _ _ _ _ _ _ _ _ _ _ _ s)) low k n h set before)))
    where
      low : (n : ℕ) → second.carries_interface n ≡ true → flag_under copied n ≡ false → number_under (numbers_of interfaces_behind copied c.interfaces.items) n < interfaces_behind
      low n h e =
          let x = uncopied_named n h e in
          subst (λ (y : ℕ). y < interfaces_behind) (sym (ap (λ (l : List ℕ). number_under l n) (sym s.interfaces_are)
          ∙ (sym (carried_number n h) ∙ (pass.second_named _ _ _ valid_own valid_other _ _ _ _ _ _ _ _ _ _ _ s) n x.shown x.there x.has_name)))
          (path_low n ((pass.known _ _ _ valid_own valid_other _ _ _ _ _ _ _ _ _ _ _ s).names n x.shown x.there x.has_name))

  -- ---- entries: those whose keys are new are ready to be copied, and an own one stands for each of the others

  -- the interface that a key is has a name
  abbrev pub IsKeyNamed : WorldKey → Type 0
  IsKeyNamed k = (id : InterfaceId) → k ≡ key.Interface id → (i : Interface) × (interface_at other id.0 ≡ Some i) × (is_some i.name ≡ true)

  -- that of an own key is there
  abbrev pub AreKeysThere : List (WorldKey × WorldItem) → Type 0
  AreKeysThere here = (x : WorldKey × WorldItem) → Contains here x → (id : InterfaceId) → x.0 ≡ key.Interface id → (i : Interface) × (interface_at own id.0 ≡ Some i)

  pub key_ready : (k : WorldKey) → IsKeyNamed k → IsKeyReady second k
  key_ready (key.Name label) named = tt
  key_ready (key.Interface id) named = let i = named id refl in (pass.named_carried_there _ _ _ valid_own valid_other _ _ _ _ _ _ _ _ _ _ _ s) id.0 i.0 i.1 i.2

  -- An entry that was there under a key.
  pub record IsKeyMet (here : List (WorldKey × WorldItem)) (k : WorldKey) : Type 0 where
    pub entry : WorldKey × WorldItem
    pub in_own : Contains here entry
    pub becomes : KeyBecomes second k entry.0
    pub same_text : key_text own entry.0 ≡ key_text other k
    pub found : (label : String Global) → k ≡ key.Name label → lookup (key_eq (key.Name label)) here ≡ Some entry.1

  -- an own interface that has the number of one with a name has its path
  same_path : (n : ℕ) (i : Interface) → interface_at other n ≡ Some i → is_some i.name ≡ true → (j : ℕ) (d : Interface) → interface_at own j ≡ Some d → second.interfaces n ≡ j
      → interface_path own j ≡ interface_path other n
  same_path n i there named j d at_own number = own_path own other valid_own valid_other matched c first_numbers (pass.chosen _ _ _ valid_own valid_other _ _ _ _ _ _ _ _ _ _ _ s) p.same p.none
      (pass.long _ _ _ valid_own valid_other _ _ _ _ _ _ _ _ _ _ _ s) p.numbered.interfaces (length own.types.items + length {A = TypeDef} []) p.types.numbers_are
      n ((pass.known _ _ _ valid_own valid_other _ _ _ _ _ _ _ _ _ _ _ s).names n i there named) j d at_own
      (sym ((pass.second_named _ _ _ valid_own valid_other _ _ _ _ _ _ _ _ _ _ _ s) n i there named) ∙ number)

  pub key_met : (here : List (WorldKey × WorldItem)) → AreKeysThere here → (k : WorldKey) → IsKeyNamed k → is_new_under interfaces here k ≡ false → IsKeyMet here k
  key_met here keys (key.Name label) named old = go (lookup (key_eq (key.Name label)) here) refl
    where
      label_becomes : (x : WorldKey) → key_eq (key.Name label) x ≡ true → KeyBecomes second (key.Name label) x
      label_becomes (key.Name t) h = sym (text-same (text_of label) (text_of t) h)
      label_becomes (key.Interface id) h = no_true h

      go : (o : Option WorldItem) → lookup (key_eq (key.Name label)) here ≡ o → IsKeyMet here (key.Name label)
      go None q = no_true (sym old ∙ (label_new interfaces label here ∙ ap (λ o. not (is_some o)) q))
      go (Some i) q =
          let there = lookup_stands (key_eq (key.Name label)) here i q in
          record {
            entry = (there.0, i);
            in_own = there.1;
            becomes = label_becomes there.0 there.2;
            same_text = same_label own label there.0 there.2;
            found = λ t e. let same : t ≡ label = ap (λ (k : WorldKey). label_or k) (sym e) in ap (λ x. lookup (key_eq (key.Name x)) here) same ∙ q;
          }
        where
          label_or : WorldKey → String Global
          label_or (key.Name t) = t
          label_or (key.Interface id) = label
  key_met here keys (key.Interface id) named old = by x.thing.0 refl x.passes_it
    where
      not_not : (b : Bool) → not b ≡ false → b ≡ true
      not_not true h = refl
      not_not false h = no_true (sym h)

      x : IsPlacedIn (λ (e : WorldKey × WorldItem). is_key_under interfaces (key.Interface id) e.0) here
      x = any_place (λ (e : WorldKey × WorldItem). is_key_under interfaces (key.Interface id) e.0) here
          (not_not (list_any (λ (e : WorldKey × WorldItem). is_key_under interfaces (key.Interface id) e.0) here) old)

      held : Contains here x.thing
      held = get-contains here x.place x.thing x.there

      i : (i : Interface) × (interface_at other id.0 ≡ Some i) × (is_some i.name ≡ true)
      i = named id refl

      carried : second.carries_interface id.0 ≡ true
      carried = (pass.named_carried_there _ _ _ valid_own valid_other _ _ _ _ _ _ _ _ _ _ _ s) id.0 i.0 i.1 i.2

      not_label : (label : String Global) → key.Interface id ≡ key.Name label → ⊥
      not_label label e = cc

      by : (k : WorldKey) → x.thing.0 ≡ k → is_key_under interfaces (key.Interface id) k ≡ true → IsKeyMet here (key.Interface id)
      by (key.Name t) e h = no_true h
      by (key.Interface j) e h =
          let same : second.interfaces id.0 ≡ j.0 = (carried_number id.0 carried) ∙ equal (number_under interfaces id.0) j.0 h in
          let d = keys x.thing held j e in
          record {
            entry = x.thing;
            in_own = held;
            becomes = subst (KeyBecomes second (key.Interface id)) (sym e) (sym same, carried);
            same_text = ap (key_text own) e ∙ ap (λ o. unwrap_or o []) (same_path id.0 i.0 i.1 i.2 j.0 d.0 d.1 same);
            found = λ t q. absurd (not_label t q);
          }

  -- ---- the bound world gains the items whose keys it hasn't, one by one

  -- ---- items under new keys

  interface_ready : (n : ℕ) (i : Interface) → interface_at other n ≡ Some i → shows_gained other c.interfaces.items w v n ≡ true → second.carries_interface n ≡ true
  interface_ready n i there shown = by_option i.name
      (λ e. copied_carries n ((pass.gained _ _ _ valid_own valid_other _ _ _ _ _ _ _ _ _ _ _ s) n
      ∙ both (is_inline_at other n) (shows_gained other c.interfaces.items w v n) (ap (λ o. option_map_or (λ (j : Interface). is_none j.name) o false) there ∙ ap is_none e) shown))
      (λ t e. (pass.named_carried_there _ _ _ valid_own valid_other _ _ _ _ _ _ _ _ _ _ _ s) n i there (ap is_some e))

  abbrev function_ready : Function → Bool
  function_ready = is_function_carried second.carries_type

  abbrev item_before : WorldKey × WorldItem → Bool
  item_before e = list_all (is_function_carried (is_carried all)) (option_to_list (item_function e.1))

  functions_before : adds ≡ true → (list_all item_before v.imports.entries && list_all item_before v.exports.entries) ≡ true
  functions_before add = sym (by_entries (is_function_carried (is_carried all)) v)
      ∙ (parts_hold other valid_other second adds initial (pass.starts _ _ _ valid_own valid_other _ _ _ _ _ _ _ _ _ _ _ s) marks many add).of_worlds
      other_world v s.other_at (same-number other_world)

  -- a type under a new key is copied
  type_ready : (e : WorldKey × WorldItem) → Contains v.imports.entries e → is_new_under interfaces w.imports.entries e.0 ≡ true → (id : TypeId) → type_in e.1 ≡ Some id → is_copied fates id.0 ≡ true
  type_ready e held new id is =
      let b : pass.Before own other merged valid_own valid_other world other_world w v m c first_numbers p copied interfaces types s id.0 x.def =
      (pass.was _ _ _ valid_own valid_other _ _ _ _ _ _ _ _ _ _ _ s) id.0 x.def x.found in
      let in_before = b.stands ∙ (ap (λ o. Some ((pass.fate_before _ _ _ valid_own valid_other _ _ _ _ _ _ _ _ _ _ _ s) b o)) x.home
      ∙ ap (λ k. Some (if k then fate.Copied (as_world world) else fate.Left)) (same-number other_world)) in
      (pass.copied_so _ _ _ valid_own valid_other _ _ _ _ _ _ _ _ _ _ _ s) id.0 x.def (as_world world) refl x.found in_before never
    where
      is_type : item_type e.1 ≡ Some id.0
      is_type = type_number e.1 id is

      x : IsWorldType other valid_other other_world v s.other_at e.0 id.0
      x = (pass.typed _ _ _ valid_own valid_other _ _ _ _ _ _ _ _ _ _ _ s) e held id.0 is_type

      none_found : lookup (key_eq (key.Name x.label)) w.imports.entries ≡ None
      none_found = not_some (lookup (key_eq (key.Name x.label)) w.imports.entries)
          (sym (label_new interfaces x.label w.imports.entries) ∙ (ap (is_new_under interfaces w.imports.entries) (sym x.keyed) ∙ new))

      never : IsUnified w.imports.entries v.imports.entries initial id.0 → ⊥
      never u =
          let facts = (pass.met_entry _ _ _ valid_own valid_other _ _ _ _ _ _ _ _ _ _ _ s) id.0 u in
          let none : None ≡ Some u.own = sym ((pass.under_label _ _ _ valid_own valid_other _ _ _ _ _ _ _ _ _ _ _ s) e held id.0 is_type ∙ ap (option_and_then type_in) none_found) ∙
          (sym ((pass.one_under _ _ _ valid_own valid_other _ _ _ _ _ _ _ _ _ _ _ s) u.entry e facts.0 held id.0 facts.1 is_type) ∙ u.there) in
          cc

  -- ---- imports

  pub import_named : (e : WorldKey × WorldItem) → Contains v.imports.entries e → IsKeyNamed e.0
  import_named e held id is = let k = import_keyed other valid_other other_world v s.other_at e held id is in (k.def, k.found, k.named)

  pub export_named : (e : WorldKey × WorldItem) → Contains v.exports.entries e → IsKeyNamed e.0
  export_named e held id is = let k = export_keyed other valid_other other_world v s.other_at e held id is in (k.def, k.found, k.named)

  -- an item under a new key is ready, whichever of the two lists it is of
  module _ (here es : List (WorldKey × WorldItem)) (gains : any_new interfaces here es ≡ true → adds ≡ true)
      (shows : (n : ℕ) → is_shown_new other c.interfaces.items here es n ≡ true → shows_gained other c.interfaces.items w v n ≡ true) (passed : adds ≡ true → list_all item_before es ≡ true)
      (marked : (n : ℕ) (x : WorldKey × WorldItem) → slice_get es n ≡ Some x → is_new_under interfaces here x.0 ≡ true → item_before x ≡ true → item_marked marks x ≡ true)
      (e : WorldKey × WorldItem) (held : Contains es e) (new : is_new_under interfaces here e.0 ≡ true) (range_of : item_in_range other e.1 ≡ true)
      (same : IsNumberedSame interfaces c.interfaces.items e.0) (types_ready : (id : TypeId) → type_in e.1 ≡ Some id → is_copied fates id.0 ≡ true) where
    item_ready : (i : WorldItem) → e.1 ≡ i → IsItemReady second i
    item_ready (item.Interface id stability docs external_id) q =
        let d = found-in other.interfaces.items id.0 (sym (ap (item_in_range other) q) ∙ range_of) in
        let place = contains-get es e held in
        interface_ready id.0 d.0 d.1 (shows id.0 (any_at (λ (y : WorldKey × WorldItem). is_new_under c.interfaces.items here y.0 && is_id id.0 (item_interface y.1)) es place.0 e place.1
        (both (is_new_under c.interfaces.items here e.0) (is_id id.0 (item_interface e.1)) (sym (new_under_same interfaces c.interfaces.items here e.0 same) ∙ new)
        (ap (λ y. is_id id.0 (item_interface y)) q ∙ same-number id.0))))
    item_ready (item.Function g) q =
        let place = contains-get es e held in
        let before = all-contained item_before es e (passed (gains (any_at (λ (y : WorldKey × WorldItem). is_new_under interfaces here y.0) es place.0 e place.1 new))) held in
        let kept = functions_hold other valid_other second adds initial (pass.starts _ _ _ valid_own valid_other _ _ _ _ _ _ _ _ _ _ _ s) marks many (option_to_list (item_function e.1)) before
        (marked place.0 e place.1 new before) in
        first_true (function_ready g) true (sym (ap (λ y. list_all function_ready (option_to_list (item_function y))) q) ∙ kept)
    item_ready (item.Type_ id) q = types_ready id (ap type_in q)

  keys_there : AreKeysThere w.imports.entries
  keys_there x held id is = let k = import_keyed own valid_own world w s.own_at x held id is in (k.def, k.found)

  exports_there : AreKeysThere w.exports.entries
  exports_there x held id is = let k = export_keyed own valid_own world w s.own_at x held id is in (k.def, k.found)

  imports_ready : AreReady second interfaces w.imports.entries v.imports.entries
  imports_ready = record {
    new_ready = λ n e at new. let held = get-contains v.imports.entries n e at in (
      key_ready e.0 (import_named e held),
      item_ready w.imports.entries v.imports.entries (or_left (any_new interfaces w.imports.entries v.imports.entries) (any_new interfaces w.exports.entries v.exports.entries))
          (λ k. or_left (is_shown_new other c.interfaces.items w.imports.entries v.imports.entries k) (is_shown_new other c.interfaces.items w.exports.entries v.exports.entries k))
          (λ add. first_true (list_all item_before v.imports.entries) (list_all item_before v.exports.entries) (functions_before add))
          (gained_import_marked (is_carried all) (length other.types.items) all_within other copied interfaces w v refl) e held new
          (second_true (key_in_range other e.0) (item_in_range other e.1) (import_range other valid_other other_world v s.other_at e held))
          ((pass.import_same _ _ _ valid_own valid_other _ _ _ _ _ _ _ _ _ _ _ s) e held) (type_ready e held new) e.1 refl,
    );
    met = λ n e at old. let held = get-contains v.imports.entries n e at in
        let x = key_met w.imports.entries keys_there e.0 (import_named e held) old in
        record { there = x.entry; in_own = x.in_own; becomes = x.becomes; stands = (pass.import_stands_for _ _ _ valid_own valid_other _ _ _ _ _ _ _ _ _ _ _ s) x.entry e x.in_own held x.same_text };
  }

  -- ---- exports

  export_no_type : {A : Type 0} (k : WorldKey) (i : WorldItem) → export_stands other k i ≡ true → (id : TypeId) → type_in i ≡ Some id → A
  export_no_type k i h id is = search (std_rules, no_true)

  exports_ready : AreReady second interfaces w.exports.entries v.exports.entries
  exports_ready = record {
    new_ready = λ n e at new. let held = get-contains v.exports.entries n e at in (
      key_ready e.0 (export_named e held),
      item_ready w.exports.entries v.exports.entries (or_right (any_new interfaces w.imports.entries v.imports.entries) (any_new interfaces w.exports.entries v.exports.entries))
          (λ k. or_right (is_shown_new other c.interfaces.items w.imports.entries v.imports.entries k) (is_shown_new other c.interfaces.items w.exports.entries v.exports.entries k))
          (λ add. second_true (list_all item_before v.imports.entries) (list_all item_before v.exports.entries) (functions_before add))
          (gained_export_marked (is_carried all) (length other.types.items) all_within other copied interfaces w v refl) e held new
          (second_true (key_in_range other e.0) (item_in_range other e.1) (export_range other valid_other other_world v s.other_at e held))
          ((pass.export_same _ _ _ valid_own valid_other _ _ _ _ _ _ _ _ _ _ _ s) e held)
          (λ id is. export_no_type e.0 e.1 (export_so other valid_other other_world v s.other_at e held) id is) e.1 refl,
    );
    met = λ n e at old. let held = get-contains v.exports.entries n e at in
        let x = key_met w.exports.entries exports_there e.0 (export_named e held) old in
        absurd (s.agree.exports x.entry e x.in_own held x.same_text);
  }

  -- ---- keys stay apart

  -- the number by path of an interface with a name
  path_number : (n : ℕ) → is_named_at other n ≡ true → (number_under interfaces n ≡ number_under c.interfaces.items n)
      × ((flag_under c.copied_interfaces.items n || is_matched m.interfaces.items n) ≡ true)
  path_number n h = let i = (pass.named_at _ _ _ valid_own valid_other _ _ _ _ _ _ _ _ _ _ _ s) n h in
      ((pass.named_number _ _ _ valid_own valid_other _ _ _ _ _ _ _ _ _ _ _ s) n i.0 i.1 i.2, (pass.known _ _ _ valid_own valid_other _ _ _ _ _ _ _ _ _ _ _ s).names n i.0 i.1 i.2)

  once : (j n : ℕ) → is_named_at other j ≡ true → is_named_at other n ≡ true → number_under interfaces j ≡ number_under interfaces n → j ≡ n
  once j n h k e =
      let a = path_number j h in
      let b = path_number n k in
      interfaces_once own other valid_own valid_other m.interfaces.items c first_numbers (pass.chosen _ _ _ valid_own valid_other _ _ _ _ _ _ _ _ _ _ _ s) p.same p.none
      (pass.long _ _ _ valid_own valid_other _ _ _ _ _ _ _ _ _ _ _ s) p.numbered.interfaces (length own.types.items + length {A = TypeDef} [])
      p.types.numbers_are j n a.1 b.1 (sym a.0 ∙ (e ∙ b.0))

  pub imports_apart : IsDistinct (become_one interfaces) (keys_of v.imports.entries)
  imports_apart = entries_apart other interfaces once v.imports.entries import_named (valid_other.distinct_keys.worlds other_world v s.other_at).0

  pub exports_apart : IsDistinct (become_one interfaces) (keys_of v.exports.entries)
  exports_apart = entries_apart other interfaces once v.exports.entries export_named (valid_other.distinct_keys.worlds other_world v s.other_at).1

  -- ---- the whole

  handed_on : (n : ℕ) → second.carries_interface n ≡ true → number_under interfaces n ≡ second.interfaces n
  handed_on n h = sym (carried_number n h)

  pub imports_join : Joined second w.imports.entries v.imports.entries s.new_imports
  imports_join = items_join second interfaces types handed_on refl w.imports.entries v.imports.entries s.new_imports (s.imports imports_apart) imports_ready

  pub exports_join : Joined second w.exports.entries v.exports.entries s.new_exports
  exports_join = items_join second interfaces types handed_on refl w.exports.entries v.exports.entries s.new_exports (s.exports exports_apart) exports_ready

  pub bound_stands : (j : IsJoined other merged second other_world w.imports.entries w.exports.entries) × (j.image ≡ s.image)
  bound_stands = (
    record {
      old = v;
      found = s.other_at;
      carries = same-number other_world;
      image = s.image;
      at_image = s.at_image;
      new_imports = s.new_imports;
      imports = s.gained.imports ∙ new_behind interfaces types w.imports.entries v.imports.entries s.new_imports imports_apart s.imports;
      joined_imports = imports_join;
      new_exports = s.new_exports;
      exports = s.gained.exports ∙ new_behind interfaces types w.exports.entries v.exports.entries s.new_exports exports_apart s.exports;
      joined_exports = exports_join;
    },
    refl,
  )

  abbrev types_behind : ℕ
  types_behind = length own.types.items + length p.new_types

  -- ---- numbers of types

  -- what is carried by path has a number in front of what is gained
  type_path_low : (n : ℕ) (def : TypeDef) → type_at other n ≡ Some def → is_carried before_fates n ≡ true → first.types n < types_behind
  type_path_low n def at h = by_test (is_copied before_fates n) (λ e.
      let home = copied_home before_fates n e in
      let place = copy_placed own.types.items first_numbers other.types.items before_fates [] p.new_types [] p.types n home.0 def home.1 at in
      omega (
        arith,
        (slice_get_within (own.types.items ++ (p.new_types ++ [])) (number_under first_numbers n) place.image place.at_image),
        (length-append own.types.items (p.new_types ++ []) ∙ ap (λ l. length own.types.items + length l) (append-nil p.new_types)),
      )) (λ e. omega (
        arith,
        (type_low own other valid_own valid_other m.interfaces.items c first_numbers (pass.chosen _ _ _ valid_own valid_other _ _ _ _ _ _ _ _ _ _ _ s) p.same p.none
            (pass.long _ _ _ valid_own valid_other _ _ _ _ _ _ _ _ _ _ _ s) p.numbered.interfaces (length own.types.items + length {A = TypeDef} []) p.types.numbers_are n def at h e),
      ))

  uncopied_low : (n : ℕ) → is_carried fates n ≡ true → is_copied fates n ≡ false → second.types n < types_behind
  uncopied_low n h bare =
      let d = (pass.type_there _ _ _ valid_own valid_other _ _ _ _ _ _ _ _ _ _ _ s) n h in
      elim ((pass.stood_how _ _ _ valid_own valid_other _ _ _ _ _ _ _ _ _ _ _ s) n d.0 d.1 h bare) [
        | inl x ↦ (let q = (pass.same_types _ _ _ valid_own valid_other _ _ _ _ _ _ _ _ _ _ _ s) n d.0 x.at_number x.shown d.1 x.named x.home x.there x.has_name in
            subst (λ (k : ℕ). k < types_behind) (sym q.0) (type_path_low n d.0 d.1 x.carried))
        | inr u ↦ (let x = (pass.met_type _ _ _ valid_own valid_other _ _ _ _ _ _ _ _ _ _ _ s) n d.0 d.1 u in
            let within = slice_get_within own.types.items (second.types n) x.image x.at_image in omega (arith, within))
      ]

  types_rise : Rises second.types second.carries_type second.copies_type
  types_rise = subst (λ l. Rises (number_under l) second.carries_type second.copies_type) (sym s.types_copied.numbers_are) (fates_rise types_behind fates second.carries_type
      (λ n h e. subst (λ (x : ℕ). x < types_behind) (ap (λ l. number_under l n) s.types_copied.numbers_are) (uncopied_low n h e)))

  -- ---- the whole

  pub second_is_carried : IsCarried other merged second
  second_is_carried = record {
    packages = λ n q at. let x = (pass.by_path _ _ _ valid_own valid_other _ _ _ _ _ _ _ _ _ _ _ s).packages n q at in
        record { image = x.image; at_image = x.at_image; name = x.name };
    interfaces = interfaces_hold;
    types = (pass.types_hold _ _ _ valid_own valid_other _ _ _ _ _ _ _ _ _ _ _ s);
    copied_interfaces = copied_carries;
    copied_types = copied_carried fates;
    interfaces_rise = interfaces_rise;
    types_rise = types_rise;
    worlds_apart = λ a b h k e. equal a other_world h ∙ sym (equal b other_world k);
  }

  pub second_is_copied : AreCopies own other merged second
  second_is_copied = record {
    carried = second_is_carried;
    new_types = λ n h. let past = copied_past types_behind fates n h in let number : second.types n ≡ number_under (numbers_by types_behind fates) n =
        ap (λ l. number_under l n) s.types_copied.numbers_are in
        omega (arith, past, number);
    new_interfaces = new_interfaces;
    inline_copied = inline_copied;
    inline_shown = inline_shown;
  }
    where
      new_interfaces : (n : ℕ) → flag_under copied n ≡ true → length own.interfaces.items ≤ second.interfaces n
      new_interfaces n set = let past = gained_high n set in omega (arith, past)

      inline_copied : (n : ℕ) (i : Interface) → second.carries_interface n ≡ true → interface_at other n ≡ Some i → i.name ≡ None → flag_under copied n ≡ true
      inline_copied n i h there none = true_from_ne_false (flag_under copied n) (λ e.
          let x = uncopied_named n h e in
          no_true (sym (ap is_some none) ∙ (ap (λ (j : Interface). is_some j.name) (some_same i x.shown (sym there ∙ x.there)) ∙ x.has_name)))

      inline_shown : (n : ℕ) (i : Interface) (k : ℕ) (u : World) → flag_under copied n ≡ true → interface_at other n ≡ Some i → i.name ≡ None → world_at other k ≡ Some u
          → has (filter_map item_interface (items_of u)) n ≡ true → (k == other_world) ≡ true
      inline_shown n i k u set there none at_u shows = ap (λ (x : ℕ). x == other_world) (one_shows other valid_other n i there none k other_world u v at_u s.other_at (some_count n (items_of u) shows)
          (times_of v n (by_either (is_shown_new other c.interfaces.items w.imports.entries v.imports.entries n) (is_shown_new other c.interfaces.items w.exports.entries v.exports.entries n)
          (second_true (is_inline_at other n) (shows_gained other c.interfaces.items w v n) (sym ((pass.gained _ _ _ valid_own valid_other _ _ _ _ _ _ _ _ _ _ _ s) n) ∙ set))
          (λ e. or_left (is_shown_in v.imports.entries n) (is_shown_in v.exports.entries n) (shown_in other c.interfaces.items w.imports.entries v.imports.entries n e))
          (λ e h. or_right (is_shown_in v.imports.entries n) (is_shown_in v.exports.entries n) (shown_in other c.interfaces.items w.exports.entries v.exports.entries n h))))) ∙ same-number other_world

  -- ---- nothing else is added: each type, interface and world behind own ones is a copy of one of the passes

  pub type_from : (n : ℕ) → length own.types.items ≤ n → n < length merged.types.items → IsCopyUnder first.types first.copies_type n ⊎ IsCopyUnder second.types second.copies_type n
  type_from n low high = elim (in_two n (length own.types.items + length p.new_types)) [
    | inl less ↦ (let r = copied_from (length own.types.items + length {A = TypeDef} []) before_fates n (omega (arith, low)) (omega (
      arith,
      less,
      types_copied_long (length own.types.items) first_numbers other.types.items before_fates [] p.new_types (pass.long_fates _ _ _ valid_own valid_other _ _ _ _ _ _ _ _ _ _ _ s) p.types,
    )) in
        inl (r.0, r.1, ap (λ l. number_under l r.0) p.types.numbers_are ∙ r.2))
    | inr more ↦ (let r = copied_from (length own.types.items + length p.new_types) fates n more (omega (
      arith,
      high,
      (ap length s.types_here ∙ length-append own.types.items s.all_types),
      types_copied_long (length own.types.items) types other.types.items fates p.new_types s.all_types (pass.fates_many _ _ _ valid_own valid_other _ _ _ _ _ _ _ _ _ _ _ s) s.types_copied,
    )) in
        inr (r.0, r.1, ap (λ l. number_under l r.0) s.types_copied.numbers_are ∙ r.2))
  ]

  pub interface_from : (n : ℕ) → length own.interfaces.items ≤ n → n < length merged.interfaces.items → IsCopyUnder first.interfaces first.copies_interface n
      ⊎ IsCopyUnder second.interfaces second.copies_interface n
  interface_from n low high = elim (in_two n (length own.interfaces.items + length p.new_interfaces)) [
    | inl less ↦ (let r = kept_from (length own.interfaces.items) c.copied_interfaces.items (map interface_number m.interfaces.items) n
        ((pass.long _ _ _ valid_own valid_other _ _ _ _ _ _ _ _ _ _ _ s) ∙ sym (length-map m.interfaces.items interface_number)) low
        (omega (arith, less, carried_all (IsInterfaceCarried c first_numbers) c.copied_interfaces.items other.interfaces.items p.new_interfaces p.numbered.interface_count p.interfaces)) in
        inl (r.0, r.1, ap (λ l. number_under l r.0) p.numbered.interfaces ∙ r.2))
    | inr more ↦ (let r = kept_from (length own.interfaces.items + length p.new_interfaces) copied c.interfaces.items n (pass.copied_long _ _ _ valid_own valid_other _ _ _ _ _ _ _ _ _ _ _ s) more
        (omega (
          arith,
          high,
          (ap length s.interfaces_here ∙ length-append own.interfaces.items s.all_interfaces),
          (inline_all types w.«package» copied other.interfaces.items p.new_interfaces s.all_interfaces ((pass.copied_long _ _ _ valid_own valid_other _ _ _ _ _ _ _ _ _ _ _ s) ∙ interfaces_many)
              s.inline_copied),
        )) in
        inr (r.0, r.1, carried_number r.0 (copied_carries r.0 r.1) ∙ (ap (λ (l : List ℕ). number_under l r.0) s.interfaces_are ∙ r.2)))
  ]

  pub world_from : (n : ℕ) → length own.worlds.items ≤ n → n < length merged.worlds.items → IsCopyUnder first.worlds first.carries_world n
  world_from n low high =
      let r = kept_from (length own.worlds.items) c.copied_worlds.items (map world_number m.worlds.items) n (p.numbered.world_count ∙ (sym p.all.worlds ∙ sym (length-map m.worlds.items world_number)))
      low (omega (
        arith,
        high,
        (ap length p.worlds_here ∙ (length-append p.own_worlds p.new_worlds ∙ ap (λ k. k + length p.new_worlds) p.own_count)),
        carried_all (IsWorldCarried c first_numbers) c.copied_worlds.items other.worlds.items p.new_worlds p.numbered.world_count p.worlds,
      )) in
      (r.0, r.1, ap (λ l. number_under l r.0) p.numbered.worlds ∙ r.2)

  -- ---- both passes together are a merge, where packages stand and no list is too long

  pub passes_merged : ArePackagesMerged own other merged first (is_left_out other) → IsMerged own other merged world other_world first second (is_left_out other)
  passes_merged rest = record {
    few_packages = rest.few_packages;
    few_interfaces = rest.few_interfaces;
    few_worlds = rest.few_worlds;
    few_types = rest.few_types;
    types = (s.all_types, s.types_here);
    interfaces = (s.all_interfaces, s.interfaces_here);
    packages = λ n q at. let x = grown_name p.gains own.packages.items p.grown p.gained n q at in
        (x.0, ap (λ l. slice_get l n) p.packages_here ∙ front_at p.grown p.new_packages n x.0 x.1, same_parts_of q.name x.0.name x.2);
    worlds = s.others;
    first_copies = copies;
    second_copies = second_is_copied;
    second_behind = λ k n set_k set_n. omega (arith, path_low k (or_left (flag_under c.copied_interfaces.items k) (is_matched m.interfaces.items k) set_k), gained_high n set_n);
    second_inline = λ k i set there. let x = copied_there k set in ap (λ (j : Interface). j.name) (some_same i x.0 (sym there ∙ x.1)) ∙ x.2;
    first_packages = λ k h.
        let x = copies.carried.interfaces k h in
        by_option x.old.name (λ e. copy_home k x.old x.image x.found (copies.inline_copied k x.old h x.found e) x.at_image) (λ t e. x.in_package (ap is_some e));
    first_worlds = λ k set. (first_worlds_are_copied own other merged m c first_numbers valid_own valid_other p k set).0;
    new_worlds = λ k set. (first_worlds_are_copied own other merged m c first_numbers valid_own valid_other p k set).1;
    second_worlds = λ k set. equal k other_world set;
    own_bound = w;
    bound_at = s.own_at;
    joined = bound_stands.0;
    bound_there = refl;
    bound_name = ap (λ (x : World). x.name) bound_stands.1 ∙ s.gained.name;
    bound_stability = ap (λ (x : World). x.stability) bound_stands.1 ∙ s.gained.stability;
    bound_package = ap (λ (x : World). x.«package») bound_stands.1 ∙ s.gained.in_package;
    second_package = λ k h set.
        let x = second_is_copied.carried.interfaces k h in
        let place = inline_place k x.old x.found set in
        ap (λ (y : Interface). package_number y.«package») (some_same x.image place.image (sym x.at_image ∙ inline_at k x.old x.found set)) ∙ ap package_number place.is.in_package;
    not_left_out = λ k set. not_root other m.worlds.items other.worlds.items k (ap (λ (l : List Bool). flag_under l k) (sym p.numbered.copied_worlds) ∙ set);
    type_from = type_from;
    interface_from = interface_from;
    world_from = world_from;
    package_from = package_from own other merged m c first_numbers p s.names;
    packages_stand = rest.packages_stand;
  }
    where
      copies : AreCopies own other merged first
      copies = first_is_copied own other merged m c first_numbers valid_own valid_other p

      -- an interface that is copied by path has its own package
      copy_home : (k : ℕ) (i x : Interface) → interface_at other k ≡ Some i → flag_under c.copied_interfaces.items k ≡ true → interface_at merged (number_under c.interfaces.items k) ≡ Some x
          → package_number x.«package» ≡ option_map (number_under c.packages.items) (package_number i.«package»)
      copy_home k i x there set at_x =
          let flags = (pass.long _ _ _ valid_own valid_other _ _ _ _ _ _ _ _ _ _ _ s) in
          let place = kept_here (IsInterfaceCarried c first_numbers) c.copied_interfaces.items (map interface_number m.interfaces.items) other.interfaces.items p.new_interfaces p.interfaces
          (flags ∙ sym (length-map m.interfaces.items interface_number)) (length own.interfaces.items) own.interfaces.items p.more_interfaces refl c.interfaces.items p.numbered.interfaces
          merged.interfaces.items p.interfaces_here k i set there in
          ap (λ (y : Interface). package_number y.«package») (some_same x place.image (sym at_x ∙ place.at_image)) ∙ (ap package_number place.is.in_package ∙ home_number c.packages.items i.«package»)
