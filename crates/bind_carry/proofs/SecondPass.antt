-- The second pass, over what the bound world gains: it is carried and copied as the laws on unions ask for it, and the bound world stands as it was, with what it gains behind what it had.
use Rattle.bind_carry.proofs.{CopiesPlaced.by_either, CopiesPlaced.by_test, FirstNumbers.named_of_path, FirstNumbers.names, FirstNumbers.there_of_path, CopiesPlaced.some_same, PassedTypes.carried_within, PassedTypes.copy_holds, PassedTypes.stood_first, CopiesPlaced.stands_under, CopiesPlaced.uncopied_under, FirstInterfaces.excluded, FirstInterfaces.named_carried as first_named_carried, FirstNumbers.are_matched, FirstNumbers.chosen_so, FirstWorlds.first_is_carried, PartsCarried.has_home, PartsCarried.no_home, PassedTypes.carried_if, Ranges.is_in_range, Ranges.shown_below, Ready.bound_long, Ready.fates_long, Ready.interface_count, Ready.numbers_count, SettledParts.copied_still, SettledParts.stands_still, WorldEntries.IsNumberedSame}
use Rattle.bind_carry.proofs.SecondInitial.{IsKnown, IsUnified, gained_adds, gained_flag, gained_inline_alone, gained_long, shows_gained, is_shown_new, second_at, second_long, unified_at, unified_long, unified_set}
use Rattle.bind_carry.proofs.WorldEntries.{any_new_same, any_place, export_keyed, import_keyed, import_range, label_new}
use Rattle.bind_carry.proofs.SecondItems.{shown_in, beside_stands, second_carries, second_copies, second_stands, type_number, number_type, label_found, label_held, beside_carries, beside_no_copy, interface_meant, is_shown, met_first, named_text, found_some, own_under, unmet_new, one_import, not_both}
use Rattle.bind_meaning.proofs.Listed.{by_option}
use Rattle.base_lemmas.proofs.{Bools.left_of as first_true, Bools.right_of as second_true, Elements.get-contains, Lists.within_there, Numbers.same-number}
use Rattle.bind_carry.specs.{BoundGains.gains_any, BoundGains.type_under_key, BoundGains.unified, Fates.FallBelow, FirstPass.IsFirstPass, InRange.IsInRange, Initial.IsInitial, Marked.AreChosen, Marked.is_inline_at, Marked.is_shown_in, Renumbered.first_of, Renumbered.is_copied, Renumbered.is_matched, Renumbered.met_under, Renumbered.second_of, SecondPass.IsSecondPass, Shown.AreShownBelow, Shown.any_new, Shown.type_in, declared.fate.Fate.Fate, declared.plan.Carried.Carried}
use Rattle.bind_carry.specs.Fates.{carries, copies, is_carried, settled_from}
use Rattle.bind_carry.specs.{BoundGains.gained_marks, Needs.needed_of, Needs.pruned_by}
use Rattle.bind_carry.proofs.Needed.{copied_kept, gained_many, is_home, stands_kept}
use Rattle.bind_carry.specs.First.{beside_first, first_fates, flag_under, is_named_at, second_from, second_in}
use Rattle.bind_copy.specs.Copies.{is_new_under, number_under}
use Rattle.bind_match.specs.declared.matches.Matches.{Matches}
use Rattle.bind_union.proofs.{Homes.alias_of_all, Images.numbers_of_view, Itself.get_begin, Lists.no_true, Namesakes.listed_type, Namesakes.target_home, Namesakes.target_named, ViewTests.alias_same, ViewTests.resource_same, WorldNamesakes.target_home as world_target_home, WorldNamesakes.type_imported, WorldNamesakes.world_type}
use Rattle.bind_union.proofs.WorldNamesakes.{IsWorldType, met_imports_stand, path_is, path_so}
use Rattle.bind_union.specs.Carried.{IsCarried, IsNamesake, IsType, Renumbering, carries_owner, copies_owner}
use Rattle.bind_union.specs.{Carried.owner_under, Images.HasImageKind, Joined.ItemStandsFor, Matching.AreMatched, Matching.AreWorldNamesakes, Matching.IsMatch, Matching.WorldsAgree, Matching.type_names, Merged.BeginsWith}
use Rattle.std.proofs.Common.{Bool, List, None, Option, Some, [], ap, append-nil, arith, false, if◌then◌else◌, inl, inr, is_some, length, not, option_and_then, option_map, refl, rules as std_rules, slice_get, subst, sym, true, unwrap_or, ℕ, ◌&&◌, ◌++◌, ◌+◌, ◌||◌, ◌∙◌, ◌≡◌, ◌⊎◌}
use Rattle.std.proofs.{lemmas.Bool.false_from_ne_true, lemmas.Bool.or_left, lemmas.Bool.or_right, lemmas.Map.Keys.any_passes_from_place as any_at}
use Rattle.std.proofs.lemmas.Option.{slice_get_within}
use Rattle.std.specs.{List.Contains, Map.lookup, Option.option_map_or, Prelude.String, declared.alloc.Global.Global}
use Rattle.wit_model.{proofs.Elements.contains-get, proofs.OnePath.named-path, proofs.UsesLemmas.interface_in_range as interface_there}
use Rattle.wit_model.specs.{Lookup.interface_at, Lookup.interface_path, Lookup.key_text, Lookup.type_at, Meaning.Entry, Meaning.InterfaceSense, Meaning.item_sense, Meant.item_meaning, Text.Text, Text.text_of, Uses.alias_target, Uses.item_interface, Valid.IsValid, Valid.as_interface, Valid.as_world, Valid.key_eq}
use Rattle.wit_model.specs.Rules.{is_id, is_resource_itself, item_in_range, item_type, key_in_range, passes}
use Rattle.wit_model.specs.declared.model.{Interface.Interface, InterfaceId.InterfaceId, Resolve.Resolve, TypeDef.TypeDef, TypeId.TypeId, TypeOwner.TypeOwner, World.World, WorldItem.WorldItem, WorldKey.WorldKey}
use Rattle.wit_model.specs.declared.model.TypeOwner.TheVariants as owner
use Rattle.wit_model.specs.declared.model.WorldKey.TheVariants as key
use Rattle.bind_carry.specs.declared.fate.Fate.TheVariants as fate

module _ (own other merged : Resolve) (valid_own : IsValid own) (valid_other : IsValid other) (world other_world : ℕ) (w v : World) (m : Matches) (c : Carried) (first_numbers : List ℕ)
    (p : IsFirstPass own other merged m c first_numbers) (copied : List Bool) (interfaces types : List ℕ)
    (s : IsSecondPass own other merged world other_world w v m c first_numbers p copied interfaces types) where
  abbrev pub matched : List (Option InterfaceId)
  matched = m.interfaces.items

  abbrev pub before_fates : List Fate
  before_fates = first_fates own other matched c

  abbrev pub first : Renumbering
  first = first_of matched c before_fates first_numbers

  abbrev pub adds : Bool
  adds = gains_any interfaces w v

  abbrev pub before : List Fate
  before = second_from other world other_world copied interfaces other.types.items before_fates first_numbers

  abbrev pub initial : List Fate
  initial = unified w.imports.entries v.imports.entries before

  -- the fates if all are copied that can be, and the types that functions name of what is gained
  abbrev pub all : List Fate
  all = settled_from adds [] other.types.items initial

  abbrev pub marks : List Bool
  marks = gained_marks other copied interfaces w v

  abbrev pub needs : List Bool
  needs = needed_of marks 0 other.types.items all

  abbrev pub fates : List Fate
  fates = pruned_by needs all

  pub many : length marks ≡ length other.types.items
  many = gained_many other copied interfaces w v

  abbrev pub second : Renumbering
  second = second_of other matched c world other_world w.imports.entries v.imports.entries copied interfaces fates types

  -- ---- what the pass begins with

  pub range : IsInRange other
  range = is_in_range other valid_other

  pub chosen : AreChosen other matched c.copied_worlds.items c.copied_interfaces.items
  chosen = chosen_so own other m c range p.all p.numbered

  pub long : length c.copied_interfaces.items ≡ length matched
  long = p.numbered.interface_count ∙ sym p.all.interfaces

  pub long_fates : length before_fates ≡ length other.types.items
  long_fates = fates_long own other m c

  pub long_numbers : length first_numbers ≡ length other.types.items
  long_numbers = numbers_count (length own.types.items) first_numbers other.types.items before_fates [] p.new_types p.types ∙ long_fates

  pub imports_shown : AreShownBelow (length other.interfaces.items) v.imports.entries
  imports_shown = shown_below (length other.interfaces.items) (length other.types.items) v.imports.entries (range.imports other_world v s.other_at)

  pub exports_shown : AreShownBelow (length other.interfaces.items) v.exports.entries
  exports_shown = shown_below (length other.interfaces.items) (length other.types.items) v.exports.entries (range.exports other_world v s.other_at)

  pub copied_long : length copied ≡ length c.interfaces.items
  copied_long = ap length s.copied_are ∙ (gained_long other c.interfaces.items w v imports_shown exports_shown ∙ sym (interface_count own other m c range p.all p.numbered))

  -- inline interfaces that are gained are copied
  pub gained : (n : ℕ) → flag_under copied n ≡ (is_inline_at other n && shows_gained other c.interfaces.items w v n)
  gained n = ap (λ (l : List Bool). flag_under l n) s.copied_are ∙ gained_flag other c.interfaces.items w v imports_shown exports_shown n

  -- ---- numbers of interfaces with a name

  inline_named : (n : ℕ) (i : Interface) → interface_at other n ≡ Some i → is_some i.name ≡ true → is_inline_at other n ≡ false
  inline_named n i at named = search std_rules

  -- an interface with a name isn't copied
  pub named_stays : (n : ℕ) (i : Interface) → interface_at other n ≡ Some i → is_some i.name ≡ true → flag_under copied n ≡ false
  named_stays n i at named = search (std_rules, no_true, inline_named, gained_inline_alone, imports_shown, exports_shown)

  -- and has the number that it has by path
  pub named_number : (n : ℕ) (i : Interface) → interface_at other n ≡ Some i → is_some i.name ≡ true → number_under interfaces n ≡ number_under c.interfaces.items n
  named_number n i at named = search (std_rules, uncopied_under, copied_long, named_stays)

  pub import_same : (e : WorldKey × WorldItem) → Contains v.imports.entries e → IsNumberedSame interfaces c.interfaces.items e.0
  import_same e held id is = let k = import_keyed other valid_other other_world v s.other_at e held id is in named_number id.0 k.def k.found k.named

  pub export_same : (e : WorldKey × WorldItem) → Contains v.exports.entries e → IsNumberedSame interfaces c.interfaces.items e.0
  export_same e held id is = let k = export_keyed other valid_other other_world v s.other_at e held id is in named_number id.0 k.def k.found k.named

  -- so both numberings say of the same keys that they are new
  pub gains_same : gains_any interfaces w v ≡ gains_any c.interfaces.items w v
  gains_same = (λ i. any_new_same interfaces c.interfaces.items w.imports.entries v.imports.entries import_same i
      || any_new_same interfaces c.interfaces.items w.exports.entries v.exports.entries export_same i)

  -- ---- types among imports

  pub typed : (e : WorldKey × WorldItem) → Contains v.imports.entries e → (u : ℕ) → item_type e.1 ≡ Some u → IsWorldType other valid_other other_world v s.other_at e.0 u
  typed e held u is = world_type other valid_other other_world v s.other_at e.0 e.1 held u is

  -- entries of one type have labels of one text
  one_label : (d e : WorldKey × WorldItem) (held_d : Contains v.imports.entries d) (held_e : Contains v.imports.entries e) (u : ℕ) (is_d : item_type d.1 ≡ Some u) (is_e : item_type e.1 ≡ Some u)
      → text_of (typed d held_d u is_d).label ≡ text_of (typed e held_e u is_e).label
  one_label d e held_d held_e u is_d is_e =
      let x = typed d held_d u is_d in
      let y = typed e held_e u is_e in
      sym x.same_name ∙ (ap text_of (some_same x.name y.name (sym x.named_ ∙ (ap (λ (d : TypeDef). d.name) (some_same x.def y.def (sym x.found ∙ y.found)) ∙ y.named_))) ∙ y.same_name)

  pub under_label : (e : WorldKey × WorldItem) (held : Contains v.imports.entries e) (u : ℕ) (is : item_type e.1 ≡ Some u)
      → type_under_key w.imports.entries e.0 ≡ option_and_then type_in (lookup (key_eq (key.Name (typed e held u is).label)) w.imports.entries)
  under_label e held u is = ap (λ k. option_and_then type_in (lookup (key_eq k) w.imports.entries)) (typed e held u is).keyed

  pub one_under : (d e : WorldKey × WorldItem) → Contains v.imports.entries d → Contains v.imports.entries e → (u : ℕ) → item_type d.1 ≡ Some u → item_type e.1 ≡ Some u
      → type_under_key w.imports.entries d.0 ≡ type_under_key w.imports.entries e.0
  one_under d e held_d held_e u is_d is_e = under_label d held_d u is_d ∙ (ap (option_and_then type_in)
      (label_found (typed d held_d u is_d).label (typed e held_e u is_e).label (one_label d e held_d held_e u is_d is_e) w.imports.entries) ∙ sym (under_label e held_e u is_e))

  -- the entry of a type that stands for an own one
  pub met_entry : (n : ℕ) (u : IsUnified w.imports.entries v.imports.entries initial n) → Contains v.imports.entries u.entry × (item_type u.entry.1 ≡ Some n)
  met_entry n u = (get-contains v.imports.entries u.place u.entry u.at_place, type_number u.entry.1 u.id u.is_type ∙ ap Some u.number)

  -- a type stands for the own one under its key
  met_stands : (e : WorldKey × WorldItem) → Contains v.imports.entries e → (u : ℕ) → item_type e.1 ≡ Some u → (mine : TypeId) → type_under_key w.imports.entries e.0 ≡ Some mine
      → slice_get initial u ≡ Some (fate.Stands mine.0)
  met_stands e held u is mine there =
      let id = number_type e.1 u is in
      let place = contains-get v.imports.entries e held in
      let set = unified_set w.imports.entries v.imports.entries before place.0 e id.0 mine place.1 id.1 there
      (omega (
        arith,
        slice_get_within other.types.items u (typed e held u is).def (typed e held u is).found,
        id.2,
        second_long other world other_world copied interfaces other.types.items before_fates first_numbers long_fates long_numbers,
      )) in
      let facts = met_entry id.0.0 set in
      ap (slice_get initial) (sym id.2) ∙ (set.stands ∙ ap (λ (x : TypeId). Some (fate.Stands x.0))
      (some_same set.own mine (sym set.there ∙ (one_under set.entry e facts.0 held u (facts.1 ∙ ap Some id.2) is ∙ there))))

  -- ---- what is known

  unified_named : (n : ℕ) (def : TypeDef) → type_at other n ≡ Some def → IsUnified w.imports.entries v.imports.entries initial n → (is_some def.name ≡ true) × (def.owner ≡ as_world other_world)
  unified_named n def at u =
      let facts = met_entry n u in
      let x = typed u.entry facts.0 n facts.1 in
      let same = some_same x.def def (sym x.found ∙ at) in
      (ap (λ (d : TypeDef). is_some d.name) (sym same) ∙ ap is_some x.named_, ap (λ (d : TypeDef). d.owner) (sym same) ∙ x.home)

  -- a type of an interface that is carried by path is so
  pub first_carried : (n : ℕ) (def : TypeDef) (a : ℕ) → type_at other n ≡ Some def → is_some def.name ≡ true → def.owner ≡ as_interface a
      → (flag_under c.copied_interfaces.items a || is_matched matched a) ≡ true → is_carried before_fates n ≡ true
  first_carried n def a at named home carried =
      first_named_carried own other valid_other matched c first_numbers chosen (names own other valid_own valid_other matched c first_numbers chosen p.same p.none long p.numbered.interfaces
      (length own.types.items + length {A = TypeDef} []) p.types.numbers_are) n def at named (ap (carries_owner first) home ∙ carried)

  first_carries : (n : ℕ) (def : TypeDef) (g : Fate) (a : ℕ) → type_at other n ≡ Some def → slice_get before_fates n ≡ Some g → is_some def.name ≡ true → def.owner ≡ as_interface a
      → (flag_under c.copied_interfaces.items a || is_matched matched a) ≡ true → carries g ≡ true
  first_carries n def g a at at_fate named home carried = sym (ap (λ o. option_map_or carries o false) at_fate) ∙ first_carried n def a at named home carried

  -- a type of the bound world that is copied is under a new key
  types_add : (n : ℕ) (def : TypeDef) → type_at other n ≡ Some def → def.owner ≡ as_world other_world → slice_get initial n ≡ Some (fate.Copied (as_world world)) → adds ≡ true
  types_add n def at home copies =
      by_option def.name (λ q. let wrong : as_world other_world ≡ owner.None = sym home ∙ no_home other valid_other n def at (ap is_some q) in absurd cc) (λ t q.
      let x = type_imported other valid_other other_world v s.other_at n def at t q home in
      by_option (type_under_key w.imports.entries x.entry.0) (λ e.
      let id = number_type x.entry.1 n x.is_type in
      let place = contains-get v.imports.entries x.entry x.held in
      or_left (any_new interfaces w.imports.entries v.imports.entries) (any_new interfaces w.exports.entries v.exports.entries)
      (any_at (λ (y : WorldKey × WorldItem). is_new_under interfaces w.imports.entries y.0) v.imports.entries place.0 x.entry place.1
      (unmet_new own other valid_own valid_other other_world w v s.other_at s.agree interfaces x.entry x.held id.0 id.1 e))) (λ mine e.
      let wrong : Some (fate.Stands mine.0) ≡ Some (fate.Copied (as_world world)) = sym (met_stands x.entry x.held n x.is_type mine e) ∙ copies in absurd cc))

  pub known : IsKnown other valid_other matched c world other_world w.imports.entries v.imports.entries copied interfaces before_fates first_numbers long_fates long_numbers fates types adds
  known = record {
    imports = unified_named;
    first_carries = first_carries;
    inline_adds = λ a set. gains_same ∙ gained_adds other c.interfaces.items w v imports_shown exports_shown a (ap (λ (l : List Bool). flag_under l a) (sym s.copied_are) ∙ set);
    types_add = types_add;
    names = λ n i at named. ap (λ b. b || is_matched matched n) (chosen.named n i at named) ∙ excluded (is_matched matched n);
  }

  pub is_named_there : (a : ℕ) (i : Interface) → interface_at other a ≡ Some i → is_some i.name ≡ true → is_named_at other a ≡ true
  is_named_there a i there named = ap (λ o. option_map_or (λ (j : Interface). is_some j.name) o false) there ∙ named

  -- an interface with a name is carried
  pub named_carried_there : (a : ℕ) (i : Interface) → interface_at other a ≡ Some i → is_some i.name ≡ true → second.carries_interface a ≡ true
  named_carried_there a i there named = search (std_rules, or_right, is_named_there, known)

  -- What a type was by path, and what becomes of it before own types are looked for.
  pub record Before (n : ℕ) (def : TypeDef) : Type 0 where
    pub old : Fate
    pub at_old : slice_get before_fates n ≡ Some old
    pub number : ℕ
    pub at_number : slice_get first_numbers n ≡ Some number
    pub stands : slice_get before n ≡ Some (second_in other world other_world copied interfaces def.owner (beside_first old number))

  pub was : (n : ℕ) (def : TypeDef) → type_at other n ≡ Some def → Before n def
  was n def at =
      let less = slice_get_within other.types.items n def at in
      let g = within_there before_fates n (omega (arith, less, long_fates)) in
      let m = within_there first_numbers n (omega (arith, less, long_numbers)) in
      record {
        old = g.0;
        at_old = g.1;
        number = m.0;
        at_number = m.1;
        stands = second_at other world other_world copied interfaces other.types.items before_fates first_numbers n def g.0 m.0 at g.1 m.1;
      }

  abbrev pub fate_before : {n : ℕ} {def : TypeDef} → Before n def → TypeOwner → Fate
  fate_before b o = second_in other world other_world copied interfaces o (beside_first b.old b.number)

  -- at first it is that, or stands for the own type under its key
  fate_first : (n : ℕ) (def : TypeDef) (at : type_at other n ≡ Some def) → (slice_get initial n ≡ Some (fate_before (was n def at) def.owner)) ⊎ IsUnified w.imports.entries v.imports.entries initial n
  fate_first n def at = unified_at w.imports.entries v.imports.entries before n (fate_before (was n def at) def.owner) (was n def at).stands

  -- what is copied at first was so before own types were looked for
  copied_before : (n : ℕ) (def : TypeDef) (at : type_at other n ≡ Some def) (home : TypeOwner) → slice_get initial n ≡ Some (fate.Copied home) → fate_before (was n def at) def.owner ≡ fate.Copied home
  copied_before n def at home e = elim (fate_first n def at) [
    | inl same ↦ some_same _ _ (sym same ∙ e)
    | inr u ↦ (let wrong : Some (fate.Stands u.own.0) ≡ Some (fate.Copied home) = sym u.stands ∙ e in absurd cc)
  ]

  -- its owner is one whose types are gained
  homes_copied : (n : ℕ) (def : TypeDef) (home : TypeOwner) → type_at other n ≡ Some def → is_some def.name ≡ true → slice_get initial n ≡ Some (fate.Copied home)
      → (home ≡ owner_under second def.owner) × (copies_owner second def.owner ≡ true) × (adds ≡ true)
  homes_copied n def home at named e =
      let b = was n def at in
      second_copies other matched c world other_world w.imports.entries v.imports.entries copied interfaces fates types def.owner (beside_first b.old b.number) home adds known.inline_adds
      (λ in_world is. known.types_add n def at in_world (e ∙ ap (λ x. Some (fate.Copied x)) is)) (beside_no_copy b.old b.number) (copied_before n def at home e)

  -- ---- what is carried

  home_carries : (n : ℕ) (def : TypeDef) (at : type_at other n ≡ Some def) → is_some def.name ≡ true → carries_owner second def.owner ≡ true → carries (fate_before (was n def at) def.owner) ≡ true
  home_carries n def at named h =
      let b = was n def at in
      second_carries other matched c world other_world w.imports.entries v.imports.entries copied interfaces fates types def.owner (beside_first b.old b.number)
      (has_home other valid_other n def at named) (λ a home first. beside_carries b.old b.number (known.first_carries n def b.old a at b.at_old named home first)) h

  carried_home : (n : ℕ) (def : TypeDef) → type_at other n ≡ Some def → is_some def.name ≡ true → carries_owner second def.owner ≡ true → (g : Fate) × (slice_get initial n ≡ Some g)
      × (carries g ≡ true)
  carried_home n def at named h = elim (fate_first n def at) [ inl same ↦ (fate_before (was n def at) def.owner, same, home_carries n def at named h) | inr u ↦ (fate.Stands u.own.0, u.stands, refl) ]

  -- a type without a name has no fate yet
  unnamed_left : (n : ℕ) (def : TypeDef) → type_at other n ≡ Some def → is_some def.name ≡ false → slice_get initial n ≡ Some fate.Left
  unnamed_left n def at e = elim (fate_first n def at) [
    | inl same ↦ same ∙ ap (λ o. Some (fate_before (was n def at) o)) (no_home other valid_other n def at e)
    | inr u ↦ no_true (sym e ∙ (known.imports n def at u).0)
  ]

  homes_carried : (o : TypeOwner) → copies_owner second o ≡ true → carries_owner second o ≡ true
  homes_carried (owner.World id) h = h
  homes_carried (owner.Interface id) h = or_left (flag_under copied id.0) (is_named_at other id.0 && (flag_under c.copied_interfaces.items id.0 || is_matched matched id.0)) h
  homes_carried owner.None h = refl

  pub starts : IsInitial other second adds initial
  starts = record {
    long = unified_long w.imports.entries v.imports.entries before ∙ second_long other world other_world copied interfaces other.types.items before_fates first_numbers long_fates long_numbers;
    unnamed = unnamed_left;
    copied = homes_copied;
    carried = carried_home;
    with_path = named_carried_there;
    homes = homes_carried;
  }

  pub falls : FallBelow other.types.items
  falls = range.falls

  -- that is its fate at first where it stands for no own type, as none of an interface does
  stays_so : (n : ℕ) (g : Fate) → slice_get before n ≡ Some g → (IsUnified w.imports.entries v.imports.entries initial n → ⊥) → slice_get initial n ≡ Some g
  stays_so n g at never = elim (unified_at w.imports.entries v.imports.entries before n g at) [ inl same ↦ same | inr u ↦ absurd (never u) ]

  pub copied_so : (n : ℕ) (def : TypeDef) (home : TypeOwner) → is_home home ≡ true → type_at other n ≡ Some def → slice_get before n ≡ Some (fate.Copied home)
      → (IsUnified w.imports.entries v.imports.entries initial n → ⊥) → is_copied fates n ≡ true
  copied_so n def home owned at e never = ap (λ o. option_map_or copies o false)
      (copied_kept needs all n home owned (copied_still adds other.types.items initial falls n def at home (stays_so n (fate.Copied home) e never)))

  not_met : (n : ℕ) (def : TypeDef) (a : ℕ) → type_at other n ≡ Some def → def.owner ≡ as_interface a → IsUnified w.imports.entries v.imports.entries initial n → ⊥
  not_met n def a at home u = let wrong : as_interface a ≡ as_world other_world = sym home ∙ (known.imports n def at u).1 in cc

  -- ---- interfaces with a name

  pub named_at : (n : ℕ) → is_named_at other n ≡ true → (i : Interface) × (interface_at other n ≡ Some i) × (is_some i.name ≡ true)
  named_at n h = search std_rules

  -- one with a name has the number that it has by path
  pub second_named : (a : ℕ) (i : Interface) → interface_at other a ≡ Some i → is_some i.name ≡ true → second.interfaces a ≡ first.interfaces a
  second_named a i there named = (λ j. if named_stays a i there named j || is_named_there a i there named j then number_under interfaces a else unwrap_or
      (met_under w.imports.entries v.imports.entries a) (number_under interfaces a)) ∙ named_number a i there named

  -- ---- types of interfaces with a name

  -- one that is carried by path stands for what it is there
  pub stays : (n : ℕ) (def : TypeDef) (a : ℕ) (i : Interface) → type_at other n ≡ Some def → def.owner ≡ as_interface a → interface_at other a ≡ Some i → is_some i.name ≡ true
      → is_carried before_fates n ≡ true → slice_get fates n ≡ Some (fate.Stands (number_under first_numbers n))
  stays n def a i at home there path carried =
      let b = was n def at in
      stands_kept needs all n b.number (stands_still adds other.types.items initial falls n def at b.number (stays_so n (fate.Stands b.number)
      (b.stands ∙ (ap (λ o. Some (fate_before b o)) home ∙ (λ j. Some (if named_stays a i there path j then fate.Copied (owner.Interface (record { 0 = number_under interfaces a })) else
      (if is_named_there a i there path j then (if (sym (ap (λ o. option_map_or carries o false) b.at_old) ∙ carried) j then fate.Stands b.number else fate.Left) else fate.Left)))))
      (not_met n def a at home))) ∙ ap (λ (k : ℕ). Some (fate.Stands k)) (sym (ap (λ o. unwrap_or o 0) b.at_number))

  -- so it has the number that it has by path, is carried, and isn't copied
  pub second_same : (n : ℕ) (def : TypeDef) (a : ℕ) (i : Interface) → type_at other n ≡ Some def → def.owner ≡ as_interface a → interface_at other a ≡ Some i → is_some i.name ≡ true
      → is_carried before_fates n ≡ true → (second.types n ≡ first.types n) × (is_carried fates n ≡ true) × (is_copied fates n ≡ false)
  second_same n def a i at home there path carried =
      let stands = stays n def a i at home there path carried in (
        ap (λ l. number_under l n) s.types_copied.numbers_are ∙ stands_under (length own.types.items + length p.new_types) fates n (number_under first_numbers n) stands,
        ap (λ o. option_map_or carries o false) stands,
        ap (λ o. option_map_or copies o false) stands,
      )

  -- A type that stands for what it is by path.
  pub record StandsByPath (n : ℕ) (def : TypeDef) : Type 0 where
    pub at_number : ℕ
    pub home : def.owner ≡ as_interface at_number
    pub named : is_some def.name ≡ true
    pub shown : Interface
    pub there : interface_at other at_number ≡ Some shown
    pub has_name : is_some shown.name ≡ true
    pub carried : is_carried before_fates n ≡ true

  -- what is carried without a copy is so, or stands for an own type of the bound world
  pub stood_how : (n : ℕ) (def : TypeDef) → type_at other n ≡ Some def → is_carried fates n ≡ true → is_copied fates n ≡ false → StandsByPath n def
      ⊎ IsUnified w.imports.entries v.imports.entries initial n
  stood_how n def at h bare = elim (fate_first n def at) [
    | inl same ↦ (let b = was n def at in
        let stood = stood_first other valid_other second adds initial starts marks many n def at h bare in
        let x = second_stands other matched c world other_world w.imports.entries v.imports.entries copied interfaces fates types def.owner (beside_first b.old b.number) stood.1
        (some_same _ _ (sym same ∙ stood.2)) in
        let i = named_at x.0.0 x.2 in
        let carried = ap (λ o. option_map_or carries o false) b.at_old ∙ beside_stands b.old b.number stood.1 x.3 in
        inl (record { at_number = x.0.0; home = x.1; named = stood.0; shown = i.0; there = i.1; has_name = i.2; carried = carried }))
    | inr u ↦ inr u
  ]

  -- Aliases under the numbers by path, whether a copy stands there or an own type.
  alias_there : (def image : TypeDef) → HasImageKind first.types first.carries_type def image ⊎ IsNamesake first def image → (alias_target image.kind ≡ option_map first.types (alias_target def.kind))
      × (passes first.carries_type (alias_target def.kind) ≡ true) × (is_resource_itself image.kind ≡ is_resource_itself def.kind)
  alias_there def image x = search (std_rules, alias_same, alias_of_all, numbers_of_view, resource_same)

  -- what stands by path stands there as a namesake: types without a name are copied anew
  pub path_stands : (n : ℕ) (t : IsType other merged first n) → StandsByPath n t.def → IsType other merged second n
  path_stands n t x =
      let same = second_same n t.def x.at_number x.shown t.found x.home x.there x.has_name x.carried in
      let alias = alias_there t.def t.image t.kind in
      record {
        def = t.def;
        found = t.found;
        image = t.image;
        at_image = ap (type_at merged) same.0 ∙ t.at_image;
        name = t.name;
        home = t.home ∙ (ap (owner_under first) x.home ∙ (ap (λ (k : ℕ). owner.Interface (record { 0 = k })) (sym (second_named x.at_number x.shown x.there x.has_name)) ∙ ap (owner_under second)
            (sym x.home)));
        carries_home = ap (carries_owner second) x.home ∙ named_carried_there x.at_number x.shown x.there x.has_name;
        kind = inr (record { named = x.named; resource = alias.2; alias = alias.0 ∙ (target (alias_target t.def.kind) refl alias.1).0; target = (target (alias_target t.def.kind) refl alias.1).1 });
        copied = λ k. no_true (sym same.2 ∙ k);
      }
    where
      has_path : is_some (interface_path other x.at_number) ≡ true
      has_path = named-path other valid_other x.at_number (is_named_there x.at_number x.shown x.there x.has_name)

      target : (o : Option ℕ) → alias_target t.def.kind ≡ o → passes first.carries_type o ≡ true → (option_map first.types o ≡ option_map second.types o) × (passes second.carries_type o ≡ true)
      target None e h = (refl, refl)
      target (Some u) e h =
          let y = target_named other valid_other n t.def t.found u e in
          let z = target_home other valid_other n t.def t.found x.at_number x.home has_path u e y in
          let i = there_of_path other z.0 z.2 in
          let r = second_same u y.def z.0 i.0 y.found z.1 i.1 (named_of_path other z.0 i.0 i.1 z.2) h in
          (ap Some (sym r.0), r.1)

  -- so it has that number
  pub met_number : (e : WorldKey × WorldItem) → Contains v.imports.entries e → (u : ℕ) → item_type e.1 ≡ Some u → (mine : TypeId) → type_under_key w.imports.entries e.0 ≡ Some mine
      → second.types u ≡ mine.0
  met_number e held u is mine there = ap (λ l. number_under l u) s.types_copied.numbers_are
      ∙ stands_under (length own.types.items + length p.new_types) fates u mine.0
      (stands_kept needs all u mine.0 (stands_still adds other.types.items initial falls u (typed e held u is).def (typed e held u is).found mine.0 (met_stands e held u is mine there)))

  -- types of one key are one in the end
  pub types_agree : (x e : WorldKey × WorldItem) → Contains w.imports.entries x → Contains v.imports.entries e → key_text own x.0 ≡ key_text other e.0 → (t u : ℕ) → item_type x.1 ≡ Some t
      → item_type e.1 ≡ Some u → second.types u ≡ t
  types_agree x e held_x held_e keys t u is_x is_e =
      let a = world_type own valid_own world w s.own_at x.0 x.1 held_x t is_x in
      let b = typed e held_e u is_e in
      let mine = number_type x.1 t is_x in
      let place = contains-get w.imports.entries x held_x in
      met_number e held_e u is_e mine.0 (under_label e held_e u is_e ∙ (ap (option_and_then type_in)
      (label_held b.label w.imports.entries (valid_own.distinct_keys.worlds world w s.own_at).0 place.0 x place.1 a.label a.keyed
      (sym (ap (key_text own) a.keyed) ∙ (keys ∙ ap (key_text other) b.keyed))) ∙ mine.1)) ∙ mine.2

  -- ---- inline interfaces that stand for own ones: each has the number of the own interface under its label

  -- an inline interface under a label that own imports have isn't copied
  module _ (e : WorldKey × WorldItem) (held : Contains v.imports.entries e) (label : String Global) (labelled : e.0 ≡ key.Name label) (x : WorldItem)
      (found : lookup (key_eq (key.Name label)) w.imports.entries ≡ Some x)
      (j : ℕ) (is : item_interface e.1 ≡ Some j) (def : Interface) (there : interface_at other j ≡ Some def) (inline : def.name ≡ None) where
    place : (k : ℕ) × (slice_get v.imports.entries k ≡ Some e)
    place = contains-get v.imports.entries e held

    shown : is_shown_in v.imports.entries j ≡ true
    shown = any_at (λ (y : WorldKey × WorldItem). is_id j (item_interface y.1)) v.imports.entries place.0 e place.1 (is_shown e.1 j is)

    same_entry : (k : ℕ) (d : WorldKey × WorldItem) → slice_get v.imports.entries k ≡ Some d → is_id j (item_interface d.1) ≡ true → d ≡ e
    same_entry k d at_d shows =
        let one = one_import other valid_other other_world v s.other_at j def there inline k place.0 d e at_d place.1 shows (is_shown e.1 j is) in
        some_same d e (sym at_d ∙ (ap (slice_get v.imports.entries) one ∙ place.1))

    abbrev numbers : List ℕ
    numbers = c.interfaces.items

    pub met_uncopied : flag_under copied j ≡ false
    met_uncopied = false_from_ne_true (flag_under copied j) (λ set. by_either (is_shown_new other numbers w.imports.entries v.imports.entries j)
        (is_shown_new other numbers w.exports.entries v.exports.entries j) (second_true (is_inline_at other j) (shows_gained other numbers w v j) (sym (gained j) ∙ set)) (λ new.
        let x = any_place (λ (y : WorldKey × WorldItem). is_new_under numbers w.imports.entries y.0 && is_id j (item_interface y.1)) v.imports.entries new in
        let is_new = first_true (is_new_under numbers w.imports.entries x.thing.0) (is_id j (item_interface x.thing.1)) x.passes_it in
        let shows = second_true (is_new_under numbers w.imports.entries x.thing.0) (is_id j (item_interface x.thing.1)) x.passes_it in
        no_true (sym (ap (λ (y : WorldKey × WorldItem). is_new_under numbers w.imports.entries y.0) (same_entry x.place x.thing x.there shows)
        ∙ (ap (is_new_under numbers w.imports.entries) labelled ∙ (label_new numbers label w.imports.entries ∙ ap (λ o. not (is_some o)) found))) ∙ is_new))
        (λ old new. not_both other valid_other other_world v s.other_at j def there inline shown (shown_in other numbers w.exports.entries v.exports.entries j new)))

    -- and it has the number of the own one
    pub met_inline : (i : ℕ) → item_interface x ≡ Some i → second.interfaces j ≡ i
    met_inline i is_x =
        let unnamed = ap (λ o. option_map_or (λ (d : Interface). is_some d.name) o false) there ∙ ap is_some inline in
        let seen = met_first w.imports.entries v.imports.entries j shown in
        (λ q. if met_uncopied q || unnamed q then number_under interfaces j else unwrap_or (met_under w.imports.entries v.imports.entries j) (number_under interfaces j))
        ∙ ap (λ o. unwrap_or o (number_under interfaces j)) (seen.met ∙ (ap (λ k. option_and_then item_interface (lookup (key_eq k) w.imports.entries))
        (ap (λ (y : WorldKey × WorldItem). y.0) (same_entry seen.place seen.entry seen.there seen.shows) ∙ labelled) ∙ (ap (option_and_then item_interface) found ∙ is_x)))

  -- inline interfaces of one key are one in the end
  pub inline_agree : (x e : WorldKey × WorldItem) → Contains w.imports.entries x → Contains v.imports.entries e → key_text own x.0 ≡ key_text other e.0 → (i j : ℕ) → item_interface x.1 ≡ Some i
      → item_interface e.1 ≡ Some j → interface_path other j ≡ None → second.interfaces j ≡ i
  inline_agree x e held_x held_e keys i j is_x is_e no_path = by e.0 refl x.0 refl
    where
      def : (def : Interface) × (interface_at other j ≡ Some def)
      def = interface_there other e.1 j is_e (second_true (key_in_range other e.0) (item_in_range other e.1) (import_range other valid_other other_world v s.other_at e held_e))

      has_path_wrong : {A : Type 0} (r : Resolve) → IsValid r → (n k : ℕ) (d : Interface) → interface_at r n ≡ Some d → is_some d.name ≡ true → n ≡ k → interface_path r k ≡ None → A
      has_path_wrong r valid n k d at named same none = no_true (sym (ap is_some none) ∙ (ap (λ (q : ℕ). is_some (interface_path r q)) (sym same) ∙ named-path r valid n
          (ap (λ o. option_map_or (λ (z : Interface). is_some z.name) o false) at ∙ named)))

      inline : def.0.name ≡ None
      inline = by_option def.0.name (λ q. q) (λ t q. has_path_wrong other valid_other j j def.0 def.1 (ap is_some q) refl no_path)

      by : (k : WorldKey) → e.0 ≡ k → (l : WorldKey) → x.0 ≡ l → second.interfaces j ≡ i
      by (key.Interface id) q l r =
          let z = import_keyed other valid_other other_world v s.other_at e held_e id q in
          has_path_wrong other valid_other id.0 j z.def z.found z.named (some_same id.0 j (sym z.is_item ∙ is_e)) no_path
      by (key.Name label) q (key.Interface id) r =
          let z = import_keyed own valid_own world w s.own_at x held_x id r in
          has_path_wrong own valid_own id.0 i z.def z.found z.named (some_same id.0 i (sym z.is_item ∙ is_x))
          (let senses : item_sense (item_meaning own x.1) ≡ item_sense (item_meaning other e.1) = ap (λ (y : Entry InterfaceSense). y.item) (s.agree.imports x e held_x held_e keys) in
          sym (path_is own i) ∙ (ap path_so (ap item_sense (sym (interface_meant own x.1 i is_x)) ∙ (senses ∙ ap item_sense (interface_meant other e.1 j is_e))) ∙ (path_is other j ∙ no_path)))
      by (key.Name label) q (key.Name mine) r =
          let place = contains-get w.imports.entries x held_x in
          let labels : text_of mine ≡ text_of label = sym (ap (key_text own) r) ∙ (keys ∙ ap (key_text other) q) in
          met_inline e held_e label q x.1 (label_held label w.imports.entries (valid_own.distinct_keys.worlds world w s.own_at).0 place.0 x place.1 mine r labels) j is_e def.0 def.1 inline i is_x

  -- ---- what is carried: each type and interface has its image under its new number

  pub fates_many : length fates ≡ length other.types.items
  fates_many = search (std_rules, bound_long, long_fates, long_numbers)

  -- a type that is carried is there
  pub type_there : (n : ℕ) → is_carried fates n ≡ true → (def : TypeDef) × (type_at other n ≡ Some def)
  type_there n h = let less = carried_within fates n h in let many = fates_many in within_there other.types.items n (omega (arith, less, many))

  pub by_path : IsCarried other merged first
  by_path = first_is_carried own other merged m c first_numbers valid_own valid_other p

  -- a type of an interface with a name is what it is by path
  pub same_types : (n : ℕ) (def : TypeDef) (a : ℕ) (i : Interface) → type_at other n ≡ Some def → is_some def.name ≡ true → def.owner ≡ as_interface a → interface_at other a ≡ Some i
      → is_some i.name ≡ true → (second.types n ≡ first.types n) × (is_carried fates n ≡ true) × (is_copied fates n ≡ false)
  same_types n def a i at named home there path = second_same n def a i at home there path (first_carried n def a at named home (known.names a i there path))

  -- a named type of an owner that is carried is carried
  pub named_carried : (n : ℕ) (def : TypeDef) → type_at other n ≡ Some def → is_some def.name ≡ true → carries_owner second def.owner ≡ true → is_carried fates n ≡ true
  named_carried n def at named h = let g = starts.carried n def at named h in carried_if other valid_other second adds initial starts marks many n def g.0 at named g.1 g.2

  -- a type of an inline interface that is copied is copied
  pub inline_type_copied : (n : ℕ) (def : TypeDef) (a : ℕ) → type_at other n ≡ Some def → def.owner ≡ as_interface a → flag_under copied a ≡ true → is_copied fates n ≡ true
  inline_type_copied n def a at home set =
      let b = was n def at in
      let in_before = b.stands ∙ (ap (λ o. Some (fate_before b o)) home ∙ ap
      (λ k. Some (if k then fate.Copied (as_interface (number_under interfaces a)) else (if is_named_at other a then beside_first b.old b.number else fate.Left))) set) in
      copied_so n def (as_interface (number_under interfaces a)) refl at in_before (not_met n def a at home)

  -- ---- what is matched, and what agrees

  first_matched : AreMatched own other first.interfaces first.types
  first_matched = search (std_rules, are_matched, chosen, long)

  pub second_matched : AreMatched own other second.interfaces second.types
  second_matched n path = elim (first_matched n path) [ inl x ↦ inl (again x) | inr none ↦ inr none ]
    where
      again : IsMatch own other first.interfaces first.types n → IsMatch own other second.interfaces second.types n
      again x =
          let number = second_named n x.old x.found has_name in
          record {
            old = x.old;
            found = x.found;
            image = x.image;
            at_image = ap (interface_at own) number ∙ x.at_image;
            has_path = x.has_path;
            path = ap (interface_path own) number ∙ x.path;
            sense = x.sense;
            by_name = λ name t contained. subst (λ (k : ℕ). Contains (type_names x.image) (name, k)) (sym (same name t contained)) (x.by_name name t contained);
          }
        where
          has_name : is_some x.old.name ≡ true
          has_name = named_of_path other n x.old x.found x.has_path

          same : (name : Text) (t : ℕ) → Contains (type_names x.old) (name, t) → second.types t ≡ first.types t
          same name t contained =
              let y = listed_type other valid_other n x.old x.found name t contained in
              (same_types t y.def n x.old y.found (named_text y.def.name name y.name_is) y.home x.found has_name).0

  pub worlds_agree : WorldsAgree own other second world other_world
  worlds_agree = search (std_rules, types_agree, inline_agree)

  -- an own import stands for the other one of its key
  pub import_stands_for : (x e : WorldKey × WorldItem) → Contains w.imports.entries x → Contains v.imports.entries e → key_text own x.0 ≡ key_text other e.0 → ItemStandsFor second e.1 x.1
  unfolding worlds_agree
  import_stands_for x e held_x held_e keys = (met_imports_stand own other second world other_world valid_own valid_other second_matched worlds_agree x e held_x held_e keys).0

  -- ---- types

  types_begin : BeginsWith own.types.items merged.types.items
  types_begin = (s.all_types, s.types_here)

  -- what a type of the bound world is another name of is carried
  target_carried : (n : ℕ) (def : TypeDef) → type_at other n ≡ Some def → def.owner ≡ as_world other_world → (o : Option ℕ) → alias_target def.kind ≡ o → passes second.carries_type o ≡ true
  target_carried n def at home None e = refl
  target_carried n def at home (Some u) e =
      let y = target_named other valid_other n def at u e in
      elim (world_target_home other valid_other other_world v s.other_at n def at home u e y) [
        | inl here ↦ named_carried u y.def y.found (ap is_some y.named_) (ap (carries_owner second) here ∙ same-number other_world)
        | inr a ↦ (let i = there_of_path other a.0 a.2 in named_carried u y.def y.found (ap is_some y.named_)
            (ap (carries_owner second) a.1 ∙ named_carried_there a.0 i.0 i.1 (named_of_path other a.0 i.0 i.1 a.2)))
      ]

  -- An own type of the bound world stands for a type under the same key.
  pub met_type : (n : ℕ) (def : TypeDef) → type_at other n ≡ Some def → IsUnified w.imports.entries v.imports.entries initial n → AreWorldNamesakes own other second world other_world n
  unfolding worlds_agree
  met_type n def at u =
      let facts = met_entry n u in
      let i = found_some type_in (lookup (key_eq u.entry.0) w.imports.entries) u.own u.there in
      let there = own_under own other valid_own valid_other other_world w v s.other_at s.agree u.entry facts.0 n facts.1 i.0 i.1 in
      (met_imports_stand own other second world other_world valid_own valid_other second_matched worlds_agree (there.0, i.0) u.entry there.1 facts.0 there.2).1 n facts.1
      (ap (λ o. passes second.carries_type (option_and_then (λ (d : TypeDef). alias_target d.kind) o)) at ∙ target_carried n def at (known.imports n def at u).1 (alias_target def.kind) refl)

  met_holds : (n : ℕ) → is_copied fates n ≡ false → AreWorldNamesakes own other second world other_world n → IsType other merged second n
  met_holds n bare x = record {
    def = x.def;
    found = x.found;
    image = x.image;
    at_image = get_begin own.types.items merged.types.items types_begin (second.types n) x.image x.at_image;
    name = x.name;
    home = x.image_home ∙ sym (ap (owner_under second) x.home);
    carries_home = ap (carries_owner second) x.home ∙ same-number other_world;
    kind = inr x.namesakes;
    copied = λ k. no_true (sym bare ∙ k);
  }

  -- each type that is carried stands under its new number
  pub types_hold : (n : ℕ) → second.carries_type n ≡ true → IsType other merged second n
  types_hold n h =
      let d = type_there n h in
      by_test (is_copied fates n) (λ e. copy_holds other valid_other second adds initial starts marks many own merged types p.new_types s.all_types [] s.types_copied
      (s.types_here ∙ ap (λ l. own.types.items ++ l) (sym (append-nil s.all_types))) refl refl n d.0 d.1 e) (λ e. elim (stood_how n d.0 d.1 h e) [
        | inl x ↦ (let t = by_path.types n x.carried in path_stands n t (subst (λ (y : TypeDef). StandsByPath n y) (some_same d.0 t.def (sym d.1 ∙ t.found)) x))
        | inr u ↦ met_holds n e (met_type n d.0 d.1 u)
      ])
