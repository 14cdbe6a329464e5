-- What is copied of types: those whose owners are, types that new imports are, and types without a name that are made of what is carried.
use Rattle.bind_meaning.proofs.Listed.{by_option, mapped, tested}
use Rattle.std.proofs.Common.{rules as std_rules, ◌≡◌, ◌⊎◌, inl, inr, refl, sym, ap, subst, ◌∙◌, ℕ, zero, suc, ◌<◌, arith, Bool, true, false, ◌&&◌, ◌==◌, ◌+◌, cond, nat_lt, List, [], ◌∷◌, length, map, Option, Some, is_none, is_some, option_map, replicate, slice_get, if◌then◌else◌}
use Rattle.std.proofs.lemmas.{Bool.ltb-true, List.length-map, List.Sums.sum_by-cons, Option.slice_get-map, Option.slice_get_within}
use Rattle.std.specs.{Prelude.count_by, List.Contains}
use Rattle.wit_model.specs.{Lookup.world_at, Parts.function_numbers, Rules.item_type, Text.Text, Text.optional_text, Valid.IsValid, Valid.as_world}
use Rattle.wit_model.specs.declared.model.{Function.Function, InterfaceId.InterfaceId, Resolve.Resolve, TypeOwner.TypeOwner, WorldItem.WorldItem, WorldKey.WorldKey, TypeDef.TypeDef, World.World, WorldId.WorldId}
use Rattle.wit_model.proofs.Elements.{contains-get}
use Rattle.bind_copy.specs.Copies.{is_new_under}
use Rattle.bind_union.proofs.{Lists.no_true, WorldNamesakes.type_imported, WorldNamesakes.world_type}
use Rattle.bind_carry.specs.{BoundGains.bound_fates, BoundGains.gains_any, BoundGains.type_under_key, BoundGains.unified, Renumbered.is_matched, Numbers.copied_count, SecondPass.DoNotClash, TooLong.CarriedThings, TooLong.TypeFates}
use Rattle.bind_carry.specs.{BoundGains.all_bound_fates, BoundGains.gained_marks, First.all_first_fates, First.first_marks, Needs.mark_interfaces, Needs.mark_new}
use Rattle.bind_carry.proofs.MetTypes.{copied_met, interfaces_fit, new_fit, none_fit, worlds_fit, InterfacesCome, NewCome, WorldsCome}
use Rattle.bind_carry.proofs.Needed.{first_many, gained_many}
use Rattle.bind_carry.specs.Fates.{are_carried, carries, copies, is_carried, settled, settled_from, FallBelow}
use Rattle.bind_carry.specs.First.{adds_any, beside_first, fate_in, fate_named, fate_of, first_fates, flag_under, is_named_at, second_from, second_in}
use Rattle.bind_carry.specs.MadeOf.{by_function, owned, type_parts, unnamed, IsMadeOf, IsMadeUp, IsMet, IsOwnedBy}
use Rattle.bind_carry.specs.declared.fate.Fate.{Fate}
use Rattle.bind_carry.proofs.{CopiesPlaced.by_test, CopiesPlaced.some_same, PartsCarried.no_home, Ranges.is_in_range, FirstInterfaces.named_no_copy, SecondItems.number_type, SecondItems.type_number, SecondItems.unmet_new, SettledParts.settled_all, SettledParts.settled_long}
use Rattle.bind_carry.proofs.SecondInitial.{second_long, unified_at, unified_long, unified_set, IsUnified}
use Rattle.base_lemmas.proofs.{Bools.left_of, Bools.right_of, Elements.all-contained, Elements.get-contains, Lists.within_there, Numbers.equal}
use Rattle.wit_model.specs.declared.model.TypeOwner.TheVariants as owner
use Rattle.bind_carry.specs.declared.fate.Fate.TheVariants as fate

-- ---- marks

-- as many are marked as are copied
pub marked_count : (bs : List Bool) → count_by (λ b. b) bs ≡ copied_count bs
marked_count [] = refl
marked_count (true ∷ bs) = let r = marked_count bs in let one : count_by (λ b. b) (true ∷ bs) ≡ 1 + count_by (λ b. b) bs = sum_by-cons (λ (b : Bool). cond b 1 0) true bs in omega (arith, r, one)
marked_count (false ∷ bs) = let r = marked_count bs in let one : count_by (λ b. b) (false ∷ bs) ≡ 0 + count_by (λ b. b) bs = sum_by-cons (λ (b : Bool). cond b 1 0) false bs in omega (arith, r, one)

-- ---- fates in the end

-- what is settled without a fate at first is copied without an owner
copied_bare : (f : Fate) (none may : Bool) → copies f ≡ false → copies (settled f none may) ≡ true → settled f none may ≡ fate.Copied owner.None
copied_bare fate.Left none may e h = by (may && none) h
  where
    by : (b : Bool) → copies (if b then fate.Copied owner.None else fate.Left) ≡ true → (if b then fate.Copied owner.None else fate.Left) ≡ fate.Copied owner.None
    by true k = refl
    by false k = no_true k
copied_bare (fate.Stands n) none may e h = no_true h
copied_bare (fate.Copied home) none may e h = no_true (sym e)

copied_how : (f : Fate) (none may : Bool) → copies (settled f none may) ≡ true → (copies f ≡ true) ⊎ ((none ≡ true) × (may ≡ true))
copied_how x none may h = search std_rules

carried_how : (f : Fate) (none may : Bool) → carries (settled f none may) ≡ true → (carries f ≡ true) ⊎ ((none ≡ true) × (may ≡ true))
carried_how x none may h = search std_rules

module _ (adds : Bool) (types : List TypeDef) (fates : List Fate) (falls : FallBelow types) (long : length fates ≡ length types) where
  abbrev final : List Fate
  final = settled_from adds [] types fates

  -- A fate in the end is what it was at first, or that of a type without a name whose parts are carried.
  record IsHow (P : Fate → Bool) (n : ℕ) : Type 0 where
    def : TypeDef
    found : slice_get types n ≡ Some def
    first : Fate
    at_first : slice_get fates n ≡ Some first
    how : (P first ≡ true) ⊎ ((is_none def.name ≡ true) × (adds ≡ true) × (are_carried final (type_parts def) ≡ true))

  how_so : (P : Fate → Bool) → ((f : Fate) (none may : Bool) → P (settled f none may) ≡ true → (P f ≡ true) ⊎ ((none ≡ true) × (may ≡ true))) → (n : ℕ) (g : Fate) → slice_get final n ≡ Some g
      → P g ≡ true → IsHow P n
  how_so P settles n g at h =
      let passes = ap P (some_same (settled f.0 (is_none t.0.name) may) g (sym (settled_all adds types fates falls n t.0 f.0 t.1 f.1) ∙ at)) ∙ h in
      record { def = t.0; found = t.1; first = f.0; at_first = f.1; how = by (settles f.0 (is_none t.0.name) may passes) }
    where
      inside : n < length types
      inside = let less = slice_get_within final n g at in let same = settled_long adds types fates long in omega (arith, less, same)

      t : (t : TypeDef) × (slice_get types n ≡ Some t)
      t = within_there types n inside

      f : (f : Fate) × (slice_get fates n ≡ Some f)
      f = within_there fates n (omega (arith, inside, long))

      may : Bool
      may = adds && are_carried final (type_parts t.0)

      by : (P f.0 ≡ true) ⊎ ((is_none t.0.name ≡ true) × (may ≡ true)) → (P f.0 ≡ true) ⊎ ((is_none t.0.name ≡ true) × (adds ≡ true) × (are_carried final (type_parts t.0) ≡ true))
      by (inl e) = inl e
      by (inr (none, all)) = inr (none, left_of adds (are_carried final (type_parts t.0)) all, right_of adds (are_carried final (type_parts t.0)) all)

  module _ (Owner : TypeOwner → Type 0) (first : (n : ℕ) (t : TypeDef) (f : Fate) → slice_get types n ≡ Some t → slice_get fates n ≡ Some f → carries f ≡ true → Owner t.owner) where
    abbrev Made : ℕ → Type 0
    Made n = IsMadeOf types Owner n

    part_below : (n m : ℕ) (t : TypeDef) → slice_get types n ≡ Some t → Contains (type_parts t) m → m < n
    part_below n m t at held = ltb-true m n (all-contained (λ k. nat_lt k n) (type_parts t) m (falls n t at) held)

    made_so : (k n : ℕ) → n < suc k → ((m : ℕ) → m < k → is_carried final m ≡ true → Made m) → IsHow carries n → Made n
    made_so k n less rest h = by h.how
      where
        by : (carries h.first ≡ true) ⊎ ((is_none h.def.name ≡ true) × (adds ≡ true) × (are_carried final (type_parts h.def) ≡ true)) → Made n
        by (inl e) = owned (record { def = h.def; found = h.found; owned_so = first n h.def h.first h.found h.at_first e })
        by (inr (none, add, all)) =
            unnamed h.def h.found none (λ m held. rest m (let small = part_below n m h.def h.found held in omega (arith, small, less)) (all-contained (is_carried final) (type_parts h.def) m all held))

    -- what is carried is made of types of such owners
    made_below : (k n : ℕ) → n < k → is_carried final n ≡ true → Made n
    made_below zero n less h = absurd (omega (arith, less))
    made_below (suc k) n less h = let g = tested carries (slice_get final n) h in made_so k n less (made_below k) (how_so carries carried_how n g.0 g.1 g.2)

    ends_so : (Copied : ℕ → Type 0) → ((n : ℕ) (t : TypeDef) (f : Fate) → slice_get types n ≡ Some t → slice_get fates n ≡ Some f → copies f ≡ true → Copied n)
        → (n : ℕ) (g : Fate) → slice_get final n ≡ Some g → copies g ≡ true → IsHow copies n → Copied n ⊎ (IsMadeUp types Owner n × (slice_get final n ≡ Some (fate.Copied owner.None)))
    ends_so Copied begins n g at copy h = by h.how
      where
        may : Bool
        may = adds && are_carried final (type_parts h.def)

        there : slice_get final n ≡ Some (settled h.first (is_none h.def.name) may)
        there = settled_all adds types fates falls n h.def h.first h.found h.at_first

        copied : copies (settled h.first (is_none h.def.name) may) ≡ true
        copied = ap copies (some_same (settled h.first (is_none h.def.name) may) g (sym there ∙ at)) ∙ copy

        by : (copies h.first ≡ true) ⊎ ((is_none h.def.name ≡ true) × (adds ≡ true) × (are_carried final (type_parts h.def) ≡ true))
            → Copied n ⊎ (IsMadeUp types Owner n × (slice_get final n ≡ Some (fate.Copied owner.None)))
        by (inl e) = inl (begins n h.def h.first h.found h.at_first e)
        by (inr (none, add, all)) = by_test (copies h.first) (λ e. inl (begins n h.def h.first h.found h.at_first e)) (λ e. inr (
          record { def = h.def; found = h.found; nameless = none; parts = λ m held. made_below (suc m) m (omega arith) (all-contained (is_carried final) (type_parts h.def) m all held) },
          there ∙ ap Some (copied_bare h.first (is_none h.def.name) may e copied),
        ))

    -- what is copied was to be copied at first, or has neither name nor owner and is made of such types
    pub copied_so : (Copied : ℕ → Type 0) → ((n : ℕ) (t : TypeDef) (f : Fate) → slice_get types n ≡ Some t → slice_get fates n ≡ Some f → copies f ≡ true → Copied n)
        → (n : ℕ) → slice_get (map copies final) n ≡ Some true → Copied n ⊎ (IsMadeUp types Owner n × (slice_get final n ≡ Some (fate.Copied owner.None)))
    copied_so Copied begins n mark =
        let g = mapped copies (slice_get final n) true (sym (slice_get-map copies final n) ∙ mark) in
        ends_so Copied begins n g.0 g.1 g.2 (how_so copies copied_how n g.0 g.1 g.2)

-- ---- by path

module _ (own other : Resolve) (valid_other : IsValid other) (matched : List (Option InterfaceId)) (c : CarriedThings) (Copied Owner : TypeOwner → Type 0)
    (copied_interface : (id : InterfaceId) → flag_under c.copied_interfaces.items id.0 ≡ true → Copied (owner.Interface id))
    (copied_world : (id : WorldId) → flag_under c.copied_worlds.items id.0 ≡ true → Copied (owner.World id))
    (copied_owner : (o : TypeOwner) → Copied o → Owner o) (matched_owner : (id : InterfaceId) → is_matched matched id.0 ≡ true → Owner (owner.Interface id)) where
  named_matched : (n : ℕ) (name : Option Text) → carries (fate_named own matched n name) ≡ true → is_matched matched n ≡ true
  named_matched n x h = search std_rules

  begins_copied : (o : TypeOwner) (name : Option Text) → copies (fate_in own matched c o name) ≡ true → Copied o
  begins_copied x name h = grind (arith, no_true, named_no_copy)

  begins_carried : (o : TypeOwner) (name : Option Text) → carries (fate_in own matched c o name) ≡ true → Owner o
  begins_carried x name h = grind (arith, no_true, named_matched)

  abbrev initial : List Fate
  initial = map (fate_of own matched c) other.types.items

  initial_is : (n : ℕ) (t : TypeDef) (f : Fate) → slice_get other.types.items n ≡ Some t → slice_get initial n ≡ Some f → fate_of own matched c t ≡ f
  initial_is n t f at e = some_same (fate_of own matched c t) f (sym (slice_get-map (fate_of own matched c) other.types.items n ∙ ap (option_map (fate_of own matched c)) at) ∙ e)

  -- a type that is copied with what is carried by path, if all are copied that can be
  abbrev all : List Fate
  all = all_first_fates own other matched c

  all_first_comes : (n : ℕ) → slice_get (map copies all) n ≡ Some true → IsOwnedBy other.types.items Copied n
      ⊎ (IsMadeUp other.types.items Owner n × (slice_get all n ≡ Some (fate.Copied owner.None)))
  all_first_comes = copied_so (adds_any c) other.types.items initial (is_in_range other valid_other).falls (length-map other.types.items (fate_of own matched c)) Owner
      (λ n t f at e k. begins_carried t.owner (optional_text t.name) (ap carries (initial_is n t f at e) ∙ k)) (IsOwnedBy other.types.items Copied)
      (λ n t f at e k. record { def = t; found = at; owned_so = begins_copied t.owner (optional_text t.name) (ap copies (initial_is n t f at e) ∙ k) })

  -- and in the end: what comes names it, if it has no owner
  module _ (Calls : Function → Type 0) where
    abbrev Met : ℕ → Type 0
    Met n = IsMet other.types.items Calls (IsOwnedBy other.types.items Copied) n

    abbrev named : (f : Function) → Calls f → (n : ℕ) → Contains (function_numbers f) n → Met n
    named f come n held = by_function f come held

    module _ (interfaces_come : InterfacesCome Met Calls named c.copied_interfaces.items other.interfaces.items) (worlds_come : WorldsCome Met Calls named c.copied_worlds.items other.worlds.items) where
      pub first_comes : (n : ℕ) → slice_get (map copies (first_fates own other matched c)) n ≡ Some true → IsOwnedBy other.types.items Copied n ⊎ (IsMadeUp other.types.items Owner n × Met n)
      first_comes = copied_met other.types.items Calls (IsOwnedBy other.types.items Copied) Owner all (first_marks other c) all_first_comes
          (worlds_fit Met Calls named c.copied_worlds.items other.worlds.items (mark_interfaces none c.copied_interfaces.items other.interfaces.items)
          (interfaces_fit Met Calls named c.copied_interfaces.items other.interfaces.items none (none_fit Met (length other.types.items)) interfaces_come) worlds_come)
          (first_many other c ∙ sym (settled_long (adds_any c) other.types.items initial (length-map other.types.items (fate_of own matched c))))
        where
          none : List Bool
          none = replicate (length other.types.items) false

-- ---- with what the bound world gains

-- A new import of the other's bound world is the type of this number.
pub record IsNewImport (interfaces : List ℕ) (here es : List (WorldKey × WorldItem)) (n : ℕ) : Type 0 where
  pub entry : WorldKey × WorldItem
  pub held : Contains es entry
  pub is_type : item_type entry.1 ≡ Some n
  pub is_new : is_new_under interfaces here entry.0 ≡ true

module _ (own other : Resolve) (valid_own : IsValid own) (valid_other : IsValid other) (world other_world : ℕ) (w v : World) (at_v : world_at other other_world ≡ Some v)
    (agree : DoNotClash own other w v) (copied : List Bool) (interfaces : List ℕ) (before : TypeFates) (numbers : List ℕ) (long : length before ≡ length other.types.items)
    (numbers_long : length numbers ≡ length other.types.items) (Copied Owner : TypeOwner → Type 0) (copied_interface : (id : InterfaceId) → flag_under copied id.0 ≡ true → Copied (owner.Interface id))
    (copied_owner : (o : TypeOwner) → Copied o → Owner o) (named_owner : (id : InterfaceId) → is_named_at other id.0 ≡ true → Owner (owner.Interface id))
    (bound_owner : (id : WorldId) → id.0 ≡ other_world → Owner (owner.World id)) where
  abbrev types : List TypeDef
  types = other.types.items

  abbrev behind : List Fate
  behind = second_from other world other_world copied interfaces types before numbers

  abbrev at_first : List Fate
  at_first = unified w.imports.entries v.imports.entries behind

  -- a fate behind the first pass
  behind_is : (ts : List TypeDef) (fs : List Fate) (ns : List ℕ) (n : ℕ) (t : TypeDef) (g : Fate) → slice_get ts n ≡ Some t
      → slice_get (second_from other world other_world copied interfaces ts fs ns) n ≡ Some g
      → (f : Fate) × (k : ℕ) × (second_in other world other_world copied interfaces t.owner (beside_first f k) ≡ g)
  behind_is (u ∷ ts) (f ∷ fs) (k ∷ ns) zero t g at e = search std_rules
  behind_is (u ∷ ts) (f ∷ fs) (k ∷ ns) (suc n) t g at e = behind_is ts fs ns n t g at e
  behind_is _ _ _ n t g at e = let wrong : ⊥ = cc in absurd wrong

  long_behind : length behind ≡ length types
  long_behind = second_long other world other_world copied interfaces types before numbers long numbers_long

  -- what a fate is at first: what it is behind the first pass, or that of the own type under its key
  begins : (n : ℕ) (t : TypeDef) (f : Fate) → slice_get types n ≡ Some t → slice_get at_first n ≡ Some f
      → ((g : Fate) × (k : ℕ) × (second_in other world other_world copied interfaces t.owner (beside_first g k) ≡ f)) ⊎ IsUnified w.imports.entries v.imports.entries at_first n
  begins n t f at e =
      let g = within_there behind n (omega (arith, slice_get_within types n t at, long_behind)) in
      elim (unified_at w.imports.entries v.imports.entries behind n g.0 g.1) [
        | inl same ↦ let b = behind_is types before numbers n t g.0 at g.1 in inl (b.0, b.1, b.2 ∙ some_same g.0 f (sym same ∙ e))
        | inr u ↦ inr u
      ]

  stands_left : (k : ℕ) (f : Fate) → fate.Stands k ≡ f → copies f ≡ true → ⊥
  stands_left k f e h = no_true (ap copies e ∙ h)

  abbrev pub Gained : ℕ → Type 0
  Gained n = IsOwnedBy types Copied n ⊎ IsNewImport interfaces w.imports.entries v.imports.entries n

  -- a type of the bound world that is copied is a new import
  new_import : (n : ℕ) (t : TypeDef) (f : Fate) → slice_get types n ≡ Some t → t.owner ≡ as_world other_world → slice_get at_first n ≡ Some f → copies f ≡ true
      → IsNewImport interfaces w.imports.entries v.imports.entries n
  new_import n t f at home e copy =
      by_option t.name (λ q. let wrong : as_world other_world ≡ owner.None = sym home ∙ no_home other valid_other n t at (ap is_some q) in absurd cc) (λ s q.
      let x = type_imported other valid_other other_world v at_v n t at s q home in
      let id = number_type x.entry.1 n x.is_type in
      let place = contains-get v.imports.entries x.entry x.held in
      by_option (type_under_key w.imports.entries x.entry.0) (λ r. record {
        entry = x.entry;
        held = x.held;
        is_type = x.is_type;
        is_new = unmet_new own other valid_own valid_other other_world w v at_v agree interfaces x.entry x.held id.0 id.1 r;
      }) (λ mine r.
      let u = unified_set w.imports.entries v.imports.entries behind place.0 x.entry id.0 mine place.1 id.1 r (omega (arith, slice_get_within types n t at, id.2, long_behind)) in
      absurd (stands_left u.own.0 f (some_same (fate.Stands u.own.0) f (sym u.stands ∙ (ap (slice_get at_first) id.2 ∙ e))) copy)))

  gained_home : (n : ℕ) (t : TypeDef) (f : Fate) (o : TypeOwner) (g : Fate) (k : ℕ) → slice_get types n ≡ Some t → slice_get at_first n ≡ Some f → copies f ≡ true → t.owner ≡ o
      → second_in other world other_world copied interfaces o (beside_first g k) ≡ f → Gained n
  gained_home n t f owner.None g k at e copy home is = no_true (ap copies is ∙ copy)
  gained_home n t f (owner.World id) g k at e copy home is = by (id.0 == other_world) refl (fate.Copied _) (ap copies is ∙ copy)
    where
      by : (b : Bool) → (id.0 == other_world) ≡ b → (h : Fate) → copies (if b then h else fate.Left) ≡ true → Gained n
      by false q h r = no_true r
      by true q h r = inr (new_import n t f at (home ∙ ap (λ (m : ℕ). as_world m) (equal id.0 other_world q)) e copy)
  gained_home n t f (owner.Interface id) g k at e copy home is = search std_rules

  gained_copied : (n : ℕ) (t : TypeDef) (f : Fate) → slice_get types n ≡ Some t → slice_get at_first n ≡ Some f → copies f ≡ true → Gained n
  gained_copied n t f at e copy =
      elim (begins n t f at e) [ inl b ↦ gained_home n t f t.owner b.0 b.1 at e copy refl b.2 | inr u ↦ absurd (stands_left u.own.0 f (some_same (fate.Stands u.own.0) f (sym u.stands ∙ e)) copy) ]

  carried_home : (o : TypeOwner) (f g : Fate) (k : ℕ) → carries f ≡ true → second_in other world other_world copied interfaces o (beside_first g k) ≡ f → Owner o
  carried_home x f g k carry is = grind (arith, no_true, equal)

  gained_carried : (n : ℕ) (t : TypeDef) (f : Fate) → slice_get types n ≡ Some t → slice_get at_first n ≡ Some f → carries f ≡ true → Owner t.owner
  gained_carried n t f at e carry = elim (begins n t f at e) [
    | inl b ↦ carried_home t.owner f b.0 b.1 carry b.2
    | inr u ↦ let x = world_type other valid_other other_world v at_v u.entry.0 u.entry.1 (get-contains v.imports.entries u.place u.entry u.at_place) n
        (type_number u.entry.1 u.id u.is_type ∙ ap Some u.number) in
        subst Owner (sym (ap (λ (d : TypeDef). d.owner) (sym (some_same x.def t (sym x.found ∙ at))) ∙ x.home)) (bound_owner (record { 0 = other_world }) refl)
  ]

  -- a type that is copied with what the bound world gains, if all are copied that can be
  abbrev before_end : List Fate
  before_end = all_bound_fates other world other_world w v copied interfaces before numbers

  all_second_comes : (n : ℕ) → slice_get (map copies before_end) n ≡ Some true → Gained n ⊎ (IsMadeUp types Owner n × (slice_get before_end n ≡ Some (fate.Copied owner.None)))
  all_second_comes = copied_so (gains_any interfaces w v) types at_first (is_in_range other valid_other).falls (unified_long w.imports.entries v.imports.entries behind ∙ long_behind)
      Owner gained_carried Gained gained_copied

  -- and in the end: what is gained names it, if it has no owner
  module _ (Calls : Function → Type 0) where
    abbrev Shown : ℕ → Type 0
    Shown n = IsMet types Calls Gained n

    abbrev shown : (f : Function) → Calls f → (n : ℕ) → Contains (function_numbers f) n → Shown n
    shown f come n held = by_function f come held

    module _ (inline_come : InterfacesCome Shown Calls shown copied other.interfaces.items) (imports_come : NewCome Shown Calls shown interfaces w.imports.entries v.imports.entries)
        (exports_come : NewCome Shown Calls shown interfaces w.exports.entries v.exports.entries) where
      pub second_comes : (n : ℕ) → slice_get (map copies (bound_fates other world other_world w v copied interfaces before numbers)) n ≡ Some true → Gained n ⊎ (IsMadeUp types Owner n × Shown n)
      second_comes = copied_met types Calls Gained Owner before_end (gained_marks other copied interfaces w v) all_second_comes
          (new_fit Shown Calls shown interfaces w.exports.entries v.exports.entries imports
          (new_fit Shown Calls shown interfaces w.imports.entries v.imports.entries inline
          (interfaces_fit Shown Calls shown copied other.interfaces.items none (none_fit Shown (length types)) inline_come) imports_come) exports_come)
          (gained_many other copied interfaces w v ∙ sym (settled_long (gains_any interfaces w v) types at_first (unified_long w.imports.entries v.imports.entries behind ∙ long_behind)))
        where
          none : List Bool
          none = replicate (length types) false

          inline : List Bool
          inline = mark_interfaces none copied other.interfaces.items

          imports : List Bool
          imports = mark_new interfaces w.imports.entries inline v.imports.entries
