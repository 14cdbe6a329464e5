-- Keys of the other's bound world stay apart under both numberings, and what is gained of them comes behind what was there.
use Rattle.base_lemmas.proofs.{Bools.left_of as first_true, Bools.right_of as second_true, Elements.contains-later}
use Rattle.bind_add.specs.declared.added.Added.{Added}
use Rattle.bind_carry.proofs.{CopiesPlaced.uncopied_under, FirstInterfaces.excluded, FirstNumbers.chosen_so, FirstNumbers.interfaces_once, InsertedBehind.new_behind, Ranges.is_in_range, Ranges.shown_below, Ready.interface_count, SecondInitial.gained_inline_alone, SecondInitial.gained_long, WorldEntries.export_keyed, WorldEntries.import_keyed}
use Rattle.bind_carry.specs.{BoundGains.AreKeysUnder, First.flag_under, First.is_named_at, InRange.IsInRange, Marked.AreChosen, Marked.is_inline_at, MatchedSame.AreMatchedAt, MatchedSame.NoneOfPath, Renumbered.is_matched, Shown.AreShownBelow, Union.IsUnionOf, Which.AreMatchedAll}
use Rattle.bind_carry.specs.declared.plan.Carried.{Carried}
use Rattle.bind_copy.proofs.{Copied.at_middle, Gained.same_images}
use Rattle.bind_copy.specs.Copies.{IsKeyUnder, become_one, number_under}
use Rattle.bind_match.specs.declared.matches.Matches.{Matches}
use Rattle.bind_union.proofs.Lists.{no_true}
use Rattle.indexmap.specs.{IndexMap.insert_all, IndexSet.insert_key}
use Rattle.std.proofs.Common.{Bool, List, Some, [], ap, append_assoc, arith, false, if◌then◌else◌, is_some, length, refl, rules as std_rules, subst, sym, true, ℕ, ◌++◌, ◌+◌, ◌||◌, ◌∙◌, ◌∷◌, ◌≡◌}
use Rattle.std.proofs.lemmas.{Bool.and_from as both, Bool.false_from_ne_true, List.Elements.AllZip-push}
use Rattle.std.specs.{List.AllByRecursion, List.AllZip, List.Contains, List.IsDistinct, List.list_all, List.list_any, Map.keys_of, Option.option_map_or}
use Rattle.wit_model.specs.{Lookup.interface_at, Lookup.world_at, Valid.IsValid, Valid.key_eq, declared.model.Interface.Interface}
use Rattle.wit_model.specs.declared.model.{InterfaceId.InterfaceId, Resolve.Resolve, TypeDef.TypeDef, World.World, WorldItem.WorldItem, WorldKey.WorldKey}
use Rattle.wit_model.specs.declared.model.WorldKey.TheVariants as key

-- ---- Keys that are put into a set one behind the other, under new numbers.

module _ (interfaces : List ℕ) where
  -- the keys in front of those that are left are in the set, in their order
  abbrev pub KeysSoFar : List (WorldKey × WorldItem) → List (WorldKey × WorldItem) → List WorldKey → Type 0
  KeysSoFar whole left done = IsDistinct (become_one interfaces) (keys_of whole) → (front : List WorldKey) × (front ++ keys_of left ≡ keys_of whole) × AllZip (IsKeyUnder interfaces) front done

  absent : (front done rest : List WorldKey) (k n : WorldKey) → IsKeyUnder interfaces k n → AllZip (IsKeyUnder interfaces) front done → IsDistinct (become_one interfaces) (front ++ k ∷ rest)
      → list_any (key_eq n) done ≡ false
  unfolding IsDistinct
  absent [] [] rest k n r zip d = refl
  absent (x ∷ xs) (u ∷ us) rest k n r zip d = search (std_rules, same_images interfaces x k u n zip.0 r, at_middle (become_one interfaces) x k xs rest d.0, absent xs us rest k n r zip.1 d.1)
  absent _ _ rest k n r zip d = absurd zip

  pub key_more : (whole left rest : List (WorldKey × WorldItem)) (done new : List WorldKey) (e : WorldKey × WorldItem) (n : WorldKey) → left ≡ e ∷ rest → IsKeyUnder interfaces e.0 n
      → new ≡ insert_key key_eq done n → KeysSoFar whole left done → KeysSoFar whole rest new
  key_more whole left rest done new e n step is added before apart =
      let so = before apart in
      let all : so.0 ++ e.0 ∷ keys_of rest ≡ keys_of whole = ap (λ l. so.0 ++ keys_of l) (sym step) ∙ so.1 in
      let none : list_any (key_eq n) done ≡ false = absent so.0 done (keys_of rest) e.0 n is so.2 (subst (IsDistinct (become_one interfaces)) (sym all) apart) in
      let last : new ≡ done ++ n ∷ [] = added ∙ ap (λ b. if b then done else done ++ n ∷ []) none in (
        so.0 ++ e.0 ∷ [],
        append_assoc so.0 (e.0 ∷ []) (keys_of rest) ∙ all,
        subst (AllZip (IsKeyUnder interfaces) (so.0 ++ e.0 ∷ [])) (sym last) (AllZip-push (IsKeyUnder interfaces) so.0 done e.0 n so.2 is),
      )

  pub keys_all : (whole left : List (WorldKey × WorldItem)) (done : List WorldKey) → left ≡ [] → KeysSoFar whole left done → AreKeysUnder interfaces whole done
  keys_all whole left done ended before apart = search std_rules

-- ---- Keys of a world stay apart under the new numbers of interfaces that are carried.

abbrev pub is_key_carried : (ℕ → Bool) → WorldKey → Bool
is_key_carried carried (key.Name name) = true
is_key_carried carried (key.Interface id) = carried id.0

module _ (numbers : List ℕ) (carried : ℕ → Bool) (once : (m n : ℕ) → carried m ≡ true → carried n ≡ true → number_under numbers m ≡ number_under numbers n → m ≡ n) where
  one_apart : (k y : WorldKey) → is_key_carried carried k ≡ true → is_key_carried carried y ≡ true → key_eq k y ≡ false → become_one numbers k y ≡ false
  one_apart x y c d h = search std_rules

  all_apart : (k : WorldKey) (ks : List WorldKey) → is_key_carried carried k ≡ true → list_all (is_key_carried carried) ks ≡ true → AllByRecursion (λ y. key_eq k y ≡ false) ks
      → AllByRecursion (λ y. become_one numbers k y ≡ false) ks
  all_apart k [] c d h = tt
  all_apart k (y ∷ ys) c d h = search (std_rules, one_apart, first_true, second_true, all_apart k ys c (second_true (is_key_carried carried y) (list_all (is_key_carried carried) ys) d) h.1)

  -- keys that differ don't become one
  pub keys_apart : (ks : List WorldKey) → list_all (is_key_carried carried) ks ≡ true → IsDistinct key_eq ks → IsDistinct (become_one numbers) ks
  unfolding IsDistinct
  keys_apart [] d h = tt
  keys_apart (k ∷ ks) d h = search (std_rules, all_apart, first_true, second_true, keys_apart ks (second_true (is_key_carried carried k) (list_all (is_key_carried carried) ks) d) h.1)

-- ---- Under both numberings the keys of the other's bound world stay apart, and what it brings comes behind what was there.

-- keys of a list whose interfaces pass
keys_pass : (p : ℕ → Bool) (es : List (WorldKey × WorldItem)) → ((e : WorldKey × WorldItem) → Contains es e → (id : InterfaceId) → e.0 ≡ key.Interface id → p id.0 ≡ true)
    → list_all (is_key_carried p) (keys_of es) ≡ true
keys_pass p [] each = refl
keys_pass p (e ∷ es) each = both (is_key_carried p e.0) (list_all (is_key_carried p) (keys_of es)) (one e.0 (each e (0, omega arith, refl)))
    (keys_pass p es (λ x held. each x (contains-later e es x held)))
  where
    one : (k : WorldKey) → ((id : InterfaceId) → k ≡ key.Interface id → p id.0 ≡ true) → is_key_carried p k ≡ true
    one (key.Name t) h = refl
    one (key.Interface id) h = h id refl

-- so keys of entries stay apart where the interfaces among them have names
pub entries_apart : (other : Resolve) (numbers : List ℕ) → ((j n : ℕ) → is_named_at other j ≡ true → is_named_at other n ≡ true → number_under numbers j ≡ number_under numbers n → j ≡ n)
    → (es : List (WorldKey × WorldItem))
    → ((e : WorldKey × WorldItem) → Contains es e → (id : InterfaceId) → e.0 ≡ key.Interface id → (i : Interface) × (interface_at other id.0 ≡ Some i) × (is_some i.name ≡ true))
    → IsDistinct key_eq (keys_of es) → IsDistinct (become_one numbers) (keys_of es)
entries_apart other numbers once es named distinct = keys_apart numbers (is_named_at other) once (keys_of es)
    (keys_pass (is_named_at other) es (λ e held id is. let k = named e held id is in ap (λ o. option_map_or (λ (j : Interface). is_some j.name) o false) k.1 ∙ k.2)) distinct

module _ (own other : Resolve) (valid_own : IsValid own) (valid_other : IsValid other) (world other_world : ℕ) (m : Matches) (w v : World) (added : Added) (keys : List WorldKey)
    (u : IsUnionOf own other world other_world m w v added keys) (at : world_at other other_world ≡ Some v) (all : AreMatchedAll other m)
    (same : AreMatchedAt own other m.interfaces.items u.carried.packages.items) (none : NoneOfPath own other m.interfaces.items) where
  abbrev c : Carried
  c = u.carried

  -- the numbers of interfaces by path, and in what is gained
  abbrev by_path : List ℕ
  by_path = c.interfaces.items

  abbrev in_gains : List ℕ
  in_gains = u.second.interfaces

  range : IsInRange other
  range = is_in_range other valid_other

  pub chosen : AreChosen other m.interfaces.items c.copied_worlds.items c.copied_interfaces.items
  chosen = chosen_so own other m c range all u.numbered

  imports_shown : AreShownBelow (length other.interfaces.items) v.imports.entries
  imports_shown = shown_below (length other.interfaces.items) (length other.types.items) v.imports.entries (range.imports other_world v at)

  exports_shown : AreShownBelow (length other.interfaces.items) v.exports.entries
  exports_shown = shown_below (length other.interfaces.items) (length other.types.items) v.exports.entries (range.exports other_world v at)

  copied_long : length u.second.copied ≡ length c.interfaces.items
  copied_long = ap length u.second.copied_are ∙ (gained_long other c.interfaces.items w v imports_shown exports_shown ∙ sym (interface_count own other m c range all u.numbered))

  -- ---- interfaces with a name

  not_inline : (n : ℕ) (i : Interface) → interface_at other n ≡ Some i → is_some i.name ≡ true → is_inline_at other n ≡ false
  not_inline n i there named = search std_rules

  named_stays : (n : ℕ) (i : Interface) → interface_at other n ≡ Some i → is_some i.name ≡ true → flag_under u.second.copied n ≡ false
  named_stays n i there named = false_from_ne_true (flag_under u.second.copied n) (λ e. no_true (sym (not_inline n i there named)
      ∙ gained_inline_alone other c.interfaces.items w v imports_shown exports_shown n (ap (λ (l : List Bool). flag_under l n) (sym u.second.copied_are) ∙ e)))

  -- one with a name has one number in both
  pub named_number : (n : ℕ) (i : Interface) → interface_at other n ≡ Some i → is_some i.name ≡ true → number_under in_gains n ≡ number_under by_path n
  named_number n i there named = search (std_rules, uncopied_under, copied_long, named_stays)

  -- and is carried
  pub named_carried : (n : ℕ) (i : Interface) → interface_at other n ≡ Some i → is_some i.name ≡ true → (flag_under c.copied_interfaces.items n || is_matched m.interfaces.items n) ≡ true
  named_carried n i there named = ap (λ b. b || is_matched m.interfaces.items n) (chosen.named n i there named) ∙ excluded (is_matched m.interfaces.items n)

  abbrev IsNamed : ℕ → Type 0
  IsNamed n = (i : Interface) × (interface_at other n ≡ Some i) × (is_some i.name ≡ true)

  is_named : (n : ℕ) → is_named_at other n ≡ true → IsNamed n
  is_named n h = search std_rules

  once : (j n : ℕ) → is_named_at other j ≡ true → is_named_at other n ≡ true → number_under by_path j ≡ number_under by_path n → j ≡ n
  once j n h k e =
      let a = is_named j h in
      let b = is_named n k in
      interfaces_once own other valid_own valid_other m.interfaces.items c u.types chosen same none (u.numbered.interface_count ∙ sym all.interfaces) u.numbered.interfaces
      (length own.types.items + length {A = TypeDef} [])
      u.types_copied.numbers_are
      j n (named_carried j a.0 a.1 a.2) (named_carried n b.0 b.1 b.2) e

  gained_once : (j n : ℕ) → is_named_at other j ≡ true → is_named_at other n ≡ true → number_under in_gains j ≡ number_under in_gains n → j ≡ n
  gained_once j n h k e = search (std_rules, is_named, once, named_number)

  -- ---- keys

  pub import_named : (e : WorldKey × WorldItem) → Contains v.imports.entries e → (id : InterfaceId) → e.0 ≡ key.Interface id → IsNamed id.0
  import_named e held id is = let k = import_keyed other valid_other other_world v at e held id is in (k.def, k.found, k.named)

  pub export_named : (e : WorldKey × WorldItem) → Contains v.exports.entries e → (id : InterfaceId) → e.0 ≡ key.Interface id → IsNamed id.0
  export_named e held id is = let k = export_keyed other valid_other other_world v at e held id is in (k.def, k.found, k.named)

  pub imports_apart : IsDistinct (become_one in_gains) (keys_of v.imports.entries)
  imports_apart = entries_apart other in_gains gained_once v.imports.entries import_named (valid_other.distinct_keys.worlds other_world v at).0

  pub exports_apart : IsDistinct (become_one in_gains) (keys_of v.exports.entries)
  exports_apart = entries_apart other in_gains gained_once v.exports.entries export_named (valid_other.distinct_keys.worlds other_world v at).1

  -- by path alone, of each world
  pub by_path_apart : (n : ℕ) (x : World) → world_at other n ≡ Some x → IsDistinct (become_one by_path) (keys_of x.imports.entries) × IsDistinct (become_one by_path) (keys_of x.exports.entries)
  by_path_apart n x there = (
    entries_apart other by_path once x.imports.entries (λ e held id is. let k = import_keyed other valid_other n x there e held id is in (k.def, k.found, k.named))
        (valid_other.distinct_keys.worlds n x there).0,
    entries_apart other by_path once x.exports.entries (λ e held id is. let k = export_keyed other valid_other n x there e held id is in (k.def, k.found, k.named))
        (valid_other.distinct_keys.worlds n x there).1,
  )

  -- ---- what is gained

  pub imports_behind : insert_all key_eq w.imports.entries added.imports.entries ≡ w.imports.entries ++ added.imports.entries
  imports_behind = new_behind in_gains u.second.types w.imports.entries v.imports.entries added.imports.entries imports_apart u.second.imports

  pub exports_behind : insert_all key_eq w.exports.entries added.exports.entries ≡ w.exports.entries ++ added.exports.entries
  exports_behind = new_behind in_gains u.second.types w.exports.entries v.exports.entries added.exports.entries exports_apart u.second.exports
