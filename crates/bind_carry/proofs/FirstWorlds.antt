-- Worlds that are copied: all that their items name is carried, so each is a copy as the laws on unions ask for it.
use Rattle.bind_meaning.proofs.Listed.{by_option}
use Rattle.bind_carry.proofs.CopiesPlaced.{by_either, by_test, copied_behind, copied_past, numbers_by_long, some_same}
use Rattle.bind_carry.proofs.FirstInterfaces.{excluded, home_number, world_functions, world_owned_copied}
use Rattle.bind_carry.proofs.FirstNumbers.{chosen_so, flag_within, interfaces_hold, interfaces_once, interfaces_rise, named_of_path, names, types_hold}
use Rattle.bind_carry.proofs.{FirstNumbers.types_rise, FirstNumbers.worlds_apart, FirstOfUnion.packages_hold, Joined.items_join, KeptPlaced.kept_here, KeysGained.is_key_carried, KeysGained.keys_apart, PassedTypes.copied_carried, Ranges.is_in_range, Ready.fates_long}
use Rattle.base_lemmas.proofs.{Bools.left_of as first_true, Bools.right_of as second_true, Elements.all_get as all_at, Lists.within_there, Numbers.equal}
use Rattle.base_lemmas.proofs.Numbers.{same-number}
use Rattle.bind_carry.specs.{CarriedParts.is_function_carried, Fates.copies, First.first_fates, First.flag_under, FirstPass.FirstIsCarried, FirstPass.FirstIsCopied, FirstPass.FirstWorldsAreCopied, FirstPass.IsFirstPass, Listed.type_named, Marked.AreChosen, Marked.is_shown_in, Marked.is_shown_of, Numbers.interface_number, Numbers.world_number, ReadyItems.AreReady, ReadyItems.IsItemReady, ReadyItems.IsKeyReady, Renumbered.first_of, Renumbered.is_matched, Whole.IsWorldCarried, Whole.kept}
use Rattle.bind_carry.specs.declared.{fate.Fate.Fate, plan.Carried.Carried}
use Rattle.bind_copy.specs.Copies.{AreNewCopied, number_under}
use Rattle.bind_match.specs.declared.matches.Matches.{Matches}
use Rattle.bind_union.proofs.{Homes.apart, Images.filter_map_none, Images.filter_map_some, Lists.no_true}
use Rattle.bind_union.specs.{Carried.IsCarried, Carried.Renumbering, Joined.Joined, Merged.AreCopies, Merged.BeginsWith, Merged.IsWorldCopy}
use Rattle.std.proofs.Common.{Bool, List, None, Option, Some, [], ap, append-nil, arith, cond, false, filter_map, is_some, length, map, not, option_to_list, refl, rules as std_rules, slice_get, subst, suc, sym, true, unwrap_or, zero, ℕ, ◌&&◌, ◌++◌, ◌+◌, ◌==◌, ◌||◌, ◌∙◌, ◌∷◌, ◌≡◌, ◌≤◌}
use Rattle.std.proofs.lemmas.{Bool.and_from as both, Bool.or_left, Bool.or_right, List.length-map, List.Sums.sum_by-append, List.Sums.sum_by-cons}
use Rattle.std.proofs.lemmas.Map.Keys.{any_passes_from_place as any_of_at}
use Rattle.std.specs.{List.IsDistinct, List.list_all, List.list_any, Map.keys_of, Option.option_eq, Option.option_map_or, Prelude.String, Prelude.count_by, Prelude.option_and_then, Prelude.sum_by, declared.alloc.Global.Global}
use Rattle.wit_model.proofs.{OnePath.found-in, OnePath.interface-passes, PartsLemmas.owner_same as owner_equal, ValidLemmas.world_passes}
use Rattle.wit_model.specs.{Lookup.interface_at, Lookup.package_at, Lookup.type_at, Lookup.world_at, Parts.same_owner, Rules.entries_in_range, Rules.key_in_range, Rules.package_number, Rules.passes, Rules.times_shown, Text.text_of, Uses.has, Uses.item_interface, Uses.items_of, Valid.IsValid, Valid.as_interface, Valid.as_world, Valid.is_place, Valid.item_function, Valid.key_eq, Valid.numbers_in_range, Valid.places, Valid.world_items, declared.model.Function.Function, declared.model.Interface.Interface}
use Rattle.wit_model.specs.Rules.{export_stands, import_stands, in_list, interface_is_listed, is_id, is_interface_key, is_world_name, item_in_range}
use Rattle.wit_model.specs.declared.model.{InterfaceId.InterfaceId, Resolve.Resolve, TypeDef.TypeDef, TypeId.TypeId, World.World, WorldItem.WorldItem}
use Rattle.wit_model.specs.declared.model.WorldKey.{WorldKey}
use Rattle.wit_model.specs.declared.model.WorldItem.TheVariants as item
use Rattle.wit_model.specs.declared.model.WorldKey.TheVariants as key

-- ---- What is copied by path stands behind own entries, and inline interfaces come with the world that shows them.

-- ---- how often worlds show an interface

module _ (n : ℕ) where
  abbrev pub count : List WorldItem → ℕ
  count is = count_by (λ i. is_id n (item_interface i)) is

  count_next : (i : WorldItem) (is : List WorldItem) → count (i ∷ is) ≡ cond (is_id n (item_interface i)) 1 0 + count is
  count_next i is = sum_by-cons (λ x. cond (is_id n (item_interface x)) 1 0) i is

  pub some_count : (is : List WorldItem) → has (filter_map item_interface is) n ≡ true → 1 ≤ count is
  some_count [] h = no_true h
  some_count (i ∷ is) h =
      let total = count_next i is in
      by_option (item_interface i) (λ e. let r = some_count is (sym (ap (λ ns. has ns n) (filter_map_none item_interface i is e)) ∙ h) in omega (arith, r, total))
      (λ m e. by_either (m == n) (has (filter_map item_interface is) n) (sym (ap (λ ns. has ns n) (filter_map_some item_interface i m is e)) ∙ h)
      (λ q. let one : ◌≡◌ {A = ℕ} (cond (is_id n (item_interface i)) 1 0) 1 = ap (λ b. cond b 1 0) (ap (is_id n) e ∙ q) in omega (arith, one, total))
      (λ q k. let r = some_count is k in omega (arith, r, total)))

  pub shown_count : (es : List (WorldKey × WorldItem)) → is_shown_in es n ≡ true → 1 ≤ count (map (λ (e : WorldKey × WorldItem). e.1) es)
  shown_count [] h = no_true h
  shown_count (e ∷ es) h =
      let total = count_next e.1 (map (λ (x : WorldKey × WorldItem). x.1) es) in
      by_either (is_id n (item_interface e.1)) (is_shown_in es n) h (λ q. let one : ◌≡◌ {A = ℕ} (cond (is_id n (item_interface e.1)) 1 0) 1 = ap (λ b. cond b 1 0) q in omega (arith, one, total))
      (λ q k. let r = shown_count es k in omega (arith, r, total))

-- ---- sums

pub sum_least : {X : Type 0} (f : X → ℕ) (xs : List X) (n : ℕ) (b : X) → slice_get xs n ≡ Some b → f b ≤ sum_by f xs
sum_least f [] n b at = let wrong : ⊥ = cc in absurd wrong
sum_least f (x ∷ xs) zero b at = let same : f x ≡ f b = ap f (some_same x b at) in let total = sum_by-cons f x xs in omega (arith, same, total)
sum_least f (x ∷ xs) (suc n) b at = let r = sum_least f xs n b at in let total = sum_by-cons f x xs in omega (arith, r, total)

sum_one : {X : Type 0} (f : X → ℕ) (xs : List X) (n : ℕ) (b : X) → slice_get xs n ≡ Some b → 1 ≤ f b → 1 ≤ sum_by f xs
sum_one f xs n b at q = let r = sum_least f xs n b at in omega (arith, q, r)

-- where two places hold something, the sum is two at least
pub sum_two : {X : Type 0} (f : X → ℕ) (xs : List X) (m n : ℕ) (a b : X) → slice_get xs m ≡ Some a → slice_get xs n ≡ Some b → 1 ≤ f a → 1 ≤ f b → (m ≡ n → ⊥) → 2 ≤ sum_by f xs
sum_two f [] m n a b at_a at_b p q apart = let wrong : ⊥ = cc in absurd wrong
sum_two f (x ∷ xs) zero zero a b at_a at_b p q apart = absurd (apart refl)
sum_two f (x ∷ xs) (suc m) (suc n) a b at_a at_b p q apart = let r = sum_two f xs m n a b at_a at_b p q (λ e. apart (ap suc e)) in let total = sum_by-cons f x xs in omega (arith, r, total)
sum_two f (x ∷ xs) _ _ a b at_a at_b p q apart = search (std_rules, some_same, sum_one, sum_by-cons)

-- ---- worlds that are copied

-- A world whose flag is set shows it.
record IsShownBy (flags : List Bool) (ws : List World) (m : ℕ) : Type 0 where
  place : ℕ
  world : World
  at_place : slice_get ws place ≡ Some world
  set : flag_under flags place ≡ true
  shows : (is_shown_in world.imports.entries m || is_shown_in world.exports.entries m) ≡ true

next_shows : (b : Bool) (bs : List Bool) (w : World) (ws : List World) (m : ℕ) → IsShownBy bs ws m → IsShownBy (b ∷ bs) (w ∷ ws) m
next_shows b bs w ws m r = record { place = suc r.place; world = r.world; at_place = r.at_place; set = r.set; shows = r.shows }

shown_by : (flags : List Bool) (ws : List World) (m : ℕ) → is_shown_of flags ws m ≡ true → IsShownBy flags ws m
shown_by (false ∷ bs) (w ∷ ws) m h = next_shows false bs w ws m (shown_by bs ws m h)
shown_by (true ∷ bs) (w ∷ ws) m h = by_either (is_shown_in w.imports.entries m || is_shown_in w.exports.entries m) (is_shown_of bs ws m) h
    (λ e. record { place = zero; world = w; at_place = refl; set = refl; shows = e }) (λ e k. next_shows true bs w ws m (shown_by bs ws m k))
shown_by _ _ m h = no_true h

pub count_front : (n : ℕ) (xs ys : List WorldItem)
    → count_by (λ i. is_id n (item_interface i)) (xs ++ ys) ≡ count_by (λ i. is_id n (item_interface i)) xs + count_by (λ i. is_id n (item_interface i)) ys
count_front n xs ys = sum_by-append (λ i. cond (is_id n (item_interface i)) 1 0) xs ys

-- so it counts
pub times_of : (w : World) (m : ℕ) → (is_shown_in w.imports.entries m || is_shown_in w.exports.entries m) ≡ true → 1 ≤ times_shown m w
times_of w m h =
    let split = count_front m (items w.imports.entries) (items w.exports.entries) in
    by_either (is_shown_in w.imports.entries m) (is_shown_in w.exports.entries m) h (λ e. let r = shown_count m w.imports.entries e in omega (arith, r, split))
    (λ e k. let r = shown_count m w.exports.entries k in omega (arith, r, split))
  where
    items : List (WorldKey × WorldItem) → List WorldItem
    items es = map (λ (e : WorldKey × WorldItem). e.1) es

module _ (r : Resolve) (valid : IsValid r) where
  -- an inline interface is shown once
  pub inline_once : (m : ℕ) (i : Interface) → interface_at r m ≡ Some i → i.name ≡ None → sum_by (times_shown m) r.worlds.items ≡ 1
  unfolding places
  inline_once m i at none =
      let same_home = list_all (λ w. (times_shown m w == 0) || option_eq (λ (a b : ℕ). a == b) (package_number w.«package») (package_number i.«package»)) r.worlds.items in
      let inline : Bool = (sum_by (times_shown m) r.worlds.items == 1) && same_home in
      let h = interface-passes places r valid.rules.places m i at in
      equal (sum_by (times_shown m) r.worlds.items) 1
      (first_true (sum_by (times_shown m) r.worlds.items == 1) same_home (of_none named inline i.name none (second_true (is_some i.«package») (option_map_or named i.name inline) h)))
    where
      named : String Global → Bool
      named name = option_map_or (λ p. interface_is_listed m (text_of name) p && not (is_world_name p (text_of name))) (option_and_then (package_at r) (package_number i.«package»)) true

      of_none : (f : String Global → Bool) (d : Bool) (o : Option (String Global)) → o ≡ None → option_map_or f o d ≡ true → d ≡ true
      of_none f d None e k = k
      of_none f d (Some s) e k = let wrong : ⊥ = cc in absurd wrong

  -- so by one world
  pub one_shows : (m : ℕ) (i : Interface) → interface_at r m ≡ Some i → i.name ≡ None → (a b : ℕ) (w v : World) → world_at r a ≡ Some w → world_at r b ≡ Some v → 1 ≤ times_shown m w
      → 1 ≤ times_shown m v → a ≡ b
  one_shows m i at none a b w v at_w at_v p q = grind (arith, inline_once, same-number, equal, sum_two)

-- ---- lists

-- what a thing whose flag is set passes, some that is kept passes
kept_any : {A : Type 0} (p : A → Bool) (flags : List Bool) (xs : List A) (n : ℕ) (x : A) → slice_get xs n ≡ Some x → flag_under flags n ≡ true → p x ≡ true → list_any p (kept flags xs) ≡ true
kept_any p (b ∷ bs) [] n x e set h = let wrong : ⊥ = cc in absurd wrong
kept_any p (true ∷ bs) (y ∷ ys) zero x e set h = let same : y ≡ x = ap (λ o. unwrap_or o y) e in or_left (p y) (list_any p (kept bs ys)) (ap p same ∙ h)
kept_any p (true ∷ bs) (y ∷ ys) (suc n) x e set h = or_right (p y) (list_any p (kept bs ys)) (kept_any p bs ys n x e set h)
kept_any p (false ∷ bs) (y ∷ ys) (suc n) x e set h = kept_any p bs ys n x e set h
kept_any p _ _ _ x e set h = no_true set

module _ (own other : Resolve) (valid : IsValid other) (matched : List (Option InterfaceId)) (c : Carried) (numbers : List ℕ)
    (chosen : AreChosen other matched c.copied_worlds.items c.copied_interfaces.items)
    (names : (n : ℕ) (def : TypeDef) (a : ℕ) (s : String Global) → type_at other n ≡ Some def → def.name ≡ Some s → def.owner ≡ as_interface a → is_matched matched a ≡ true → (id : TypeId)
    × (type_named own matched a (text_of s) ≡ Some id)) (n : ℕ) (w : World) (at : world_at other n ≡ Some w) (set : flag_under c.copied_worlds.items n ≡ true) where
  abbrev fates : List Fate
  fates = first_fates own other matched c

  abbrev f : Renumbering
  f = first_of matched c fates numbers

  abbrev is_shown : ℕ → Bool
  is_shown m = is_shown_in w.imports.entries m || is_shown_in w.exports.entries m

  abbrev function_ready : Function → Bool
  function_ready = is_function_carried f.carries_type

  -- ---- interfaces

  named_ready : (m : ℕ) (i : Interface) → interface_at other m ≡ Some i → is_some i.name ≡ true → f.carries_interface m ≡ true
  named_ready m i there named = ap (λ b. b || is_matched matched m) (chosen.named m i there named) ∙ excluded (is_matched matched m)

  interface_ready : (m : ℕ) (i : Interface) → interface_at other m ≡ Some i → is_shown m ≡ true → f.carries_interface m ≡ true
  interface_ready m i there shown = by_test (is_some i.name) (λ e. named_ready m i there e) (λ e.
      or_left (flag_under c.copied_interfaces.items m) (is_matched matched m)
      (chosen.inline m i there e ∙ kept_any (λ v. is_shown_in v.imports.entries m || is_shown_in v.exports.entries m) c.copied_worlds.items other.worlds.items n w at set shown))

  -- ---- entries

  key_ready : (k : WorldKey) → key_in_range other k ≡ true → ((id : InterfaceId) → k ≡ key.Interface id → passes (λ i. is_some i.name) (interface_at other id.0) ≡ true) → IsKeyReady f k
  key_ready x range named = search (std_rules, found-in, named_ready)

  item_ready : (i : WorldItem) → item_in_range other i ≡ true → ((id : TypeId) → i ≡ item.Type_ id → passes (λ def. same_owner def.owner (as_world n)) (type_at other id.0) ≡ true)
      → ((m : ℕ) → is_id m (item_interface i) ≡ true → is_shown m ≡ true) → list_all function_ready (option_to_list (item_function i)) ≡ true → IsItemReady f i
  item_ready (item.Interface id stability docs external_id) range owned shown functions = grind (arith, found-in, interface_ready, same-number)
  item_ready (item.Function g) range owned shown functions = first_true (function_ready g) true functions
  item_ready (item.Type_ id) range owned shown functions = search (std_rules, found-in, owner_equal, world_owned_copied, set)

  -- ---- imports and exports

  ranges : (entries_in_range other w.imports.entries && entries_in_range other w.exports.entries) ≡ true
  unfolding numbers_in_range
  ranges = second_true (passes (in_list other.packages.items) (package_number w.«package»)) (entries_in_range other w.imports.entries && entries_in_range other w.exports.entries)
      (second_true (is_place n) (passes (in_list other.packages.items) (package_number w.«package») && (entries_in_range other w.imports.entries && entries_in_range other w.exports.entries))
      (world_passes numbers_in_range other valid.rules.numbers_in_range n w at))

  stand : (list_all (λ (e : WorldKey × WorldItem). import_stands other n e.0 e.1) w.imports.entries && list_all (λ (e : WorldKey × WorldItem). export_stands other e.0 e.1) w.exports.entries) ≡ true
  unfolding world_items
  stand = world_passes world_items other valid.rules.world_items n w at

  abbrev item_passes : WorldKey × WorldItem → Bool
  item_passes e = list_all function_ready (option_to_list (item_function e.1))

  ready_functions : (list_all item_passes w.imports.entries && list_all item_passes w.exports.entries) ≡ true
  ready_functions = world_functions own other valid matched c numbers chosen names n w at set set

  interface_key_named : (k : ℕ) (i : WorldItem) → is_interface_key other k i ≡ true → passes (λ j. is_some j.name) (interface_at other k) ≡ true
  interface_key_named k i h = second_true (is_id k (item_interface i)) (passes (λ j. is_some j.name) (interface_at other k)) h

  import_owned : (k : WorldKey) (i : WorldItem) → import_stands other n k i ≡ true → (id : TypeId) → i ≡ item.Type_ id → passes (λ def. same_owner def.owner (as_world n)) (type_at other id.0) ≡ true
  import_owned k i h id e = search (std_rules, second_true, no_true)

  export_owned : (k : WorldKey) (i : WorldItem) → export_stands other k i ≡ true → (id : TypeId) → i ≡ item.Type_ id → passes (λ def. same_owner def.owner (as_world n)) (type_at other id.0) ≡ true
  export_owned k i h id e = search std_rules

  entry_ready : (es : List (WorldKey × WorldItem)) (k : ℕ) (e : WorldKey × WorldItem) → slice_get es k ≡ Some e → entries_in_range other es ≡ true → list_all item_passes es ≡ true
      → ((m : ℕ) → is_shown_in es m ≡ true → is_shown m ≡ true) → ((id : InterfaceId) → e.0 ≡ key.Interface id → passes (λ i. is_some i.name) (interface_at other id.0) ≡ true)
      → ((id : TypeId) → e.1 ≡ item.Type_ id → passes (λ def. same_owner def.owner (as_world n)) (type_at other id.0) ≡ true) → IsKeyReady f e.0 × IsItemReady f e.1
  entry_ready es k e there in_range passed shows named owned =
      let range = all_at (λ (x : WorldKey × WorldItem). key_in_range other x.0 && item_in_range other x.1) es k e in_range there in (
        key_ready e.0 (first_true (key_in_range other e.0) (item_in_range other e.1) range) named,
        item_ready e.1 (second_true (key_in_range other e.0) (item_in_range other e.1) range) owned
            (λ m h. shows m (any_of_at (λ (x : WorldKey × WorldItem). is_id m (item_interface x.1)) es k e there h)) (all_at item_passes es k e passed there),
      )

  pub import_ready : (k : ℕ) (e : WorldKey × WorldItem) → slice_get w.imports.entries k ≡ Some e → IsKeyReady f e.0 × IsItemReady f e.1
  import_ready k e there =
      let stands = all_at (λ (x : WorldKey × WorldItem). import_stands other n x.0 x.1) w.imports.entries k e
      (first_true (list_all (λ (x : WorldKey × WorldItem). import_stands other n x.0 x.1) w.imports.entries) (list_all (λ (x : WorldKey × WorldItem). export_stands other x.0 x.1) w.exports.entries)
      stand) there in
      entry_ready w.imports.entries k e there (first_true (entries_in_range other w.imports.entries) (entries_in_range other w.exports.entries) ranges)
      (first_true (list_all item_passes w.imports.entries) (list_all item_passes w.exports.entries) ready_functions) (λ m. or_left (is_shown_in w.imports.entries m) (is_shown_in w.exports.entries m))
      (λ id is. interface_key_named id.0 e.1 (sym (ap (λ x. import_stands other n x e.1) is) ∙ stands)) (import_owned e.0 e.1 stands)

  pub export_ready : (k : ℕ) (e : WorldKey × WorldItem) → slice_get w.exports.entries k ≡ Some e → IsKeyReady f e.0 × IsItemReady f e.1
  export_ready k e there =
      let stands = all_at (λ (x : WorldKey × WorldItem). export_stands other x.0 x.1) w.exports.entries k e
      (second_true (list_all (λ (x : WorldKey × WorldItem). import_stands other n x.0 x.1) w.imports.entries) (list_all (λ (x : WorldKey × WorldItem). export_stands other x.0 x.1) w.exports.entries)
      stand) there in
      entry_ready w.exports.entries k e there (second_true (entries_in_range other w.imports.entries) (entries_in_range other w.exports.entries) ranges)
      (second_true (list_all item_passes w.imports.entries) (list_all item_passes w.exports.entries) ready_functions)
      (λ m. or_right (is_shown_in w.imports.entries m) (is_shown_in w.exports.entries m)) (λ id is. interface_key_named id.0 e.1 (sym (ap (λ x. export_stands other x e.1) is) ∙ stands))
      (export_owned e.0 e.1 stands)

-- ---- keys and items that are ready

module _ (f : Renumbering) where
  key_test : (k : WorldKey) → IsKeyReady f k → is_key_carried f.carries_interface k ≡ true
  key_test x h = search std_rules

  -- keys of entries that are ready are carried
  pub keys_carried : (es : List (WorldKey × WorldItem)) → ((k : ℕ) (e : WorldKey × WorldItem) → slice_get es k ≡ Some e → IsKeyReady f e.0)
      → list_all (is_key_carried f.carries_interface) (keys_of es) ≡ true
  keys_carried [] ready = refl
  keys_carried (e ∷ es) ready = both (is_key_carried f.carries_interface e.0) (list_all (is_key_carried f.carries_interface) (keys_of es)) (key_test e.0 (ready zero e refl))
      (keys_carried es (λ k x at. ready (suc k) x at))

  -- where nothing was there, all entries are new
  pub all_new : (interfaces : List ℕ) (es : List (WorldKey × WorldItem)) → ((k : ℕ) (e : WorldKey × WorldItem) → slice_get es k ≡ Some e → IsKeyReady f e.0 × IsItemReady f e.1)
      → AreReady f interfaces [] es
  all_new interfaces es ready = search std_rules

-- ---- the whole

module _ (own other merged : Resolve) (m : Matches) (c : Carried) (numbers : List ℕ) (valid_own : IsValid own) (valid_other : IsValid other) (p : IsFirstPass own other merged m c numbers) where
  abbrev matched : List (Option InterfaceId)
  matched = m.interfaces.items

  abbrev path_fates : List Fate
  path_fates = first_fates own other matched c

  abbrev by_path : Renumbering
  by_path = first_of matched c path_fates numbers

  abbrev start : ℕ
  start = length own.types.items + length {A = TypeDef} []

  chosen : AreChosen other matched c.copied_worlds.items c.copied_interfaces.items
  chosen = chosen_so own other m c (is_in_range other valid_other) p.all p.numbered

  long : length c.copied_interfaces.items ≡ length matched
  long = p.numbered.interface_count ∙ sym p.all.interfaces

  long_worlds : length c.copied_worlds.items ≡ length m.worlds.items
  long_worlds = p.numbered.world_count ∙ sym p.all.worlds

  -- what the first pass carries is carried
  carried : IsCarried other merged by_path
  carried =
      let types_begin : BeginsWith own.types.items merged.types.items = (p.new_types ++ p.more_types, p.types_here) in
      let interfaces_begin : BeginsWith own.interfaces.items merged.interfaces.items = (p.new_interfaces ++ p.more_interfaces, p.interfaces_here) in
      let types_count = ap length p.types.numbers_are ∙ (numbers_by_long start path_fates ∙ fates_long own other m c) in
      record {
        packages = λ n old at. let x = packages_hold own other merged c m.packages.items p.by_name p.numbered.new_packages p.numbered.packages p.gains p.grown p.new_packages p.gained p.packages
            p.packages_here n old at in record { image = x.0; at_image = x.1; name = x.2 };
        types = types_hold own other valid_own valid_other matched c numbers chosen p.same p.none long p.numbered.interfaces start p.types.numbers_are merged types_begin interfaces_begin p.new_types
            p.more_types p.types p.types_here;
        interfaces = interfaces_hold own other valid_own valid_other matched c numbers chosen p.same p.none long p.numbered.interfaces start p.types.numbers_are merged types_begin interfaces_begin
            p.numbered.interface_count p.new_interfaces p.more_interfaces p.interfaces p.interfaces_here;
        copied_types = copied_carried path_fates;
        copied_interfaces = λ n h. or_left (flag_under c.copied_interfaces.items n) (is_matched matched n) h;
        types_rise = types_rise own other valid_own valid_other matched c numbers chosen p.same p.none long p.numbered.interfaces start p.types.numbers_are (omega arith) types_count;
        interfaces_rise = interfaces_rise own other valid_own valid_other matched c numbers chosen p.same p.none long p.numbered.interfaces start p.types.numbers_are;
        worlds_apart = worlds_apart (length own.worlds.items) c.copied_worlds.items m.worlds.items c.worlds.items long_worlds p.numbered.worlds;
      }

  -- its copies stand behind own entries, and inline interfaces come with the world that shows them
  all_copied : AreCopies own other merged by_path
  all_copied = record {
    carried = carried;
    new_types = types_behind;
    new_interfaces = λ n h. subst (λ l. length own.interfaces.items ≤ number_under l n) (sym p.numbered.interfaces)
        (copied_behind (length own.interfaces.items) c.copied_interfaces.items (map interface_number matched) n (long ∙ sym (length-map matched interface_number)) h);
    inline_copied = inline_copied;
    inline_shown = inline_shown;
  }
    where
      types_behind : (n : ℕ) → by_path.copies_type n ≡ true → length own.types.items ≤ number_under numbers n
      types_behind n h = omega (arith, copied_past start path_fates n h, ap (λ l. number_under l n) p.types.numbers_are)

      inline_copied : (n : ℕ) (i : Interface) → (flag_under c.copied_interfaces.items n || is_matched matched n) ≡ true → interface_at other n ≡ Some i → i.name ≡ None
          → flag_under c.copied_interfaces.items n ≡ true
      inline_copied n i carried at none = by_either (flag_under c.copied_interfaces.items n) (is_matched matched n) carried (λ e. e) (λ e k.
          let is = p.same n k in
          no_true (sym (ap is_some none) ∙ (ap (λ (x : Interface). is_some x.name) (sym (some_same is.old i (sym is.found ∙ at))) ∙ named_of_path other n is.old is.found is.has_path)))

      inline_shown : (n : ℕ) (i : Interface) (k : ℕ) (w : World) → flag_under c.copied_interfaces.items n ≡ true → interface_at other n ≡ Some i → i.name ≡ None → world_at other k ≡ Some w
          → has (filter_map item_interface (items_of w)) n ≡ true → flag_under c.copied_worlds.items k ≡ true
      inline_shown n i k w set at none at_w shows =
          let by = shown_by c.copied_worlds.items other.worlds.items n (sym (chosen.inline n i at (ap is_some none)) ∙ set) in
          let one : by.place ≡ k = one_shows other valid_other n i at none by.place k by.world w by.at_place at_w (times_of by.world n by.shows) (some_count n (items_of w) shows) in
          ap (flag_under c.copied_worlds.items) (sym one) ∙ by.set

  -- a world that is copied stands under its new number, entry by entry, behind own ones
  module _ (n : ℕ) (w : World) (at : world_at other n ≡ Some w) (set : flag_under c.copied_worlds.items n ≡ true) where
    types_named : (k : ℕ) (def : TypeDef) (a : ℕ) (s : String Global) → type_at other k ≡ Some def → def.name ≡ Some s → def.owner ≡ as_interface a → is_matched matched a ≡ true → (id : TypeId)
        × (type_named own matched a (text_of s) ≡ Some id)
    types_named = names own other valid_own valid_other matched c numbers chosen p.same p.none long p.numbered.interfaces start p.types.numbers_are

    -- entries whose keys are carried are joined to none
    entries_join : (es news : List (WorldKey × WorldItem)) → ((k : ℕ) (e : WorldKey × WorldItem) → slice_get es k ≡ Some e → IsKeyReady by_path e.0 × IsItemReady by_path e.1)
        → IsDistinct key_eq (keys_of es) → AreNewCopied c.interfaces.items numbers [] es news → Joined by_path [] es news
    entries_join es news ready apart copies = items_join by_path c.interfaces.items numbers (λ k h. refl) refl [] es news
        (copies (keys_apart c.interfaces.items by_path.carries_interface (interfaces_once own other valid_own valid_other matched c numbers chosen p.same p.none long p.numbered.interfaces start
        p.types.numbers_are) (keys_of es) (keys_carried by_path es (λ k e there. (ready k e there).0)) apart)) (all_new by_path c.interfaces.items es ready)

    world_copy : IsWorldCopy other merged by_path n
    world_copy =
        let place = kept_here (IsWorldCarried c numbers) c.copied_worlds.items (map world_number m.worlds.items) other.worlds.items p.new_worlds p.worlds
        (long_worlds ∙ sym (length-map m.worlds.items world_number)) (length own.worlds.items) p.own_worlds [] (sym p.own_count) c.worlds.items p.numbered.worlds merged.worlds.items
        (p.worlds_here ∙ ap (λ l. p.own_worlds ++ l) (sym (append-nil p.new_worlds))) n w set at in
        record {
          joined = record {
            old = w;
            found = at;
            carries = set;
            image = place.image;
            at_image = place.at_image;
            new_imports = place.image.imports.entries;
            imports = refl;
            joined_imports = entries_join w.imports.entries place.image.imports.entries (import_ready own other valid_other matched c numbers chosen types_named n w at set)
                (valid_other.distinct_keys.worlds n w at).0 place.is.imports;
            new_exports = place.image.exports.entries;
            exports = refl;
            joined_exports = entries_join w.exports.entries place.image.exports.entries (export_ready own other valid_other matched c numbers chosen types_named n w at set)
                (valid_other.distinct_keys.worlds n w at).1 place.is.exports;
          };
          name = place.is.name;
          stability = place.is.stability;
          in_package = ap package_number place.is.in_package ∙ home_number c.packages.items w.«package»;
        }

  worlds_copied : (n : ℕ) → flag_under c.copied_worlds.items n ≡ true → IsWorldCopy other merged by_path n × (length own.worlds.items ≤ number_under c.worlds.items n)
  worlds_copied n set =
      let there = within_there other.worlds.items n (omega (arith, flag_within c.copied_worlds.items n set, p.numbered.world_count)) in (
        world_copy n there.0 there.1 set,
        subst (λ l. length own.worlds.items ≤ number_under l n) (sym p.numbered.worlds)
            (copied_behind (length own.worlds.items) c.copied_worlds.items (map world_number m.worlds.items) n (long_worlds ∙ sym (length-map m.worlds.items world_number)) set),
      )

pub first_is_carried : FirstIsCarried
first_is_carried = carried

pub first_is_copied : FirstIsCopied
first_is_copied = all_copied

pub first_worlds_are_copied : FirstWorldsAreCopied
first_worlds_are_copied = worlds_copied
