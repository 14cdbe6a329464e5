-- What is copied of interfaces: each stands under its new number, with its types and its functions.
use Rattle.bind_meaning.proofs.Listed.{by_option}
use Rattle.bind_carry.proofs.{CopiesPlaced.by_either, CopiesPlaced.by_test, SettledParts.copied_still, SettledParts.settled_long, SettledParts.stands_still, CopiesPlaced.some_same, Joined.function_copy, PartsCarried.has_home, PartsCarried.no_home}
use Rattle.bind_carry.proofs.PassedTypes.{carried_if, carried_within, copy_holds, fates_many, functions_hold, items_hold, parts_hold, stood_first}
use Rattle.bind_carry.proofs.Needed.{copied_kept, first_interface_marked, first_many, first_world_marked, function_marked, is_home, item_marked, stands_kept}
use Rattle.bind_union.proofs.WorldRules.{by_entries}
use Rattle.wit_model.specs.{Lookup.world_at, Valid.as_world, Valid.functions_of_interface, Valid.item_function, declared.model.World.World, declared.model.WorldItem.WorldItem, declared.model.WorldKey.WorldKey}
use Rattle.std.proofs.Common.{option_to_list, ◌<◌, ◌&&◌}
use Rattle.std.proofs.lemmas.Bool.{and_from as both}
use Rattle.base_lemmas.proofs.Bools.{left_of as first_true, right_of as second_true}
use Rattle.bind_carry.specs.{First.all_first_fates, First.first_marks, Needs.needed_of}
use Rattle.base_lemmas.proofs.{Bools.left_of as first_true, Bools.right_of as second_true, Lists.within_there, Numbers.equal, Numbers.same-number}
use Rattle.bind_carry.specs.{CarriedParts.PartsOfOwners, CarriedParts.is_function_carried, Fates.AreCopied, Fates.FallBelow, Fates.carries, Fates.copies, Fates.is_carried, First.adds_any, First.fate_beside, First.fate_in, First.fate_named, First.fate_of, First.first_fates, First.flag_under, Initial.IsInitial, Listed.type_named, Marked.AreChosen, Renumbered.first_of, Renumbered.is_copied, Renumbered.is_matched, Whole.home_under, declared.fate.Fate.Fate}
use Rattle.bind_carry.specs.declared.plan.Carried.{Carried}
use Rattle.bind_copy.specs.Copies.{IsFunctionEntry as IsEntryUnderNumbers, IsInterfaceUnder, number_under, type_names, type_names_under}
use Rattle.bind_union.proofs.{Carrying.references_of, Carrying.refers_below, Images.numbers_of_view, Lists.no_true}
use Rattle.bind_union.specs.Carried.{IsFunctionEntry, IsInterface, IsInterfaceCopy, IsType, Renumbering, carries_owner, copies_owner, owner_under}
use Rattle.indexmap.specs.IndexMap.{IsUnique, values}
use Rattle.std.proofs.Common.{Bool, List, Option, Some, [], ap, arith, false, if◌then◌else◌, is_some, length, map, nat_lt, not, option_map, refl, rules as std_rules, slice_get, suc, sym, true, ℕ, ◌++◌, ◌==◌, ◌||◌, ◌∙◌, ◌∷◌, ◌≡◌}
use Rattle.std.proofs.lemmas.{Bool.or_left, Bool.or_right, List.length-map, List.Folds.list_all-map, Option.slice_get-map}
use Rattle.std.specs.{List.AllZip, List.list_all, List.list_any, Option.option_map_or, Prelude.String, String.string_eq}
use Rattle.std.specs.declared.alloc.Global.{Global}
use Rattle.wit_model.proofs.Chains.{all_has as passes_at}
use Rattle.wit_model.specs.{Lookup.interface_at, Lookup.type_at, Parts.same_owner, Rules.interface_type_numbers, Rules.package_number, Text.Text, Text.optional_text, Text.text_of, Uses.has, Valid.IsValid, Valid.as_interface, declared.model.Function.Function}
use Rattle.wit_model.specs.declared.model.{Interface.Interface, InterfaceId.InterfaceId, PackageId.PackageId, Resolve.Resolve, TypeDef.TypeDef, TypeId.TypeId, TypeOwner.TypeOwner, WorldId.WorldId}
use Rattle.wit_model.specs.declared.model.TypeOwner.TheVariants as owner
use Rattle.bind_carry.specs.declared.fate.Fate.TheVariants as fate

-- ---- What becomes of types by path: each one that is carried has its image under its new number.

-- ---- tests

pub excluded : (m : Bool) → (not m || m) ≡ true
excluded x = search std_rules

any_at : (flags : List Bool) (n : ℕ) → flag_under flags n ≡ true → list_any (λ b. b) flags ≡ true
any_at (true ∷ bs) n h = refl
any_at (false ∷ bs) (suc n) h = any_at bs n h
any_at _ _ h = no_true h

pub named_no_copy : (own : Resolve) (matched : List (Option InterfaceId)) (a : ℕ) (o : Option Text) → copies (fate_named own matched a o) ≡ false
named_no_copy own matched a x = search std_rules

-- what is carried without a copy stands for an own type
pub beside_stands : (o : Option TypeId) → carries (fate_beside o) ≡ true → is_some o ≡ true
beside_stands x h = search std_rules

-- ---- what a fate by path says of the owner

module _ (own : Resolve) (matched : List (Option InterfaceId)) (c : Carried) (fates : List Fate) (numbers : List ℕ) (o : TypeOwner) (name : Option Text) where
  first_copies : (home : TypeOwner) → fate_in own matched c o name ≡ fate.Copied home
      → (home ≡ owner_under (first_of matched c fates numbers) o) × (copies_owner (first_of matched c fates numbers) o ≡ true) × (adds_any c ≡ true)
  first_copies home e = grind (arith, named_no_copy, any_at, or_left, or_right)

  first_carries : same_owner o owner.None ≡ false → ((a : ℕ) → o ≡ as_interface a → is_matched matched a ≡ true → carries (fate_named own matched a name) ≡ true)
      → carries_owner (first_of matched c fates numbers) o ≡ true → carries (fate_in own matched c o name) ≡ true
  first_carries some named h = grind (arith, no_true)

  first_stands : (k : ℕ) → fate_in own matched c o name ≡ fate.Stands k
      → (id : InterfaceId) × (o ≡ owner.Interface id) × (flag_under c.copied_interfaces.items id.0 ≡ false) × (is_matched matched id.0 ≡ true)
  first_stands k e = grind arith

module _ (own other : Resolve) (valid : IsValid other) (matched : List (Option InterfaceId)) (c : Carried) (numbers : List ℕ) (chosen : AreChosen other matched c.copied_worlds.items c.copied_interfaces.items) where
  abbrev fates : List Fate
  fates = first_fates own other matched c

  abbrev initial : List Fate
  initial = map (fate_of own matched c) other.types.items

  abbrev f : Renumbering
  f = first_of matched c fates numbers

  abbrev marks : List Bool
  marks = first_marks other c

  abbrev needs : List Bool
  needs = needed_of marks 0 other.types.items (all_first_fates own other matched c)

  falls : FallBelow other.types.items
  falls n def at = ap (list_all (λ m. nat_lt m n)) (numbers_of_view def.kind) ∙ refers_below other (references_of other valid.rules) n def at

  module _ (n : ℕ) (def : TypeDef) (at : type_at other n ≡ Some def) where
    initial_at : slice_get initial n ≡ Some (fate_of own matched c def)
    initial_at = slice_get-map (fate_of own matched c) other.types.items n ∙ ap (option_map (fate_of own matched c)) at

    -- the fate of a type of this owner
    fate_by : (o : TypeOwner) → def.owner ≡ o → fate_of own matched c def ≡ fate_in own matched c o (optional_text def.name)
    fate_by o e = ap (λ x. fate_in own matched c x (optional_text def.name)) e

    copied_if : (home : TypeOwner) → is_home home ≡ true → fate_of own matched c def ≡ fate.Copied home → slice_get fates n ≡ Some (fate.Copied home)
    copied_if home owned e = copied_kept needs (all_first_fates own other matched c) n home owned (copied_still (adds_any c) other.types.items initial falls n def at home (initial_at ∙ ap Some e))

    -- the home of a copy of a world's type, and of an interface's
    world_home : (id : WorldId) → def.owner ≡ owner.World id → flag_under c.copied_worlds.items id.0 ≡ true → fate_of own matched c def ≡ fate.Copied (owner_under f (owner.World id))
    world_home id e k = fate_by (owner.World id) e ∙ ap (λ b. if b then fate.Copied (owner_under f (owner.World id)) else fate.Left) k

    interface_home : (id : InterfaceId) → def.owner ≡ owner.Interface id → flag_under c.copied_interfaces.items id.0 ≡ true
        → fate_of own matched c def ≡ fate.Copied (owner_under f (owner.Interface id))
    interface_home id e k = fate_by (owner.Interface id) e ∙ ap (λ b. if b then fate.Copied (owner_under f (owner.Interface id)) else fate_named own matched id.0 (optional_text def.name)) k

    other_home : (id : InterfaceId) → def.owner ≡ owner.Interface id → flag_under c.copied_interfaces.items id.0 ≡ false
        → fate_of own matched c def ≡ fate_named own matched id.0 (optional_text def.name)
    other_home id e k = fate_by (owner.Interface id) e ∙ ap (λ b. if b then fate.Copied (owner_under f (owner.Interface id)) else fate_named own matched id.0 (optional_text def.name)) k

    -- a type of a matched interface stands for the own one of its name
    pub final_stands : (a : ℕ) → def.owner ≡ as_interface a → flag_under c.copied_interfaces.items a ≡ false → (s : String Global) → def.name ≡ Some s → (id : TypeId)
        → type_named own matched a (text_of s) ≡ Some id → slice_get fates n ≡ Some (fate.Stands id.0)
    final_stands a e k s q id there = stands_kept needs (all_first_fates own other matched c) n id.0 (stands_still (adds_any c) other.types.items initial falls n def at id.0
        (initial_at ∙ ap Some (other_home (record { 0 = a }) e k ∙ (ap (λ y. fate_named own matched a (optional_text y)) q ∙ ap fate_beside there))))

    -- a type of an interface that is copied is copied
    pub owned_copied : (a : ℕ) → def.owner ≡ as_interface a → flag_under c.copied_interfaces.items a ≡ true → is_copied fates n ≡ true
    owned_copied a e k = ap (λ o. option_map_or copies o false) (copied_if (owner_under f (owner.Interface (record { 0 = a }))) refl (interface_home (record { 0 = a }) e k))

    -- a type of a world that is copied is copied
    pub world_owned_copied : (id : WorldId) → def.owner ≡ owner.World id → flag_under c.copied_worlds.items id.0 ≡ true → is_copied fates n ≡ true
    world_owned_copied id e k = ap (λ o. option_map_or copies o false) (copied_if (owner_under f (owner.World id)) refl (world_home id e k))

  -- ---- named types of what is carried

  -- each type of a matched interface has an own one of its name, as equal senses show
  module _ (names : (n : ℕ) (def : TypeDef) (a : ℕ) (s : String Global) → type_at other n ≡ Some def → def.name ≡ Some s → def.owner ≡ as_interface a → is_matched matched a ≡ true → (id : TypeId) × (type_named own matched a (text_of s) ≡ Some id)) where
    pub adds_interface : (n : ℕ) → flag_under c.copied_interfaces.items n ≡ true → adds_any c ≡ true
    adds_interface n h = or_left (list_any (λ b. b) c.copied_interfaces.items) (list_any (λ b. b) c.copied_worlds.items) (any_at c.copied_interfaces.items n h)

    pub adds_world : (n : ℕ) → flag_under c.copied_worlds.items n ≡ true → adds_any c ≡ true
    adds_world n h = or_right (list_any (λ b. b) c.copied_interfaces.items) (list_any (λ b. b) c.copied_worlds.items) (any_at c.copied_worlds.items n h)

    named_first : (n : ℕ) (def : TypeDef) → type_at other n ≡ Some def → is_some def.name ≡ true → carries_owner f def.owner ≡ true → (g : Fate) × (slice_get initial n ≡ Some g) × (carries g ≡ true)
    named_first n def at named h = (
      fate_of own matched c def,
      initial_at n def at,
      first_carries own matched c fates numbers def.owner (optional_text def.name) (has_home other valid n def at named) (λ a home m.
          by_option def.name (λ q. no_true (sym (ap is_some q) ∙ named)) (λ s q.
          ap carries (ap (λ y. fate_named own matched a (optional_text y)) q ∙ ap fate_beside (names n def a s at q home m).1))) h,
    )

    homes_carried : (o : TypeOwner) → copies_owner f o ≡ true → carries_owner f o ≡ true
    homes_carried (owner.World id) h = h
    homes_carried (owner.Interface id) h = or_left (flag_under c.copied_interfaces.items id.0) (is_matched matched id.0) h
    homes_carried owner.None h = refl

    -- so the pass begins as it should
    starts : IsInitial other f (adds_any c) initial
    starts = record {
      long = length-map other.types.items (fate_of own matched c);
      unnamed = λ n def at e. initial_at n def at ∙ ap Some (fate_by n def at owner.None (no_home other valid n def at e));
      copied = λ n def home at named e. first_copies own matched c fates numbers def.owner (optional_text def.name) home (some_same _ _ (sym (initial_at n def at) ∙ e));
      carried = named_first;
      with_path = λ n i at named. ap (λ b. b || is_matched matched n) (chosen.named n i at named) ∙ excluded (is_matched matched n);
      homes = homes_carried;
    }

    pub named_carried : (n : ℕ) (def : TypeDef) → type_at other n ≡ Some def → is_some def.name ≡ true → carries_owner f def.owner ≡ true → is_carried fates n ≡ true
    named_carried n def at named h = let g = named_first n def at named h in carried_if other valid f (adds_any c) initial starts marks (first_many other c) n def g.0 at named g.1 g.2

    abbrev pub all : List Fate
    all = all_first_fates own other matched c

    pub parts_of : adds_any c ≡ true → PartsOfOwners other (is_carried all) (carries_owner f)
    parts_of = parts_hold other valid f (adds_any c) initial starts marks (first_many other c)

    pub all_within : (n : ℕ) → is_carried all n ≡ true → n < length other.types.items
    all_within n h =
        let less = carried_within all n h in
        let same = settled_long (adds_any c) other.types.items initial (length-map other.types.items (fate_of own matched c)) in
        omega (arith, less, same)

    -- functions whose types are marked
    pub functions_of : (gs : List Function) → list_all (is_function_carried (is_carried all)) gs ≡ true → list_all (function_marked marks) gs ≡ true
        → list_all (is_function_carried (is_carried fates)) gs ≡ true
    functions_of = functions_hold other valid f (adds_any c) initial starts marks (first_many other c)

    -- those of an interface that is copied
    pub interface_functions : (n : ℕ) (i : Interface) → interface_at other n ≡ Some i → flag_under c.copied_interfaces.items n ≡ true → carries_owner f (as_interface n) ≡ true
        → list_all (is_function_carried (is_carried fates)) (functions_of_interface i) ≡ true
    interface_functions n i at set h =
        let before = (parts_of (adds_interface n set)).of_interfaces n i at h in
        functions_of (functions_of_interface i) before (first_interface_marked (is_carried all) (length other.types.items) all_within other c refl n i at set before)

    abbrev item_holds : (ℕ → Bool) → WorldKey × WorldItem → Bool
    item_holds carried e = list_all (is_function_carried carried) (option_to_list (item_function e.1))

    -- and those of the items of a world
    pub world_functions : (n : ℕ) (w : World) → world_at other n ≡ Some w → flag_under c.copied_worlds.items n ≡ true → carries_owner f (as_world n) ≡ true
        → (list_all (item_holds (is_carried fates)) w.imports.entries && list_all (item_holds (is_carried fates)) w.exports.entries) ≡ true
    world_functions n w at set h =
        let before = sym (by_entries (is_function_carried (is_carried all)) w) ∙ (parts_of (adds_world n set)).of_worlds n w at h in
        let imports = first_true (list_all (item_holds (is_carried all)) w.imports.entries) (list_all (item_holds (is_carried all)) w.exports.entries) before in
        let exports = second_true (list_all (item_holds (is_carried all)) w.imports.entries) (list_all (item_holds (is_carried all)) w.exports.entries) before in
        let marked = first_world_marked (is_carried all) (length other.types.items) all_within other c refl n w at set imports exports in
        both (list_all (item_holds (is_carried fates)) w.imports.entries) (list_all (item_holds (is_carried fates)) w.exports.entries)
        (items_hold other valid f (adds_any c) initial starts marks (first_many other c) w.imports.entries imports
        (first_true (list_all (item_marked marks) w.imports.entries) (list_all (item_marked marks) w.exports.entries) marked))
        (items_hold other valid f (adds_any c) initial starts marks (first_many other c) w.exports.entries exports
        (second_true (list_all (item_marked marks) w.imports.entries) (list_all (item_marked marks) w.exports.entries) marked))

    -- ---- what stands for own types

    pub record StandsHere (n : ℕ) (def : TypeDef) : Type 0 where
      pub at_number : ℕ
      pub home : def.owner ≡ as_interface at_number
      pub named : is_some def.name ≡ true
      pub uncopied : flag_under c.copied_interfaces.items at_number ≡ false
      pub has_match : is_matched matched at_number ≡ true

    -- a type that is carried without a copy is a named one of a matched interface
    pub stood_how : (n : ℕ) (def : TypeDef) → type_at other n ≡ Some def → is_carried fates n ≡ true → is_copied fates n ≡ false → StandsHere n def
    stood_how n def at h bare =
        let stood = stood_first other valid f (adds_any c) initial starts marks (first_many other c) n def at h bare in
        let x = first_stands own matched c fates numbers def.owner (optional_text def.name) stood.1 (some_same _ _ (sym (initial_at n def at) ∙ stood.2)) in
        record { at_number = x.0.0; home = x.1; named = stood.0; uncopied = x.2; has_match = x.3 }

    -- ---- images

    module _ (merged : Resolve) (more rest : List TypeDef) (is : AreCopied (length own.types.items) numbers other.types.items fates [] more)
        (types_are : merged.types.items ≡ own.types.items ++ (more ++ rest))
        (stands : (n : ℕ) (def : TypeDef) (a : ℕ) → type_at other n ≡ Some def → is_some def.name ≡ true → def.owner ≡ as_interface a → is_matched matched a ≡ true
        → flag_under c.copied_interfaces.items a ≡ false → is_copied fates n ≡ false → IsType other merged f n) where
      -- each type that is carried stands under its new number
      pub first_types : (n : ℕ) → f.carries_type n ≡ true → IsType other merged f n
      first_types n h =
          let there = within_there other.types.items n (omega (
            arith,
            carried_within fates n h,
            fates_many other valid f (adds_any c) initial starts marks (first_many other c),
          )) in
          by_test (is_copied fates n) (λ e. copy_holds other valid f (adds_any c) initial starts marks (first_many other c) own merged numbers [] more rest is types_are refl refl n there.0 there.1 e)
          (λ e. let how = stood_how n there.0 there.1 h e in stands n there.0 how.at_number there.1 how.named how.home how.has_match how.uncopied e)

-- ---- Copies of interfaces: each stands under its new number, with its types and its functions.

-- ---- packages

-- the number of a package from now on
pub home_number : (packages : List ℕ) (home : Option PackageId) → package_number (home_under packages home) ≡ option_map (number_under packages) (package_number home)
home_number packages x = search std_rules

-- ---- types

-- numbers by names
numbers_by_name : (es : List (String Global × TypeId)) → map (λ (x : Text × ℕ). x.1) (type_names es) ≡ map (λ (id : TypeId). id.0) (map (λ (e : String Global × TypeId). e.1) es)
numbers_by_name [] = refl
numbers_by_name (e ∷ es) = ap (λ ns. e.1.0 ∷ ns) (numbers_by_name es)

numbers_under_name : (numbers : List ℕ) (es : List (String Global × TypeId))
    → map (λ (x : Text × ℕ). x.1) (type_names_under numbers es) ≡ map (number_under numbers) (map (λ (id : TypeId). id.0) (map (λ (e : String Global × TypeId). e.1) es))
numbers_under_name numbers [] = refl
numbers_under_name numbers (e ∷ es) = ap (λ ns. number_under numbers e.1.0 ∷ ns) (numbers_under_name numbers es)

-- the types of a copy are those of the other under their new numbers
type_numbers_under : (numbers : List ℕ) (old new : Interface) → type_names new.types.entries ≡ type_names_under numbers old.types.entries
    → interface_type_numbers new ≡ map (number_under numbers) (interface_type_numbers old)
type_numbers_under numbers old new same = search (std_rules, numbers_by_name, numbers_under_name)

-- ---- functions

module _ (f : Renumbering) (types : List ℕ) (by_type : number_under types ≡ f.types) where
  -- where all that they name is carried, functions under new numbers are copies
  functions_copy : (olds news : List (String Global × Function)) → AllZip (IsEntryUnderNumbers types) olds news
      → list_all (is_function_carried f.carries_type) (map (λ (e : String Global × Function). e.1) olds) ≡ true → AllZip (IsFunctionEntry f) olds news
  functions_copy [] [] zip ready = tt
  functions_copy (x ∷ xs) (y ∷ ys) zip ready = (
    (
      zip.0.0,
      function_copy f types by_type x.1 y.1 zip.0.1 (first_true (is_function_carried f.carries_type x.1)
          (list_all (is_function_carried f.carries_type) (map (λ (e : String Global × Function). e.1) xs)) ready),
    ),
    functions_copy xs ys zip.1 (second_true (is_function_carried f.carries_type x.1) (list_all (is_function_carried f.carries_type) (map (λ (e : String Global × Function). e.1) xs)) ready),
  )
  functions_copy _ _ zip ready = absurd zip

  -- an interface under new numbers is a copy
  interface_copy : (old new : Interface) (home : Option PackageId) → IsInterfaceUnder types home old new → IsUnique string_eq old.types → IsUnique string_eq old.functions
      → list_all (λ id. f.copies_type id.0) (values old.types) ≡ true → list_all (is_function_carried f.carries_type) (values old.functions) ≡ true → IsInterfaceCopy f old new
  interface_copy old new home is unique_types unique_functions copies ready = search (std_rules, functions_copy)

-- a number of a mapped list is that of one of the list
has_map : (g : ℕ → ℕ) (ns : List ℕ) (m : ℕ) → has (map g ns) m ≡ true → (k : ℕ) × (has ns k ≡ true) × (g k ≡ m)
has_map g [] m h = no_true h
has_map g (n ∷ ns) m h = by_either (g n == m) (has (map g ns) m) h (λ e. (n, ap (λ b. b || has ns n) (same-number n), equal (g n) m e))
    (λ e k. let r = has_map g ns m k in (r.0, or_right (n == r.0) (has ns r.0) r.1, r.2))

module _ (other merged : Resolve) (valid : IsValid other) (f : Renumbering) (types : List ℕ) (by_type : number_under types ≡ f.types) where
  -- an interface that is copied stands under its new number, with its types and its functions
  pub copy_stands : (n : ℕ) (i image : Interface) (home : Option PackageId) → interface_at other n ≡ Some i → interface_at merged (f.interfaces n) ≡ Some image → IsInterfaceUnder types home i image
      → (is_some i.name ≡ true → package_number image.«package» ≡ option_map f.packages (package_number i.«package»)) → list_all f.carries_type (interface_type_numbers i) ≡ true
      → list_all f.copies_type (interface_type_numbers i) ≡ true → list_all (is_function_carried f.carries_type) (values i.functions) ≡ true → IsInterface other merged f n
  copy_stands n i image home at at_image is in_package carried copied functions =
      let unique = valid.distinct_keys.interfaces n i at in
      let numbers = type_numbers_under types i image (is.types unique.0) ∙ ap (λ g. map g (interface_type_numbers i)) by_type in
      record {
        old = i;
        found = at;
        image = image;
        at_image = at_image;
        name = is.name;
        in_package = in_package;
        types = λ k h. let x = has_map f.types (interface_type_numbers i) k (sym (ap (λ ns. has ns k) numbers) ∙ h) in
            (x.0, x.1, passes_at f.carries_type (interface_type_numbers i) x.0 carried x.1, x.2);
        copied = λ h. interface_copy f types by_type i image home is unique.0 unique.1 (sym (list_all-map f.copies_type (λ (id : TypeId). id.0) (values i.types)) ∙ copied) functions;
      }
