-- Worlds that are carried by path have numbers of their own, and packages stand in packages of their names.
use Rattle.bind_carry.proofs.{CopiesPlaced.by_test, FirstInterfaces.interface_functions, FirstInterfaces.stood_how, KeptPlaced.kept_here, Marking.AreWorldsBelow}
use Rattle.base_lemmas.proofs.{Bools.left_of as first_true, Bools.right_of as second_true, Elements.all_two, Lists.within_there, Options.there as some_of}
pub use Rattle.bind_carry.proofs.CopiesPlaced.{uncopied_under}
use Rattle.bind_carry.proofs.CopiesPlaced.{copied_behind, fates_rise, numbers_by_long, stands_under}
use Rattle.bind_carry.proofs.FirstInterfaces.{copy_stands, excluded, final_stands, first_types, home_number, named_carried, owned_copied}
use Rattle.bind_carry.proofs.{Marking.are_chosen, PassedTypes.carried_within, Ranges.shown_below}
use Rattle.bind_carry.specs.{Fates.AreCopied, Fates.is_carried, Fates.numbers_by, First.first_fates, First.flag_under, InRange.IsInRange, Listed.given_interface, Listed.type_named, Marked.AreChosen, MatchedSame.AreMatchedAt, MatchedSame.IsMatchedAt, MatchedSame.NoneOfPath, Numbers.interface_number, Numbers.numbers_of, Numbers.world_number, Renumbered.first_of, Renumbered.is_copied, Renumbered.is_matched, Which.AreMatchedAll, Which.IsNumbered, Whole.IsInterfaceCarried, Whole.home_under, Whole.kept, declared.fate.Fate.Fate, declared.plan.Carried.Carried}
use Rattle.bind_copy.specs.Copies.{number_under}
use Rattle.bind_match.specs.declared.matches.Matches.{Matches}
use Rattle.bind_union.proofs.{Homes.apart, Listed.found_by_text, Listed.under_text, Lists.no_true, MatchedStand.matched_stand, MatchedStand.numbers_rise}
use Rattle.bind_union.proofs.Namesakes.{IsListedType, found_same, home_listed, listed_type, matches_are_namesakes, meaning_under, number_listed, numbers_are as numbers_are_of, under_contains}
use Rattle.bind_union.specs.{Carried.IsInterface, Carried.IsType, Carried.Renumbering, Carried.Rises, Carried.carries_owner, Matching.AreMatched, Matching.IsMatch, Matching.type_names, Merged.BeginsWith}
use Rattle.indexmap.specs.IndexMap.{values}
use Rattle.std.proofs.Common.{Bool, List, None, Option, Some, [], ap, arith, false, inl, inr, is_some, length, map, not, option_map, refl, rules as std_rules, slice_get, subst, suc, sym, true, unwrap_or, zero, ℕ, ◌&&◌, ◌++◌, ◌<◌, ◌||◌, ◌∙◌, ◌∷◌, ◌≡◌}
use Rattle.std.proofs.lemmas.{Bool.or_left, List.length-map, List.Folds.list_all-map, Option.slice_get_within}
use Rattle.std.specs.{HashMap.get_by_text, List.AllZip, List.Contains, List.list_all, Prelude.String, declared.alloc.Global.Global}
use Rattle.wit_model.proofs.{OnePath.found-in, OnePath.interface-passes, OnePath.path-once, PartsLemmas.owner_same as owner_equal}
use Rattle.wit_model.specs.{Lookup.interface_at, Lookup.interface_path, Lookup.type_at, Meaning.InterfaceSense, Meant.interface_meaning, Meant.type_meaning_at, Parts.same_owner, Rules.are_in_order, Rules.function_in_range, Rules.in_list, Rules.interface_type_numbers, Rules.is_named_of, Rules.package_number, Rules.passes, Text.Text, Text.optional_text, Text.text_of, Uses.has, Valid.IsValid, Valid.as_interface, Valid.is_place, Valid.numbers_in_range, Valid.order_of_types, declared.model.Interface.Interface}
use Rattle.wit_model.specs.declared.model.{InterfaceId.InterfaceId, Resolve.Resolve, TypeDef.TypeDef, TypeId.TypeId, WorldId.WorldId}

-- ---- What own interfaces of equal path and sense give: types of the same names, and what stands for what by path.

-- ---- own numbers

-- the own number of what is matched
pub matched_under : (matched : List (Option InterfaceId)) (n : ℕ) (id : InterfaceId) → given_interface (slice_get matched n) ≡ Some id → number_under (map interface_number matched) n ≡ id.0
matched_under [] n id h = let wrong : ⊥ = cc in absurd wrong
matched_under (m ∷ ms) zero id h = ap interface_number h
matched_under (m ∷ ms) (suc n) id h = matched_under ms n id h

pub flag_within : (flags : List Bool) (n : ℕ) → flag_under flags n ≡ true → n < length flags
flag_within [] n h = no_true h
flag_within (b ∷ bs) zero h = omega arith
flag_within (b ∷ bs) (suc n) h = let r = flag_within bs n h in omega (arith, r)

-- ---- types of the same names

module _ (own other : Resolve) (valid_other : IsValid other) (matched : List (Option InterfaceId)) (packages : List ℕ) (n : ℕ) (is : IsMatchedAt own other matched packages n) where
  -- an own type stands under each name
  name_there : (name : Text) (t : ℕ) → under_text name (type_names is.old) ≡ Some t → (id : TypeId) × (get_by_text is.image.types name ≡ Some id)
  name_there name t listed =
      let same = sym (meaning_under own is.image name) ∙ (found_same (interface_meaning own is.image).types (interface_meaning other is.old).types (ap (λ (s : InterfaceSense). s.types) is.sense) name
      ∙ (meaning_under other is.old name ∙ ap (option_map (type_meaning_at other)) listed)) in
      by (get_by_text is.image.types name) refl (given (under_text name (type_names is.image)) refl same)
    where
      given : (o : Option ℕ) → under_text name (type_names is.image) ≡ o → option_map (type_meaning_at own) o ≡ Some (type_meaning_at other t) → is_some (under_text name (type_names is.image)) ≡ true
      given None e h = let wrong : ⊥ = cc in absurd wrong
      given (Some k) e h = ap is_some e

      by : (o : Option TypeId) → get_by_text is.image.types name ≡ o → is_some (under_text name (type_names is.image)) ≡ true → (id : TypeId) × (get_by_text is.image.types name ≡ Some id)
      by None e h = no_true (ap (λ x. is_some (option_map (λ (id : TypeId). id.0) x)) (sym e) ∙ (ap is_some (found_by_text is.image name) ∙ h))
      by (Some id) e h = (id, e)

  -- so it is named as the code looks for it
  pub found_named : (name : Text) → type_named own matched n name ≡ get_by_text is.image.types name
  found_named name = search std_rules

  pub type_there : (t : ℕ) (def : TypeDef) (s : String Global) → type_at other t ≡ Some def → def.name ≡ Some s → def.owner ≡ as_interface n → (id : TypeId)
      × (type_named own matched n (text_of s) ≡ Some id)
  type_there t def s at named home =
      let x = name_there (text_of s) t (home_listed other valid_other t def at s named n home is.old is.found).0 in
      (x.0, found_named (text_of s) ∙ x.1)

-- ---- interfaces with a path

pub named_of_path : (r : Resolve) (n : ℕ) (i : Interface) → interface_at r n ≡ Some i → is_some (interface_path r n) ≡ true → is_some i.name ≡ true
named_of_path r n i at h = search std_rules

pub there_of_path : (r : Resolve) (n : ℕ) → is_some (interface_path r n) ≡ true → (i : Interface) × (interface_at r n ≡ Some i)
there_of_path r n h = search std_rules

-- ---- what stands for what

module _ (own other : Resolve) (valid_own : IsValid own) (valid_other : IsValid other) (matched : List (Option InterfaceId)) (c : Carried) (numbers : List ℕ)
    (chosen : AreChosen other matched c.copied_worlds.items c.copied_interfaces.items) (same : AreMatchedAt own other matched c.packages.items) (none : NoneOfPath own other matched)
    (long : length c.copied_interfaces.items ≡ length matched) (interfaces_are : c.interfaces.items ≡ numbers_of (length own.interfaces.items) c.copied_interfaces.items (map interface_number matched))
    (first : ℕ) (numbers_are : numbers ≡ numbers_by first (first_fates own other matched c)) where
  abbrev fates : List Fate
  fates = first_fates own other matched c

  abbrev f : Renumbering
  f = first_of matched c fates numbers

  -- each type of a matched interface has an own one of its name
  pub names : (n : ℕ) (def : TypeDef) (a : ℕ) (s : String Global) → type_at other n ≡ Some def → def.name ≡ Some s → def.owner ≡ as_interface a → is_matched matched a ≡ true → (id : TypeId)
      × (type_named own matched a (text_of s) ≡ Some id)
  names n def a s at named home h = type_there own other valid_other matched c.packages.items a (same a h) n def s at named home

  -- what is matched isn't copied
  pub uncopied : (n : ℕ) → is_matched matched n ≡ true → flag_under c.copied_interfaces.items n ≡ false
  uncopied n h = let m = same n h in chosen.named n m.old m.found (named_of_path other n m.old m.found m.has_path) ∙ ap not h

  pub interface_is : (n : ℕ) (h : is_matched matched n ≡ true) → f.interfaces n ≡ (same n h).id.0
  interface_is n h = ap (λ l. number_under l n) interfaces_are ∙ (uncopied_under (length own.interfaces.items) c.copied_interfaces.items (map interface_number matched) n
      (long ∙ sym (length-map matched interface_number)) (uncopied n h) ∙ matched_under matched n (same n h).id (same n h).given)

  type_by_name : (n : ℕ) (h : is_matched matched n ≡ true) (name : Text) (t : ℕ) → Contains (type_names (same n h).old) (name, t) → Contains (type_names (same n h).image) (name, f.types t)
  type_by_name n h name t contained = go x.def.name refl x.name_is
    where
      m : IsMatchedAt own other matched c.packages.items n
      m = same n h

      x : IsListedType other valid_other n m.old name t
      x = listed_type other valid_other n m.old m.found name t contained

      go : (o : Option (String Global)) → x.def.name ≡ o → optional_text o ≡ Some name → Contains (type_names m.image) (name, f.types t)
      go None e k = let wrong : ⊥ = cc in absurd wrong
      go (Some s) e k =
          let y = names t x.def n s x.found e x.home h in
          subst (λ (k : ℕ). Contains (type_names m.image) (name, k)) (sym (ap (λ l. number_under l t) numbers_are
          ∙ stands_under first fates t y.0.0 (final_stands own other valid_other matched c numbers chosen t x.def x.found n x.home (uncopied n h) s e y.0 y.1)))
          (subst (λ (q : Text). Contains (type_names m.image) (q, y.0.0)) (ap (λ o. unwrap_or o (text_of s)) k)
          (under_contains (text_of s) (type_names m.image) y.0.0 (sym (found_by_text m.image (text_of s))
          ∙ ap (option_map (λ (id : TypeId). id.0)) (sym (found_named own other valid_other matched c.packages.items n m (text_of s)) ∙ y.1))))

  pub is_match : (n : ℕ) → is_matched matched n ≡ true → IsMatch own other f.interfaces f.types n
  is_match n h = let m = same n h in record {
    old = m.old;
    found = m.found;
    image = m.image;
    at_image = ap (interface_at own) (interface_is n h) ∙ m.at_image;
    has_path = m.has_path;
    path = ap (interface_path own) (interface_is n h) ∙ m.path;
    sense = m.sense;
    by_name = type_by_name n h;
  }

  pub are_matched : AreMatched own other f.interfaces f.types
  are_matched n path = by_test (is_matched matched n) (λ h. inl (is_match n h)) (λ h. inr (λ m e. none n m h path e))

  -- ---- what is carried of interfaces

  path_carried : (n : ℕ) → is_some (interface_path other n) ≡ true → f.carries_interface n ≡ true
  path_carried n path = let i = there_of_path other n path in ap (λ b. b || is_matched matched n) (chosen.named n i.0 i.1 (named_of_path other n i.0 i.1 path)) ∙ excluded (is_matched matched n)

  -- all types of an interface are named ones of it
  pub types_are : (n : ℕ) (i : Interface) → interface_at other n ≡ Some i → (p : ℕ → Bool)
      → ((t : ℕ) (def : TypeDef) → type_at other t ≡ Some def → is_some def.name ≡ true → def.owner ≡ as_interface n → p t ≡ true) → list_all p (interface_type_numbers i) ≡ true
  unfolding order_of_types numbers_in_range
  types_are n i at p each =
      let all = interface-passes numbers_in_range other valid_other.rules.numbers_in_range n i at in
      let range = list_all-map (in_list other.types.items) (λ (id : TypeId). id.0) (values i.types)
      ∙ first_true (list_all (λ id. in_list other.types.items id.0) (values i.types)) (list_all (function_in_range other) (values i.functions))
      (second_true (passes (in_list other.packages.items) (package_number i.«package»))
      (list_all (λ id. in_list other.types.items id.0) (values i.types) && list_all (function_in_range other) (values i.functions))
      (second_true (is_place n) (passes (in_list other.packages.items) (package_number i.«package»)
      && (list_all (λ id. in_list other.types.items id.0) (values i.types) && list_all (function_in_range other) (values i.functions))) all)) in
      let named = first_true (list_all (is_named_of other (as_interface n)) (interface_type_numbers i)) (are_in_order other (interface_type_numbers i))
      (interface-passes order_of_types other valid_other.rules.order_of_types n i at) in
      all_two (in_list other.types.items) (is_named_of other (as_interface n)) p one (interface_type_numbers i) range named
    where
      one : (t : ℕ) → in_list other.types.items t ≡ true → is_named_of other (as_interface n) t ≡ true → p t ≡ true
      one t inside is =
          let d = found-in other.types.items t inside in
          let both_ : (is_some d.0.name && same_owner d.0.owner (as_interface n)) ≡ true = sym (ap (passes (λ def. is_some def.name && same_owner def.owner (as_interface n))) d.1) ∙ is in
          each t d.0 d.1 (first_true (is_some d.0.name) (same_owner d.0.owner (as_interface n)) both_)
          (owner_equal d.0.owner (as_interface n) (second_true (is_some d.0.name) (same_owner d.0.owner (as_interface n)) both_))

  pub types_carried : (n : ℕ) (i : Interface) → f.carries_interface n ≡ true → interface_at other n ≡ Some i → list_all f.carries_type (interface_type_numbers i) ≡ true
  types_carried n i carried at = types_are n i at f.carries_type (λ t def found named home. named_carried own other valid_other matched c numbers chosen names t def found named
      (ap (carries_owner f) home ∙ carried))

  pub types_copied : (n : ℕ) (i : Interface) → flag_under c.copied_interfaces.items n ≡ true → interface_at other n ≡ Some i → list_all f.copies_type (interface_type_numbers i) ≡ true
  types_copied n i set at = types_are n i at f.copies_type (λ t def found named home. owned_copied own other valid_other matched c numbers chosen t def found n home set)

  -- a type of a matched interface is in the other's list of it
  type_listed : (n : ℕ) (def : TypeDef) (a : ℕ) → type_at other n ≡ Some def → is_some def.name ≡ true → def.owner ≡ as_interface a → (h : is_matched matched a ≡ true)
      → has (interface_type_numbers (same a h).old) n ≡ true
  type_listed n def a at named home h = go def.name refl named
    where
      m : IsMatchedAt own other matched c.packages.items a
      m = same a h

      go : (o : Option (String Global)) → def.name ≡ o → is_some o ≡ true → has (interface_type_numbers m.old) n ≡ true
      go None e q = no_true q
      go (Some s) e q =
          let x = home_listed other valid_other n def at s e a home m.old m.found in
          ap (λ ns. has ns n) (numbers_are_of m.old) ∙ number_listed (type_names m.old) (text_of s) n (under_contains (text_of s) (type_names m.old) n x.0)

  -- a type that is carried without a copy has an own number
  pub type_low : (n : ℕ) (def : TypeDef) → type_at other n ≡ Some def → is_carried fates n ≡ true → is_copied fates n ≡ false → f.types n < length own.types.items
  unfolding is_match
  type_low n def at h bare =
      let how = stood_how own other valid_other matched c numbers chosen names n def at h bare in
      let listed = type_listed n def how.at_number at how.named how.home how.has_match in
      let x = matches_are_namesakes own other f.interfaces f.types valid_own valid_other are_matched how.at_number (is_match how.at_number how.has_match) n listed in
      slice_get_within own.types.items (f.types n) x.image x.at_image

  -- ---- in what begins with own lists

  module _ (merged : Resolve) (types_begin : BeginsWith own.types.items merged.types.items) (interfaces_begin : BeginsWith own.interfaces.items merged.interfaces.items) where
    matched_here : (n : ℕ) (h : is_matched matched n ≡ true) → IsInterface other merged f n
        × ((t : ℕ) → has (interface_type_numbers (same n h).old) t ≡ true → f.copies_type t ≡ false → IsType other merged f t)
    unfolding is_match
    matched_here n h = matched_stand own other merged f valid_own valid_other types_begin interfaces_begin are_matched path_carried types_carried n (is_match n h) (uncopied n h) (same n h).name
        (same n h).in_package

    -- a matched interface stands for the other
    pub interface_stands : (n : ℕ) → is_matched matched n ≡ true → IsInterface other merged f n
    interface_stands n h = (matched_here n h).0

    -- and its types for the other's
    pub type_stands : (n : ℕ) (def : TypeDef) (a : ℕ) → type_at other n ≡ Some def → is_some def.name ≡ true → def.owner ≡ as_interface a → is_matched matched a ≡ true
        → flag_under c.copied_interfaces.items a ≡ false → is_copied fates n ≡ false → IsType other merged f n
    type_stands n def a at named home h k bare = (matched_here a h).1 n (type_listed n def a at named home h) bare

    -- so each type that is carried stands under its new number
    pub types_hold : (more rest : List TypeDef) → AreCopied (length own.types.items) numbers other.types.items fates [] more → merged.types.items ≡ own.types.items ++ (more ++ rest) → (n : ℕ)
        → f.carries_type n ≡ true → IsType other merged f n
    types_hold more rest is types_are = first_types own other valid_other matched c numbers chosen names merged more rest is types_are type_stands

  -- ---- interfaces

  module _ (merged : Resolve) (types_begin : BeginsWith own.types.items merged.types.items) (interfaces_begin : BeginsWith own.interfaces.items merged.interfaces.items)
      (count : length c.copied_interfaces.items ≡ length other.interfaces.items)
      (more rest : List Interface) (copies : AllZip (IsInterfaceCarried c numbers) (kept c.copied_interfaces.items other.interfaces.items) more)
      (interfaces_here : merged.interfaces.items ≡ own.interfaces.items ++ (more ++ rest)) where
    copy_interface : (n : ℕ) (i : Interface) → interface_at other n ≡ Some i → flag_under c.copied_interfaces.items n ≡ true → IsInterface other merged f n
    copy_interface n i at set =
        let place = kept_here (IsInterfaceCarried c numbers) c.copied_interfaces.items (map interface_number matched) other.interfaces.items more copies
        (long ∙ sym (length-map matched interface_number))
        (length own.interfaces.items) own.interfaces.items rest refl c.interfaces.items interfaces_are merged.interfaces.items interfaces_here n i set at in
        let carried = or_left (flag_under c.copied_interfaces.items n) (is_matched matched n) set in
        copy_stands other merged valid_other f numbers refl n i place.image (home_under c.packages.items i.«package») at place.at_image place.is
        (λ h. ap package_number place.is.in_package ∙ home_number c.packages.items i.«package») (types_carried n i carried at) (types_copied n i set at)
        (interface_functions own other valid_other matched c numbers chosen names n i at set carried)

    -- each interface that is carried stands under its new number
    pub interfaces_hold : (n : ℕ) → f.carries_interface n ≡ true → IsInterface other merged f n
    interfaces_hold n h = by_test (flag_under c.copied_interfaces.items n) (λ e.
        let i = within_there other.interfaces.items n (omega (arith, flag_within c.copied_interfaces.items n e, count)) in
        copy_interface n i.0 i.1 e) (λ e. interface_stands merged types_begin interfaces_begin n (sym (ap (λ b. b || is_matched matched n) e) ∙ h))

  -- ---- numbers

  -- copies of interfaces stand behind what is carried before them, and behind own ones
  pub interfaces_rise : Rises f.interfaces f.carries_interface f.copies_interface
  interfaces_rise = subst (λ l. Rises (number_under l) f.carries_interface f.copies_interface) (sym interfaces_are)
      (numbers_rise (length own.interfaces.items) c.copied_interfaces.items (map interface_number matched) f.carries_interface (length-map matched interface_number ∙ sym long) low)
    where
      low : (n : ℕ) → f.carries_interface n ≡ true → flag_under c.copied_interfaces.items n ≡ false
          → number_under (numbers_of (length own.interfaces.items) c.copied_interfaces.items (map interface_number matched)) n < length own.interfaces.items
      low n h e =
          let k : is_matched matched n ≡ true = sym (ap (λ b. b || is_matched matched n) e) ∙ h in
          let m = same n k in
          let number = sym (ap (λ l. number_under l n) interfaces_are) ∙ interface_is n k in
          subst (λ (x : ℕ). x < length own.interfaces.items) (sym number) (slice_get_within own.interfaces.items m.id.0 m.image m.at_image)

  -- no two interfaces that are carried have one number
  pub interfaces_once : (m n : ℕ) → f.carries_interface m ≡ true → f.carries_interface n ≡ true → f.interfaces m ≡ f.interfaces n → m ≡ n
  interfaces_once m n h k e = go (f.copies_interface m) refl (f.copies_interface n) refl
    where
      carried : (x : ℕ) → f.copies_interface x ≡ true → f.carries_interface x ≡ true
      carried x set = or_left (flag_under c.copied_interfaces.items x) (is_matched matched x) set

      is_match_of : (x : ℕ) → f.carries_interface x ≡ true → f.copies_interface x ≡ false → is_matched matched x ≡ true
      is_match_of x h e = sym (ap (λ b. b || is_matched matched x) e) ∙ h

      number : (x : ℕ) (h : is_matched matched x ≡ true) → f.interfaces x ≡ (same x h).id.0
      number x h = interface_is x h

      both_matched : is_matched matched m ≡ true → is_matched matched n ≡ true → m ≡ n
      both_matched p q =
          let one = same m p in
          let path = some_of (interface_path other m) one.has_path in
          path-once other valid_other m n path.0 path.1 (sym (same n q).path ∙ (ap (interface_path own) (sym (sym (number m p) ∙ (e ∙ number n q))) ∙ (one.path ∙ path.1)))

      go : (x : Bool) → f.copies_interface m ≡ x → (y : Bool) → f.copies_interface n ≡ y → m ≡ n
      go x p true q = apart f.interfaces f.carries_interface f.copies_interface interfaces_rise carried m n h q e
      go true p false q = sym (apart f.interfaces f.carries_interface f.copies_interface interfaces_rise carried n m k p (sym e))
      go false p false q = both_matched (is_match_of m h p) (is_match_of n k q)

  -- an own interface that has the number of one that is carried has its path
  pub own_path : (n : ℕ) → f.carries_interface n ≡ true → (j : ℕ) (d : Interface) → interface_at own j ≡ Some d → f.interfaces n ≡ j → interface_path own j ≡ interface_path other n
  own_path n carried j d at_own number = by_test (flag_under c.copied_interfaces.items n) (λ e. absurd (omega (
    arith,
    (copied_behind (length own.interfaces.items) c.copied_interfaces.items (map interface_number matched) n (long ∙ sym (length-map matched interface_number)) e),
    (ap (λ l. number_under l n) (sym interfaces_are) ∙ number),
    slice_get_within own.interfaces.items j d at_own,
  ))) (λ e.
      let k : is_matched matched n ≡ true = sym (ap (λ b. b || is_matched matched n) e) ∙ carried in
      ap (interface_path own) (sym number ∙ interface_is n k) ∙ (same n k).path)

  -- copies of types stand behind what is carried before them, and behind own ones
  pub types_rise : first ≡ length own.types.items → length numbers ≡ length other.types.items → Rises f.types f.carries_type f.copies_type
  types_rise at_first types_count = subst (λ l. Rises (number_under l) f.carries_type f.copies_type) (sym numbers_are) (fates_rise first fates f.carries_type low)
    where
      low : (k : ℕ) → f.carries_type k ≡ true → is_copied fates k ≡ false → number_under (numbers_by first fates) k < first
      low k h bare =
          let d = within_there other.types.items k (omega (arith, carried_within fates k h, (sym (numbers_by_long first fates) ∙ (ap length (sym numbers_are) ∙ types_count)))) in
          omega (arith, type_low k d.0 d.1 h bare, ap (λ l. number_under l k) numbers_are, at_first)

-- ---- worlds

module _ (first : ℕ) (flags : List Bool) (matched : List (Option WorldId)) (worlds : List ℕ) (long : length flags ≡ length matched) (worlds_are : worlds ≡ numbers_of first flags (map world_number matched)) where
  -- copies stand one behind the other
  worlds_rise : Rises (number_under worlds) (flag_under flags) (flag_under flags)
  worlds_rise = subst (λ l. Rises (number_under l) (flag_under flags) (flag_under flags)) (sym worlds_are)
      (numbers_rise first flags (map world_number matched) (flag_under flags) (length-map matched world_number ∙ sym long) low)
    where
      low : (n : ℕ) → flag_under flags n ≡ true → flag_under flags n ≡ false → number_under (numbers_of first flags (map world_number matched)) n < first
      low n h e = no_true (sym e ∙ h)

  -- so no two have one number
  pub worlds_apart : (m n : ℕ) → flag_under flags m ≡ true → flag_under flags n ≡ true → number_under worlds m ≡ number_under worlds n → m ≡ n
  worlds_apart m n h k e = apart (number_under worlds) (flag_under flags) (flag_under flags) worlds_rise (λ x set. set) m n h k e

-- ---- the whole

pub chosen_so : (own other : Resolve) (m : Matches) (c : Carried) → IsInRange other → AreMatchedAll other m → IsNumbered own other m c
    → AreChosen other m.interfaces.items c.copied_worlds.items c.copied_interfaces.items
chosen_so own other m c range all is =
    subst (AreChosen other m.interfaces.items c.copied_worlds.items) (sym is.copied_interfaces) (are_chosen other m.interfaces.items c.copied_worlds.items all.interfaces below)
  where
    below : AreWorldsBelow (length other.interfaces.items) other.worlds.items
    below k w at = (
      shown_below (length other.interfaces.items) (length other.types.items) w.imports.entries (range.imports k w at),
      shown_below (length other.interfaces.items) (length other.types.items) w.exports.entries (range.exports k w at),
    )
