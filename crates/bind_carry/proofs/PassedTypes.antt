-- Types that a pass copies: each stands under its new number, and all its parts are carried. Both passes are so.
use Rattle.bind_carry.proofs.Needed.{Grows, all_needed, all_stay, carried_before, copied_before, copied_kept, function_marked, is_home, item_marked, needed_grow, parts_needed, pruned_at, pruned_long, stands_kept}
use Rattle.bind_carry.specs.{CarriedParts.is_function_carried, First.flag_under, Needs.needed_of, Needs.pruned, Needs.pruned_by}
use Rattle.std.proofs.lemmas.Bool.{and_from as both}
use Rattle.base_lemmas.proofs.Bools.{left_of as first_true, right_of as second_true}
use Rattle.wit_model.specs.{Parts.function_numbers, Parts.same_owner, Valid.item_function, declared.model.Function.Function, declared.model.WorldItem.WorldItem, declared.model.WorldKey.WorldKey}
use Rattle.std.proofs.Common.{option_to_list}
use Rattle.std.proofs.Common.{option_map, subst, ◌+◌}
use Rattle.bind_carry.proofs.CopiesPlaced.{by_test}
use Rattle.bind_carry.proofs.{CopiesPlaced.IsPlaced, CopiesPlaced.copy_placed, CopiesPlaced.copied_home, PartsCarried.has_home, PartsCarried.no_home, PartsCarried.parts_are_carried, SettledParts.copied_still, SettledParts.settled_long}
use Rattle.bind_carry.proofs.SettledParts.{settled_all, stands_still, unnamed_carried, unnamed_parts}
use Rattle.base_lemmas.proofs.{Lists.within_there, Options.nameless as some_none, Options.none_some}
use Rattle.bind_carry.specs.{CarriedParts.AreCarriedByOwner, CarriedParts.PartsOfOwners, Fates.AreCopied, Fates.FallBelow, Fates.are_carried, Fates.carries, Fates.copies, Fates.is_carried, Fates.settled, Fates.settled_from, Initial.IsInitial, Renumbered.is_copied}
use Rattle.bind_carry.specs.declared.fate.Fate.{Fate}
use Rattle.bind_copy.specs.Copies.{number_under}
use Rattle.bind_union.proofs.{Carrying.references_of, Carrying.refers_below, Images.numbers_of_view, Lists.no_true}
use Rattle.bind_union.specs.{Carried.IsType, Carried.Renumbering, Carried.carries_owner, Carried.copies_owner, Carried.owner_under, Images.HasImageKind}
use Rattle.bind_union.specs.Views.{kind_view, renamed, view_numbers}
use Rattle.std.proofs.Common.{Bool, List, Some, [], ap, arith, false, inl, is_some, length, nat_lt, refl, rules as std_rules, slice_get, suc, sym, true, zero, ℕ, ◌&&◌, ◌++◌, ◌<◌, ◌∙◌, ◌∷◌, ◌≡◌}
use Rattle.std.proofs.lemmas.Option.{slice_get_within}
use Rattle.std.specs.{List.list_all, Option.option_map_or}
use Rattle.wit_model.specs.{Lookup.type_at, Parts.kind_numbers, Valid.IsValid, declared.model.Resolve.Resolve, declared.model.TypeDef.TypeDef, declared.model.TypeOwner.TypeOwner}
use Rattle.bind_carry.specs.declared.fate.Fate.TheVariants as fate
use Rattle.wit_model.specs.declared.model.TypeOwner.TheVariants as owner

-- what is copied is carried
pub copied_carried : (fates : List Fate) (n : ℕ) → is_copied fates n ≡ true → is_carried fates n ≡ true
copied_carried (fate.Copied home ∷ fs) zero h = refl
copied_carried (f ∷ fs) (suc n) h = copied_carried fs n h
copied_carried _ _ h = no_true h

pub carried_within : (fates : List Fate) (n : ℕ) → is_carried fates n ≡ true → n < length fates
carried_within [] n h = no_true h
carried_within (g ∷ gs) zero h = omega arith
carried_within (g ∷ gs) (suc n) h = let r = carried_within gs n h in omega (arith, r)

stays_left : (may : Bool) → settled fate.Left false may ≡ fate.Left
stays_left true = refl
stays_left false = refl

-- a type that is copied in the end is copied as it was to be
kept_copy : (f : Fate) (b : Bool) → copies (pruned f b) ≡ true → pruned f b ≡ f
kept_copy fate.Left b h = refl
kept_copy (fate.Stands n) b h = refl
kept_copy (fate.Copied owner.None) true h = refl
kept_copy (fate.Copied owner.None) false h = no_true h
kept_copy (fate.Copied (owner.Interface id)) b h = refl
kept_copy (fate.Copied (owner.World id)) b h = refl

module _ (other : Resolve) (valid : IsValid other) (f : Renumbering) (adds : Bool) (initial : List Fate) (starts : IsInitial other f adds initial) (marks : List Bool)
    (many : length marks ≡ length other.types.items) where
  -- the fates if all are copied that can be
  abbrev all : List Fate
  all = settled_from adds [] other.types.items initial

  abbrev needs : List Bool
  needs = needed_of marks 0 other.types.items all

  abbrev fates : List Fate
  fates = pruned_by needs all

  falls : FallBelow other.types.items
  falls n def at = ap (list_all (λ m. nat_lt m n)) (numbers_of_view def.kind) ∙ refers_below other (references_of other valid.rules) n def at

  long_all : length all ≡ length other.types.items
  long_all = settled_long adds other.types.items initial starts.long

  small : (n : ℕ) → is_carried all n ≡ true → n < length marks
  small n h = let less = carried_within all n h in let same = long_all in omega (arith, less, same, many)

  grown : Grows marks needs
  grown = needed_grow (is_carried all) (length marks) small other.types.items all 0 marks

  long_needs : length needs ≡ length all
  long_needs = grown.long ∙ (many ∙ sym long_all)

  pub fates_many : length fates ≡ length other.types.items
  fates_many = pruned_long needs all ∙ long_all

  -- ---- if all are copied that can be

  -- a fate at first that carries carries
  all_carried_if : (n : ℕ) (def : TypeDef) (g : Fate) → type_at other n ≡ Some def → slice_get initial n ≡ Some g → carries g ≡ true → is_carried all n ≡ true
  all_carried_if n def x at e h = search (std_rules, no_true, stands_still, falls, copied_still)

  by_owner : adds ≡ true → AreCarriedByOwner other (is_carried all) (carries_owner f)
  by_owner add = record {
    named = λ n def at named h. let g = starts.carried n def at named h in all_carried_if n def g.0 at g.1 g.2;
    unnamed = λ n def at unnamed parts. unnamed_carried adds other.types.items initial falls n def at add (none_some def.name unnamed) (starts.unnamed n def at unnamed)
        (ap (list_all (is_carried all)) (numbers_of_view def.kind) ∙ parts);
    with_path = starts.with_path;
  }

  -- parts of what is copied, and types of functions, are carried
  pub parts_hold : adds ≡ true → PartsOfOwners other (is_carried all) (carries_owner f)
  parts_hold add = parts_are_carried other (is_carried all) (carries_owner f) valid (by_owner add)

  -- without a fate at first a type with a name has none, and one without a name that is carried is copied
  left_still : (n : ℕ) (def : TypeDef) → type_at other n ≡ Some def → is_some def.name ≡ true → slice_get initial n ≡ Some fate.Left → slice_get all n ≡ Some fate.Left
  left_still n def at named e =
      let may = adds && are_carried all (view_numbers (kind_view def.kind)) in
      settled_all adds other.types.items initial falls n def fate.Left at e ∙ (ap (λ b. Some (settled fate.Left b may)) (some_none def.name named) ∙ ap Some (stays_left may))

  unnamed_copied : (n : ℕ) (def : TypeDef) → type_at other n ≡ Some def → is_some def.name ≡ false → is_carried all n ≡ true
      → (slice_get all n ≡ Some (fate.Copied owner.None)) × (are_carried all (view_numbers (kind_view def.kind)) ≡ true)
  unnamed_copied n def at e h =
      let left = starts.unnamed n def at e in
      let p = unnamed_parts adds other.types.items initial falls n def at left h in
      (settled_all adds other.types.items initial falls n def fate.Left at left ∙ (λ i. Some (settled fate.Left (p.1 i) (p.2 i && p.0 i))), p.0)

  fate_at_first : (n : ℕ) (def : TypeDef) → type_at other n ≡ Some def → (g : Fate) × (slice_get initial n ≡ Some g)
  fate_at_first n def at = within_there initial n (let less = slice_get_within other.types.items n def at in let long = starts.long in omega (arith, less, long))

  -- what is carried without a copy has a name, and stood for a type at first
  abbrev pub StoodFirst : ℕ → TypeDef → Type 0
  StoodFirst n def = (is_some def.name ≡ true) × (k : ℕ) × (slice_get initial n ≡ Some (fate.Stands k))

  all_stood_first : (n : ℕ) (def : TypeDef) → type_at other n ≡ Some def → is_carried all n ≡ true → is_copied all n ≡ false → StoodFirst n def
  all_stood_first n def at h bare =
      by_test (is_some def.name) (λ e. let g = fate_at_first n def at in by_fate e g.0 g.1) (λ e. no_true (sym bare ∙ ap (λ o. option_map_or copies o false) (unnamed_copied n def at e h).0))
    where
      by_fate : is_some def.name ≡ true → (g : Fate) → slice_get initial n ≡ Some g → StoodFirst n def
      by_fate named fate.Left e = no_true (sym (ap (λ o. option_map_or carries o false) (left_still n def at named e)) ∙ h)
      by_fate named (fate.Stands k) e = (named, k, e)
      by_fate named (fate.Copied home) e = no_true (sym bare ∙ ap (λ o. option_map_or copies o false) (copied_still adds other.types.items initial falls n def at home e))

  -- A copy's home, and its parts.
  pub record IsCopiedBy (fs : List Fate) (n : ℕ) (def : TypeDef) : Type 0 where
    pub its_fate : slice_get fs n ≡ Some (fate.Copied (owner_under f def.owner))
    pub home : copies_owner f def.owner ≡ true
    pub parts : list_all (is_carried fs) (kind_numbers def.kind) ≡ true

  all_copied_so : (n : ℕ) (def : TypeDef) → type_at other n ≡ Some def → is_copied all n ≡ true → IsCopiedBy all n def
  all_copied_so n def at h = by_test (is_some def.name) (λ e. let g = fate_at_first n def at in by_fate e g.0 g.1) (λ e. unnamed e)
    where
      unnamed : is_some def.name ≡ false → IsCopiedBy all n def
      unnamed e =
          let x = unnamed_copied n def at e (copied_carried all n h) in
          let home = no_home other valid n def at e in
          record {
            its_fate = x.0 ∙ ap (λ o. Some (fate.Copied (owner_under f o))) (sym home);
            home = ap (copies_owner f) home;
            parts = ap (list_all (is_carried all)) (sym (numbers_of_view def.kind)) ∙ x.1;
          }

      -- with a name it was to be copied at first
      by_fate : is_some def.name ≡ true → (g : Fate) → slice_get initial n ≡ Some g → IsCopiedBy all n def
      by_fate named fate.Left e = no_true (sym (ap (λ o. option_map_or copies o false) (left_still n def at named e)) ∙ h)
      by_fate named (fate.Stands k) e = no_true (sym (ap (λ o. option_map_or copies o false) (stands_still adds other.types.items initial falls n def at k e)) ∙ h)
      by_fate named (fate.Copied home) e =
          let x = starts.copied n def home at named e in
          record {
            its_fate = copied_still adds other.types.items initial falls n def at home e ∙ ap (λ o. Some (fate.Copied o)) x.0;
            home = x.1;
            parts = (parts_hold x.2).types n def at named (starts.homes def.owner x.1);
          }

  -- ---- in the end

  -- what has a name keeps its owner
  named_home : (n : ℕ) (def : TypeDef) (home : TypeOwner) → type_at other n ≡ Some def → is_some def.name ≡ true → slice_get initial n ≡ Some (fate.Copied home) → is_home home ≡ true
  named_home n def home at named e = ap is_home (starts.copied n def home at named e).0 ∙ owned def.owner (has_home other valid n def at named)
    where
      owned : (o : TypeOwner) → same_owner o owner.None ≡ false → is_home (owner_under f o) ≡ true
      owned (owner.World id) h = refl
      owned (owner.Interface id) h = refl
      owned owner.None h = no_true (sym h)

  -- a fate at first of a type with a name that carries carries in the end
  pub carried_if : (n : ℕ) (def : TypeDef) (g : Fate) → type_at other n ≡ Some def → is_some def.name ≡ true → slice_get initial n ≡ Some g → carries g ≡ true → is_carried fates n ≡ true
  carried_if n def fate.Left at named e h = no_true h
  carried_if n def (fate.Stands k) at named e h =
      ap (λ o. option_map_or carries o false) (stands_kept needs all n k (stands_still adds other.types.items initial falls n def at k e))
  carried_if n def (fate.Copied home) at named e h = ap (λ o. option_map_or carries o false)
      (copied_kept needs all n home (named_home n def home at named e) (copied_still adds other.types.items initial falls n def at home e))

  -- what is carried without a copy was before
  bare_before : (n : ℕ) → is_carried fates n ≡ true → is_copied fates n ≡ false → is_copied all n ≡ false
  bare_before n h bare = by_test (is_copied all n) (λ e. wrong e) (λ e. e)
    where
      so : (home : TypeOwner) (b : Bool) → carries (pruned (fate.Copied home) b) ≡ true → copies (pruned (fate.Copied home) b) ≡ true
      so owner.None true k = refl
      so owner.None false k = no_true k
      so (owner.Interface id) b k = refl
      so (owner.World id) b k = refl

      wrong : is_copied all n ≡ true → is_copied all n ≡ false
      wrong e =
          let x = copied_home all n e in
          let there : slice_get fates n ≡ Some (pruned (fate.Copied x.0) (flag_under needs n)) = pruned_at needs all long_needs n ∙ ap (option_map (λ g. pruned g (flag_under needs n))) x.1 in
          no_true (sym (ap (λ o. option_map_or copies o false) (sym there) ∙ bare) ∙ so x.0 (flag_under needs n) (sym (ap (λ o. option_map_or carries o false) there) ∙ h))

  pub stood_first : (n : ℕ) (def : TypeDef) → type_at other n ≡ Some def → is_carried fates n ≡ true → is_copied fates n ≡ false → StoodFirst n def
  stood_first n def at h bare = all_stood_first n def at (carried_before needs all n h) (bare_before n h bare)

  -- all types of functions that are marked are carried
  pub functions_hold : (gs : List Function) → list_all (is_function_carried (is_carried all)) gs ≡ true → list_all (function_marked marks) gs ≡ true
      → list_all (is_function_carried (is_carried fates)) gs ≡ true
  functions_hold [] h k = refl
  functions_hold (g ∷ gs) h k = both (is_function_carried (is_carried fates) g) (list_all (is_function_carried (is_carried fates)) gs)
      (all_needed needs all (function_numbers g) (first_true (is_function_carried (is_carried all) g) (list_all (is_function_carried (is_carried all)) gs) h)
      (all_stay marks needs grown (function_numbers g) (first_true (function_marked marks g) (list_all (function_marked marks) gs) k)))
      (functions_hold gs (second_true (is_function_carried (is_carried all) g) (list_all (is_function_carried (is_carried all)) gs) h)
      (second_true (function_marked marks g) (list_all (function_marked marks) gs) k))

  abbrev pub item_holds : (ℕ → Bool) → WorldKey × WorldItem → Bool
  item_holds carried e = list_all (is_function_carried carried) (option_to_list (item_function e.1))

  pub items_hold : (es : List (WorldKey × WorldItem)) → list_all (item_holds (is_carried all)) es ≡ true → list_all (item_marked marks) es ≡ true
      → list_all (item_holds (is_carried fates)) es ≡ true
  items_hold [] h k = refl
  items_hold (e ∷ es) h k = both (item_holds (is_carried fates) e) (list_all (item_holds (is_carried fates)) es)
      (functions_hold (option_to_list (item_function e.1)) (first_true (item_holds (is_carried all) e) (list_all (item_holds (is_carried all)) es) h)
      (first_true (item_marked marks e) (list_all (item_marked marks) es) k))
      (items_hold es (second_true (item_holds (is_carried all) e) (list_all (item_holds (is_carried all)) es) h) (second_true (item_marked marks e) (list_all (item_marked marks) es) k))

  abbrev pub IsCopiedSo : ℕ → TypeDef → Type 0
  IsCopiedSo n def = IsCopiedBy fates n def

  pub copied_so : (n : ℕ) (def : TypeDef) → type_at other n ≡ Some def → is_copied fates n ≡ true → IsCopiedSo n def
  copied_so n def at h = record {
    its_fate = there ∙ ap Some (kept_copy (fate.Copied (owner_under f def.owner)) (flag_under needs n) copy);
    home = x.home;
    parts = ap (list_all (is_carried fates)) (sym (numbers_of_view def.kind)) ∙ all_needed needs all (view_numbers (kind_view def.kind)) inner
        (parts_needed (is_carried all) (length marks) small other.types.items all 0 marks refl
        (λ k d at_k. let z : k ≡ 0 + k = omega arith in subst (λ (m : ℕ). list_all (λ i. nat_lt i m) (view_numbers (kind_view d.kind)) ≡ true) z (falls k d at_k)) n n (omega arith) def
        (fate.Copied (owner_under f def.owner)) at x.its_fate copy inner);
  }
    where
      x : IsCopiedBy all n def
      x = all_copied_so n def at (copied_before needs all n h)

      there : slice_get fates n ≡ Some (pruned (fate.Copied (owner_under f def.owner)) (flag_under needs n))
      there = pruned_at needs all long_needs n ∙ ap (option_map (λ g. pruned g (flag_under needs n))) x.its_fate

      copy : copies (pruned (fate.Copied (owner_under f def.owner)) (flag_under needs n)) ≡ true
      copy = sym (ap (λ o. option_map_or copies o false) there) ∙ h

      inner : list_all (is_carried all) (view_numbers (kind_view def.kind)) ≡ true
      inner = ap (list_all (is_carried all)) (numbers_of_view def.kind) ∙ x.parts

  -- the copy stands under its new number
  module _ (own merged : Resolve) (numbers : List ℕ) (old new rest : List TypeDef) (is : AreCopied (length own.types.items) numbers other.types.items fates old new)
      (types_are : merged.types.items ≡ own.types.items ++ (new ++ rest)) (by_type : number_under numbers ≡ f.types) (by_carries : is_carried fates ≡ f.carries_type) where
    pub copy_holds : (n : ℕ) (def : TypeDef) → type_at other n ≡ Some def → is_copied fates n ≡ true → IsType other merged f n
    copy_holds n def at h = record {
      def = def;
      found = at;
      image = place.image;
      at_image = ap (λ g. slice_get merged.types.items (g n)) (sym by_type) ∙ (ap (λ l. slice_get l (number_under numbers n)) types_are ∙ place.at_image);
      name = place.under.name;
      home = place.under.in_owner;
      carries_home = starts.homes def.owner how.home;
      kind = inl same_kind;
      copied = λ k. record { home = how.home; kind = same_kind; stability = place.under.stability; external_id = place.under.external_id };
    }
      where
        how : IsCopiedSo n def
        how = copied_so n def at h

        place : IsPlaced numbers (owner_under f def.owner) def (own.types.items ++ (new ++ rest)) (number_under numbers n)
        place = copy_placed own.types.items numbers other.types.items fates old new rest is n (owner_under f def.owner) def how.its_fate at

        same_kind : HasImageKind f.types f.carries_type def place.image
        same_kind = record {
          kinds = place.under.kind ∙ ap (λ g. renamed g (kind_view def.kind)) by_type;
          parts = ap (λ p. list_all p (view_numbers (kind_view def.kind))) (sym by_carries) ∙ (ap (list_all (is_carried fates)) (numbers_of_view def.kind) ∙ how.parts);
        }
