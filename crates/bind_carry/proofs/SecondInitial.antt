-- The pass over what the bound world gains begins as it should: what it copies is of the bound world, or of an inline interface that is gained.
use Rattle.bind_carry.proofs.{CopiesPlaced.by_either, CopiesPlaced.by_test, Marking.joins, Marking.mark_item_long, Marking.mark_one, Marking.no_more}
use Rattle.base_lemmas.proofs.{Bools.left_of as first_true, Bools.right_of as second_true, Lists.set_there, Numbers.differ, Numbers.equal}
use Rattle.bind_add.proofs.Gains.{set_here, set_length}
use Rattle.bind_carry.specs.{BoundGains.gained_inline, BoundGains.gains_any, BoundGains.type_under_key, BoundGains.unified, BoundGains.unify_one, Fates.carries, First.beside_first, First.flag_under, First.second_from, First.second_in, Marked.is_inline_at, Marked.mark_item, Marked.mark_new_items, Renumbered.is_matched, Shown.AreShownBelow, Shown.any_new, Shown.type_in, declared.fate.Fate.Fate}
use Rattle.bind_carry.specs.declared.plan.Carried.{Carried}
use Rattle.bind_copy.specs.Copies.{is_new_under}
use Rattle.bind_union.proofs.Lists.{no_true}
use Rattle.std.proofs.Common.{Bool, List, Option, Some, [], ap, arith, false, if◌then◌else◌, inl, inr, is_some, length, refl, replicate, rules as std_rules, slice_get, slice_set, subst, suc, sym, true, unwrap_or, zero, ℕ, ◌&&◌, ◌<◌, ◌==◌, ◌||◌, ◌∙◌, ◌∷◌, ◌≡◌, ◌⊎◌}
use Rattle.std.proofs.lemmas.{Bool.or_left, Bool.or_right, List.length-replicate, Option.slice_get_within}
use Rattle.std.specs.List.{list_any}
use Rattle.wit_model.specs.{Lookup.interface_at, Lookup.type_at, Rules.is_id, Uses.item_interface, Valid.IsValid, Valid.as_interface}
use Rattle.wit_model.specs.declared.model.{Interface.Interface, InterfaceId.InterfaceId, Resolve.Resolve, TypeDef.TypeDef, TypeId.TypeId, World.World, WorldItem.WorldItem, WorldKey.WorldKey}
use Rattle.bind_carry.specs.declared.fate.Fate.TheVariants as fate
use Rattle.wit_model.specs.declared.model.TypeOwner.TheVariants as owner

-- ---- Which inline interfaces the bound world gains, and that something is gained with each.

unset_flag : (count n : ℕ) → flag_under (replicate count false) n ≡ false
unset_flag (suc count) (suc n) = unset_flag count n
unset_flag _ _ = refl

module _ (r : Resolve) (interfaces : List ℕ) (here : List (WorldKey × WorldItem)) where
  -- whether some item whose key is new is the interface
  abbrev pub is_shown_new : List (WorldKey × WorldItem) → ℕ → Bool
  is_shown_new es n = list_any (λ (e : WorldKey × WorldItem). is_new_under interfaces here e.0 && is_id n (item_interface e.1)) es

  new_marks_long : (es : List (WorldKey × WorldItem)) (marks : List Bool) → length (mark_new_items r interfaces here marks es) ≡ length marks
  new_marks_long [] marks = refl
  new_marks_long (e ∷ es) marks = search (std_rules, mark_item_long, new_marks_long es (mark_item r marks e.1), new_marks_long es marks)

  abbrev FlagIs : List (WorldKey × WorldItem) → List Bool → ℕ → Type 0
  FlagIs es marks n = flag_under (mark_new_items r interfaces here marks es) n ≡ (flag_under marks n || (is_inline_at r n && is_shown_new es n))

  new_marks_in : (es : List (WorldKey × WorldItem)) (marks : List Bool) (n : ℕ) → AreShownBelow (length marks) es → FlagIs es marks n
  new_marks_in [] marks n below = no_more (flag_under marks n) (is_inline_at r n)
  new_marks_in (e ∷ es) marks n below = go (is_new_under interfaces here e.0)
      (new_marks_in es (mark_item r marks e.1) n (subst (λ (k : ℕ). AreShownBelow k es) (sym (mark_item_long r marks e.1)) below.1)) (new_marks_in es marks n below.1)
    where
      go : (b : Bool) → FlagIs es (mark_item r marks e.1) n → FlagIs es marks n
          → flag_under (mark_new_items r interfaces here (if b then mark_item r marks e.1 else marks) es) n
          ≡ (flag_under marks n || (is_inline_at r n && ((b && is_id n (item_interface e.1)) || is_shown_new es n)))
      go true set unset = set ∙ (ap (λ b. b || (is_inline_at r n && is_shown_new es n)) (mark_one r marks e.1 n below.0)
          ∙ joins (flag_under marks n) (is_inline_at r n) (is_id n (item_interface e.1)) (is_shown_new es n))
      go false set unset = unset

  -- so some key is new
  shown_any : (es : List (WorldKey × WorldItem)) (n : ℕ) → is_shown_new es n ≡ true → any_new interfaces here es ≡ true
  shown_any [] n h = no_true h
  shown_any (e ∷ es) n h = by_either (is_new_under interfaces here e.0 && is_id n (item_interface e.1)) (is_shown_new es n) h
      (λ q. or_left (is_new_under interfaces here e.0) (any_new interfaces here es) (first_true (is_new_under interfaces here e.0) (is_id n (item_interface e.1)) q))
      (λ q k. or_right (is_new_under interfaces here e.0) (any_new interfaces here es) (shown_any es n k))

-- whether what is gained shows the interface
abbrev pub shows_gained : Resolve → List ℕ → World → World → ℕ → Bool
shows_gained other interfaces w v n = is_shown_new other interfaces w.imports.entries v.imports.entries n || is_shown_new other interfaces w.exports.entries v.exports.entries n

module _ (other : Resolve) (interfaces : List ℕ) (w v : World) (imports_below : AreShownBelow (length other.interfaces.items) v.imports.entries) (exports_below : AreShownBelow (length other.interfaces.items) v.exports.entries) where
  abbrev pub is_gained : ℕ → Bool
  is_gained n = shows_gained other interfaces w v n

  -- the flag is set of the inline ones that new items show
  pub gained_flag : (n : ℕ) → flag_under (gained_inline other interfaces w v) n ≡ (is_inline_at other n && is_gained n)
  gained_flag n = search (std_rules, new_marks_in, joins, length-replicate, new_marks_long, unset_flag)

  pub gained_long : length (gained_inline other interfaces w v) ≡ length other.interfaces.items
  gained_long = search (std_rules, new_marks_long, length-replicate)

  -- it has no name, and something is gained
  pub gained_inline_alone : (n : ℕ) → flag_under (gained_inline other interfaces w v) n ≡ true → is_inline_at other n ≡ true
  gained_inline_alone n h = first_true (is_inline_at other n) (is_gained n) (sym (gained_flag n) ∙ h)

  pub gained_adds : (n : ℕ) → flag_under (gained_inline other interfaces w v) n ≡ true → gains_any interfaces w v ≡ true
  gained_adds n h = search (std_rules, second_true, gained_flag, no_true, shown_any)

-- ---- What becomes of types in what the bound world gains, before those without a name have their fates.

-- ---- by owners

module _ (other : Resolve) (world other_world : ℕ) (copied : List Bool) (interfaces : List ℕ) where
  pub second_at : (ts : List TypeDef) (fs : List Fate) (ns : List ℕ) (n : ℕ) (t : TypeDef) (g : Fate) (m : ℕ) → slice_get ts n ≡ Some t → slice_get fs n ≡ Some g → slice_get ns n ≡ Some m
      → slice_get (second_from other world other_world copied interfaces ts fs ns) n ≡ Some (second_in other world other_world copied interfaces t.owner (beside_first g m))
  second_at (u ∷ us) (h ∷ hs) (k ∷ ks) zero t g m at_t at_g at_m = search std_rules
  second_at (u ∷ us) (h ∷ hs) (k ∷ ks) (suc n) t g m at_t at_g at_m = second_at us hs ks n t g m at_t at_g at_m
  second_at _ _ _ n t g m at_t at_g at_m = let wrong : ⊥ = cc in absurd wrong

  pub second_long : (ts : List TypeDef) (fs : List Fate) (ns : List ℕ) → length fs ≡ length ts → length ns ≡ length ts
      → length (second_from other world other_world copied interfaces ts fs ns) ≡ length ts
  second_long [] fs ns long_fates long_numbers = refl
  second_long (u ∷ us) [] ns long_fates long_numbers = absurd (omega (arith, long_fates))
  second_long (u ∷ us) (h ∷ hs) [] long_fates long_numbers = absurd (omega (arith, long_numbers))
  second_long (u ∷ us) (h ∷ hs) (k ∷ ks) long_fates long_numbers = ap suc (second_long us hs ks (omega (arith, long_fates)) (omega (arith, long_numbers)))

-- ---- own types under the same keys

module _ (here : List (WorldKey × WorldItem)) where
  -- A type stands for the own one under its key.
  pub record IsUnified (es : List (WorldKey × WorldItem)) (final : List Fate) (n : ℕ) : Type 0 where
    pub place : ℕ
    pub entry : WorldKey × WorldItem
    pub at_place : slice_get es place ≡ Some entry
    pub id : TypeId
    pub is_type : type_in entry.1 ≡ Some id
    pub number : id.0 ≡ n
    pub own : TypeId
    pub there : type_under_key here entry.0 ≡ Some own
    pub stands : slice_get final n ≡ Some (fate.Stands own.0)

  later : (e : WorldKey × WorldItem) (es : List (WorldKey × WorldItem)) (final : List Fate) (n : ℕ) → IsUnified es final n → IsUnified (e ∷ es) final n
  later e es final n u = record { place = suc u.place; entry = u.entry; at_place = u.at_place; id = u.id; is_type = u.is_type; number = u.number; own = u.own; there = u.there; stands = u.stands }

  pub unified_long : (es : List (WorldKey × WorldItem)) (fs : List Fate) → length (unified here es fs) ≡ length fs
  unified_long [] fs = refl
  unified_long (e ∷ es) fs = search (std_rules, set_length, unified_long es (unify_one fs (type_in e.1) (type_under_key here e.0)))

  -- what one entry leaves of a fate: what it was, or that of an own type
  one_at : (fs : List Fate) (n : ℕ) (g : Fate) → slice_get fs n ≡ Some g → (a b : Option TypeId) → (slice_get (unify_one fs a b) n ≡ Some g)
      ⊎ ((id own : TypeId) × (a ≡ Some id) × (id.0 ≡ n) × (b ≡ Some own) × (slice_get (unify_one fs a b) n ≡ Some (fate.Stands own.0)))
  one_at fs n g at (Some id) (Some own) = by_test (id.0 == n) (λ e.
      let number = equal id.0 n e in
      inr (
        id,
        own,
        refl,
        number,
        refl,
        ap (slice_get (slice_set fs id.0 (fate.Stands own.0))) (sym number) ∙ (set_here fs id.0 (fate.Stands own.0) (slice_get_within fs id.0 g (ap (slice_get fs) number ∙ at))),
      )) (λ e. inl (set_there fs id.0 n (fate.Stands own.0) (λ q. differ id.0 n e (sym q)) ∙ at))
  one_at fs n g at _ _ = inl at

  -- what each fate is in the end
  pub unified_at : (es : List (WorldKey × WorldItem)) (fs : List Fate) (n : ℕ) (g : Fate) → slice_get fs n ≡ Some g → (slice_get (unified here es fs) n ≡ Some g) ⊎ IsUnified es (unified here es fs) n
  unified_at [] fs n g at = inl at
  unified_at (e ∷ es) fs n g at = go (one_at fs n g at (type_in e.1) (type_under_key here e.0)) (unified_at es (unify_one fs (type_in e.1) (type_under_key here e.0)) n)
    where
      gs : List Fate
      gs = unify_one fs (type_in e.1) (type_under_key here e.0)

      go : (slice_get gs n ≡ Some g) ⊎ ((id own : TypeId) × (type_in e.1 ≡ Some id) × (id.0 ≡ n) × (type_under_key here e.0 ≡ Some own) × (slice_get gs n ≡ Some (fate.Stands own.0)))
          → ((h : Fate) → slice_get gs n ≡ Some h → (slice_get (unified here es gs) n ≡ Some h) ⊎ IsUnified es (unified here es gs) n) → (slice_get (unified here es gs) n ≡ Some g)
          ⊎ IsUnified (e ∷ es) (unified here es gs) n
      go (inl same) more = elim (more g same) [ inl s ↦ inl s | inr u ↦ inr (later e es (unified here es gs) n u) ]
      go (inr x) more = elim (more (fate.Stands x.1.0) x.5) [
        | inl s ↦ inr (record { place = zero; entry = e; at_place = refl; id = x.0; is_type = x.2; number = x.3; own = x.1; there = x.4; stands = s })
        | inr u ↦ inr (later e es (unified here es gs) n u)
      ]

  -- a type that some item is stands for the own one of its key
  pub unified_set : (es : List (WorldKey × WorldItem)) (fs : List Fate) (k : ℕ) (e : WorldKey × WorldItem) (id own : TypeId) → slice_get es k ≡ Some e → type_in e.1 ≡ Some id
      → type_under_key here e.0 ≡ Some own → id.0 < length fs → IsUnified es (unified here es fs) id.0
  unified_set [] fs k e id own at p q less = let wrong : ⊥ = cc in absurd wrong
  unified_set (x ∷ xs) fs zero e id own at p q less =
      let same_entry = ap (λ o. unwrap_or o x) at in
      let is_type = ap (λ (y : WorldKey × WorldItem). type_in y.1) same_entry ∙ p in
      let under = ap (λ (y : WorldKey × WorldItem). type_under_key here y.0) same_entry ∙ q in
      let set = slice_set fs id.0 (fate.Stands own.0) in
      let step : unified here (x ∷ xs) fs ≡ unified here xs set = (λ i. unified here xs (unify_one fs (is_type i) (under i))) in
      subst (λ (gs : List Fate). IsUnified (x ∷ xs) gs id.0) (sym step) (elim (unified_at xs set id.0 (fate.Stands own.0) (set_here fs id.0 (fate.Stands own.0) less)) [
        | inl same ↦ record { place = zero; entry = x; at_place = refl; id = id; is_type = is_type; number = refl; own = own; there = under; stands = same }
        | inr u ↦ later x xs (unified here xs set) id.0 u
      ])
  unified_set (x ∷ xs) fs (suc k) e id own at p q less =
      let gs = unify_one fs (type_in x.1) (type_under_key here x.0) in
      later x xs (unified here xs gs) id.0 (unified_set xs gs k e id own at p q (subst (λ (n : ℕ). id.0 < n) (sym (one_same (type_in x.1) (type_under_key here x.0))) less))
    where
      one_same : (a b : Option TypeId) → length (unify_one fs a b) ≡ length fs
      one_same (Some i) (Some o) = set_length fs i.0 (fate.Stands o.0)
      one_same _ _ = refl

-- ---- what is known

module _ (other : Resolve) (valid : IsValid other) (matched : List (Option InterfaceId)) (c : Carried) (world other_world : ℕ) (here es : List (WorldKey × WorldItem)) (copied : List Bool)
    (interfaces : List ℕ) (first_fates : List Fate) (first_numbers : List ℕ) (long_fates : length first_fates ≡ length other.types.items)
    (long_numbers : length first_numbers ≡ length other.types.items) (fates : List Fate) (types : List ℕ) where
  abbrev before : List Fate
  before = second_from other world other_world copied interfaces other.types.items first_fates first_numbers

  abbrev initial : List Fate
  initial = unified here es before

  -- What else is known: types among the other's imports are named ones of its bound world, what is carried of interfaces with a name carries its types, and where a
  -- type or an interface is copied, something is gained.
  pub record IsKnown (adds : Bool) : Type 0 where
    pub imports : (n : ℕ) (def : TypeDef) → type_at other n ≡ Some def → IsUnified here es initial n → (is_some def.name ≡ true) × (def.owner ≡ owner.World (record { 0 = other_world }))
    pub first_carries : (n : ℕ) (def : TypeDef) (g : Fate) (a : ℕ) → type_at other n ≡ Some def → slice_get first_fates n ≡ Some g → is_some def.name ≡ true → def.owner ≡ as_interface a
        → (flag_under c.copied_interfaces.items a || is_matched matched a) ≡ true → carries g ≡ true
    pub inline_adds : (a : ℕ) → flag_under copied a ≡ true → adds ≡ true
    pub types_add : (n : ℕ) (def : TypeDef) → type_at other n ≡ Some def → def.owner ≡ owner.World (record { 0 = other_world })
        → slice_get initial n ≡ Some (fate.Copied (owner.World (record { 0 = world }))) → adds ≡ true
    pub names : (n : ℕ) (i : Interface) → interface_at other n ≡ Some i → is_some i.name ≡ true → (flag_under c.copied_interfaces.items n || is_matched matched n) ≡ true
