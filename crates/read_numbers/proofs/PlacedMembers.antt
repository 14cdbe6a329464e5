-- The scopes of an input in numbers: what they are over, and in which order their names came into the table.
use Rattle.std.proofs.Common.{rules as std_rules, ◌≡◌, ◌⊎◌, inl, inr, refl, sym, ap, ◌∙◌, subst, ℕ, ◌+◌, ◌<◌, arith, true, List, [], ◌∷◌, map, length, Option, Some, None, IfSome, slice_get, unwrap_or}
use Rattle.std.proofs.{Math.ListN.length-map, lemmas.Bool.cases_lt}
use Rattle.std.specs.List.{AllByRecursion}
use Rattle.wit_model.specs.{Text.Text, Tree.Place, Tree.Tree}
use Rattle.comp_meaning.specs.{Follow.Seen as MeantSeen, Rules.distinct}
use Rattle.plan_meaning.specs.{FollowedNumbers.IsOneOf, Shapes.Shape, Shapes.named_shape, Shapes.shape_trees}
use Rattle.plan_meaning.specs.NumberedViews.{function_at, path_at, NumberedType, NumberedView, PartsOf, Tables}
use Rattle.plan_meaning.specs.NumberedWorlds.{place_of_key, NumberedInstance, NumberedScope, NumberedSeen}
use Rattle.read_follow.specs.declared.{instance_keys.InstanceKey.InstanceKey, scopes.Instance.Instance, scopes.Scope.Scope, scopes.Shown.Shown}
use Rattle.read_follow.specs.declared.scopes.Seen.{Seen}
use Rattle.read_follow.specs.Following.{AreTables}
use Rattle.read_follow.specs.{Functions.functions_in, Functions.FunctionShape, Functions.IsFunctionIn, Places.has_path, Places.place_number}
use Rattle.read_follow.specs.Placed.{apart, slot_part, ComeBefore, HasNoNames, IsTypeNamed, MayMeet, Rise}
use Rattle.read_follow.specs.Scopes.{seen_in, world_of, AreSeenIn, IsCountedAs, IsImportNamed, IsInlinePlace, IsInstanceIn, IsInstanceSeen, IsKeyPlaced, IsPlacedAmong, IsShownAs, IsShownBy, IsWorld, ShownOver}
use Rattle.read_follow.proofs.{DefiningLaws.all_at, PlacedLaws.stood}
use Rattle.read_parts.specs.declared.members.Member.{Member}
use Rattle.read_parts.specs.Members.{scope_of, AreFormed, AreMembersPlaced, AreNamesShown, ArePlacesInOrder, ArePlacesMet, MembersStand, StandsIn}
use Rattle.read_numbers.specs.NumberedParts.{instance_view, name_in, no_view, numbered_function, numbered_instance, numbered_key, numbered_scope, numbered_seen, numbered_shown, numbered_type, numbered_view, tables_in}
use Rattle.read_numbers.specs.PlacedNumbers.{part_of, ArePlacedScopes, AreTypesBefore, IsCounted, IsCountedItem, IsFirstSeen, IsInstanceAt, IsLastType, IsMetBefore, in_earlier, in_same, IsPlacedItem, IsPlacedScope, IsPlacedView, IsRisingView, IsSeenAs, as_export, as_import, PlacesAreKept, ShowsName, by_instance, by_import}
use Rattle.read_numbers.proofs.PlacedViews.{all_of, declared_met, function_met, placed_view, rising_view, slot_number}
use Rattle.read_numbers.proofs.{ScopeNumbers.keys_in_numbers, TableNumbers.path_there}
use Rattle.base_lemmas.proofs.{Elements.get-contains, Lists.get_back as at_mapped, Lists.mapped_get, Lists.one_item, Lists.within_there as slice_there}
use Rattle.plan_meaning.specs.NumberedViews as views
use Rattle.plan_meaning.specs.NumberedWorlds as worlds
use Rattle.read_follow.specs.declared.scopes.Shown.TheVariants as shown
use Rattle.read_follow.specs.Scopes as scopes
use Rattle.read_parts.specs.Members as followed

key_place : (key : InstanceKey) → place_of_key (numbered_key key) ≡ place_number key
key_place x = search std_rules

module _ (shapes : List Shape) (fs : List FunctionShape) (paths : List (Option Text)) (tables : AreTables (length paths) shapes fs) where
  abbrev t : Tables
  t = tables_in shapes fs paths

  abbrev T : List Tree
  T = shape_trees apart shapes

  -- ---- one scope

  module _ (scope : Scope) (st : IsWorld (world_of shapes fs paths scope)) (base : List Shape) (count till : ℕ) (p : IsPlacedAmong base count till (world_of shapes fs paths scope)) where
    abbrev w : NumberedScope
    w = numbered_scope paths scope

    abbrev is : List Instance
    is = scope.instances.items

    abbrev vs : List NumberedView
    vs = map instance_view is

    abbrev P : Place → Type 0
    P = MayMeet (map has_path paths) scope.home

    view_placed : (j : ℕ) (x : Instance) → slice_get is j ≡ Some x → IsPlacedView t x.place (numbered_view x.view)
    view_placed j x at =
        let inside = all_at (IsInstanceIn shapes fs paths) is j x st.instances at in
        let h = p.instances j x at in
        placed_view shapes fs paths tables.table tables.signatures x.place x.view inside.types inside.functions h.shown h.named

    -- what an import or an export shows as the instance of this number
    shown_view : (n : ℕ) (x : Instance) → slice_get is n ≡ Some x → instance_view x ≡ unwrap_or (slice_get vs n) no_view
    shown_view n x at = sym (ap (λ o. unwrap_or o no_view) (mapped_get instance_view is n x at))

    item_placed : (s : Shown) → IsShownAs shapes fs paths (length is) s → ShownOver P (scopes.shown_in apart T (functions_in T fs) is s) → IsKeyPlaced is s
        → IsPlacedItem t scope.home (numbered_shown vs s)
    item_placed (shown.Instance key n) h over placed =
        let x = placed.0 in
        let place : x.place ≡ place_of_key (numbered_key key) = placed.2 ∙ sym (key_place key) in (
          keys_in_numbers shapes fs paths key h.0,
          subst (λ (v : NumberedView). IsPlacedView t (place_of_key (numbered_key key)) v) (shown_view n x placed.1) (subst (λ q. IsPlacedView t q (instance_view x)) place (view_placed n x placed.1)),
        )
    item_placed (shown.Function name f) h over placed = function_met shapes fs paths tables.table tables.signatures scope.home f h over
    item_placed (shown.Type name part d) h over placed = declared_met shapes fs paths tables.table tables.signatures scope.home d h.1 over

    items_placed : (ss : List Seen) → AreSeenIn shapes fs paths (length is) ss → AllByRecursion (λ (s : MeantSeen). ShownOver P s.shown) (map (seen_in apart T (functions_in T fs) is) ss)
        → AllByRecursion (λ (s : Seen). IsKeyPlaced is s.shown) ss → AllByRecursion (λ (s : NumberedSeen). IsPlacedItem t scope.home s.shown) (map (numbered_seen paths vs) ss)
    items_placed [] h over placed = tt
    items_placed (s ∷ ss) h over placed = (item_placed s.shown h.0 over.0 placed.0, items_placed ss h.1 over.1 placed.1)

    -- ---- instances that are seen

    one_of : (s : Shown) → IsKeyPlaced is s → IsOneOf t w.instances (numbered_shown vs s)
    one_of (shown.Instance key n) placed =
        let x = placed.0 in
        get-contains w.instances n (record { place = place_of_key (numbered_key key); view = unwrap_or (slice_get vs n) no_view })
        (mapped_get numbered_instance is n x placed.1 ∙ (λ i. Some (record { place = (placed.2 ∙ sym (key_place key)) i; view = shown_view n x placed.1 i })))
    one_of (shown.Function name f) placed = tt
    one_of (shown.Type name part d) placed = tt

    ones_of : (ss : List Seen) → AllByRecursion (λ (s : Seen). IsKeyPlaced is s.shown) ss → AllByRecursion (λ (s : NumberedSeen). IsOneOf t w.instances s.shown) (map (numbered_seen paths vs) ss)
    ones_of [] placed = tt
    ones_of (s ∷ ss) placed = (one_of s.shown placed.0, ones_of ss placed.1)

    -- the place of an instance is that of the key under which it is seen
    key_of_seen : (ss : List Seen) → AllByRecursion (λ (s : Seen). IsKeyPlaced is s.shown) ss → (n : ℕ) (s : Seen) (key : InstanceKey) (j : ℕ) (x : Instance) → slice_get ss n ≡ Some s
        → s.shown ≡ shown.Instance key j → slice_get is j ≡ Some x → (numbered_shown vs s.shown ≡ worlds.instance (numbered_key key) (instance_view x)) × (place_of_key (numbered_key key) ≡ x.place)
    key_of_seen ss placed n s key j x there shows at =
        let k = subst (λ (y : Shown). IsKeyPlaced is y) shows (all_at (λ (y : Seen). IsKeyPlaced is y.shown) ss n s placed there) in
        let same = one_item is j k.0 x k.1 at in
        (ap (numbered_shown vs) shows ∙ ap (worlds.instance (numbered_key key)) (sym (shown_view j x at)), key_place key ∙ (sym k.2 ∙ ap (λ (y : Instance). y.place) same))

    seen_as : (j : ℕ) (x : Instance) → slice_get is j ≡ Some x → IsInstanceSeen (world_of shapes fs paths scope) j → IsSeenAs w (numbered_instance x)
    seen_as j x at (scopes.as_import n s key there shows) =
        let k = key_of_seen scope.imports.items p.imports_keyed n s key j x there shows at in
        as_import n (numbered_seen paths vs s) (numbered_key key) (mapped_get (numbered_seen paths vs) scope.imports.items n s there) k.0 k.1
    seen_as j x at (scopes.as_export n s key there shows) =
        let k = key_of_seen scope.exports.items p.exports_keyed n s key j x there shows at in
        as_export n (numbered_seen paths vs s) (numbered_key key) (mapped_get (numbered_seen paths vs) scope.exports.items n s there) k.0 k.1

    -- ---- what is counted

    params_below : (c : ℕ) (ps : List (Text × ℕ)) → AllByRecursion (λ p. p.1 < 14 + c) ps → AllByRecursion (λ (p : Text × ℕ). p.1 < 14 + c) ps
    params_below c ps h = h

    function_below : (c : ℕ) (g : FunctionShape) → IsFunctionIn c g → PartsOf (λ k. k < 14 + c) (numbered_function g)
    function_below c g h = (params_below c g.params h.params, all_of (λ k. k < 14 + c) g.outcome h.outcome)

    last_type : (j c part : ℕ) (name : Text) (d : Option ℕ) (number : ℕ) → part ≡ 14 + number → slice_get shapes number ≡ Some (named_shape scope.home name) → scopes.IsLastName p.counts j c part d
        → IsLastType t scope.home p.counts j c name d
    last_type j c part name d number is_number at l = record {
      number = number;
      shape = at;
      last = (let last = l.last in omega (arith, last, is_number));
      declared = all_of (λ k. k < 14 + number) d (subst (λ m. IfSome d (λ k. k < m)) is_number l.declared);
      others = l.others;
    }

    item_counted : (j c : ℕ) (s : Shown) → IsShownAs shapes fs paths (length is) s → IsImportNamed shapes scope.home s → IsCountedAs (world_of shapes fs paths scope) p.counts j c s
        → IsCountedItem t w p.counts j c (name_in paths s) (numbered_shown vs s)
    item_counted j c (shown.Instance key n) h named k = tt
    item_counted j c (shown.Function name f) h named k =
        let g = slice_there fs f h in
        let there : function_at t f ≡ numbered_function g.0 = ap (λ o. unwrap_or o views.no_function) (mapped_get numbered_function fs f g.0 g.1) in
        subst (λ (x : views.FunctionShape). PartsOf (λ k. k < 14 + c) x) (sym there) (function_below c g.0 (k g.0 g.1))
    item_counted j c (shown.Type name part d) h named (inl r) = inl (record {
      number = r.number;
      earlier = r.earlier;
      seen = numbered_seen paths vs r.seen;
      at = mapped_get (numbered_seen paths vs) scope.imports.items r.number r.seen r.at;
      key = ap (name_in paths) r.is ∙ r.same;
      declared = r.declared;
      is = ap (numbered_shown vs) r.is;
    })
    item_counted j c (shown.Type name part d) h named (inr l) = inr (last_type j c part name.now d named.number named.is named.at l)

    import_counted : (j c : ℕ) (s : NumberedSeen) → slice_get w.imports j ≡ Some s → slice_get p.counts j ≡ Some c → IsCounted t w p.counts j c s
    import_counted j c s at here =
        let y = at_mapped (numbered_seen paths vs) scope.imports.items j s at in
        let k = p.counted j y.0 c y.1 here in
        subst (λ (z : NumberedSeen). IsCounted t w p.counts j c z) y.2 (record {
          below = k.below;
          rising = k.rising;
          item = item_counted j c y.0.shown (all_at (λ (z : Seen). IsShownAs shapes fs paths (length is) z.shown) scope.imports.items j y.0 st.imports y.1)
              (all_at (λ (z : Seen). IsImportNamed shapes scope.home z.shown) scope.imports.items j y.0 p.named y.1) k.kind;
        })

    pub placed_scope : IsPlacedScope t w
    placed_scope = record {
      home = ap (λ o. unwrap_or o None) st.own;
      imports = items_placed scope.imports.items st.imports p.imports p.imports_keyed;
      exports = items_placed scope.exports.items st.exports p.exports p.exports_keyed;
      instances = λ j i at.
          let x = at_mapped numbered_instance is j i at in
          subst (λ (z : NumberedInstance). IsPlacedView t z.place z.view) x.2 (view_placed j x.0 x.1);
      imported = ones_of scope.imports.items p.imports_keyed;
      exported = ones_of scope.exports.items p.exports_keyed;
      seen = λ j i at.
          let x = at_mapped numbered_instance is j i at in
          subst (λ (z : NumberedInstance). IsSeenAs w z) x.2 (seen_as j x.0 x.1 (p.seen j x.0 x.1));
      counts = p.counts;
      many = p.many ∙ sym (length-map scope.imports.items (numbered_seen paths vs));
      counted = import_counted;
    }

    -- a name that it shows
    pub shows_name : (q n : ℕ) (name : Text) → IsShownBy (world_of shapes fs paths scope) q name (14 + n) → ShowsName w q n name
    shows_name q n name (scopes.by_instance j x at of among) = by_instance j among.number (numbered_instance x) (numbered_type among.type) (mapped_get numbered_instance is j x at) of
        (mapped_get numbered_type x.view.types.items among.number among.type among.at) among.named (slot_number among.type.slot ∙ among.is)
    shows_name q n name (scopes.by_import j s label d at same named own) =
        by_import j (numbered_seen paths vs s) d (mapped_get (numbered_seen paths vs) scope.imports.items j s at) (ap (numbered_shown vs) same) (ap (name_in paths) same ∙ named) own

  -- ---- all of them

  module _ (ms : List Member) (stand : MembersStand shapes fs paths ms) (placed : AreMembersPlaced shapes fs paths ms) where
    abbrev scope_in : Member → NumberedScope
    scope_in m = numbered_scope paths (scope_of m.part)

    abbrev ws : List NumberedScope
    ws = map scope_in ms

    stands : (m : ℕ) (y : Member) → slice_get ms m ≡ Some y → IsWorld (world_of shapes fs paths (scope_of y.part))
    stands m y at = all_at (λ (z : Member). StandsIn shapes fs paths z.part) ms m y stand at

    scope_placed : (m : ℕ) (y : Member) → slice_get ms m ≡ Some y → IsPlacedScope t (scope_in y)
    scope_placed m y at = let h = placed m y at in placed_scope (scope_of y.part) (stands m y at) h.base h.count h.till h.placed

    -- the instance of a member
    record IsOf (m j : ℕ) (i : NumberedInstance) : Type 0 where
      member : Member
      at : slice_get ms m ≡ Some member
      one : Instance
      one_at : slice_get (scope_of member.part).instances.items j ≡ Some one
      same : numbered_instance one ≡ i

    instance_of : (m j : ℕ) (i : NumberedInstance) → IsInstanceAt ws m j i → IsOf m j i
    instance_of m j i h =
        let y = at_mapped scope_in ms m h.scope h.at in
        let x = at_mapped numbered_instance (scope_of y.0.part).instances.items j i (subst (λ (v : NumberedScope). slice_get v.instances j ≡ Some i) (sym y.2) h.instance_at) in
        record { member = y.0; at = y.1; one = x.0; one_at = x.1; same = x.2 }

    instance_there : (m j : ℕ) (y : Member) (x : Instance) → slice_get ms m ≡ Some y → slice_get (scope_of y.part).instances.items j ≡ Some x → IsInstanceAt ws m j (numbered_instance x)
    instance_there m j y x at one_at = record { scope = scope_in y; at = mapped_get scope_in ms m y at; instance_at = mapped_get numbered_instance (scope_of y.part).instances.items j x one_at }

    no_path : (p : ℕ) (path : Text) → slice_get paths p ≡ Some None → slice_get paths p ≡ Some (Some path) → ⊥
    no_path p path e f = none (sym e ∙ f)
      where
        none : Some None ≡ Some (Some path) → ⊥
        none h = cc

    -- the place of an instance isn't that of an earlier scope
    not_earlier : (k m : ℕ) (z y : Member) (j : ℕ) (x : Instance) → slice_get ms k ≡ Some z → (at : slice_get ms m ≡ Some y) → k < m → slice_get (scope_of y.part).instances.items j ≡ Some x
        → x.place ≡ (scope_of z.part).home → ⊥
    not_earlier k m z y j x there at less one_at same = elim ((placed m y at).placed.instances j x one_at).own [
      | inl path ↦ no_path (scope_of z.part).home path.0 (stands k z there).own (ap (slice_get paths) (sym same) ∙ path.1)
      | inr inline ↦
          let low = ((placed m y at).earlier k z there less).home in
          let new = inline.new in
          absurd (omega (arith, low, new, same))
    ]

    -- what is the first of its place had no names before its scope
    no_names : (m j : ℕ) (y : Member) (x : Instance) → (at : slice_get ms m ≡ Some y) → slice_get (scope_of y.part).instances.items j ≡ Some x → IsFirstSeen ws m j x.place
        → HasNoNames x.place (placed m y at).base
    no_names m j y x at one_at first n name e = let s = (placed m y at).names n x.place name e in nothing s.number s.member name (14 + n) s.at s.below s.by
      where
        nothing : (k : ℕ) (z : Member) (name : Text) (part : ℕ) → slice_get ms k ≡ Some z → k < m → IsShownBy (world_of shapes fs paths (scope_of z.part)) x.place name part → ⊥
        nothing k z name part there less (scopes.by_instance l u u_at of among) = first.scopes k l (numbered_instance u) less (instance_there k l z u there u_at) of
        nothing k z name part there less (scopes.by_import l s label d s_at same named own) = not_earlier k m z y j x there at less one_at own

    first_view : (m j : ℕ) (y : Member) (x : Instance) → slice_get ms m ≡ Some y → slice_get (scope_of y.part).instances.items j ≡ Some x → IsFirstSeen ws m j x.place
        → distinct (map (λ (z : NumberedType). z.name) (map numbered_type x.view.types.items)) ≡ true → IsRisingView t x.place (numbered_view x.view)
    first_view m j y x at one_at first names =
        let h = placed m y at in
        let one = h.placed.instances j x one_at in
        let none = no_names m j y x at one_at first in
        let rise : Rise x.view.types.items = one.rise none (λ l z there less same. first.instances l (numbered_instance z) less (instance_there m l y z at there) same) in
        rising_view shapes fs paths x.place x.view.types.items one.named rise names x.view refl

    -- its names come behind those of all earlier instances
    first_later : (m j : ℕ) (y : Member) (x : Instance) → (at : slice_get ms m ≡ Some y) → slice_get (scope_of y.part).instances.items j ≡ Some x → IsFirstSeen ws m j x.place
        → (n k : ℕ) (z : Member) (o : Instance) → slice_get ms n ≡ Some z → slice_get (scope_of z.part).instances.items k ≡ Some o → (n < m) ⊎ ((n ≡ m) × (k < j))
        → ComeBefore o.view.types.items x.view.types.items
    first_later m j y x at one_at first n k z o there o_at (inl less) a b t u t_at u_at =
        let h = placed m y at in
        let low = h.types_below n z there less k o o_at a t t_at in
        let name = all_at (IsTypeNamed shapes x.place) x.view.types.items b u (h.placed.instances j x one_at).named u_at in
        let number = name.is in
        elim (cases_lt name.number (length h.base)) [
          | inl below ↦ absurd (no_names m j y x at one_at first name.number u.name.now (stood h.base shapes h.placed.grows name.number (named_shape x.place u.name.now) below name.at))
          | inr past ↦ omega (arith, low, number, past)
        ]
    first_later m j y x at one_at first n k z o there o_at (inr same) a b t u t_at u_at =
        let one : z ≡ y = one_item ms m z y (subst (λ i. slice_get ms i ≡ Some z) same.0 there) at in
        let here : slice_get (scope_of y.part).instances.items k ≡ Some o = subst (λ (v : Member). slice_get (scope_of v.part).instances.items k ≡ Some o) one o_at in
        ((placed m y at).placed.instances j x one_at).later (no_names m j y x at one_at first)
        (λ l w w_at less equal. first.instances l (numbered_instance w) less (instance_there m l y w at w_at) equal)
        k o here same.1 a b t u t_at u_at

    types_before : (o x : Instance) → ComeBefore o.view.types.items x.view.types.items → AreTypesBefore (instance_view o) (instance_view x)
    types_before o x before a b u v u_at v_at =
        let t = at_mapped numbered_type o.view.types.items a u u_at in
        let w = at_mapped numbered_type x.view.types.items b v v_at in
        let less = before a b t.0 w.0 t.1 w.1 in
        subst (λ (z : NumberedType). part_of z.slot < part_of v.slot) t.2 (subst (λ (z : NumberedType). part_of (numbered_type t.0).slot < part_of z.slot) w.2
        (subst (λ (k : ℕ). k < part_of (numbered_type w.0).slot) (sym (slot_number t.0.slot)) (subst (λ (k : ℕ). slot_part t.0.slot < k) (sym (slot_number w.0.slot)) less)))

    pathless : (m j : ℕ) (y : Member) (x : Instance) → (at : slice_get ms m ≡ Some y) → slice_get (scope_of y.part).instances.items j ≡ Some x → path_at t x.place ≡ None
        → IsInlinePlace (placed m y at).count (world_of shapes fs paths (scope_of y.part)) j x
    pathless m j y x at one_at none = elim ((placed m y at).placed.instances j x one_at).own [
      | inl path ↦ absurd (some_path path.0 (sym (ap (λ o. unwrap_or o None) path.1) ∙ none))
      | inr inline ↦ inline
    ]
      where
        some_path : (path : Text) → Some path ≡ None → ⊥
        some_path path e = cc

    -- instances of inline interfaces in two scopes
    apart_scopes : (m n j k : ℕ) (y z : Member) (x u : Instance) → slice_get ms m ≡ Some y → (there : slice_get ms n ≡ Some z) → slice_get (scope_of y.part).instances.items j ≡ Some x
        → slice_get (scope_of z.part).instances.items k ≡ Some u → path_at t u.place ≡ None → x.place ≡ u.place → m < n → ⊥
    apart_scopes m n j k y z x u at there x_at u_at none same less =
        let low = ((placed n z there).earlier m y at less).instances j x x_at in
        let new = (pathless n k z u there u_at none).new in
        omega (arith, low, new, same)

    -- and in one
    apart_instances : (m j k : ℕ) (y z : Member) (x u : Instance) → slice_get ms m ≡ Some y → slice_get ms m ≡ Some z → slice_get (scope_of y.part).instances.items j ≡ Some x
        → slice_get (scope_of z.part).instances.items k ≡ Some u → path_at t u.place ≡ None → x.place ≡ u.place → j < k → ⊥
    apart_instances m j k y z x u at there x_at u_at none same less =
        let one = one_item ms m y z at there in
        (pathless m k z u there u_at none).first j x (subst (λ (v : Member). slice_get (scope_of v.part).instances.items j ≡ Some x) one x_at) less same

    inline_apart : (m n j k : ℕ) (y z : Member) (x u : Instance) → slice_get ms m ≡ Some y → slice_get ms n ≡ Some z → slice_get (scope_of y.part).instances.items j ≡ Some x
        → slice_get (scope_of z.part).instances.items k ≡ Some u → path_at t x.place ≡ None → x.place ≡ u.place → (m ≡ n) × (j ≡ k)
    inline_apart m n j k y z x u at there x_at u_at none same =
        let none_there : path_at t u.place ≡ None = ap (path_at t) (sym same) ∙ none in
        let not_less : m < n → ⊥ = apart_scopes m n j k y z x u at there x_at u_at none_there same in
        let not_more : n < m → ⊥ = apart_scopes n m k j z y u x there at u_at x_at none (sym same) in
        let one : m ≡ n = between m n not_less not_more in
        let at_n : slice_get ms n ≡ Some y = subst (λ i. slice_get ms i ≡ Some y) one at in
        (one, between j k (apart_instances n j k y z x u at_n there x_at u_at none_there same) (apart_instances n k j z y u x there at_n u_at x_at none (sym same)))
      where
        between : (a b : ℕ) → (a < b → ⊥) → (b < a → ⊥) → a ≡ b
        between a b f g = elim (cases_lt a b) [ inl less ↦ absurd (f less) | inr le ↦ elim (cases_lt b a) [ inl more ↦ absurd (g more) | inr ge ↦ omega (arith, le, ge) ] ]

    homes_apart : (m n : ℕ) (y z : Member) → slice_get ms m ≡ Some y → slice_get ms n ≡ Some z → (scope_of y.part).home ≡ (scope_of z.part).home → m < n → ⊥
    homes_apart m n y z at there same less =
        let low = ((placed n z there).earlier m y at less).home in
        let high = (placed n z there).placed.home in
        omega (arith, low, high, same)

    one_home : (m n : ℕ) (y z : Member) → slice_get ms m ≡ Some y → slice_get ms n ≡ Some z → (scope_of y.part).home ≡ (scope_of z.part).home → m ≡ n
    one_home m n y z at there same = elim (cases_lt m n) [
      | inl less ↦ absurd (homes_apart m n y z at there same less)
      | inr le ↦ elim (cases_lt n m) [ inl more ↦ absurd (homes_apart n m z y there at (sym same) more) | inr ge ↦ omega (arith, le, ge) ]
    ]

    inline_not_home : (m n j : ℕ) (y z : Member) (x : Instance) → slice_get ms m ≡ Some y → slice_get ms n ≡ Some z → slice_get (scope_of y.part).instances.items j ≡ Some x → path_at t x.place ≡ None
        → x.place ≡ (scope_of z.part).home → ⊥
    inline_not_home m n j y z x at there x_at none same = elim (cases_lt m n) [
      | inl less ↦
          let low = ((placed n z there).earlier m y at less).instances j x x_at in
          let high = (placed n z there).placed.home in
          omega (arith, low, high, same)
      | inr le ↦ elim (cases_lt n m) [
        | inl more ↦ not_earlier n m z y j x there at more x_at same
        | inr ge ↦
            let one : n ≡ m = omega (arith, le, ge) in
            let equal = one_item ms m z y (subst (λ i. slice_get ms i ≡ Some z) one there) at in
            (pathless m j y x at x_at none).not_home (same ∙ ap (λ (v : Member). (scope_of v.part).home) equal)
      ]
    ]

    met_before : (m j q : ℕ) → followed.IsMetBefore ms m j q → IsMetBefore ws m j q
    met_before m j q (followed.in_earlier k y less at h) = in_earlier k h.number (numbered_instance h.one) less (instance_there k h.number y h.one at h.at) h.place
    met_before m j q (followed.in_same y at h) = in_same h.number (numbered_instance h.one) h.earlier (instance_there m h.number y h.one at h.at) h.place

    pub placed_scopes : AreNamesShown shapes fs paths ms → ArePlacesMet paths ms → ArePlacesInOrder paths ms → AreFormed shapes → ArePlacedScopes t ws
    placed_scopes names met order formed = record {
      each = λ m w at. (let y = at_mapped scope_in ms m w at in subst (λ (v : NumberedScope). IsPlacedScope t v) y.2 (scope_placed m y.0 y.1));
      names = λ n q name at.
          let s = names n q name at in
          let h = placed s.number s.member s.at in
          record {
            number = s.number;
            scope = scope_in s.member;
            at = mapped_get scope_in ms s.number s.member s.at;
            shows = shows_name (scope_of s.member.part) (stands s.number s.member s.at) h.base h.count h.till h.placed q n name s.by;
          };
      met = λ q h.
          let m = met q h.0 (path_there paths q h.0 h.1) in
          record { scope = m.number; number = m.met.number; one = numbered_instance m.met.one; at = instance_there m.number m.met.number m.member m.met.one m.at m.met.at; place = m.met.place };
      order = λ m j i h q path less.
          let k = instance_of m j i h in
          let same : k.one.place ≡ i.place = ap (λ (z : NumberedInstance). z.place) k.same in
          met_before m j q (order m k.member k.at j k.one k.one_at q path.0 (path_there paths q path.0 path.1) (omega (arith, less, same)));
      formed = formed;
      firsts = λ m j i h.
          let k = instance_of m j i h in
          subst (λ (z : NumberedInstance). IsFirstSeen ws m j z.place → distinct (map (λ (x : NumberedType). x.name) z.view.types) ≡ true → IsRisingView t z.place z.view) k.same
          (first_view m j k.member k.one k.at k.one_at);
      later = λ m j i h first n k o there before.
          let f = instance_of m j i h in
          let g = instance_of n k o there in
          subst (λ (v : NumberedView). AreTypesBefore o.view v) (ap (λ (z : NumberedInstance). z.view) f.same)
          (subst (λ (v : NumberedView). AreTypesBefore v (instance_view f.one)) (ap (λ (z : NumberedInstance). z.view) g.same)
          (types_before g.one f.one
          (first_later m j f.member f.one f.at f.one_at (subst (IsFirstSeen ws m j) (sym (ap (λ (z : NumberedInstance). z.place) f.same)) first) n k g.member g.one g.at g.one_at before)));
      homes = λ m n w v at there same.
          let y = at_mapped scope_in ms m w at in
          let z = at_mapped scope_in ms n v there in
          one_home m n y.0 z.0 y.1 z.1 (ap (λ (x : NumberedScope). x.home) y.2 ∙ (same ∙ sym (ap (λ (x : NumberedScope). x.home) z.2)));
      inline = λ m n j k i l h g none same.
          let a = instance_of m j i h in
          let b = instance_of n k l g in
          inline_apart m n j k a.member b.member a.one b.one a.at b.at a.one_at b.one_at (ap (λ (z : NumberedInstance). path_at t z.place) a.same ∙ none)
          (ap (λ (z : NumberedInstance). z.place) a.same ∙ (same ∙ sym (ap (λ (z : NumberedInstance). z.place) b.same)));
      not_home = λ m n j i w h there none same.
          let a = instance_of m j i h in
          let z = at_mapped scope_in ms n w there in
          inline_not_home m n j a.member z.0 a.one a.at z.1 a.one_at (ap (λ (x : NumberedInstance). path_at t x.place) a.same ∙ none)
          (ap (λ (x : NumberedInstance). x.place) a.same ∙ (same ∙ sym (ap (λ (x : NumberedScope). x.home) z.2)));
    }

pub places_are_kept : PlacesAreKept
places_are_kept pieces x f = placed_scopes x.table x.functions x.places f.followed.tables x.members.items f.followed.stand f.followed.placed f.followed.names f.followed.met f.followed.order
    f.followed.formed
