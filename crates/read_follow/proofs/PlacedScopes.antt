-- Names stay in their places as a scope of a component type goes on.
use Rattle.std.proofs.Common.{rules as std_rules, ◌≡◌, ◌⊎◌, inl, inr, refl, sym, ap, ◌∙◌, subst, ℕ, zero, suc, ◌+◌, ◌<◌, ◌≤◌, arith, Bool, true, false, cond, List, [], ◌∷◌, ◌++◌, map, length, length-append, Option, Some, None, slice_get, unwrap_or, append_assoc}
use Rattle.std.proofs.lemmas.{Bool.cases_lt, Bool.false≢true, List.append-nil, Option.slice_get_within as found_below}
use Rattle.std.specs.List.{AllByRecursion}
use Rattle.wit_model.specs.{Meaning.FunctionMeaning, Meaning.Signature, Text.Text, Text.text_eq, Tree.Form, Tree.Place, Tree.Tree}
use Rattle.comp_meaning.specs.Follow.{Scope as MeantScope, Seen as MeantSeen, Shown as MeantShown, Slot as Meant, ShownType as MeantType, View as MeantView}
use Rattle.read_follow.specs.declared.{instance_keys.InstanceKey.InstanceKey, scopes.Instance.Instance, scopes.Shown.Shown, views.ShownType.ShownType}
use Rattle.read_follow.specs.declared.{scopes.Seen.Seen, slots.Slot.Slot}
use Rattle.read_follow.specs.{Defining.Grows, Functions.functions_in, Functions.FunctionShape, Places.has_path}
use Rattle.read_follow.specs.{Following.AreTables, Following.IsShownIn, Following.IsTypeSlot, Slots.resource_slot, Slots.slot_in, Slots.slots_in}
use Rattle.read_follow.specs.Placed.{apart, slot_part, DeclarationOver, IsNameAs, IsTypeNamed, MayMeet, SignatureOver, SlotOver, TreeOver, ViewOver}
use Rattle.read_follow.specs.Scopes.{find_slot, meant_at, seen_in, view_in, IsCounted, IsCountedAs, IsFirstOf, IsImportNamed, IsKeyPlaced, IsInlinePlace, IsInstanceIn, IsInstanceSeen, as_export, as_import, IsPlacedAmong, IsPlacedInstance, IsShownAs, IsShownBy, by_instance, by_import, IsWorld, ShownOver, World}
use Rattle.plan_meaning.specs.{PlanRules.is_form, Shapes.Shape, Shapes.named_shape, Shapes.node_shape, Shapes.shape_trees, Shapes.IsTable}
use Rattle.read_follow.proofs.{DefiningLaws.all_at, DefiningLaws.longer, FollowingLaws.name_part, OverLaws.name_over}
use Rattle.read_follow.proofs.PlacedLaws.{met_wider, name_wider, stands_on, stood, types_named_wider}
use Rattle.read_follow.proofs.ScopeLaws.{exported, extended, extended_meant, imported, view_stays, F, G, T, U}
use Rattle.base_lemmas.proofs.{Elements.all_both, Lists.at_last, Lists.last_or, Lists.within_there as slice_there}
use Rattle.plan_meaning.proofs.Lists.{each_so}
use Rattle.wit_model.specs.Tree as tree
use Rattle.read_follow.specs.declared.scopes.Shown.TheVariants as shown
use Rattle.read_follow.specs.declared.slots.Slot.TheVariants as slots

-- ---- what is over fewer places is over more

module _ (P Q : Place → Type 0) (weaker : (x : Place) → P x → Q x) where
  signature_weaker : (f : Signature) → SignatureOver P f → SignatureOver Q f
  signature_weaker f h = (each_so (λ (p : Text × Tree). TreeOver P p.1) (λ (p : Text × Tree). TreeOver Q p.1) (λ p t x c. weaker x (t x c)) f.params h.0, (search std_rules))

  declaration_weaker : (d : tree.TypeDeclaration) → DeclarationOver P d → DeclarationOver Q d
  declaration_weaker y h = search std_rules

  slot_weaker : (s : Meant) → SlotOver P s → SlotOver Q s
  slot_weaker y h = search (std_rules, signature_weaker)

  shown_weaker : (s : MeantShown) → ShownOver P s → ShownOver Q s
  shown_weaker x h = search (std_rules, signature_weaker, declaration_weaker)

  view_weaker : (v : MeantView) → ViewOver P v → ViewOver Q v
  view_weaker v h = record {
    types = each_so _ _ (λ (t : MeantType). declaration_weaker t.meaning.declaration) v.types h.types;
    functions = each_so _ _ (λ (f : Text × FunctionMeaning). signature_weaker f.1.signature) v.functions h.functions;
  }

-- ---- a scope with something more

module _ (old : World) (st : IsWorld old) (more : List Shape) (more_fs : List FunctionShape) (more_paths : List (Option (List ℕ)))
    (gs : Grows old.shapes more) (gf : Grows old.signatures more_fs) (gp : Grows old.paths more_paths) (tables : AreTables (length more_paths) more more_fs)
    (ss : List Slot) (xs : List Instance) (im ex : List Seen) (us : List ℕ) where
  abbrev new : World
  new = extended old st more more_fs more_paths gs gf gp tables ss xs im ex us

  abbrev Old : ℕ → Place → Type 0
  Old p = MayMeet (map has_path old.paths) p

  abbrev New : ℕ → Place → Type 0
  New p = MayMeet (map has_path more_paths) p

  met_still : (p : ℕ) (x : Place) → Old p x → New p x
  met_still p = met_wider old.paths more_paths gp p

  instances_grow : Grows old.instances (old.instances ++ xs)
  instances_grow = record { more = xs; is = refl }

  imports_grow : Grows old.imports (old.imports ++ im)
  imports_grow = record { more = im; is = refl }

  seen_still : (j : ℕ) → IsInstanceSeen old j → IsInstanceSeen new j
  seen_still j (as_import n s key at is) = as_import n s key (stands_on old.imports (old.imports ++ im) imports_grow n s at) is
  seen_still j (as_export n s key at is) = as_export n s key (stands_on old.exports (old.exports ++ ex) (record { more = ex; is = refl }) n s at) is

  first_then : (j : ℕ) (x : Instance) → IsFirstOf (old.instances ++ xs) j x → IsFirstOf old.instances j x
  first_then j x first i y at less = first i y (stands_on old.instances (old.instances ++ xs) instances_grow i y at) less

  still_shown : (q : ℕ) (name : Text) (part : ℕ) → IsShownBy old q name part → IsShownBy new q name part
  still_shown q name part (by_instance j x at is among) = by_instance j x (stands_on old.instances (old.instances ++ xs) instances_grow j x at) is among
  still_shown q name part (by_import j s label d at is named own) = by_import j s label d (stands_on old.imports (old.imports ++ im) imports_grow j s at) is named own

  import_named : (x : Shown) → IsImportNamed old.shapes old.home x → IsImportNamed more old.home x
  import_named (shown.Instance key n) h = tt
  import_named (shown.Function name f) h = tt
  import_named (shown.Type name part d) h = name_wider old.shapes more gs old.home name.now part h

  key_still : (x : Shown) → IsKeyPlaced old.instances x → IsKeyPlaced (old.instances ++ xs) x
  key_still (shown.Instance key n) h = (h.0, stands_on old.instances (old.instances ++ xs) instances_grow n h.0 h.1, h.2)
  key_still (shown.Function name f) h = tt
  key_still (shown.Type name part d) h = tt

  module _ (base : List Shape) (count till : ℕ) (p : IsPlacedAmong base count till old) where
    own_still : (j : ℕ) (x : Instance) → j < length old.instances → ((path : Text) × (slice_get old.paths x.place ≡ Some (Some path))) ⊎ IsInlinePlace count old j x
        → ((path : Text) × (slice_get more_paths x.place ≡ Some (Some path))) ⊎ IsInlinePlace count new j x
    own_still j x below (inl path) = inl (path.0, stands_on old.paths more_paths gp x.place (Some path.0) path.1)
    own_still j x below (inr inline) = inr (record {
      none = stands_on old.paths more_paths gp x.place None inline.none;
      new = inline.new;
      not_home = inline.not_home;
      first = λ i y at less. inline.first i y (stood old.instances (old.instances ++ xs) instances_grow i y (omega (arith, less, below)) at) less;
    })

    instance_still : (j : ℕ) (x : Instance) → slice_get old.instances j ≡ Some x → IsPlacedInstance base count new j x
    instance_still j x at =
        let h = p.instances j x at in
        let inside = all_at (IsInstanceIn old.shapes old.signatures old.paths) old.instances j x st.instances at in
        let below = found_below old.instances j x at in
        record {
          shown = subst (λ (v : MeantView). ViewOver (New x.place) v) (sym (view_stays old st more more_fs more_paths gs gf gp tables ss xs im ex us apart x.view inside.types inside.functions))
              (view_weaker (Old x.place) (New x.place) (met_still x.place) (view_in (T old st more more_fs more_paths gs gf gp tables ss xs im ex us apart)
              (F old st more more_fs more_paths gs gf gp tables ss xs im ex us apart) x.view) h.shown);
          named = types_named_wider old.shapes more gs x.place x.view.types.items h.named;
          own = own_still j x below h.own;
          rise = λ none first. h.rise none (first_then j x first);
          later = λ none first i y there less. h.later none (first_then j x first) i y (stood old.instances (old.instances ++ xs) instances_grow i y (omega (arith, less, below)) there) less;
        }

    module _ (cs : List ℕ) where
      counts_grow : Grows p.counts (p.counts ++ cs)
      counts_grow = record { more = cs; is = refl }

      kind_still : (j c : ℕ) → j < length p.counts → (x : Shown) → IsShownAs old.shapes old.signatures old.paths (length old.instances) x → IsCountedAs old p.counts j c x
          → IsCountedAs new (p.counts ++ cs) j c x
      kind_still j c below (shown.Instance key n) is h = tt
      kind_still j c below (shown.Function name f) is h = λ g at. h g (stood old.signatures more_fs gf f g is at)
      kind_still j c below (shown.Type name part d) is (inl r) = inl (record {
        number = r.number;
        earlier = r.earlier;
        seen = r.seen;
        at = stands_on old.imports (old.imports ++ im) imports_grow r.number r.seen r.at;
        label = r.label;
        part = r.part;
        declared = r.declared;
        is = r.is;
        same = r.same;
      })
      kind_still j c below (shown.Type name part d) is (inr l) = inr (record {
        last = l.last;
        declared = l.declared;
        others = λ i b at less. l.others i b (stood p.counts (p.counts ++ cs) counts_grow i b (omega (arith, less, below)) at) less;
      })

      counted_still : (j : ℕ) (s : Seen) (c : ℕ) → slice_get old.imports j ≡ Some s → slice_get p.counts j ≡ Some c → IsCounted new (p.counts ++ cs) j s c
      counted_still j s c at here =
          let h = p.counted j s c at here in
          let below = found_below p.counts j c here in
          record {
            below = omega (arith, h.below, longer old.shapes more gs);
            rising = λ i b e less. h.rising i b (stood p.counts (p.counts ++ cs) counts_grow i b (omega (arith, less, below)) e) less;
            kind = kind_still j c below s.shown (all_at (λ (y : Seen). IsShownAs old.shapes old.signatures old.paths (length old.instances) y.shown) old.imports j s st.imports at) h.kind;
          }

      pub extended_placed : (now : ℕ) → now ≤ length more
          → AllByRecursion (SlotOver (New old.home)) (slots_in (U old st more more_fs more_paths gs gf gp tables ss xs im ex us apart)
          (G old st more more_fs more_paths gs gf gp tables ss xs im ex us apart) ss)
          → ((j : ℕ) (x : Instance) → slice_get (old.instances ++ xs) j ≡ Some x → length old.instances ≤ j → IsPlacedInstance base count new j x)
          → AllByRecursion (λ (s : MeantSeen). ShownOver (New old.home) s.shown)
          (map (seen_in apart (U old st more more_fs more_paths gs gf gp tables ss xs im ex us apart) (G old st more more_fs more_paths gs gf gp tables ss xs im ex us apart) (old.instances ++ xs)) im)
          → AllByRecursion (λ (s : MeantSeen). ShownOver (New old.home) s.shown)
          (map (seen_in apart (U old st more more_fs more_paths gs gf gp tables ss xs im ex us apart) (G old st more more_fs more_paths gs gf gp tables ss xs im ex us apart) (old.instances ++ xs)) ex)
          → AllByRecursion (λ (s : Seen). IsImportNamed more old.home s.shown) im → AllByRecursion (λ (s : Seen). IsKeyPlaced (old.instances ++ xs) s.shown) im
          × AllByRecursion (λ (s : Seen). IsKeyPlaced (old.instances ++ xs) s.shown) ex
          → ((j : ℕ) (x : Instance) → slice_get (old.instances ++ xs) j ≡ Some x → length old.instances ≤ j → IsInstanceSeen new j)
          → ((n q : ℕ) (name : Text) → n < now → slice_get more n ≡ Some (named_shape q name) → (n < till) ⊎ IsShownBy new q name (14 + n))
          → ((n : ℕ) (form : Form) (parts : List ℕ) → n < now → slice_get more n ≡ Some (node_shape form parts) → (n < till) ⊎ (is_form form parts ≡ true)) → length cs ≡ length im
          → ((j : ℕ) (s : Seen) (c : ℕ) → slice_get (old.imports ++ im) j ≡ Some s → slice_get (p.counts ++ cs) j ≡ Some c → length old.imports ≤ j → IsCounted new (p.counts ++ cs) j s c)
          → IsPlacedAmong base count now new
      extended_placed now within hs hx hi he hn hk seen names forms many counted =
          let meant = extended_meant old st more more_fs more_paths gs gf gp tables ss xs im ex us apart in
          let before = meant_at apart old in
          let was = p.many in
          record {
            grows = record { more = p.grows.more ++ gs.more; is = gs.is ∙ (ap (λ zs. zs ++ gs.more) p.grows.is ∙ append_assoc base p.grows.more gs.more) };
            within = within;
            home = p.home;
            fresh = p.fresh;
            slots = subst (λ (zs : List Meant). AllByRecursion (SlotOver (New old.home)) zs) (sym (ap (λ (m : MeantScope). m.slots) meant))
                (all_both (SlotOver (New old.home)) before.slots _ (each_so _ _ (slot_weaker (Old old.home) (New old.home) (met_still old.home)) before.slots p.slots) hs);
            imports = subst (λ (zs : List MeantSeen). AllByRecursion (λ (s : MeantSeen). ShownOver (New old.home) s.shown) zs) (sym (ap (λ (m : MeantScope). m.imports) meant))
                (all_both (λ (s : MeantSeen). ShownOver (New old.home) s.shown) before.imports _
                (each_so _ _ (λ (s : MeantSeen). shown_weaker (Old old.home) (New old.home) (met_still old.home) s.shown) before.imports p.imports) hi);
            exports = subst (λ (zs : List MeantSeen). AllByRecursion (λ (s : MeantSeen). ShownOver (New old.home) s.shown) zs) (sym (ap (λ (m : MeantScope). m.exports) meant))
                (all_both (λ (s : MeantSeen). ShownOver (New old.home) s.shown) before.exports _
                (each_so _ _ (λ (s : MeantSeen). shown_weaker (Old old.home) (New old.home) (met_still old.home) s.shown) before.exports p.exports) he);
            named = all_both (λ (s : Seen). IsImportNamed more old.home s.shown) old.imports im (each_so _ _ (λ (s : Seen). import_named s.shown) old.imports p.named) hn;
            imports_keyed = all_both (λ (s : Seen). IsKeyPlaced (old.instances ++ xs) s.shown) old.imports im (each_so _ _ (λ (s : Seen). key_still s.shown) old.imports p.imports_keyed) hk.0;
            exports_keyed = all_both (λ (s : Seen). IsKeyPlaced (old.instances ++ xs) s.shown) old.exports ex (each_so _ _ (λ (s : Seen). key_still s.shown) old.exports p.exports_keyed) hk.1;
            formed = λ n form parts low at. elim (forms n form parts low at) [
              | inl below ↦ p.formed n form parts below (stood old.shapes more gs n (node_shape form parts) (let inside = p.within in omega (arith, below, inside)) at)
              | inr formed ↦ inr formed
            ];
            instances = λ j x at. elim (cases_lt j (length old.instances)) [
              | inl below ↦ instance_still j x (stood old.instances (old.instances ++ xs) instances_grow j x below at)
              | inr past ↦ hx j x at past
            ];
            seen = λ j x at. elim (cases_lt j (length old.instances)) [
              | inl below ↦ seen_still j (p.seen j x (stood old.instances (old.instances ++ xs) instances_grow j x below at))
              | inr past ↦ seen j x at past
            ];
            names = λ n q name low at. elim (names n q name low at) [
              | inl below ↦ elim (p.names n q name below (stood old.shapes more gs n (named_shape q name) (let inside = p.within in omega (arith, below, inside)) at))
                  [ inl first ↦ inl first | inr by ↦ inr (still_shown q name (14 + n) by) ]
              | inr by ↦ inr by
            ];
            counts = p.counts ++ cs;
            many = omega (arith, was, length-append p.counts cs, length-append old.imports im, many);
            counted = λ j s c at here. elim (cases_lt j (length old.imports)) [
              | inl below ↦ counted_still j s c (stood old.imports (old.imports ++ im) imports_grow j s below at) (stood p.counts (p.counts ++ cs) counts_grow j c (omega (arith, below, was)) here)
              | inr past ↦ counted j s c at here past
            ];
          }

-- ---- one more

pub none_past : {X : Type 0} (xs : List X) (j : ℕ) (x : X) → slice_get (xs ++ []) j ≡ Some x → length xs ≤ j → ⊥
none_past xs j x at past = let below = found_below xs j x (ap (λ zs. slice_get zs j) (sym (append-nil xs)) ∙ at) in omega (arith, below, past)

pub only_last : {X : Type 0} (xs : List X) (y : X) (j : ℕ) (x : X) → slice_get (xs ++ y ∷ []) j ≡ Some x → length xs ≤ j → (j ≡ length xs) × (y ≡ x)
only_last xs y j x at past = elim (last_or xs y j x at) [ inl h ↦ (let below = h.0 in absurd (omega (arith, below, past))) | inr h ↦ h ]

pub imported_many : {X Y : Type 0} (b : Bool) (x : X) (y : Y) → length (imported b x) ≡ length (imported b y)
imported_many x y z = search std_rules

-- what is added as an instance is one that is seen
pub added_seen : (w : World) (before after : List Seen) (b : Bool) (s : Seen) (key : InstanceKey) (j : ℕ) → w.imports ≡ before ++ imported b s → w.exports ≡ after ++ exported b s
    → s.shown ≡ shown.Instance key j → IsInstanceSeen w j
added_seen w before after true s key j im ex is = as_import (length before) s key (ap (λ (xs : List Seen). slice_get xs (length before)) im ∙ at_last before s) is
added_seen w before after false s key j im ex is = as_export (length after) s key (ap (λ (xs : List Seen). slice_get xs (length after)) ex ∙ at_last after s) is

-- an import or an export that passes
pub seen_passes : (P : MeantSeen → Type 0) (f : Seen → MeantSeen) (b : Bool) (s : Seen) → P (f s) → AllByRecursion P (map f (imported b s)) × AllByRecursion P (map f (exported b s))
seen_passes x f y s h = search std_rules

pub both_pass : (P : Seen → Type 0) (b : Bool) (s : Seen) → P s → AllByRecursion P (imported b s) × AllByRecursion P (exported b s)
both_pass x y s h = search std_rules

pub import_passes : (P : Seen → Type 0) (b : Bool) (s : Seen) → P s → AllByRecursion P (imported b s)
import_passes x y s h = search std_rules

module _ (base : List Shape) (count till : ℕ) (old : World) (p : IsPlacedAmong base count till old) where
  -- no count is above the length of the table
  pub counts_below : (i b : ℕ) → slice_get p.counts i ≡ Some b → b ≤ length old.shapes
  counts_below i b at =
      let s = slice_there old.imports i (omega (arith, found_below p.counts i b at, p.many)) in
      (p.counted i s.0 b s.1 at).below

  -- an import that is counted, where one comes behind the others
  pub one_counted : (new : World) (b : Bool) (s : Seen) (c : ℕ) → new.imports ≡ old.imports ++ imported b s → length old.shapes ≤ c → c ≤ length new.shapes
      → IsCountedAs new (p.counts ++ imported b c) (length old.imports) c s.shown → (j : ℕ) (t : Seen) (d : ℕ) → slice_get (old.imports ++ imported b s) j ≡ Some t
      → slice_get (p.counts ++ imported b c) j ≡ Some d → length old.imports ≤ j → IsCounted new (p.counts ++ imported b c) j t d
  one_counted new false s c is least most kind j t d at here past = absurd (none_past old.imports j t at past)
  one_counted new true s c is least most kind j t d at here past =
      let was = p.many in
      let last = only_last old.imports s j t at past in
      let counted = only_last p.counts c j d here (omega (arith, was, past)) in
      let one : IsCounted new (p.counts ++ c ∷ []) (length old.imports) s c = record {
        below = most;
        rising = λ i b e less.
            let low = counts_below i b (stood p.counts (p.counts ++ c ∷ []) (record { more = c ∷ []; is = refl }) i b (omega (arith, less, was)) e) in
            omega (arith, low, least);
        kind = kind;
      } in
      subst (λ (n : ℕ). IsCounted new (p.counts ++ c ∷ []) n t d) (sym last.0)
      (subst (λ (x : Seen). IsCounted new (p.counts ++ c ∷ []) (length old.imports) x d) last.1 (subst (λ (e : ℕ). IsCounted new (p.counts ++ c ∷ []) (length old.imports) s e) counted.1 one))

-- ---- slots of types under their names

module _ (shapes : List Shape) (table : IsTable shapes) (fs : List FunctionShape) (P : Place → Type 0) (place : ℕ) (met : P (apart place)) where
  slot_over : (s : Slot) → IsTypeSlot s → (name : Text) → IsNameAs shapes place name (slot_part s) → SlotOver P (slot_in (shape_trees apart shapes) (functions_in (shape_trees apart shapes) fs) s)
  slot_over (slots.Value part) kind name h =
      subst (λ t. TreeOver P t) (sym (name_part apart shapes part table (record { number = h.number; place = place; name = name; is = h.is; at = h.at }))) (name_over P (apart place) name met)
  slot_over (slots.Resource part) kind name h =
      subst (λ t. SlotOver P (resource_slot t)) (sym (name_part apart shapes part table (record { number = h.number; place = place; name = name; is = h.is; at = h.at }))) met
  slot_over (slots.Function n) kind name h = absurd kind
  slot_over (slots.Instance b n) kind name h = absurd kind

  pub found_over : (name : Text) (ts : List ShownType) → AllByRecursion (IsShownIn shapes fs) ts → AllByRecursion (IsTypeNamed shapes place) ts → (s : Slot) → find_slot name ts ≡ Some s
      → SlotOver P (slot_in (shape_trees apart shapes) (functions_in (shape_trees apart shapes) fs) s)
  found_over name [] h named s e = absurd cc
  found_over name (t ∷ ts) h named s e = by (text_eq name t.name.now) e (found_over name ts h.1 named.1 s)
    where
      by : (b : Bool) → cond b (Some t.slot) (find_slot name ts) ≡ Some s
          → (find_slot name ts ≡ Some s → SlotOver P (slot_in (shape_trees apart shapes) (functions_in (shape_trees apart shapes) fs) s))
          → SlotOver P (slot_in (shape_trees apart shapes) (functions_in (shape_trees apart shapes) fs) s)
      by true f rest = let same : t.slot ≡ s = cc in subst (λ (x : Slot). SlotOver P (slot_in (shape_trees apart shapes) (functions_in (shape_trees apart shapes) fs) x)) same
          (slot_over t.slot h.0.kind t.name.now named.0)
      by false f rest = rest f

-- a place with a path is marked
pub path_marked : (paths : List (Option Text)) (p : ℕ) → has_path (unwrap_or (slice_get paths p) None) ≡ true → slice_get (map has_path paths) p ≡ Some true
path_marked [] p e = absurd (false≢true e)
path_marked (o ∷ paths) zero e = ap Some e
path_marked (o ∷ paths) (suc p) e = path_marked paths p e

-- and its names may be met
pub path_met : (paths : List (Option Text)) (home p : ℕ) → slice_get (map has_path paths) p ≡ Some true → MayMeet (map has_path paths) home (apart p)
path_met paths home p marked q same = let one : p ≡ q = cc in inr (subst (λ n. slice_get (map has_path paths) n ≡ Some true) one marked)
