-- What imports, exports and aliases of a component type show.
use Rattle.std.proofs.Common.{rules as std_rules, ◌≡◌, ◌⊎◌, inl, inr, refl, sym, ap, ◌∙◌, subst, ℕ, ◌+◌, ◌<◌, ◌≤◌, arith, Bool, true, cond, List, [], ◌∷◌, ◌++◌, map, length, Option, Some, None, IfSome, slice_get, unwrap_or, Result, OnOk}
use Rattle.std.proofs.{Math.ListN.length-map, lemmas.Bool.cases_lt, lemmas.List.append-nil, lemmas.Option.slice_get_within as found_below}
use Rattle.std.specs.List.{AllByRecursion}
use Rattle.wit_model.specs.{Meaning.Signature, Text.Text, Tree.Place, Tree.Tree}
use Rattle.comp_bytes.specs.declared.forms.ComponentTypeRef.{ComponentTypeRef}
use Rattle.comp_bytes.specs.Reading.{◌>>=◌}
use Rattle.comp_meaning.specs.Follow.{Scope as MeantScope, Seen as MeantSeen, Instance as MeantInstance, Slot as Meant, function_in, in_scope, is_simple, named_type, provided, see, see_function, see_type}
use Rattle.read_follow.specs.declared.{names.ExternName.ExternName, refusal.Refusal.Refusal, scopes.Seen.Seen, shows.NewName.NewName}
use Rattle.read_follow.specs.declared.slots.Slot.{Slot}
use Rattle.read_follow.specs.{Defining.Grows, Placed.apart, Placed.DeclarationOver, Placed.MayMeet, Placed.SlotOver, Places.has_path}
use Rattle.read_follow.specs.{ExternNames.raw_name, Following.AreTables, Following.IsSlotIn, Following.IsState, Following.State}
use Rattle.read_follow.specs.{Found.Refuses, Slots.no_signature, Slots.slot_in, Slots.slots_in, Slots.AreInRange, Slots.AreNames}
use Rattle.read_follow.specs.{Functions.functions_in, Functions.IsFunctionIn, Numbering.all_in, Numbering.parts_in, Numbering.slot_parts, Numbering.CountUp}
use Rattle.read_follow.specs.InstanceScopes.{name_meant, name_slot, named_by}
use Rattle.read_follow.specs.Scopes.{direction, meant_at, seen_in, waiting, world_signatures, world_trees, Goes, IsCountedAs, IsImportNamed, IsImportRepeated, IsKeyPlaced, IsLastName, IsPlacedWorld, IsShownAs, IsShownBy, by_instance, by_import, IsWorld, ShownOver, Stops, World}
use Rattle.plan_meaning.specs.Shapes.{Shape, first_label, named_shape, node_shape, shape_trees, Adds, IsTable}
use Rattle.read_follow.proofs.DefiningLaws.{adds_cases, adds_grow, adds_name, adds_one, adds_placed, all_at, longer, same_list}
use Rattle.read_follow.proofs.{FollowingLaws.declared_stays, FollowingLaws.functions_wider, FollowingLaws.names_of, PlacedLaws.stands_on, PlacedLaws.stood}
use Rattle.read_follow.proofs.{OverLaws.named_over, Refusing.refused, ScopedLaws.slot_numbered, SlotLaws.at_slot}
use Rattle.read_follow.proofs.PlacedScopes.{both_pass, counts_below, extended_placed, import_passes, imported_many, none_past, one_counted, seen_passes}
use Rattle.read_follow.proofs.ScopeLaws.{all_before, exported, extended, extended_world, goes_on, imported, none_behind, plus, plus_seen, plus_type, waiting_push, waits, world_with}
use Rattle.read_follow.proofs.ShowLaws.{declared_range, name_counted, name_in, name_stands, old_range, own_over}
use Rattle.base_lemmas.proofs.Lists.{at_last, last_or}
use Rattle.wit_model.specs.Tree as tree
use Rattle.comp_meaning.specs.Follow as follow
use Rattle.read_follow.specs.declared.scopes.Shown.TheVariants as shown
use Rattle.read_follow.specs.declared.slots.Slot.TheVariants as slots

-- ---- results

pub on_both : {A : Type 0} (P Q R : Type 0) (r : Result A Refusal) → OnOk r P → OnOk r Q → (P → Q → R) → OnOk r R
on_both x y z u p q f = search std_rules

-- ---- imports or exports

abbrev pub added_imports : Bool → List Seen → Seen → List Seen
added_imports b xs s = cond b (xs ++ s ∷ []) xs

abbrev pub added_exports : Bool → List Seen → Seen → List Seen
added_exports b xs s = cond b xs (xs ++ s ∷ [])

pub imports_are : (b : Bool) (xs : List Seen) (s : Seen) → added_imports b xs s ≡ xs ++ imported b s
imports_are x xs s = search std_rules

pub exports_are : (b : Bool) (xs : List Seen) (s : Seen) → added_exports b xs s ≡ xs ++ exported b s
exports_are x xs s = search std_rules

pub all_imported : {X : Type 0} (P : X → Type 0) (b : Bool) (x : X) → P x → AllByRecursion P (imported b x)
all_imported x y z h = search std_rules

pub all_exported : {X : Type 0} (P : X → Type 0) (b : Bool) (x : X) → P x → AllByRecursion P (exported b x)
all_exported x y z h = search std_rules

-- what is seen stands where it is imported or exported
pub seen_plus : (b : Bool) (f : Seen → MeantSeen) (m : MeantScope) (ss : List Meant) (is : List MeantInstance) (us : List ℕ) (s : Seen) (meant : MeantSeen) → f s ≡ meant
    → plus m ss is (imported b meant) (exported b meant) us ≡ plus m ss is (map f (imported b s)) (map f (exported b s)) us
seen_plus b f m ss is us s meant e = search std_rules

-- ---- functions

module _ (old : World) (st : IsWorld old) (b : Bool) (name : ExternName) (n : ℕ) where
  abbrev function_found : MeantScope → Option Signature → Option MeantScope
  function_found m o = o >>= λ f. provided (is_simple (raw_name name)) (see (direction b)
      (record { key = name.text.now; shown = follow.Shown.function f; external_id = (raw_name name).external_id }) m)

  pub function_goes : (k : ℕ) → slice_get old.slots n ≡ Some (slots.Function k)
      → ((T : List Tree) (F : List Signature) → function_in (slice_get (slots_in T F old.slots) n) ≡ Some (unwrap_or (slice_get F k) no_signature)) → is_simple (raw_name name) ≡ true
      → (new : World) → new ≡ record old {
        imports = added_imports b old.imports (record { shown = shown.Function name.text k; external_id = name.external_id });
        exports =
            added_exports b old.exports (record { shown = shown.Function name.text k; external_id = name.external_id });
      } → Goes 1 (see_function (direction b) (raw_name name) n) old new
  function_goes k at found simple new e =
      let s : Seen = record { shown = shown.Function name.text k; external_id = name.external_id } in
      let gs = same_list old.shapes in
      let gf = same_list old.signatures in
      let gp = same_list old.paths in
      let inside : k < length old.signatures = all_at (IsSlotIn old.shapes old.signatures) old.slots n (slots.Function k) st.slots at in
      goes_on old st old.shapes old.signatures old.paths gs gf gp st.tables [] [] (imported b s) (exported b s) [] 1 (see_function (direction b) (raw_name name) n) new
      (e ∙ (λ i. world_with old.home old.shapes old.signatures old.paths (sym (append-nil old.slots) i) (sym (append-nil old.instances) i) (imports_are b old.imports s i)
      (exports_are b old.exports s i) (sym (append-nil old.used) i))) (extended_world old st old.shapes old.signatures old.paths gs gf gp st.tables [] [] (imported b s) (exported b s) [] tt tt
      (all_imported (λ (x : Seen). IsShownAs old.shapes old.signatures old.paths (length (old.instances ++ [])) x.shown) b s inside)
      (all_exported (λ (x : Seen). IsShownAs old.shapes old.signatures old.paths (length (old.instances ++ [])) x.shown) b s inside)) (λ base places p.
      let P = MayMeet (map has_path old.paths) old.home in
      let T = world_trees apart old in
      let F = world_signatures apart old in
      let seen = seen_passes (λ (x : MeantSeen). ShownOver P x.shown) (seen_in apart T F (old.instances ++ [])) b s
      (all_at (SlotOver P) (meant_at apart old).slots n (slot_in T F (slots.Function k)) p.slots (at_slot old.slots n T F (slots.Function k) at)) in
      let c = length old.shapes in
      extended_placed old st old.shapes old.signatures old.paths gs gf gp st.tables [] [] (imported b s) (exported b s) [] base places (length old.shapes) p (imported b c) (length old.shapes)
      (omega arith) tt (λ j x at past. absurd (none_past old.instances j x at past))
      seen.0 seen.1 (import_passes (λ (x : Seen). IsImportNamed old.shapes old.home x.shown) b s tt) (both_pass (λ (x : Seen). IsKeyPlaced (old.instances ++ []) x.shown) b s tt)
      (λ j x at past. absurd (none_past old.instances j x at past)) (λ j q x low e. inl (found_below old.shapes j (named_shape q x) e))
      (λ j form parts low e. inl (found_below old.shapes j (node_shape form parts) e)) (imported_many b c s)
      (one_counted base places (length old.shapes) old p (extended old st old.shapes old.signatures old.paths gs gf gp st.tables [] [] (imported b s) (exported b s) []) b s c refl (omega arith)
      (omega arith) (λ g here. all_at (IsFunctionIn (length old.shapes)) old.signatures k g st.tables.signatures here))) (all_before old.paths (old.instances ++ []))
      (none_behind (length old.paths) old.paths) (let same : waiting (old.used ++ []) 0 (old.slots ++ []) ≡ waiting old.used 0 old.slots =
      (λ i. waiting (append-nil old.used i) 0 (append-nil old.slots i)) in omega (arith, same))
      [] (refl, (λ place of. refl), (λ base places p. tt)) (λ place of.
      let T = world_trees place old in
      let F = world_signatures place old in
      let meant : MeantSeen = record { key = name.text.now; shown = follow.Shown.function (unwrap_or (slice_get F k) no_signature); external_id = (raw_name name).external_id } in
      ap (function_found (meant_at place old)) (found T F) ∙ (ap (λ v. provided v (see (direction b) meant (meant_at place old))) simple
      ∙ ap Some (plus_seen b (meant_at place old) meant ∙ seen_plus b (seen_in place T F (old.instances ++ [])) (meant_at place old) [] [] [] s meant refl)))

  pub function_stops : (paths : List (Option Text)) (e : Refusal) → ((T : List Tree) (F : List Signature) → Refuses e (function_in (slice_get (slots_in T F old.slots) n)))
      → Stops (see_function (direction b) (raw_name name) n) old paths e
  function_stops paths e r place of = refused e (function_in (slice_get (meant_at place old).slots n)) (see_function (direction b) (raw_name name) n (meant_at place old))
      (λ none. ap (function_found (meant_at place old)) none) (r (world_trees place old) (world_signatures place old))

-- ---- types

-- the tables of a scope and its slots
abbrev pub base : World → State
base w = record { shapes = w.shapes; signatures = w.signatures; slots = w.slots; types = []; functions = [] }

pub base_state : (w : World) → IsWorld w → IsState (length (map has_path w.paths)) (base w)
base_state w st = subst (λ (n : ℕ). IsState n (base w)) (sym (length-map w.paths has_path)) (record { tables = st.tables; slots = st.slots; types = tt; functions = tt })

module _ (old : World) (st : IsWorld old) (name : ExternName) (kind : ComponentTypeRef) where
  abbrev type_found : MeantScope → Option (tree.TypeDeclaration × Meant) → Option MeantScope
  type_found m o = o >>= λ found. provided (is_simple (raw_name name)) (see (direction true)
      (record { key = name.text.now; shown = follow.Shown.declares found.0; external_id = (raw_name name).external_id }) (in_scope found.1 m))

  pub type_stops : (paths : List (Option Text)) (e : Refusal)
      → ((T : List Tree) (F : List Signature) (place : Place) (x : Text) → AreNames T old.slots → Refuses e (named_type (slots_in T F old.slots) place x kind))
      → Stops (see_type (raw_name name) kind) old paths e
  type_stops paths e r place of = refused e (named_type (meant_at place old).slots Place.here name.text.now kind) (see_type (raw_name name) kind (meant_at place old))
      (λ none. ap (type_found (meant_at place old)) none)
      (r (world_trees place old) (world_signatures place old) Place.here name.text.now (names_of place old.shapes old.signatures old.slots st.tables.table st.slots))

  -- the name that is imported, and how many types there are then
  module _ (first : List Shape) (places : ℕ) (p : IsPlacedWorld first places old) (more : List Shape) (number : ℕ) (at : slice_get more number ≡ Some (named_shape old.home name.text.now)) where
    module _ (new : World) (s : Seen) (d : Option ℕ) (last : new.imports ≡ old.imports ++ s ∷ []) where
      type_names : new.home ≡ old.home → s.shown ≡ shown.Type name.text (14 + number) d → Adds old.shapes (named_shape old.home name.text.now) more → IsTable more
          → (n q : ℕ) (x : Text) → n < length more → slice_get more n ≡ Some (named_shape q x) → (n < length old.shapes) ⊎ IsShownBy new q x (14 + n)
      type_names own is adds table n q x low e = elim (adds_cases old.shapes more (named_shape old.home name.text.now) adds) [
        | inl same ↦ inl (found_below old.shapes n (named_shape q x) (ap (λ (zs : List Shape). slice_get zs n) (sym same) ∙ e))
        | inr came ↦ elim (last_or old.shapes (named_shape old.home name.text.now) n (named_shape q x) (ap (λ (zs : List Shape). slice_get zs n) (sym came) ∙ e)) [
          | inl h ↦ inl h.0
          | inr h ↦ inr (by_import (length old.imports) s name.text d (ap (λ (zs : List Seen). slice_get zs (length old.imports)) last ∙ at_last old.imports s)
              (is ∙ ap (λ m. shown.Type name.text (14 + m) d) (table.apart number n (named_shape q x) (at ∙ ap Some h.1) e)) (ap (λ (y : Shape). first_label y.labels) h.1)
              (ap (λ (y : Shape). y.number) (sym h.1) ∙ sym own))
        ]
      ]

      type_counted : Grows old.shapes more → length more ≤ length old.shapes + 1 → IfSome d (λ k. k < 14 + length old.shapes)
          → IsCountedAs new (p.counts ++ length more ∷ []) (length old.imports) (length more) (shown.Type name.text (14 + number) d)
      type_counted gs one range = elim (cases_lt number (length old.shapes)) [ inl below ↦ inl (repeated below) | inr past ↦ inr (behind past) ]
        where
          from_shown : IsShownBy old old.home name.text.now (14 + number) → IsImportRepeated new.imports (length old.imports) name.text.now
          from_shown (by_instance j x there is among) = absurd ((elim (p.instances j x there).own [ inl path ↦ cc | inr inline ↦ inline.not_home is ]))
          from_shown (by_import j y label o there is named own) = record {
            number = j;
            earlier = found_below old.imports j y there;
            seen = y;
            at = subst (λ (zs : List Seen). slice_get zs j ≡ Some y) (sym last) (stands_on old.imports (old.imports ++ s ∷ []) (record { more = s ∷ []; is = refl }) j y there);
            label = label;
            part = 14 + number;
            declared = o;
            is = is;
            same = named;
          }

          repeated : number < length old.shapes → IsImportRepeated new.imports (length old.imports) name.text.now
          repeated below =
              let before = stood old.shapes more gs number (named_shape old.home name.text.now) below at in
              elim (p.names number old.home name.text.now below before) [
                | inl h ↦ absurd (p.fresh number name.text.now (stood first old.shapes p.grows number (named_shape old.home name.text.now) h before))
                | inr by ↦ from_shown by
              ]

          declared_below : (o : Option ℕ) → length old.shapes ≤ number → IfSome o (λ k. k < 14 + length old.shapes) → IfSome o (λ k. k < 14 + number)
          declared_below x past h = search std_rules

          behind : length old.shapes ≤ number → IsLastName (p.counts ++ length more ∷ []) (length old.imports) (length more) (14 + number) d
          behind past =
              let inside = found_below more number (named_shape old.home name.text.now) at in
              record {
                last = omega (arith, inside, past, one);
                declared = declared_below d past range;
                others = λ i b e less. omega (
                  arith,
                  (counts_below first places (length old.shapes) old p i b
                      (stood p.counts (p.counts ++ length more ∷ []) (record { more = length more ∷ []; is = refl }) i b (omega (arith, less, p.many)) e)),
                  inside,
                  past,
                );
              }

  pub type_goes : (made : NewName) → IfSome made.declared (λ k. (n : ℕ) → AreInRange n old.slots → k < 14 + n)
      → ((T : List Tree) (F : List Signature) (place : Place) (x : Text) → AreNames T old.slots → named_type (slots_in T F old.slots) place x kind ≡ Some (named_by T place x made))
      → is_simple (raw_name name) ≡ true → (more : List Shape) (number : ℕ) → slice_get more number ≡ Some (named_shape old.home name.text.now)
      → Adds old.shapes (named_shape old.home name.text.now) more → IsTable more → (s : Slot) → s ≡ name_slot made.is_resource (14 + number) → (new : World) → new ≡ record old {
        shapes = more;
        slots = old.slots ++ s ∷ [];
        imports =
            old.imports ++ record { shown = shown.Type name.text (14 + number) made.declared; external_id = name.external_id } ∷ [];
      } → Goes 1 (see_type (raw_name name) kind) old new
  type_goes made range found simple more number at adds table s is new e =
      let seen : Seen = record { shown = shown.Type name.text (14 + number) made.declared; external_id = name.external_id } in
      let gs = adds_grow old.shapes more (named_shape old.home name.text.now) adds in
      let gf = same_list old.signatures in
      let gp = same_list old.paths in
      let le = longer old.shapes more gs in
      let marks = map has_path old.paths in
      let bs = base_state old st in
      let tables : AreTables (length old.paths) more old.signatures = record {
        table = table;
        placed = adds_placed (length old.paths) old.shapes more (named_shape old.home name.text.now) adds st.tables.placed (λ _. (found_below old.paths old.home None st.own));
        signatures = functions_wider (length old.shapes) (length more) old.signatures le st.tables.signatures;
      } in
      let inside : IsSlotIn more old.signatures s = subst (λ (x : Slot). IsSlotIn more old.signatures x) (sym is) (name_in marks (base old) bs name old.home kind made.is_resource more number at) in
      goes_on old st more old.signatures old.paths gs gf gp tables (s ∷ []) [] (seen ∷ []) [] [] 1 (see_type (raw_name name) kind) new
      (e ∙ (λ i. world_with old.home more old.signatures old.paths (old.slots ++ s ∷ []) (sym (append-nil old.instances) i) (old.imports ++ seen ∷ []) (sym (append-nil old.exports) i)
      (sym (append-nil old.used) i))) (extended_world old st more old.signatures old.paths gs gf gp tables (s ∷ []) [] (seen ∷ []) [] [] (inside, tt) tt
      ((omega (arith, found_below more number (named_shape old.home name.text.now) at), declared_range marks (base old) bs name old.home kind made.declared more le range), tt) tt) (λ first places p.
      let P = MayMeet (map has_path old.paths) old.home in
      let U = shape_trees apart more in
      let G = functions_in U old.signatures in
      let same = declared_stays (length old.paths) old.shapes more old.signatures old.signatures st.tables gs gf apart made.declared
      (old_range marks (base old) bs name old.home kind made.declared range) in
      let c = length more in
      let new = extended old st more old.signatures old.paths gs gf gp tables (s ∷ []) [] (seen ∷ []) [] [] in
      extended_placed old st more old.signatures old.paths gs gf gp tables (s ∷ []) [] (seen ∷ []) [] [] first places (length old.shapes) p (c ∷ []) (length more) (omega arith) (
        subst (λ x. SlotOver P x) (sym (ap (slot_in U G) is ∙ name_stands marks (base old) bs name old.home kind apart made.is_resource more number table at))
            (own_over marks (base old) bs name old.home kind made.is_resource),
        tt,
      ) (λ j x e past. absurd (none_past old.instances j x e past)) (
        subst (λ d. DeclarationOver P d) (sym same) (named_over P (meant_at apart old).slots p.slots (apart old.home) name.text.now kind
            (named_by (world_trees apart old) (apart old.home) name.text.now made)
            (found (world_trees apart old) (world_signatures apart old) (apart old.home) name.text.now (names_of apart old.shapes old.signatures old.slots st.tables.table st.slots))),
        tt,
      ) tt (record { number = number; is = refl; at = at }, tt) ((tt, tt), tt) (λ j x e past. absurd (none_past old.instances j x e past))
      (type_names first places p more number at new seen made.declared refl refl refl adds table) (λ n form parts low e. adds_name old.shapes more old.home name.text.now adds n form parts e) refl
      (one_counted first places (length old.shapes) old p new true seen c refl le (omega arith)
      (type_counted first places p more number at new seen made.declared refl gs (adds_one old.shapes more (named_shape old.home name.text.now) adds)
      (old_range marks (base old) bs name old.home kind made.declared range)))) (all_before old.paths (old.instances ++ [])) (none_behind (length old.paths) old.paths)
      (let same = ap (λ us. waiting us 0 (old.slots ++ s ∷ [])) (append-nil old.used) in
      omega (arith, same, waiting_push old.used 0 old.slots s, (ap waits is ∙ no_wait made.is_resource (14 + number)), adds_one old.shapes more (named_shape old.home name.text.now) adds))
      (all_in None (parts_in (s ∷ []))) (slot_numbered old st more old.signatures old.paths gs gf gp tables s (seen ∷ []) [] inside
      (subst (λ (x : Slot). CountUp (length old.shapes) (slot_parts x) (length more)) (sym is) (name_counted marks (base old) bs name old.home kind made.is_resource more number at adds))) (λ place of.
      let U = shape_trees place more in
      let G = functions_in U old.signatures in
      let m = meant_at place old in
      ap (type_found m) (found (world_trees place old) (world_signatures place old) Place.here name.text.now (names_of place old.shapes old.signatures old.slots st.tables.table st.slots))
      ∙ ((λ i. type_found m (Some (
        sym (declared_stays (length old.paths) old.shapes more old.signatures old.signatures st.tables gs gf place made.declared
            (old_range marks (base old) bs name old.home kind made.declared range)) i,
        sym (ap (slot_in U G) is ∙ (name_stands marks (base old) bs name old.home kind place made.is_resource more number table at
            ∙ ap (λ p. name_meant made.is_resource p name.text.now) (of old.home None st.own))) i,
      ))) ∙ (ap (λ v. provided v (see (direction true) (seen_in place U G (old.instances ++ []) seen) (in_scope (slot_in U G s) m))) simple
      ∙ ap Some (plus_type m (slot_in U G s) (seen_in place U G (old.instances ++ []) seen)))))
    where
      no_wait : (r : Bool) (k : ℕ) → waits (name_slot r k) ≡ 0
      no_wait x k = search std_rules
