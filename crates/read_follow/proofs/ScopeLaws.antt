-- A scope of a component type in tables that grow, with something more in it.
use Rattle.std.proofs.Common.{rules as std_rules, ◌≡◌, ◌⊎◌, inl, inr, refl, sym, ap, ◌∙◌, subst, ℕ, zero, suc, ◌+◌, ◌<◌, ◌≤◌, ◌==◌, ◌||◌, arith, Bool, true, false, cond, List, [], ◌∷◌, ◌++◌, map, length, length-append, Option, Some, None, slice_get, unwrap_or, option_map}
use Rattle.std.proofs.lemmas.{Bool.eq-eqb, List.map-append, Option.slice_get_within as found_below}
use Rattle.std.specs.List.{AllByRecursion, flat_map, list_any}
use Rattle.wit_model.specs.{Meaning.Signature, Tree.Place, Tree.Tree}
use Rattle.comp_bytes.specs.RawOf.{text_of}
use Rattle.comp_meaning.specs.Follow.{Scope as MeantScope, Seen as MeantSeen, Shown as MeantShown, Instance as MeantInstance, Slot as Meant, in_scope, see}
use Rattle.read_follow.specs.declared.{scopes.Instance.Instance, scopes.Seen.Seen, scopes.Shown.Shown, slots.Slot.Slot}
use Rattle.read_follow.specs.declared.views.View.{View}
use Rattle.read_follow.specs.{Defining.Grows, Following.AreSlotsIn, Following.AreTables, Following.IsShownFunctionIn, Following.IsShownIn, Following.IsSlotIn}
use Rattle.read_follow.specs.Functions.{functions_in, FunctionShape}
use Rattle.read_follow.specs.Numbering.{all_in, bare_parts, scoped_trees, slot_trees, trees_since, used_trees, CountUp}
use Rattle.read_follow.specs.{Places.key_at, Places.ArePlacesOf, Slots.no_signature, Slots.slot_in, Slots.slots_in}
use Rattle.read_follow.specs.Scopes.{direction, instance_in, meant_at, seen_in, shown_in, view_in, viewed, waiting, ArePathsInOrder, ArePathsMet, AreScopedIn, AreSeenIn, Goes, IsInstanceIn, IsPlaceMet, IsPlaceMetBefore, IsPlacedWorld, IsShownAs, IsWorld, Numbers, World}
use Rattle.plan_meaning.specs.Shapes.{Shape, shape_trees}
use Rattle.read_follow.proofs.{DefiningLaws.all_at, DefiningLaws.longer, DefiningLaws.map_so, NumberingLaws.since_plus, PlacedLaws.stands_on, PlacedLaws.stood}
use Rattle.read_follow.proofs.FollowingLaws.{declared_stays, functions_stay, signature_stays, slots_stay, types_stay, wider_declared, wider_functions, wider_number, wider_part, wider_slots, wider_types}
use Rattle.base_lemmas.proofs.{Bools.or_true, Elements.all_both, Lists.length_of_map, Lists.slice_front, Lists.split_at}
use Rattle.plan_meaning.proofs.Lists.{each_so}
use Rattle.read_follow.specs.declared.scopes.Shown.TheVariants as shown
use Rattle.read_follow.specs.declared.slots.Slot.TheVariants as slots

-- ---- what is well-formed stays so

-- what a scope stands for, with these more
abbrev pub plus : MeantScope → List Meant → List MeantInstance → List MeantSeen → List MeantSeen → List ℕ → MeantScope
plus m ss is im ex us = record { slots = m.slots ++ ss; instances = m.instances ++ is; imports = m.imports ++ im; exports = m.exports ++ ex; used = m.used ++ us }

pub plus_slot : (m : MeantScope) (s : Meant) → in_scope s m ≡ plus m (s ∷ []) [] [] [] []
plus_slot m s = search std_rules

-- what an import adds to the imports, and an export to the exports
abbrev pub imported : {X : Type 0} → Bool → X → List X
imported true x = x ∷ []
imported false x = []

abbrev pub exported : {X : Type 0} → Bool → X → List X
exported true x = []
exported false x = x ∷ []

pub plus_seen : (b : Bool) (m : MeantScope) (s : MeantSeen) → see (direction b) s m ≡ plus m [] [] (imported b s) (exported b s) []
plus_seen x m s = search std_rules

pub plus_type : (m : MeantScope) (slot : Meant) (s : MeantSeen) → see (direction true) s (in_scope slot m) ≡ plus m (slot ∷ []) [] (s ∷ []) [] []
plus_type m slot s = search std_rules

pub plus_instance : (b : Bool) (m : MeantScope) (x : MeantInstance) (s : MeantSeen) (n : ℕ)
    → see (direction b) s (record m { instances = m.instances ++ x ∷ []; used = m.used ++ n ∷ [] }) ≡ plus m [] (x ∷ []) (imported b s) (exported b s) (n ∷ [])
plus_instance y m x s n = search std_rules

-- a place that was met stays met
pub met_still : (is more : List Instance) → Grows is more → (q : ℕ) → IsPlaceMet is q → IsPlaceMet more q
met_still is more g q h = record { number = h.number; one = h.one; at = stands_on is more g h.number h.one h.at; place = h.place }

-- places that all were there before
pub all_before : (paths : List (Option (List ℕ))) (is : List Instance) → ArePathsMet (length paths) paths is
all_before paths is q path at = inl (found_below paths q (Some path) at)

-- places that were met, and more of them
pub paths_met : (old more : List (Option (List ℕ))) → Grows old more → (is all : List Instance) → Grows is all
    → ((q : ℕ) (path : List ℕ) → slice_get more q ≡ Some (Some path) → (q < length old) ⊎ IsPlaceMet all q) → (before : ℕ) → ArePathsMet before old is → ArePathsMet before more all
paths_met old more gp is all gi new before h q path at = elim (new q path at) [
  | inl below ↦ elim (h q path (stood old more gp q (Some path) below at)) [ inl first ↦ inl first | inr met ↦ inr (met_still is all gi q met) ]
  | inr met ↦ inr met
]

-- each of these instances stands behind all places with a path and a smaller number than its own: these are among the first so many
abbrev pub StandBehind : ℕ → List (Option (List ℕ)) → List Instance → Type 0
StandBehind many paths xs = (k : ℕ) (x : Instance) → slice_get xs k ≡ Some x → (q : ℕ) (path : List ℕ) → slice_get paths q ≡ Some (Some path) → q < x.place → q < many

pub none_behind : (many : ℕ) (paths : List (Option (List ℕ))) → StandBehind many paths []
none_behind many paths k x at q path there less = absurd cc

pub one_behind : (many : ℕ) (paths : List (Option (List ℕ))) (x : Instance) → ((q : ℕ) (path : List ℕ) → slice_get paths q ≡ Some (Some path) → q < x.place → q < many)
    → StandBehind many paths (x ∷ [])
one_behind many paths x behind u y at q path there less = search std_rules

-- places in their order, and more of them
module _ (old more : List (Option (List ℕ))) (gp : Grows old more) (is xs : List Instance) (inside : (j : ℕ) (x : Instance) → slice_get is j ≡ Some x → x.place < length old)
    (new : StandBehind (length old) more xs) (before : ℕ) (met : ArePathsMet before old is) where
  abbrev all : List Instance
  all = is ++ xs

  gi : Grows is all
  gi = record { more = xs; is = refl }

  met_before : (j q : ℕ) → length is ≤ j → IsPlaceMet is q → IsPlaceMetBefore all j q
  met_before j q past h = record {
    number = h.number;
    earlier = (let low = found_below is h.number h.one h.at in omega (arith, low, past));
    one = h.one;
    at = stands_on is all gi h.number h.one h.at;
    place = h.place;
  }

  before_still : (j q : ℕ) → IsPlaceMetBefore is j q → IsPlaceMetBefore all j q
  before_still j q h = record { number = h.number; earlier = h.earlier; one = h.one; at = stands_on is all gi h.number h.one h.at; place = h.place }

  pub paths_in_order : ArePathsInOrder before old is → ArePathsInOrder before more all
  paths_in_order order j x at q path there less = search (std_rules, split_at, stood, before_still, met_before)

-- ---- a scope with something more

-- a world by its parts
abbrev pub world_with : ℕ → List Shape → List FunctionShape → List (Option (List ℕ)) → List Slot → List Instance → List Seen → List Seen → List ℕ → World
world_with home shapes fs paths ss is im ex us = record { home = home; shapes = shapes; signatures = fs; paths = paths; slots = ss; instances = is; imports = im; exports = ex; used = us }

module _ (old : World) (st : IsWorld old) (more : List Shape) (more_fs : List FunctionShape) (more_paths : List (Option (List ℕ)))
    (gs : Grows old.shapes more) (gf : Grows old.signatures more_fs) (gp : Grows old.paths more_paths) (tables : AreTables (length more_paths) more more_fs)
    (ss : List Slot) (xs : List Instance) (im ex : List Seen) (us : List ℕ) where
  abbrev pub extended : World
  extended = world_with old.home more more_fs more_paths (old.slots ++ ss) (old.instances ++ xs) (old.imports ++ im) (old.exports ++ ex) (old.used ++ us)

  abbrev m : ℕ
  m = length old.paths

  wider_instance : (i : Instance) → IsInstanceIn old.shapes old.signatures old.paths i → IsInstanceIn more more_fs more_paths i
  wider_instance i h = search (std_rules, longer, wider_types, wider_functions)

  more_instances : length old.instances ≤ length (old.instances ++ xs)
  more_instances = let long = length-append old.instances xs in omega (arith, long)

  wider_shown : (s : Shown) → IsShownAs old.shapes old.signatures old.paths (length old.instances) s → IsShownAs more more_fs more_paths (length (old.instances ++ xs)) s
  wider_shown (shown.Instance key n) h = ((search (std_rules, slice_front, found_below)), (let below = h.1 in let long = more_instances in omega (arith, below, long)))
  wider_shown (shown.Function name f) h = wider_number m old.shapes more old.signatures more_fs st.tables gs gf f h
  wider_shown (shown.Type name part d) h = (wider_part m old.shapes more old.signatures more_fs st.tables gs gf part h.0, wider_declared m old.shapes more old.signatures more_fs st.tables gs gf d h.1)

  pub extended_world : AreSlotsIn more more_fs ss → AllByRecursion (IsInstanceIn more more_fs more_paths) xs → AreSeenIn more more_fs more_paths (length (old.instances ++ xs)) im
      → AreSeenIn more more_fs more_paths (length (old.instances ++ xs)) ex → IsWorld extended
  extended_world hs hx hi he = record {
    tables = tables;
    own = ap (λ (ps : List (Option (List ℕ))). slice_get ps old.home) gp.is ∙ (slice_front old.paths gp.more old.home (found_below old.paths old.home None st.own) ∙ st.own);
    slots = all_both (IsSlotIn more more_fs) old.slots ss (wider_slots m old.shapes more old.signatures more_fs st.tables gs gf old.slots st.slots) hs;
    instances = all_both (IsInstanceIn more more_fs more_paths) old.instances xs (each_so _ _ wider_instance old.instances st.instances) hx;
    imports = all_both (λ (s : Seen). IsShownAs more more_fs more_paths (length (old.instances ++ xs)) s.shown) old.imports im
        (each_so _ _ (λ (s : Seen). wider_shown s.shown) old.imports st.imports) hi;
    exports = all_both (λ (s : Seen). IsShownAs more more_fs more_paths (length (old.instances ++ xs)) s.shown) old.exports ex
        (each_so _ _ (λ (s : Seen). wider_shown s.shown) old.exports st.exports) he;
  }

  module _ (place : ℕ → Place) where
    abbrev pub T : List Tree
    T = shape_trees place old.shapes

    abbrev pub F : List Signature
    F = functions_in (shape_trees place old.shapes) old.signatures

    abbrev pub U : List Tree
    U = shape_trees place more

    abbrev pub G : List Signature
    G = functions_in (shape_trees place more) more_fs

    pub view_stays : (v : View) → AllByRecursion (IsShownIn old.shapes old.signatures) v.types.items → AllByRecursion (IsShownFunctionIn old.signatures) v.functions.items
        → view_in U G v ≡ view_in T F v
    view_stays v ht hf = λ i. record {
      types = types_stay m old.shapes more old.signatures more_fs st.tables gs gf place v.types.items ht i;
      functions = functions_stay m old.shapes more old.signatures more_fs st.tables gs gf place v.functions.items hf i;
    }

    instances_stay : (is : List Instance) → AllByRecursion (IsInstanceIn old.shapes old.signatures old.paths) is → map (instance_in place U G) is ≡ map (instance_in place T F) is
    instances_stay is h = map_so (IsInstanceIn old.shapes old.signatures old.paths) (instance_in place U G) (instance_in place T F)
        (λ x b i. record { interface = (instance_in place T F x).interface; view = view_stays x.view b.types b.functions i }) is h

    viewed_same : (o : Option Instance) (n : ℕ) → slice_get old.instances n ≡ o → viewed U G o ≡ viewed T F o
    viewed_same None n e = refl
    viewed_same (Some x) n e = let h = all_at (IsInstanceIn old.shapes old.signatures old.paths) old.instances n x st.instances e in view_stays x.view h.types h.functions

    shown_stays : (s : Shown) → IsShownAs old.shapes old.signatures old.paths (length old.instances) s → shown_in place U G (old.instances ++ xs) s ≡ shown_in place T F old.instances s
    shown_stays (shown.Instance key n) h = ap (MeantShown.instance (key_at place key)) ((ap (viewed U G) (slice_front old.instances xs n h.1) ∙ viewed_same (slice_get old.instances n) n refl))
    shown_stays (shown.Function name f) h = ap (λ o. MeantShown.function (unwrap_or o no_signature)) (signature_stays m old.shapes more old.signatures more_fs st.tables gs gf place f h)
    shown_stays (shown.Type name part d) h = ap MeantShown.declares (declared_stays m old.shapes more old.signatures more_fs st.tables gs gf place d h.1)

    seen_stays : (seen : List Seen) → AreSeenIn old.shapes old.signatures old.paths (length old.instances) seen
        → map (seen_in place U G (old.instances ++ xs)) seen ≡ map (seen_in place T F old.instances) seen
    seen_stays seen h = map_so (λ (s : Seen). IsShownAs old.shapes old.signatures old.paths (length old.instances) s.shown) (seen_in place U G (old.instances ++ xs)) (seen_in place T F old.instances)
        (λ s b i. record { key = (seen_in place T F old.instances s).key; shown = shown_stays s.shown b i; external_id = option_map text_of s.external_id }) seen h

    slots_plus : slots_in U G (old.slots ++ ss) ≡ slots_in T F old.slots ++ slots_in U G ss
    slots_plus = map-append (slot_in U G) old.slots ss ∙ ap (λ zs. zs ++ slots_in U G ss) (slots_stay m old.shapes more old.signatures more_fs st.tables gs gf place old.slots st.slots)

    instances_plus : map (instance_in place U G) (old.instances ++ xs) ≡ map (instance_in place T F) old.instances ++ map (instance_in place U G) xs
    instances_plus = map-append (instance_in place U G) old.instances xs ∙ ap (λ zs. zs ++ map (instance_in place U G) xs) (instances_stay old.instances st.instances)

    seen_plus : (before after : List Seen) → AreSeenIn old.shapes old.signatures old.paths (length old.instances) before
        → map (seen_in place U G (old.instances ++ xs)) (before ++ after) ≡ map (seen_in place T F old.instances) before ++ map (seen_in place U G (old.instances ++ xs)) after
    seen_plus before after h = map-append (seen_in place U G (old.instances ++ xs)) before after ∙ ap (λ zs. zs ++ map (seen_in place U G (old.instances ++ xs)) after) (seen_stays before h)

    pub extended_meant : meant_at place extended
        ≡ plus (meant_at place old) (slots_in U G ss) (map (instance_in place U G) xs) (map (seen_in place U G (old.instances ++ xs)) im) (map (seen_in place U G (old.instances ++ xs)) ex) us
    extended_meant = λ i. record {
      slots = slots_plus i;
      instances = instances_plus i;
      imports = seen_plus old.imports im st.imports i;
      exports = seen_plus old.exports ex st.exports i;
      used = old.used ++ us;
    }

  -- what they declare comes into the table, over the names of its scopes
  abbrev pub IsNumbered : List (Option ℕ × ℕ) → Type 0
  IsNumbered parts = CountUp (length old.shapes) (bare_parts parts) (length more)
      × ((place : ℕ → Place) → ArePlacesOf more_paths place
      → all_in None (flat_map slot_trees (slots_in (U place) (G place) ss))
      ++ used_trees (slots_in (U place) (G place) (old.slots ++ ss)) (length old.instances) (map (instance_in place (U place) (G place)) xs) us ≡ scoped_trees (U place) parts)
      × ((base : List Shape) (places : ℕ) → IsPlacedWorld base places extended → AreScopedIn extended parts)

  numbers_on : (parts : List (Option ℕ × ℕ)) → IsNumbered parts → Numbers old extended
  numbers_on parts is = record {
    parts = parts;
    counted = is.0;
    trees = λ place of.
        let S = slots_in (U place) (G place) ss in
        let X = map (instance_in place (U place) (G place)) xs in
        ap (trees_since (meant_at place old)) (extended_meant place) ∙ (since_plus (meant_at place old) S X (map (seen_in place (U place) (G place) (old.instances ++ xs)) im)
        (map (seen_in place (U place) (G place) (old.instances ++ xs)) ex) us
        ∙ ((λ i. all_in None (flat_map slot_trees S) ++ used_trees (sym (slots_plus place) i) (length_of_map (instance_in place (T place) (F place)) old.instances i) X us) ∙ is.1 place of));
    scoped = is.2;
  }

  -- the step of the definition makes the scope that stands for it
  pub goes_on : (few : ℕ) (step : MeantScope → Option MeantScope) (new : World) → new ≡ extended → IsWorld extended
      → ((base : List Shape) (places : ℕ) → IsPlacedWorld base places old → IsPlacedWorld base places extended)
      → ((q : ℕ) (path : List ℕ) → slice_get more_paths q ≡ Some (Some path) → (q < length old.paths) ⊎ IsPlaceMet (old.instances ++ xs) q) → StandBehind (length old.paths) more_paths xs
      → length more + waiting (old.used ++ us) 0 (old.slots ++ ss) ≤ length old.shapes + waiting old.used 0 old.slots + few → (parts : List (Option ℕ × ℕ)) → IsNumbered parts
      → ((place : ℕ → Place) → ArePlacesOf more_paths place
      → step (meant_at place old) ≡ Some (plus (meant_at place old) (slots_in (U place) (G place) ss) (map (instance_in place (U place) (G place)) xs)
      (map (seen_in place (U place) (G place) (old.instances ++ xs)) im) (map (seen_in place (U place) (G place) (old.instances ++ xs)) ex) us)) → Goes few step old new
  goes_on few step new e world placed met behind count parts numbered follows = subst (λ (w : World). Goes few step old w) (sym e) (record {
    world = world;
    shapes_grow = gs;
    signatures_grow = gf;
    paths_grow = gp;
    count = count;
    placed = placed;
    met = paths_met old.paths more_paths gp old.instances (old.instances ++ xs) (record { more = xs; is = refl }) met;
    order = λ before was. paths_in_order old.paths more_paths gp old.instances xs (λ j x at. (all_at _ _ j x st.instances at).place) behind before was;
    numbers = numbers_on parts numbered;
    home = refl;
    instances_grow = record { more = xs; is = refl };
    imports_grow = record { more = im; is = refl };
    follows = λ place of. follows place of ∙ ap Some (sym (extended_meant place));
  })

-- ---- what waits

abbrev pub waits : Slot → ℕ
waits (slots.Value part) = 0
waits (slots.Resource part) = 0
waits (slots.Function f) = 0
waits (slots.Instance b around) = b.count

none_either : (b : Bool) (n : ℕ) → cond b n n ≡ n
none_either x n = search std_rules

-- one slot behind the other
waiting_more : (used : List ℕ) (n : ℕ) (x : Slot) (ss : List Slot) → waiting used n (x ∷ ss) ≡ cond (list_any (λ m. m == n) used) 0 (waits x) + waiting used (suc n) ss
waiting_more used n x ss = search (std_rules, none_either)

pub waiting_push : (used : List ℕ) (n : ℕ) (ss : List Slot) (s : Slot) → waiting used n (ss ++ s ∷ []) ≤ waiting used n ss + waits s
waiting_push used n [] (slots.Value part) = omega arith
waiting_push used n [] (slots.Resource part) = omega arith
waiting_push used n [] (slots.Function f) = omega arith
waiting_push used n [] (slots.Instance b around) = search std_rules
waiting_push used n (slots.Value part ∷ ss) s = waiting_push used (suc n) ss s
waiting_push used n (slots.Resource part ∷ ss) s = waiting_push used (suc n) ss s
waiting_push used n (slots.Function f ∷ ss) s = waiting_push used (suc n) ss s
waiting_push used n (slots.Instance b around ∷ ss) s = let rest = waiting_push used (suc n) ss s in omega (arith, rest)

pub any_more : (used : List ℕ) (m n : ℕ) → list_any (λ k. k == n) (used ++ m ∷ []) ≡ (list_any (λ k. k == n) used || (m == n))
any_more [] m n = search std_rules
any_more (u ∷ used) m n = search (std_rules, any_more used m n)

pub fewer : (a b : Bool) (k : ℕ) → cond (a || b) 0 k ≤ cond a 0 k
fewer x b k = search std_rules

waiting_fewer : (used : List ℕ) (m n : ℕ) (ss : List Slot) → waiting (used ++ m ∷ []) n ss ≤ waiting used n ss
waiting_fewer used m n [] = omega arith
waiting_fewer used m n (x ∷ ss) =
    let same = ap (λ u. cond u 0 (waits x)) (any_more used m n) in
    omega (arith, same, waiting_more (used ++ m ∷ []) n x ss, waiting_more used n x ss, fewer (list_any (λ k. k == n) used) (m == n) (waits x), waiting_fewer used m (suc n) ss)

-- what is used waits no more
pub waiting_used : (used : List ℕ) (k n : ℕ) (ss : List Slot) (s : Slot) → slice_get ss k ≡ Some s → list_any (λ m. m == n + k) used ≡ false
    → waiting (used ++ (n + k) ∷ []) n ss + waits s ≤ waiting used n ss
waiting_used used k n [] s at unused = absurd cc
waiting_used used zero n (x ∷ ss) s at unused =
    let same : x ≡ s = cc in
    let zeroth : n + 0 ≡ n = omega arith in
    let count = ap waits same in
    let now = ap (λ u. cond u 0 (waits x)) (any_more used (n + 0) n ∙ (ap (λ u. list_any (λ m. m == n) used || u) (eq-eqb (n + 0) n zeroth) ∙ or_true (list_any (λ m. m == n) used))) in
    let before = ap (λ u. cond u 0 (waits x)) (ap (λ j. list_any (λ m. m == j) used) (sym zeroth) ∙ unused) in
    omega (arith, count, waiting_fewer used (n + 0) (suc n) ss, now, before, waiting_more (used ++ (n + 0) ∷ []) n x ss, waiting_more used n x ss)
waiting_used used (suc k) n (x ∷ ss) s at unused =
    let moved : suc n + k ≡ n + suc k = omega arith in
    let h = subst (λ j. waiting (used ++ j ∷ []) (suc n) ss + waits s ≤ waiting used (suc n) ss) moved (waiting_used used k (suc n) ss s at (ap (λ j. list_any (λ m. m == j) used) moved ∙ unused)) in
    let same = ap (λ u. cond u 0 (waits x)) (any_more used (n + suc k) n) in
    omega (arith, h, same, fewer (list_any (λ j. j == n) used) ((n + suc k) == n) (waits x), waiting_more (used ++ (n + suc k) ∷ []) n x ss, waiting_more used n x ss)
