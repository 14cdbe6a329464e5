-- What uses what, and what a world may have, has the same answer in numbers.
use Rattle.std.proofs.Common.{◌≡◌, refl, sym, ap, ◌∙◌, ℕ, true, not, ◌&&◌, ◌||◌, ◌==◌, cond, List, [], ◌∷◌, ◌++◌, map, Option, Some, None, unwrap_or, rules as std_rules}
use Rattle.std.proofs.lemmas.Bool.{eqb-true}
use Rattle.std.specs.{Prelude.option_and_then, List.AllByRecursion, List.flat_map, List.list_all, List.list_any, Option.option_map_or}
use Rattle.wit_model.specs.{Text.Text, Text.text_eq, Tree.Place, Tree.TypeDeclaration, Uses.has}
use Rattle.comp_meaning.specs.{Follow.View, Follow.Seen, Follow.interface_of, Follow.instance_place, Rules.distinct}
use Rattle.plan_meaning.specs.{Shapes.form_code, Shapes.first_label, NumberedRules.Fact, NumberedRules.name_in, NumberedRules.IsKnown}
use Rattle.plan_meaning.specs.NumberedViews.{Tables, path_at, path_text, place_at, IsPart, AllOf, AreTables, NumberedType, NumberedView, view_of, declaration_of, shown_type, sight_of}
use Rattle.plan_meaning.specs.NumberedWorlds.{NumberedKey, path, place_of_key, key_of, NumberedShown, instance, function, declares, NumberedSeen, shown_of, seen_of, NumberedInstance, instance_of, sights_of_instance, if_outside, used_by, used_by_view, others_than, uses_of, path_seen, stand_earlier, are_reached, are_once, resources_seen, is_item, are_imports, HasPath, KeyStands, ItemStands, DeclaresParts, UsesInNumbers, ReachedInNumbers, PathsInNumbers, WorldsInNumbers, SightsInNumbers}
use Rattle.plan_meaning.proofs.NumberedRules.{no_name, declared_same, function_same, interface_same, by_shape}
use Rattle.plan_meaning.proofs.Lists.{each_so, all_same, flat_along, all_flat}
use Rattle.base_lemmas.proofs.{Elements.all_both as all_in_both, Lists.append_of_map, Lists.map_of_map}
use Rattle.comp_meaning.specs.Rules as rules
use Rattle.comp_meaning.specs.Reads as reads

pub path_is : (t : Tables) (p : ℕ) (h : HasPath t p) → path_text t p ≡ h.0
path_is t p h = ap (λ o. unwrap_or o []) h.1

module _ (t : Tables) (tables : AreTables t) where
  -- ---- paths and their numbers

  pub path_number : (p q : ℕ) → HasPath t p → HasPath t q → text_eq (path_text t p) (path_text t q) ≡ (q == p)
  path_number p q hp hq = search std_rules

  pub has_path : (ps : List ℕ) (p : ℕ) → AllByRecursion (HasPath t) ps → HasPath t p → list_any (text_eq (path_text t p)) (map (path_text t) ps) ≡ has ps p
  has_path [] p hs h = refl
  has_path (q ∷ ps) p hs h = λ i. path_number p q h hs.0 i || has_path ps p hs.1 h i

  pub paths_once : (ps : List ℕ) → AllByRecursion (HasPath t) ps → distinct (map (path_text t) ps) ≡ are_once ps
  paths_once [] hs = refl
  paths_once (p ∷ ps) hs = λ i. not (has_path ps p hs.1 hs.0 i) && paths_once ps hs.1 i

  -- ---- what a declaration uses

  used_paths : (d : Option ℕ) → AllByRecursion (HasPath t) (used_by t d)
  used_paths y = search std_rules

  abbrev places_named : Option (ℕ × Text) → List ℕ
  places_named o = option_map_or (λ (x : ℕ × Text). if_outside t x.0) o []

  used_same : (d : Option ℕ) → AllOf (IsPart t) d → rules.used_by (declaration_of t d) ≡ map (path_text t) (used_by t d)
  used_same None h = refl
  used_same (Some k) h = by_shape t tables.shapes (λ x. rules.used_by (TypeDeclaration.type_ x)) (λ o. map (path_text t) (places_named (option_and_then name_in o))) k h (λ q e. refl)
      (λ n q name is there e. (search std_rules))
      (λ n form ks is there e ranges. sym (ap (λ b. map (path_text t) (places_named (cond b (Some ((form_code form).number, first_label (form_code form).labels)) None))) (no_name form)))

  -- ---- what a view uses

  pub view_uses : (v : NumberedView) → DeclaresParts t v → rules.used_by_view (view_of t v) ≡ map (path_text t) (used_by_view t v)
  view_uses v h = flat_along (λ (x : NumberedType). AllOf (IsPart t) x.declared) (λ x. rules.used_by x.meaning.declaration) (shown_type t) (path_text t) (λ x. used_by t x.declared)
      (λ x. used_same x.declared) v.types h

  pub view_paths : (v : NumberedView) → AllByRecursion (HasPath t) (used_by_view t v)
  view_paths v = all_flat (HasPath t) (λ x. used_by t x.declared) (λ x. used_paths x.declared) v.types

  -- ---- others than the own

  others_paths : (own : ℕ) (ps : List ℕ) → AllByRecursion (HasPath t) ps → AllByRecursion (HasPath t) (others_than own ps)
  others_paths own [] hs = tt
  others_paths own (p ∷ ps) hs = search (std_rules, others_paths own ps hs.1)

  others_of_path : (own : ℕ) (h : HasPath t own) (ps : List ℕ) → AllByRecursion (HasPath t) ps
      → rules.others_than (Some (path_text t own)) (map (path_text t) ps) ≡ map (path_text t) (others_than own ps)
  others_of_path own h [] hs = refl
  others_of_path own h (p ∷ ps) hs = search (std_rules, path_number, others_of_path own h ps hs.1)

  -- a place without a path is none of these
  others_of_none : (own : ℕ) → path_at t own ≡ None → (ps : List ℕ) → AllByRecursion (HasPath t) ps → ps ≡ others_than own ps
  others_of_none own none [] hs = refl
  others_of_none own none (p ∷ ps) hs = search (std_rules, eqb-true, others_of_none own none ps hs.1)

  others_same : (key : NumberedKey) → KeyStands t key → (ps : List ℕ) → AllByRecursion (HasPath t) ps
      → rules.others_than (interface_of (key_of t key)) (map (path_text t) ps) ≡ map (path_text t) (others_than (place_of_key key) ps)
  others_same x h ps hs = search (std_rules, others_of_path, others_of_none)

  -- ---- in order

  -- what an item is over: parts of the table, under a key that stands
  abbrev ItemIsOver : NumberedShown → Type 0
  ItemIsOver (instance key v) = KeyStands t key × DeclaresParts t v
  ItemIsOver (function n) = Unit {0}
  ItemIsOver (declares d) = AllOf (IsPart t) d

  abbrev AreOver : List NumberedSeen → Type 0
  AreOver ss = AllByRecursion (λ (s : NumberedSeen). ItemIsOver s.shown) ss

  uses_paths : (x : NumberedShown) → AllByRecursion (HasPath t) (uses_of t x)
  uses_paths x = search (std_rules, others_paths, view_paths, used_paths)

  seen_paths : (x : NumberedShown) → ItemIsOver x → AllByRecursion (HasPath t) (path_seen x)
  seen_paths x h = search std_rules

  pub earlier_same : (earlier : List ℕ) (ss : List NumberedSeen) → AllByRecursion (HasPath t) earlier → AreOver ss
      → rules.stand_earlier (map (path_text t) earlier) (map (seen_of t) ss) ≡ stand_earlier t earlier ss
  earlier_same earlier [] he h = refl
  earlier_same earlier (s ∷ ss) he h =
      let here : list_all (λ x. list_any (text_eq x) (map (path_text t) earlier)) (rules.uses (seen_of t s)) ≡ list_all (has earlier) (uses_of t s.shown) =
      ap (list_all (λ x. list_any (text_eq x) (map (path_text t) earlier))) (search (std_rules, view_uses, others_same, view_paths, used_same))
      ∙ all_same (HasPath t) (λ x. list_any (text_eq x) (map (path_text t) earlier)) (path_text t) (has earlier) (λ q. has_path earlier q he) (uses_of t s.shown) (uses_paths s.shown) in
      let more : map (path_text t) earlier ++ rules.path_seen (shown_of t s.shown) ≡ map (path_text t) (earlier ++ path_seen s.shown) =
      ap (λ xs. map (path_text t) earlier ++ xs) (search std_rules) ∙ sym (append_of_map (path_text t) earlier (path_seen s.shown)) in
      let rest = ap (λ xs. rules.stand_earlier xs (map (seen_of t) ss)) more ∙ earlier_same (earlier ++ path_seen s.shown) ss
      (all_in_both (HasPath t) earlier (path_seen s.shown) he (seen_paths s.shown h.0)) h.1 in
      λ i. here i && rest i

  -- ---- reached

  abbrev seen_view : ℕ × NumberedView → Text × View
  seen_view i = (path_text t i.0, view_of t i.1)

  abbrev IsOver : ℕ × NumberedView → Type 0
  IsOver i = HasPath t i.0 × DeclaresParts t i.1

  pub reached_same : (imports : List (ℕ × NumberedView)) (exported : NumberedView) → AllByRecursion IsOver imports → DeclaresParts t exported
      → reads.are_reached (map seen_view imports) (view_of t exported) ≡ are_reached t imports exported
  reached_same [] exported h he = refl
  reached_same (i ∷ later) exported h he =
      let all : flat_map (λ l. rules.used_by_view l.1) (map seen_view later) ++ rules.used_by_view (view_of t exported) ≡ map (path_text t)
      (flat_map (λ l. used_by_view t l.1) later ++ used_by_view t exported) =
      (λ j. (flat_along IsOver (λ l. rules.used_by_view l.1) seen_view (path_text t) (λ l. used_by_view t l.1) (λ l h. view_uses l.1 h.1)) later h.1 j ++ view_uses exported he j)
      ∙ sym (append_of_map (path_text t) (flat_map (λ l. used_by_view t l.1) later) (used_by_view t exported)) in
      λ j. (ap (list_any (text_eq (path_text t i.0))) all ∙ has_path (flat_map (λ l. used_by_view t l.1) later ++ used_by_view t exported) i.0
      (all_in_both (HasPath t) (flat_map (λ l. used_by_view t l.1) later) (used_by_view t exported) (all_flat (HasPath t) (λ l. used_by_view t l.1) (λ l. view_paths l.1) later) (view_paths exported))
      h.0.0) j && reached_same later exported h.1 he j

-- ---- worlds

resources_same : (t : Tables) (ss : List NumberedSeen) → rules.resources_seen (map (seen_of t) ss) ≡ resources_seen ss
resources_same t [] = refl
resources_same t (s ∷ ss) = search (std_rules, resources_same t ss)

module _ (t : Tables) (tables : AreTables t) (known : ℕ → Fact) (home : ℕ) (alone : path_at t home ≡ None) where
  key_place : (key : NumberedKey) → KeyStands t key → instance_place (interface_of (key_of t key)) ≡ place_at t (place_of_key key)
  key_place x h = search std_rules

  home_is : Place.here ≡ place_at t home
  home_is = sym (ap instance_place alone)

  item_same : (resources : List Text) (key : Text) (x : NumberedShown) → ItemStands t known home x → rules.is_item resources key (shown_of t x) ≡ is_item t known home resources key x
  item_same resources key x h = search (std_rules, key_place, interface_same, home_is, function_same, declared_same)

  abbrev AllStand : List NumberedSeen → Type 0
  AllStand ss = AllByRecursion (λ (s : NumberedSeen). ItemStands t known home s.shown) ss

  imports_same : (earlier ss : List NumberedSeen) → AllStand ss → rules.are_imports (map (seen_of t) earlier) (map (seen_of t) ss) ≡ are_imports t known home earlier ss
  imports_same earlier [] h = refl
  imports_same earlier (s ∷ ss) h = search (std_rules, resources_same, item_same, append_of_map, imports_same (earlier ++ s ∷ []) ss h.1)

  declared_over : (p : ℕ) (d : Option ℕ) → AllOf (IsKnown t known p) d → AllOf (IsPart t) d
  declared_over p x h = search std_rules

  all_over : (ss : List NumberedSeen) → AllStand ss → AreOver t tables ss
  all_over = each_so (λ (s : NumberedSeen). ItemStands t known home s.shown) (λ s. ItemIsOver t tables s.shown) (λ s. (λ h. search (std_rules, each_so, declared_over)))

  keys_same : (ss : List NumberedSeen) → distinct (map (λ s. s.key) (map (seen_of t) ss)) ≡ distinct (map (λ s. s.key) ss)
  keys_same ss = ap distinct (map_of_map (λ (s : Seen). s.key) (seen_of t) ss)

  order_same : (is es : List NumberedSeen) → AllStand is → AllStand es → rules.stand_earlier [] (map (seen_of t) is ++ map (seen_of t) es) ≡ stand_earlier t [] (is ++ es)
  order_same is es hi he = ap (rules.stand_earlier []) (sym (append_of_map (seen_of t) is es))
      ∙ earlier_same t tables [] (is ++ es) tt (all_in_both (λ (s : NumberedSeen). ItemIsOver t tables s.shown) is es (all_over is hi) (all_over es he))

pub worlds_in_numbers : WorldsInNumbers
worlds_in_numbers t tables known w scope h shows = search (std_rules, all_same, item_same, imports_same, keys_same, order_same)

pub uses_in_numbers : UsesInNumbers
uses_in_numbers t tables v h = view_uses t tables v h

pub reached_in_numbers : ReachedInNumbers
reached_in_numbers t tables imports exported h he = reached_same t tables imports exported h he

pub paths_in_numbers : PathsInNumbers
paths_in_numbers t tables ps hs = paths_once t tables ps hs

pub sights_in_numbers : SightsInNumbers
sights_in_numbers t w scope shows = ap (flat_map reads.of_instance) shows.instances ∙ along w.instances
  where
    one : (i : NumberedInstance) → reads.of_instance (instance_of t i) ≡ map (sight_of t) (sights_of_instance t i)
    one i = by (path_at t i.place) refl
      where
        by : (o : Option Text) → path_at t i.place ≡ o
            → reads.of_instance (record { interface = o; view = view_of t i.view }) ≡ map (sight_of t) (option_map_or (λ x. record { place = i.place; view = i.view; whole = true } ∷ []) o [])
        by None e = refl
        by (Some x) e = ap (λ y. record { path = y; view = view_of t i.view; whole = true } ∷ []) (sym (ap (λ o. unwrap_or o []) e))

    along : (is : List NumberedInstance) → flat_map reads.of_instance (map (instance_of t) is) ≡ map (sight_of t) (flat_map (sights_of_instance t) is)
    along [] = refl
    along (i ∷ is) = (λ j. one i j ++ along is j) ∙ sym (append_of_map (sight_of t) (sights_of_instance t i) (flat_map (sights_of_instance t) is))
