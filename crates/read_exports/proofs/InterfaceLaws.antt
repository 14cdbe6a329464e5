-- The component type of an interface, in numbers.
use Rattle.std.proofs.Common.{rules as std_rules, arith, ◌≡◌, refl, sym, ap, subst, ◌∙◌, ℕ, Bool, true, false, not, ◌&&◌, List, [], ◌∷◌, map, Option, Some, None, option_map, is_none}
use Rattle.std.proofs.lemmas.Option.{same_Some as same-some}
use Rattle.std.specs.List.{AllByRecursion}
use Rattle.wit_model.specs.{Names.PackageIdentity, Text.Text, Text.text_eq}
use Rattle.wit_model.proofs.{VersionLaws.same_text, TextLemmas.text_same}
use Rattle.comp_bytes.specs.Reading.{◌>>=◌}
use Rattle.comp_meaning.specs.{Follow.View, Follow.each, Follow.is_filled, Follow.provided, Rules.distinct, Reads.Part, Reads.labelled_path}
use Rattle.plan_meaning.specs.NumberedMembers.{Homes, IsHomeOf, HomesStand, exported_view, imported_view, shown_view}
use Rattle.plan_meaning.specs.NumberedRules.{Fact, IsKnown}
use Rattle.plan_meaning.specs.NumberedViews.{AllOf, AreTables, IsPart, NumberedType, Tables, path_text, view_of}
use Rattle.plan_meaning.specs.NumberedWorlds.{DeclaresParts, HasPath, ItemStands, NumberedScope, NumberedSeen, NumberedShown, ScopeStands, are_once, are_reached, declares, function, implementing, instance, label, path}
use Rattle.plan_meaning.proofs.NumberedMembers.{export_in_numbers, imports_in_numbers}
use Rattle.plan_meaning.proofs.NumberedWorlds.{path_is, paths_in_numbers, reached_in_numbers}
use Rattle.read_exports.specs.Interfaces.{IsInterfacePart, IsPartOf, InterfacesInNumbers, Placed, InterfaceScopesInNumbers, at_home, elsewhere, interface_of_scope, shown_interface}
use Rattle.base_lemmas.proofs.Lists.{map_of_map}
use Rattle.comp_meaning.proofs.FollowLemmas.{provided_is}
use Rattle.comp_meaning.specs.Reads as reads

no_some : {A B : Type 0} (x : A) → None ≡ Some x → B
no_some x e = let wrong : ⊥ = cc in absurd wrong

-- ---- what stands

abbrev PlacedStands : Tables → Placed → Type 0
PlacedStands t i = HasPath t i.0 × DeclaresParts t i.1

module _ (t : Tables) (known : ℕ → Fact) (home : ℕ) where
  part_over : (p : ℕ) (d : Option ℕ) → AllOf (IsKnown t known p) d → AllOf (IsPart t) d
  part_over p x h = search std_rules

  types_over : (p : ℕ) (xs : List NumberedType) → AllByRecursion (λ (x : NumberedType). AllOf (IsKnown t known p) x.declared) xs → DeclaresParts t (record { types = xs; functions = [] })
  types_over p [] h = tt
  types_over p (x ∷ xs) h = (part_over p x.declared h.0, types_over p xs h.1)

  import_stands : (s : NumberedSeen) → ItemStands t known home s.shown → (i : Placed) → imported_view s ≡ Some i → PlacedStands t i
  import_stands s = by s.shown
    where
      by : (x : NumberedShown) → ItemStands t known home x → (i : Placed) → imported_view (record { key = s.key; shown = x; external_id = s.external_id }) ≡ Some i → PlacedStands t i
      by (instance (path p) v) h i e =
          subst (PlacedStands t) (provided_is {A = Placed} (is_none s.external_id && not (is_filled v.functions)) (p, v) i e) (h.0, types_over p v.types h.1.types)
      by (instance (label l p) v) h i e = no_some i e
      by (instance (implementing l p) v) h i e = no_some i e
      by (function n) h i e = no_some i e
      by (declares d) h i e = no_some i e

  imports_stand : (ss : List NumberedSeen) → AllByRecursion (λ (s : NumberedSeen). ItemStands t known home s.shown) ss → (is : List Placed) → each imported_view ss ≡ Some is
      → AllByRecursion (PlacedStands t) is
  imports_stand [] h is e = subst (AllByRecursion (PlacedStands t)) (same-some [] is e) tt
  imports_stand (s ∷ ss) h is e = by (imported_view s) refl (each imported_view ss) (imports_stand ss h.1) e
    where
      by : (o : Option Placed) → imported_view s ≡ o → (os : Option (List Placed)) → ((ys : List Placed) → os ≡ Some ys → AllByRecursion (PlacedStands t) ys)
          → (o >>= λ y. os >>= λ ys. Some (y ∷ ys)) ≡ Some is → AllByRecursion (PlacedStands t) is
      by None f os rest e = no_some is e
      by (Some y) f None rest e = no_some is e
      by (Some y) f (Some ys) rest e = subst (AllByRecursion (PlacedStands t)) (same-some (y ∷ ys) is e) (import_stands s h.0 y f, rest ys refl)

  pub export_stands : (ss : List NumberedSeen) → AllByRecursion (λ (s : NumberedSeen). ItemStands t known home s.shown) ss → (i : Placed) → exported_view ss ≡ Some i → PlacedStands t i
  export_stands [] h i e = no_some i e
  export_stands (s ∷ r ∷ ss) h i e = no_some i e
  export_stands (s ∷ []) h i e = by s.shown h.0 i e
    where
      by : (x : NumberedShown) → ItemStands t known home x → (i : Placed) → exported_view (record { key = s.key; shown = x; external_id = s.external_id } ∷ []) ≡ Some i → PlacedStands t i
      by (instance (path p) v) h i e = subst (PlacedStands t) (provided_is {A = Placed} (is_none s.external_id) (p, v) i e) (h.0, types_over p v.types h.1.types)
      by (instance (label l p) v) h i e = no_some i e
      by (instance (implementing l p) v) h i e = no_some i e
      by (function n) h i e = no_some i e
      by (declares d) h i e = no_some i e

-- ---- one component type

module _ (t : Tables) (tables : AreTables t) (h : Homes) (stand : HomesStand t h) (wanted : Text) where
  -- what comes of its export and its imports
  abbrev found_of : Text × View → List (Text × View) → Option (PackageIdentity × Part)
  found_of exported imports = labelled_path wanted exported.0 >>= λ package_.
      provided (distinct (exported.0 ∷ map (λ i. i.0) imports) && reads.are_reached imports exported.1) (package_, reads.interface exported.1 imports)

  paths_stand : (is : List Placed) → AllByRecursion (PlacedStands t) is → AllByRecursion (HasPath t) (map (λ (i : Placed). i.0) is)
  paths_stand [] s = tt
  paths_stand (i ∷ is) s = (s.0.0, paths_stand is s.1)

  once_same : (e : Placed) → PlacedStands t e → (is : List Placed) → AllByRecursion (PlacedStands t) is
      → distinct (path_text t e.0 ∷ map (λ i. i.0) (map (shown_view t) is)) ≡ are_once (e.0 ∷ map (λ i. i.0) is)
  once_same e s is all = ap (λ ps. distinct (path_text t e.0 ∷ ps)) (map_of_map (λ (i : Text × View). i.0) (shown_view t) is ∙ sym (map_of_map (path_text t) (λ (i : Placed). i.0) is))
      ∙ paths_in_numbers t tables (e.0 ∷ map (λ i. i.0) is) (s.0, paths_stand is all)

  test_same : (e : Placed) → PlacedStands t e → (is : List Placed) → AllByRecursion (PlacedStands t) is
      → (distinct (path_text t e.0 ∷ map (λ i. i.0) (map (shown_view t) is)) && reads.are_reached (map (shown_view t) is) (view_of t e.1))
      ≡ (are_once (e.0 ∷ map (λ i. i.0) is) && are_reached t is e.1)
  test_same e s is all = λ i. once_same e s is all i && reached_in_numbers t tables is e.1 all s.1 i

  -- it is read as its home
  labelled : (e : Placed) (home : IsHomeOf h e.0 (path_text t e.0)) (x : PackageIdentity → Option (PackageIdentity × Part))
      → (labelled_path wanted (path_text t e.0) >>= x) ≡ (provided (text_eq home.name wanted) home.identity >>= x)
  labelled e home x = ap (λ o. (o >>= λ (p : PackageIdentity × Text). provided (text_eq p.1 wanted) p.0) >>= x) home.reads

  placed : (e : Placed) (is : List Placed) (home : IsHomeOf h e.0 (path_text t e.0)) (test : Bool) → test ≡ true → (found : Option (PackageIdentity × Part))
      → found ≡ (provided (text_eq home.name wanted) home.identity >>= λ package_. provided test (package_, reads.interface (view_of t e.1) (map (shown_view t) is))) → IsPartOf t h wanted e is found
  placed e is home test passes found f = by (text_eq home.name wanted) refl
    where
      by : (b : Bool) → text_eq home.name wanted ≡ b → IsPartOf t h wanted e is found
      by true same = at_home home.package_ home.identity (home.home ∙ ap (λ name. Some (home.package_, name)) (text_same home.name wanted same)) home.stands
          (f ∙ λ i. provided (same i) home.identity >>= λ package_. provided (passes i) (package_, reads.interface (view_of t e.1) (map (shown_view t) is)))
      by false other = elsewhere (λ n at. differs (same_text home.name wanted (ap (λ (x : ℕ × Text). x.1) (same-some (home.package_, home.name) (n, wanted) (sym home.home ∙ at)))))
          (f ∙ λ i. provided (other i) home.identity >>= λ package_. provided test (package_, reads.interface (view_of t e.1) (map (shown_view t) is)))
        where
          differs : text_eq home.name wanted ≡ true → ⊥
          differs same = let wrong : false ≡ true = sym other ∙ same in cc

  home_of : (e : Placed) → PlacedStands t e → IsHomeOf h e.0 (path_text t e.0)
  home_of e s = subst (IsHomeOf h e.0) (sym (path_is t e.0 s.0)) (stand.homes e.0 s.0.0 s.0.1)

  followed : (e : Placed) → PlacedStands t e → (is : List Placed) → AllByRecursion (PlacedStands t) is → (test : Bool) → (are_once (e.0 ∷ map (λ i. i.0) is) && are_reached t is e.1) ≡ test
      → IsInterfacePart t h wanted (provided test (e, is)) (found_of (shown_view t e) (map (shown_view t) is))
  followed e s is all true passes =
      let home = home_of e s in
      placed e is home (distinct (path_text t e.0 ∷ map (λ i. i.0) (map (shown_view t) is)) && reads.are_reached (map (shown_view t) is) (view_of t e.1)) (test_same e s is all ∙ passes)
      (found_of (shown_view t e) (map (shown_view t) is))
      (labelled e home (λ package_. provided (distinct (path_text t e.0 ∷ map (λ i. i.0) (map (shown_view t) is)) && reads.are_reached (map (shown_view t) is) (view_of t e.1))
      (package_, reads.interface (view_of t e.1) (map (shown_view t) is))))
  followed e s is all false fails = grind (arith, test_same)

  module _ (known : ℕ → Fact) (w : NumberedScope) (stands : ScopeStands t known w) where
    by_views : (exported : Option Placed) → exported_view w.exports ≡ exported → (imports : Option (List Placed)) → each imported_view w.imports ≡ imports
        → IsInterfacePart t h wanted (exported >>= λ e. imports >>= λ is. provided (are_once (e.0 ∷ map (λ i. i.0) is) && are_reached t is e.1) (e, is))
        (option_map (shown_view t) exported >>= λ e. option_map (map (shown_view t)) imports >>= λ is. found_of e is)
    by_views None f imports g = refl
    by_views (Some e) f None g = refl
    by_views (Some e) f (Some is) g = followed e (export_stands t known w.home w.exports stands.exports e f) is (imports_stand t known w.home w.imports stands.imports is g)
        (are_once (e.0 ∷ map (λ i. i.0) is) && are_reached t is e.1) refl

pub scopes_are_parts : InterfaceScopesInNumbers
scopes_are_parts t tables h stand known w stands scope shows wanted = subst (IsInterfacePart t h wanted (shown_interface t w))
    (sym (λ i. export_in_numbers t w scope shows i >>= λ exported. imports_in_numbers t w scope shows i >>= λ imports. found_of t tables h stand wanted exported imports))
    (by_views t tables h stand wanted known w stands (exported_view w.exports) refl (each imported_view w.imports) refl)

pub interfaces_are_parts : InterfacesInNumbers
interfaces_are_parts t tables h stand known w stands ds scope is shows wanted =
    subst (IsInterfacePart t h wanted (shown_interface t w)) (sym (ap (λ o. o >>= interface_of_scope wanted) is)) (scopes_are_parts t tables h stand known w stands scope shows wanted)
