-- What is exported at the top, and the rules of reading on a package and on one world, in numbers (WIT.md, "Package Format").
use Rattle.std.specs.Prelude.{◌≡◌, ℕ, Bool, true, false, not, ◌&&◌, ◌||◌, ◌==◌, List, [], ◌∷◌, ◌++◌, map, Option, Some, None, option_map, is_none, unwrap_or, slice_get}
use Rattle.std.specs.List.{AllByRecursion, AllZip, flat_map, filter, list_all, list_any}
use Rattle.std.specs.{Option.option_map_or, FinMap.from_entries}
use Rattle.wit_model.specs.{Text.Text, Text.text_eq, Names.PackageIdentity, Names.path_in, Names.read_path, Meaning.PackageMeaning, Meaning.WorldPackage}
use Rattle.comp_meaning.specs.Follow.{Scope, View, each, is_filled, provided}
use Rattle.comp_meaning.specs.Reads.{Part, Member, of_instance, seen_meaning, is_of, meaning_of_scope, package_with, world_with}
use Rattle.plan_meaning.specs.NumberedViews.{Tables, path_at, path_text, AreTables, NumberedView, view_of, NumberedSight, ViewPasses, IsSight, agree_in_numbers}
use Rattle.plan_meaning.specs.NumberedRules.{Fact, is_interface, IsKnown}
use Rattle.plan_meaning.specs.NumberedWorlds.{NumberedShown, instance, path, NumberedSeen, NumberedScope, Shows, sights_of_scope, HasPath}
use Rattle.comp_meaning.specs.Reads as reads

-- ---- packages

-- The packages by number, and for the number of each place the package and the name of its interface, if it has a path.
pub record Homes : Type 0 where
  pub packages : List PackageIdentity
  pub homes : List (Option (ℕ × Text))

abbrev pub home_at : Homes → ℕ → Option (ℕ × Text)
home_at h p = unwrap_or (slice_get h.homes p) None

-- what a path is read as
pub record IsHomeOf (h : Homes) (p : ℕ) (path : Text) : Type 0 where
  pub package_ : ℕ
  pub name : Text
  pub identity : PackageIdentity
  pub home : home_at h p ≡ Some (package_, name)
  pub stands : slice_get h.packages package_ ≡ Some identity
  pub reads : read_path path ≡ Some (identity, name)

-- Each path is read as its home, and each package has one number.
pub record HomesStand (t : Tables) (h : Homes) : Type 0 where
  pub homes : (p : ℕ) (path : Text) → path_at t p ≡ Some path → IsHomeOf h p path
  pub apart : (m n : ℕ) (identity : PackageIdentity) → slice_get h.packages m ≡ Some identity → slice_get h.packages n ≡ Some identity → m ≡ n

-- the interface of a place is of this package, and has this name in it
abbrev pub is_of_package : Homes → ℕ → ℕ → Bool
is_of_package h n p = option_map_or (λ x. x.0 == n) (home_at h p) false

abbrev pub is_named_in : Homes → ℕ → Text → ℕ → Bool
is_named_in h n name p = option_map_or (λ x. x.0 == n && text_eq x.1 name) (home_at h p) false

-- ---- members

-- what is exported at the top: a world, or the interface of a place by its view and those of its imports
pub data NumberedPart : Type 0 where
  world : NumberedScope → NumberedPart
  interface : ℕ → NumberedView → List (ℕ × NumberedView) → NumberedPart

pub record NumberedMember : Type 0 where
  pub label : Text
  pub package_ : ℕ
  pub part : NumberedPart

abbrev pub sights_of_part : Tables → NumberedPart → List NumberedSight
sights_of_part t (world w) = sights_of_scope t w
sights_of_part t (interface p v imports) = map (λ i. record { place = i.0; view = i.1; whole = false }) imports ++ record
    { place = p; view = v; whole = true } ∷ []

abbrev pub sights_of_members : Tables → List NumberedMember → List NumberedSight
sights_of_members t ms = flat_map (λ m. sights_of_part t m.part) ms

-- The interface is that of the place, which is its home under the label.
pub record ShowsInterface (t : Tables) (h : Homes) (m : NumberedMember) (p : ℕ) (v : NumberedView) (imports : List (ℕ × NumberedView)) (view : View)
    (views : List (Text × View)) : Type 0 where
  pub path : HasPath t p
  pub home : home_at h p ≡ Some (m.package_, m.label)
  pub shown : view ≡ view_of t v
  pub imported : views ≡ map (λ i. (path_text t i.0, view_of t i.1)) imports

abbrev pub ShowsPart : Tables → Homes → NumberedMember → NumberedPart → Part → Type 0
ShowsPart t h m (world w) (Part.world scope) = Shows t w scope
ShowsPart t h m (interface p v imports) (Part.interface view views) = ShowsInterface t h m p v imports view views
ShowsPart t h m _ _ = ⊥

-- The member is what the numbers stand for.
pub record IsMember (t : Tables) (h : Homes) (m : NumberedMember) (x : Member) : Type 0 where
  pub label : x.label ≡ m.label
  pub package_ : slice_get h.packages m.package_ ≡ Some x.package_
  pub part : ShowsPart t h m m.part x.part

-- ---- the component type of an interface

abbrev pub shown_view : Tables → ℕ × NumberedView → Text × View
shown_view t i = (path_text t i.0, view_of t i.1)

-- an import of it: an instance under a path, without functions
abbrev pub imported_view : NumberedSeen → Option (ℕ × NumberedView)
imported_view s = import_of s.shown
  where
    import_of : NumberedShown → Option (ℕ × NumberedView)
    import_of (instance (path p) v) = provided (is_none s.external_id && not (is_filled v.functions)) (p, v)
    import_of _ = None

-- its one export: an instance under a path
abbrev pub exported_view : List NumberedSeen → Option (ℕ × NumberedView)
exported_view (s ∷ []) = export_of s.shown
  where
    export_of : NumberedShown → Option (ℕ × NumberedView)
    export_of (instance (path p) v) = provided (is_none s.external_id) (p, v)
    export_of _ = None
exported_view _ = None

-- ---- rules

abbrev pub are_interfaces : Tables → (ℕ → Fact) → List NumberedSight → Bool
are_interfaces t known seen = list_all (λ s. is_interface t known s.place s.view) seen

-- the member is the interface of the place
abbrev pub is_interface_of : ℕ → NumberedPart → Bool
is_interface_of p (world w) = false
is_interface_of p (interface q v imports) = p == q

-- an interface of the package that is seen stands at the top
abbrev pub stands_at_top : Homes → ℕ → List NumberedMember → NumberedSight → Bool
stands_at_top h n ms s = not (is_of_package h n s.place) || list_any (λ m. is_interface_of s.place m.part) ms

-- The parts at the top have one package. The views of each interface agree, and each of the package's own stands at the top.
abbrev pub are_package : Tables → Homes → (ℕ → Fact) → ℕ → List NumberedMember → Bool
are_package t h known n ms =
    let seen = sights_of_members t ms in
    list_all (λ m. n == m.package_) ms && (list_all (stands_at_top h n ms) seen && (agree_in_numbers seen && are_interfaces t known seen))

-- The views of each interface agree, and none of them has the path of the world.
abbrev pub is_one_world : Tables → Homes → (ℕ → Fact) → ℕ → Text → NumberedScope → Bool
is_one_world t h known n name w =
    let seen = sights_of_scope t w in
    agree_in_numbers seen && (are_interfaces t known seen && not (list_any (λ s. is_named_in h n name s.place) seen))

-- ---- what they mean

-- a package by its members, and one world by what it shows
abbrev pub package_shown : PackageIdentity → List Member → PackageMeaning
package_shown identity members =
    let seen = flat_map reads.sights members in
    record {
      identity = identity;
      interfaces = flat_map reads.interfaces_of members;
      worlds = flat_map reads.worlds_of_member members;
      foreign = from_entries (map (seen_meaning seen) (filter (λ s. not (is_of identity s.path)) seen));
    }

abbrev pub world_shown : PackageIdentity → Text → Scope → WorldPackage
world_shown identity name scope =
    let seen = flat_map of_instance scope.instances in
    record { identity = identity; name = name; world = meaning_of_scope scope; shown = from_entries (map (seen_meaning seen) seen) }

-- ---- laws

-- a view of an interface with a path, where what is known of each part is true as it is seen from there
abbrev pub IsKnownSight : Tables → (ℕ → Fact) → NumberedSight → Type 0
IsKnownSight t known s = IsSight t s × ViewPasses t (IsKnown t known s.place) s.view

-- A scope imports and exports the views of interfaces that its numbers import and export.
abbrev pub ImportsInNumbers : Type 0
ImportsInNumbers = (t : Tables) (w : NumberedScope) (scope : Scope) → Shows t w scope
    → each reads.imported_view scope.imports ≡ option_map (map (shown_view t)) (each imported_view w.imports)

abbrev pub ExportInNumbers : Type 0
ExportInNumbers = (t : Tables) (w : NumberedScope) (scope : Scope) → Shows t w scope
    → reads.exported_view scope.exports ≡ option_map (shown_view t) (exported_view w.exports)

-- Members are a package exactly where their numbers are.
abbrev pub PackagesInNumbers : Type 0
PackagesInNumbers = (t : Tables) → AreTables t → (h : Homes) → HomesStand t h → (known : ℕ → Fact) (n : ℕ) (identity : PackageIdentity)
    → slice_get h.packages n ≡ Some identity
    → (ms : List NumberedMember) (members : List Member) → AllZip (IsMember t h) ms members → AllByRecursion (IsKnownSight t known) (sights_of_members t ms)
    → package_with identity members ≡ provided (are_package t h known n ms) (package_shown identity members)

-- A world stands alone exactly where its numbers do.
abbrev pub OneWorldInNumbers : Type 0
OneWorldInNumbers = (t : Tables) → AreTables t → (h : Homes) → HomesStand t h → (known : ℕ → Fact) (n : ℕ) (identity : PackageIdentity)
    → slice_get h.packages n ≡ Some identity
    → (name : Text) → read_path (path_in identity name) ≡ Some (identity, name) → (w : NumberedScope) (scope : Scope) → Shows t w scope
    → AllByRecursion (IsKnownSight t known) (sights_of_scope t w)
    → world_with identity name scope ≡ provided (is_one_world t h known n name w) (world_shown identity name scope)
