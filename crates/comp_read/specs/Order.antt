-- The order in which what is decoded stands in a `Resolve` (Component Model WIT.md, "Package Format").
use Rattle.std.specs.Prelude.{◌≡◌, ◌⊎◌, ◌<◌, ◌≤◌, ℕ, Bool, true, not, false, List, [], ◌∷◌, ◌++◌, filter, flat_map, length, map, take, Option, Some, None, option_to_list, slice_get}
use Rattle.std.specs.{List.Contains, Option.option_map_or}
use Rattle.indexmap.specs.IndexMap.{values}
use Rattle.wit_model.specs.declared.model.{Interface.Interface, Package.Package, Resolve.Resolve, TypeId.TypeId, World.World}
use Rattle.wit_model.specs.Lookup.{identity_of, interface_at, package_at, path_of_interface, world_at}
use Rattle.wit_model.specs.{Names.PackageIdentity, Names.path_in, Names.read_path, Rules.interface_type_numbers, Rules.world_type_numbers}
use Rattle.wit_model.specs.Text.{Text, text_eq, text_of}
use Rattle.comp_bytes.specs.{Levels.Entry, Levels.PartType, Levels.Piece, Levels.levels_of, Raw.Section, Reading.◌>>=◌, Spelling.IsComponent}
use Rattle.comp_meaning.specs.{ByLevels.entry_step, ByLevels.exported_parts, ByLevels.member_by_levels, Follow.Scope, Follow.each, Follow.new_scope}
use Rattle.comp_meaning.specs.Same.{same_identity}
use Rattle.comp_meaning.specs.Reads.{Member, Part, exported_types, functions_of, interface, member, sights, steps, world, worlds_of_member}
use Rattle.plan_meaning.specs.Plan.{Plan, PlannedPackage, numbers_of}
use Rattle.read_parts.specs.Members.{declared_trees, entries_of}
use Rattle.comp_read.specs.TypeOrder.{NumbersFollow}
use Rattle.wit_model.specs.declared.model.WorldItem.TheVariants as item
pub use Rattle.plan_meaning.specs.PlanRules.{are_rising as rise}

-- the numbers of the interfaces of a package, in its order
abbrev pub numbers_in : Package → List ℕ
numbers_in q = map (λ id. id.0) (values q.interfaces)

-- Each package lists its interfaces in the order of their numbers.
abbrev pub ListByNumber : Resolve → Type 0
ListByNumber r = (k : ℕ) (q : Package) → package_at r k ≡ Some q → rise (numbers_in q) ≡ true

-- Each package but the one of this number lists its interfaces in the order of their numbers.
abbrev pub OthersListByNumber : Resolve → ℕ → Type 0
OthersListByNumber r n = (k : ℕ) (q : Package) → (k ≡ n → ⊥) → package_at r k ≡ Some q → rise (numbers_in q) ≡ true

-- So it is in a plan.
abbrev pub PackagesRise : Plan → Type 0
PackagesRise p = (k : ℕ) (q : PlannedPackage) → slice_get p.packages k ≡ Some q → rise (numbers_of q.interfaces) ≡ true

abbrev pub OthersRise : Plan → ℕ → Type 0
OthersRise p n = (k : ℕ) (q : PlannedPackage) → (k ≡ n → ⊥) → slice_get p.packages k ≡ Some q → rise (numbers_of q.interfaces) ≡ true

-- ---- the order in which bytes show things

-- The bytes export these parts at the top, in this order.
pub record ExportParts (bytes : List ℕ) (members : List Member) : Type 0 where
  pub sections : List Section
  pub spelled : IsComponent sections bytes
  pub are : (exported_types sections >>= each member) ≡ Some members

-- The paths under which a part shows interfaces, in order. An inline interface has none.
abbrev pub shown_under : Member → List (Option Text)
shown_under m = of_part m.part
  where
    of_part : Part → List (Option Text)
    of_part (world scope) = map (λ i. i.interface) scope.instances
    of_part (interface exported imports) = map (λ i. Some i.0) imports ++ Some (path_in m.package_ m.label) ∷ []

-- whether an interface is shown under this path
abbrev pub is_under : Text → Option Text → Bool
is_under path o = option_map_or (text_eq path) o false

-- each path once, where it stands first; what has none stays
abbrev pub once_by_path : List (Option Text) → List (Option Text)
once_by_path [] = []
once_by_path (None ∷ os) = None ∷ once_by_path os
once_by_path (Some path ∷ os) = Some path ∷ filter (λ o. not (is_under path o)) (once_by_path os)

-- the paths of the interfaces that parts show, each interface where it is shown first
abbrev pub paths_shown : List Member → List (Option Text)
paths_shown members = once_by_path (flat_map shown_under members)

-- the package of a path, if it is one
abbrev pub package_of_path : Option Text → List PackageIdentity
package_of_path None = []
package_of_path (Some path) = map (λ p. p.0) (option_to_list (read_path path))

-- each package once, where it stands first
abbrev pub once_by_identity : List PackageIdentity → List PackageIdentity
once_by_identity [] = []
once_by_identity (p ∷ ps) = p ∷ filter (λ q. not (same_identity p q)) (once_by_identity ps)

-- the packages of the interfaces that parts show, and behind them those of the parts, each where it stands first
abbrev pub packages_shown : List Member → List PackageIdentity
packages_shown members = once_by_identity (flat_map package_of_path (flat_map shown_under members) ++ map (λ m. m.package_) members)

-- the names of the functions of a path, in the order of the first view that shows them
abbrev pub functions_shown : List Member → Text → List Text
functions_shown members path = map (λ f. f.0) (functions_of path (flat_map sights members))

-- the labels of the worlds that are exported
abbrev pub worlds_shown : List Member → List Text
worlds_shown members = map (λ w. w.0) (flat_map worlds_of_member members)

-- the names of an interface's functions, in their order
abbrev pub function_names : Interface → List Text
function_names i = map (λ e. text_of e.0) i.functions.entries

-- names of functions, where they are those of an interface without a path
abbrev pub if_inline : Option Text → List Text → List (List Text)
if_inline None names = names ∷ []
if_inline (Some path) names = []

-- the names of the functions of each inline interface that a part shows, in the order of these and in that of the one view of each
abbrev pub inline_shown : Member → List (List Text)
inline_shown m = of_part m.part
  where
    of_part : Part → List (List Text)
    of_part (world scope) = flat_map (λ i. if_inline i.interface (map (λ f. f.0) i.view.functions)) scope.instances
    of_part (interface exported imports) = []

-- those that parts show, one part after the other
abbrev pub inline_functions_shown : List Member → List (List Text)
inline_functions_shown members = flat_map inline_shown members

-- the names of the functions of each inline interface, in the order of their numbers
abbrev pub inline_function_names : Resolve → List (List Text)
inline_function_names r = flat_map (λ i. if_inline (path_of_interface r i) (function_names i)) r.interfaces.items

-- The types of interfaces are numbered in the order of these, and in that of each interface; and the types that a world declares in the order of its imports.
pub record TypesRise (r : Resolve) : Type 0 where
  pub interfaces : rise (flat_map interface_type_numbers r.interfaces.items) ≡ true
  pub worlds : (k : ℕ) (w : World) → world_at r k ≡ Some w → rise (world_type_numbers w) ≡ true

-- Packages are numbered in the order in which the parts show an interface of theirs first; that of the parts comes last if they show none of it.
-- Interfaces are numbered in the order in which the parts show them first, inline ones too, and worlds in the order in which they are exported. The functions
-- of an interface with a path stand in the order of the first view that shows them, and those of an inline interface in that of its one view.
pub record FollowsParts (members : List Member) (r : Resolve) : Type 0 where
  pub packages : map (λ k. identity_of k.name) r.packages.items ≡ packages_shown members
  pub interfaces : map (path_of_interface r) r.interfaces.items ≡ paths_shown members
  pub functions : (k : ℕ) (i : Interface) (path : Text) → interface_at r k ≡ Some i → path_of_interface r i ≡ Some path
      → function_names i ≡ functions_shown members path
  pub inline : inline_function_names r ≡ inline_functions_shown members
  pub worlds : map (λ w. text_of w.name) r.worlds.items ≡ worlds_shown members
  pub types : TypesRise r

-- ---- the order in which declarations name types

-- How much some first declarations show: so many interfaces, so many whole worlds, and so many imports of the world behind these.
pub record HowMuch : Type 0 where
  pub interfaces : ℕ
  pub worlds : ℕ
  pub imports : ℕ

-- the imports of a world so far; what an interface's component type imports is no import of a world
abbrev pub imports_in : Part → Scope → ℕ
imports_in (Part.world whole) scope = length scope.imports
imports_in (Part.interface exported imports) scope = 0

-- what the parts before this one show, and those declarations of it that are in this scope
abbrev pub shown_until : List Member → ℕ → Part → Scope → HowMuch
shown_until members m part scope = record {
  interfaces = length (once_by_path (flat_map shown_under (take m members) ++ map (λ i. i.interface) scope.instances));
  worlds = length (flat_map worlds_of_member (take m members));
  imports = imports_in part scope;
}

-- one of those interfaces has the type of this number, or one of those worlds imports it
pub data IsNamedBefore (r : Resolve) (s : HowMuch) (n : ℕ) : Type 0 where
  in_interface : (k : ℕ) (i : Interface) → interface_at r k ≡ Some i → k < s.interfaces → Contains (interface_type_numbers i) n → IsNamedBefore r s n
  in_world : (k j : ℕ) (w : World) (id : TypeId) → world_at r k ≡ Some w → slice_get (values w.imports) j ≡ Some (item.Type_ id) → id.0 ≡ n
      → (k < s.worlds) ⊎ ((k ≡ s.worlds) × (j < s.imports)) → IsNamedBefore r s n

-- a later interface has it, or a later import is it
pub data IsNamedBehind (r : Resolve) (s : HowMuch) (n : ℕ) : Type 0 where
  in_interface : (k : ℕ) (i : Interface) → interface_at r k ≡ Some i → s.interfaces ≤ k → Contains (interface_type_numbers i) n → IsNamedBehind r s n
  in_world : (k j : ℕ) (w : World) (id : TypeId) → world_at r k ≡ Some w → slice_get (values w.imports) j ≡ Some (item.Type_ id) → id.0 ≡ n
      → (s.worlds < k) ⊎ ((k ≡ s.worlds) × (s.imports ≤ j)) → IsNamedBehind r s n

-- However many declarations of a part are read, the types that have been named by then have smaller numbers than those that later ones name.
abbrev pub NamesFollow : List (Text × PartType) → List Member → Resolve → Type 0
NamesFollow parts members r =
    (m : ℕ) (x : Text × PartType) (y : Member) → slice_get parts m ≡ Some x → slice_get members m ≡ Some y
    → (front back : List Entry) → entries_of x.1 ≡ front ++ back → (scope : Scope) → steps entry_step new_scope front ≡ Some scope
    → (a b : ℕ) → IsNamedBefore r (shown_until members m y.part scope) a → IsNamedBehind r (shown_until members m y.part scope) b → a < b

-- What the bytes export, the `Resolve` follows: its packages, interfaces, functions and worlds stand in that order, and so do the types
-- that are named. All types, with a name or without, are numbered in the order in which the bytes declare them.
pub record FollowsBytes (bytes : List ℕ) (r : Resolve) : Type 0 where
  pub members : List Member
  pub exported : ExportParts bytes members
  pub follows : FollowsParts members r
  pub parts : List (Text × PartType)
  pub read : (levels_of bytes >>= exported_parts) ≡ Some parts
  pub named : NamesFollow parts members r
  pub numbered : NumbersFollow (declared_trees parts) r

-- What is followed by levels, the `Resolve` follows in that order.
pub record FollowsLevels (levels : Option (List Piece)) (r : Resolve) : Type 0 where
  pub members : List Member
  pub exported : (levels >>= λ pieces. exported_parts pieces >>= each member_by_levels) ≡ Some members
  pub follows : FollowsParts members r
  pub parts : List (Text × PartType)
  pub read : (levels >>= exported_parts) ≡ Some parts
  pub named : NamesFollow parts members r
  pub numbered : NumbersFollow (declared_trees parts) r
