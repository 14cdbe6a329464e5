-- The packages of a plan, and the places of its interfaces and worlds, as they are read: then packages are apart, and list what is theirs under
-- names that differ (WIT.md, "Packages", "Interfaces" and "Worlds").
use Rattle.std.specs.Prelude.{◌≡◌, ℕ, true, not, List, filter, filter_map, flat_map, Some, None, slice_get}
use Rattle.std.specs.List.{AllByRecursion, Contains, list_all, list_any}
use Rattle.wit_model.specs.declared.model.TypeOwner.{TypeOwner}
use Rattle.wit_model.specs.{Text.Text, Text.text_eq, Names.is_identity, Names.is_label, Names.read_path, Parts.same_owner, Rules.each_from, Valid.as_interface}
use Rattle.comp_meaning.specs.Rules.{distinct}
use Rattle.plan_meaning.specs.Plan.{Plan, PlannedInterface, PlannedWorld, PlannedPackage, package_in, interface_in, world_in, numbers_of, item_interface, items_of}
use Rattle.plan_meaning.specs.PlanRules.{has_name, is_alone, is_placed, is_world_placed, lists_members, members_differ, names_of}
use Rattle.plan_meaning.specs.NumberedViews.{Tables, path_at, AreTables}
use Rattle.plan_meaning.specs.{NumberedWorlds.HasPath, NumberedWorlds.are_once, NumberedMembers.Homes, NumberedMembers.HomesStand, NumberedMembers.home_at}

-- the inline interfaces among the items of a world
abbrev pub inline_shown : Plan → PlannedWorld → List ℕ
inline_shown p w = filter (λ m. not (has_name p m)) (filter_map item_interface (items_of w))

module _ (t : Tables) (h : Homes) (p : Plan) (owners : ℕ → TypeOwner) where
  -- The interface of this number is that of a place under a path, which is read as its package and its name. Its package lists it. An inline
  -- one has no name: it is an item of a world, and of the world's package.
  pub data IsPlacedInterface (m : ℕ) (i : PlannedInterface) : Type 0 where
    under_path : (q n : ℕ) (name : Text) (k : PlannedPackage) → HasPath t q → owners q ≡ as_interface m → home_at h q ≡ Some (n, name) → i.name ≡ Some name
        → i.package_ ≡ Some n
        → package_in p n ≡ Some k → Contains k.interfaces (name, m) → IsPlacedInterface m i
    inline : (q n : ℕ) (w : PlannedWorld) → path_at t q ≡ None → owners q ≡ as_interface m → i.name ≡ None → world_in p n ≡ Some w
        → Contains (filter_map item_interface (items_of w)) m
        → IsPlacedInterface m i

  -- The world of this number is of a package that lists it under its label.
  pub record IsPlacedWorld (m : ℕ) (w : PlannedWorld) : Type 0 where
    pub number : ℕ
    pub package_ : PlannedPackage
    pub home : w.package_ ≡ Some number
    pub there : package_in p number ≡ Some package_
    pub listed : Contains package_.worlds (w.name, m)
    pub label : is_label w.name ≡ true

  -- what a package lists: the interface of a place whose path is read as the package and the name
  pub record IsListedInterface (n : ℕ) (e : Text × ℕ) : Type 0 where
    pub place : ℕ
    pub path : HasPath t place
    pub home : home_at h place ≡ Some (n, e.0)
    pub owned : owners place ≡ as_interface e.1
    pub interface : PlannedInterface
    pub there : interface_in p e.1 ≡ Some interface

  -- or a world of the package, of this name
  pub record IsListedWorld (n : ℕ) (e : Text × ℕ) : Type 0 where
    pub world : PlannedWorld
    pub there : world_in p e.1 ≡ Some world
    pub named : world.name ≡ e.0
    pub home : world.package_ ≡ Some n

  -- A package is that of some path that was read. It lists no number of an interface twice, and the names of its worlds differ, also from those
  -- of its interfaces.
  pub record IsReadPackage (n : ℕ) (k : PlannedPackage) : Type 0 where
    pub identity : slice_get h.packages n ≡ Some k.identity
    pub path : Text
    pub name : Text
    pub reads : read_path path ≡ Some (k.identity, name)
    pub interfaces : AllByRecursion (IsListedInterface n) k.interfaces
    pub once : are_once (numbers_of k.interfaces) ≡ true
    pub worlds : AllByRecursion (IsListedWorld n) k.worlds
    pub labels : distinct (names_of k.worlds) ≡ true
    pub apart : list_all (λ e. not (list_any (text_eq e.0) (names_of k.worlds))) k.interfaces ≡ true

  -- Each place has an owner of its own. No inline interface is an item twice, in all worlds together, and each is of its world's package.
  pub record PlacesAreRead : Type 0 where
    pub apart : (a b : ℕ) → same_owner (owners a) (owners b) ≡ true → a ≡ b
    pub packages : (n : ℕ) (k : PlannedPackage) → package_in p n ≡ Some k → IsReadPackage n k
    pub interfaces : (m : ℕ) (i : PlannedInterface) → interface_in p m ≡ Some i → IsPlacedInterface m i
    pub worlds : (m : ℕ) (w : PlannedWorld) → world_in p m ≡ Some w → IsPlacedWorld m w
    pub inline_once : are_once (flat_map (inline_shown p) p.worlds) ≡ true
    pub inline_home : (n : ℕ) (w : PlannedWorld) (m : ℕ) (i : PlannedInterface) → world_in p n ≡ Some w → Contains (filter_map item_interface (items_of w)) m
        → interface_in p m ≡ Some i → i.name ≡ None → i.package_ ≡ w.package_

-- the tests of a plan on its packages, and on the places of interfaces and worlds
pub record PlaceTests (p : Plan) : Type 0 where
  pub identities : list_all (λ k. is_identity k.identity) p.packages ≡ true
  pub alone : each_from (is_alone p) 0 p.packages ≡ true
  pub members : each_from (lists_members p) 0 p.packages ≡ true
  pub members_differ : list_all members_differ p.packages ≡ true
  pub interfaces_placed : each_from (is_placed p) 0 p.interfaces ≡ true
  pub worlds_placed : each_from (is_world_placed p) 0 p.worlds ≡ true
  pub world_labels : list_all (λ w. is_label w.name) p.worlds ≡ true

abbrev pub ReadPlacesPass : Type 0
ReadPlacesPass = (t : Tables) → AreTables t → (h : Homes) → HomesStand t h → (p : Plan) (owners : ℕ → TypeOwner) → PlacesAreRead t h p owners → PlaceTests p
