-- What is exported at the top, as the numbers and texts that it stands for (Component Model WIT.md, "Package Format").
use Rattle.std.specs.Prelude.{◌≡◌, ℕ, Bool, not, ◌||◌, List, [], map, Option}
use Rattle.std.specs.{Borrow.Bor, List.list_any}
use Rattle.wit_model.specs.{Names.PackageIdentity, Text.Text, Uses.has}
use Rattle.read_homes.specs.Homes.{given_home}
use Rattle.plan_meaning.specs.NumberedMembers.{Homes, NumberedMember, NumberedPart, are_package, home_at, is_interface_of, is_of_package, is_one_world}
use Rattle.plan_meaning.specs.NumberedViews.{NumberedSight}
use Rattle.read_rules.specs.{Reached.numbered_import, Scopes.numbered_scope, Tables.known_in, Tables.numbered_tables, Views.numbered_view}
use Rattle.read_rules.specs.declared.{scopes.Scope.Scope, tables.Tables.Tables}
use Rattle.read_exports.specs.declared.members.{Member.Member, Part.Part}
use Rattle.plan_meaning.specs.NumberedMembers as members
use Rattle.read_exports.specs.declared.members.Part.TheVariants as parts

abbrev pub numbered_part : Part → NumberedPart
numbered_part (parts.World w) = members.world (numbered_scope w)
numbered_part (parts.Interface p v imports) = members.interface p (numbered_view v) (map numbered_import imports.now)

abbrev pub numbered_member : Member → NumberedMember
numbered_member m = record { label = m.label.now; package_ = m.package_number; part = numbered_part m.part }

abbrev pub numbered_members : List Member → List NumberedMember
numbered_members ms = map numbered_member ms

-- these packages, and for each place its package and the name of its interface
abbrev pub homes_in : List PackageIdentity → List (Option (ℕ × Bor (List ℕ))) → Homes
homes_in packages homes = record { packages = packages; homes = map given_home homes }

-- the same, where it doesn't matter which packages these are
abbrev pub homes_alone : List (Option (ℕ × Bor (List ℕ))) → Homes
homes_alone homes = homes_in [] homes

-- the package of a place by its number, and the name of its interface
abbrev pub home_of_place : List (Option (ℕ × Bor (List ℕ))) → ℕ → Option (ℕ × Text)
home_of_place homes = home_at (homes_alone homes)

-- whether all that is exported is the package of this number, where the places have their homes in these packages
abbrev pub is_package_in : Tables → List PackageIdentity → List (Option (ℕ × Bor (List ℕ))) → ℕ → List Member → Bool
is_package_in t packages homes n ms = are_package (numbered_tables t) (homes_in packages homes) (known_in t) n (numbered_members ms)

-- whether a world of this name stands by itself in the package of this number, where the places have their homes in these packages
abbrev pub is_world_in : Tables → List PackageIdentity → List (Option (ℕ × Bor (List ℕ))) → ℕ → Text → Scope → Bool
is_world_in t packages homes n name w = is_one_world (numbered_tables t) (homes_in packages homes) (known_in t) n name (numbered_scope w)

-- an interface of the package that is seen is among these places
abbrev pub stands_among : Homes → ℕ → List ℕ → NumberedSight → Bool
stands_among h n places s = not (is_of_package h n s.place) || has places s.place

-- The numbers are the places of the interfaces at the top.
abbrev pub ArePlaces : List NumberedMember → List ℕ → Type 0
ArePlaces ms places = (p : ℕ) → has places p ≡ list_any (λ m. is_interface_of p m.part) ms
