-- Members that are read of what was followed, in numbers (Component Model WIT.md, "Package Format").
use Rattle.std.specs.Prelude.{◌≡◌, ◌<◌, ◌⊎◌, ℕ, true, false, List, [], length, map, slice_get, Option, Some, None}
use Rattle.std.specs.List.{AllZip}
use Rattle.wit_model.specs.{Names.PackageIdentity, Text.Text, Text.text_of}
use Rattle.comp_bytes.specs.{Levels.Piece, Reading.◌>>=◌}
use Rattle.comp_meaning.specs.{Follow.each, Reads.labelled_path}
use Rattle.read_follow.specs.declared.refusal.Refusal.{Refusal}
use Rattle.read_parts.specs.declared.{following.Followed.Followed, members.FollowedPart.FollowedPart, members.Member.Member as FollowedMember}
use Rattle.read_parts.specs.{Followed.member_of_scope, Followed.scopes_of, Input.IsFollowed}
use Rattle.read_homes.specs.Homes.{IsLabelled}
use Rattle.plan_meaning.specs.NumberedMembers.{Homes, HomesStand, IsMember, NumberedMember, NumberedPart, interface, world, home_at}
use Rattle.plan_meaning.specs.{NumberedRules.Fact, NumberedViews.Tables, NumberedWorlds.NumberedScope, NumberedWorlds.is_world}
use Rattle.read_exports.specs.{Interfaces.Placed, Interfaces.shown_interface, Members.numbered_part}
use Rattle.read_exports.specs.declared.members.{Member.Member, Part.Part}
use Rattle.read_rules.specs.{Reached.numbered_import, Scopes.numbered_scope, Views.numbered_view, Tables.known_in, Tables.numbered_tables}
use Rattle.read_rules.specs.declared.{scopes.Scope.Scope, tables.Fact.Fact as KeptFact, tables.Tables.Tables as KeptTables}
use Rattle.read_numbers.specs.{FactLaws.known_by, KnownScopes.AreKnown}
use Rattle.read_numbers.specs.{ImportParts.part_followed, ImportParts.part_seen, NumberedInput.tables_of, NumberedParts.numbered_scope as followed_scope}
use Rattle.read_members.specs.PartMembers.{AreMembersOf}
use Rattle.read_members.specs.declared.reading.{ReadMember.ReadMember, ReadPart.ReadPart}
use Rattle.comp_meaning.specs.Reads as reads
use Rattle.read_follow.specs.declared.refusal.Refusal.TheVariants as refusals
use Rattle.read_parts.specs.declared.members.FollowedPart.TheVariants as followed
use Rattle.read_exports.specs.declared.members.Part.TheVariants as parts
use Rattle.read_members.specs.declared.reading.ReadPart.TheVariants as read

-- ---- one member

-- A world has a path of its label's name, in the package of this number, and shows what a world may; an interface is what its component type shows,
-- and has its label's name in that package.
abbrev pub IsPartRead : Tables → (ℕ → Fact) → Homes → Text → FollowedPart → ℕ → NumberedPart → Type 0
IsPartRead t known h label (followed.World path s) n (world w) = (w ≡ followed_scope t.paths s)
    × (IsLabelled h.packages label (text_of path) (Some n) × (is_world t known w ≡ true))
IsPartRead t known h label (followed.Interface s) n (interface p v imports) = (shown_interface t (followed_scope t.paths s) ≡ Some ((p, v), imports))
    × (home_at h p ≡ Some (n, label))
IsPartRead t known h label _ n _ = ⊥

-- the parts that the types which a world imports are
abbrev pub parts_followed : FollowedPart → List (Option ℕ)
parts_followed (followed.World path s) = map part_followed s.imports.items
parts_followed (followed.Interface s) = []

-- The member is read under its label, and each type that it imports is the part that it was.
pub record IsMemberRead (t : Tables) (known : ℕ → Fact) (h : Homes) (x : FollowedMember) (m : NumberedMember × List (Option ℕ)) : Type 0 where
  pub label_is : m.0.label ≡ x.label.now
  pub part_is : IsPartRead t known h x.label.now x.part m.0.package_ m.0.part
  pub parts_are : m.1 ≡ parts_followed x.part

-- it has no home of this name
abbrev pub IsElsewhere : Homes → Text → Option (Placed × List Placed) → Type 0
IsElsewhere h label None = Unit {0}
IsElsewhere h label (Some x) = (n : ℕ) → home_at h x.0.0 ≡ Some (n, label) → ⊥

-- the path is none of the label's name, or the world shows what none may
abbrev pub IsNoWorld : Tables → (ℕ → Fact) → Text → Text → NumberedScope → Type 0
IsNoWorld t known label path w = (labelled_path label path ≡ None) ⊎ (is_world t known w ≡ false)

-- A world has no path of its label's name, or shows what none may; an interface is none, or has another name than its label.
abbrev pub IsNoPart : Tables → (ℕ → Fact) → Homes → Text → FollowedPart → Type 0
IsNoPart t known h label (followed.World path s) = IsNoWorld t known label (text_of path) (followed_scope t.paths s)
IsNoPart t known h label (followed.Interface s) = IsElsewhere h label (shown_interface t (followed_scope t.paths s))

abbrev pub IsNoMember : Tables → (ℕ → Fact) → Homes → FollowedMember → Type 0
IsNoMember t known h x = IsNoPart t known h x.label.now x.part

-- ---- all members

abbrev pub AreRead : Tables → (ℕ → Fact) → Homes → List FollowedMember → List (NumberedMember × List (Option ℕ)) → Type 0
AreRead t known h xs ms = AllZip (IsMemberRead t known h) xs ms

-- One of them is none.
pub record IsOneNone (t : Tables) (known : ℕ → Fact) (h : Homes) (xs : List FollowedMember) : Type 0 where
  pub number : ℕ
  pub member : FollowedMember
  pub at : slice_get xs number ≡ Some member
  pub none : IsNoMember t known h member

-- it is so, unless memory ran out
abbrev pub Because : Refusal → Type 0 → Type 0
Because refusals.Memory fact = Unit {0}
Because (refusals.Absent cause left) fact = fact

-- ---- packages

-- each package is an earlier one, or that of the member
abbrev pub IsForMember : List PackageIdentity → List PackageIdentity → NumberedMember × List (Option ℕ) → Type 0
IsForMember old new m = (n : ℕ) → n < length new → (n < length old) ⊎ (m.0.package_ ≡ n)

-- the package of this number is that of one of the members
pub record IsOfOne (ms : List (NumberedMember × List (Option ℕ))) (n : ℕ) : Type 0 where
  pub number : ℕ
  pub member : NumberedMember × List (Option ℕ)
  pub at : slice_get ms number ≡ Some member
  pub is : member.0.package_ ≡ n

-- Each package is an earlier one, or that of one of the members.
abbrev pub AreForMembers : List PackageIdentity → List PackageIdentity → List (NumberedMember × List (Option ℕ)) → Type 0
AreForMembers old new ms = (n : ℕ) → n < length new → (n < length old) ⊎ IsOfOne ms n

-- ---- members as they are kept

abbrev pub read_part : ReadPart → NumberedPart
read_part (read.World w) = world (numbered_scope w)
read_part (read.Interface i imports) = interface i.place (numbered_view i.view) (map numbered_import imports.items)

abbrev pub parts_read : ReadPart → List (Option ℕ)
parts_read (read.World w) = map part_seen w.imports.now
parts_read (read.Interface i imports) = []

abbrev pub read_member : ReadMember → NumberedMember × List (Option ℕ)
read_member m = (record { label = m.label.now; package_ = m.package_number; part = read_part m.part }, parts_read m.part)

-- all that were followed are read as these, one for one
abbrev pub AreReadMembers : KeptTables → Homes → List FollowedMember → List ReadMember → Type 0
AreReadMembers t h xs ms = AreRead (numbered_tables t) (known_in t) h xs (map read_member ms)

abbrev pub parts_lent : Part → List (Option ℕ)
parts_lent (parts.World w) = map part_seen w.imports.now
parts_lent (parts.Interface p v imports) = []

abbrev pub lent_member : Member → NumberedMember × List (Option ℕ)
lent_member m = (record { label = m.label.now; package_ = m.package_number; part = numbered_part m.part }, parts_lent m.part)

-- the package in which the interface of the place has the name
abbrev pub IsPackageOf : Homes → Text → ℕ → Option ℕ → Type 0
IsPackageOf h label p None = (n : ℕ) → home_at h p ≡ Some (n, label) → ⊥
IsPackageOf h label p (Some n) = home_at h p ≡ Some (n, label)

-- A world is read under its path.
pub record IsWorldRead (t : Tables) (known : ℕ → Fact) (packages : List PackageIdentity) (label path : Text) (w : Scope)
    (m : NumberedMember × List (Option ℕ)) : Type 0 where
  pub label_is : m.0.label ≡ label
  pub part_is : m.0.part ≡ world (numbered_scope w)
  pub parts_are : m.1 ≡ map part_seen w.imports.now
  pub labelled : IsLabelled packages label path (Some m.0.package_)
  pub obeys : is_world t known (numbered_scope w) ≡ true

-- An interface is read in its place.
pub record IsInterfaceRead (t : Tables) (h : Homes) (label : Text) (w : NumberedScope) (m : NumberedMember × List (Option ℕ)) : Type 0 where
  pub exported : Placed
  pub imports : List Placed
  pub label_is : m.0.label ≡ label
  pub part_is : m.0.part ≡ interface exported.0 exported.1 imports
  pub parts_are : m.1 ≡ []
  pub shown : shown_interface t w ≡ Some (exported, imports)
  pub home : home_at h exported.0 ≡ Some (m.0.package_, label)

-- ---- what the pieces of an input mean

-- the members that the pieces of an input are, by the rules of reading on each alone
abbrev pub members_meant : List Piece → Option (List reads.Member)
members_meant pieces = scopes_of pieces >>= each member_of_scope

-- The pieces are members, which these numbers stand for.
pub record AreMeant (pieces : List Piece) (t : Tables) (h : Homes) (ms : List NumberedMember) : Type 0 where
  pub members : List reads.Member
  pub found : members_meant pieces ≡ Some members
  pub shown : AllZip (IsMember t h) ms members

-- ---- laws

-- Members that are read are what the pieces mean, wherever places have their packages.
abbrev pub ReadMembersAreMeant : Type 0
ReadMembersAreMeant = (pieces : List Piece) (x : Followed) → IsFollowed pieces x → (facts : List KeptFact) → AreKnown x facts → (h : Homes)
    → HomesStand (tables_of x) h
    → (ms : List (NumberedMember × List (Option ℕ))) → AreRead (tables_of x) (known_by facts) h x.members.items ms
    → AreMeant pieces (tables_of x) h (map (λ m. m.0) ms)

-- Where one is none, the pieces mean no members.
abbrev pub NoMembersAreMeant : Type 0
NoMembersAreMeant = (pieces : List Piece) (x : Followed) → IsFollowed pieces x → (facts : List KeptFact) → AreKnown x facts → (h : Homes)
    → HomesStand (tables_of x) h
    → IsOneNone (tables_of x) (known_by facts) h x.members.items → members_meant pieces ≡ None

-- Members that are lent of those that are read are the members of what was followed.
abbrev pub LentMembersAreMembers : Type 0
LentMembersAreMembers = (x : Followed) (known : ℕ → Fact) (h : Homes) (ms : List Member) → AreRead (tables_of x) known h x.members.items (map lent_member ms)
    → AreMembersOf x ms
