-- What was followed of an input, as members, and what the rules of reading make of it (Component Model WIT.md, "Package Format").
use Rattle.std.specs.{Prelude.◌≡◌, Prelude.ℕ, Prelude.true, Prelude.List, Prelude.Some, List.AllZip}
use Rattle.wit_model.specs.Names.{PackageIdentity}
use Rattle.comp_bytes.specs.{Levels.Piece, Reading.◌>>=◌}
use Rattle.comp_meaning.specs.Follow.{each}
use Rattle.plan_meaning.specs.NumberedMembers.{Homes, HomesStand, IsMember, are_interfaces, sights_of_members}
use Rattle.plan_meaning.specs.{NumberedRules.Fact, NumberedViews.Tables, NumberedViews.agree_in_numbers}
use Rattle.read_parts.specs.declared.following.Followed.{Followed}
use Rattle.read_parts.specs.{Followed.member_of_scope, Followed.scopes_of, Input.IsFollowed}
use Rattle.read_numbers.specs.NumberedInput.{tables_of}
use Rattle.read_members.specs.PartMembers.{AreMembersOf}
use Rattle.read_homes.specs.Homes.{IsHomeOf}
use Rattle.read_exports.specs.Members.{numbered_members}
use Rattle.read_exports.specs.declared.members.Member.{Member}
use Rattle.comp_meaning.specs.Reads as reads

-- What was followed of the sections stands, as these members, for those that the rules of reading make of it.
pub record IsReadInput (pieces : List Piece) (x : Followed) (h : Homes) (ms : List Member) (members : List reads.Member) : Type 0 where
  pub followed : IsFollowed pieces x
  pub are : AreMembersOf x ms
  pub reads : (scopes_of pieces >>= each member_of_scope) ≡ Some members
  pub homes : HomesStand (tables_of x) h
  pub shown : AllZip (IsMember (tables_of x) h) (numbered_members ms) members

-- The views of each interface agree, and each is what an interface may have.
pub record ViewsObey (t : Tables) (known : ℕ → Fact) (ms : List Member) : Type 0 where
  pub agree : agree_in_numbers (sights_of_members t (numbered_members ms)) ≡ true
  pub interfaces : are_interfaces t known (sights_of_members t (numbered_members ms)) ≡ true

-- a place has the home of its path in some packages, and one without a path has none
abbrev pub AreHomesOf : Tables → Homes → Type 0
AreHomesOf t h = (packages : List PackageIdentity) × AllZip (IsHomeOf packages) t.paths h.homes
