-- What was followed of an input, read as members (Component Model WIT.md, "Package Format").
use Rattle.std.specs.Prelude.{◌≡◌, ℕ, true, false, List, [], Option, Some, None}
use Rattle.wit_model.specs.Names.{PackageIdentity}
use Rattle.plan_meaning.specs.NumberedMembers.{Homes, HomesStand, NumberedMember, are_package}
use Rattle.plan_meaning.specs.{NumberedRules.Fact, NumberedViews.Tables}
use Rattle.read_homes.specs.Homes.{ArePackages, ComeInOrder, HaveReasons}
use Rattle.read_rules.specs.declared.tables.Fact.{Fact as KeptFact}
use Rattle.read_parts.specs.declared.following.Followed.{Followed}
use Rattle.read_numbers.specs.{FactLaws.known_by, KnownScopes.AreKnown, NumberedInput.tables_of}
use Rattle.read_members.specs.{Decided.are_one_package, ReadMembers.AreForMembers, ReadMembers.AreRead}
use Rattle.comp_read.specs.ReadInput.{AreHomesOf}

-- Members were read of what was followed, over tables whose types are known, and over packages, each of which is that of a place or of a member. Those
-- of places are numbered in the order of these.
pub record AreReadOf (x : Followed) (t : Tables) (facts : List KeptFact) (h : Homes) (ns : List (NumberedMember × List (Option ℕ))) : Type 0 where
  pub tables : t ≡ tables_of x
  pub known : AreKnown x facts
  pub stand : HomesStand t h
  pub homes : AreHomesOf t h
  pub packages : ArePackages h.packages
  pub first : List PackageIdentity
  pub reasons : HaveReasons [] first h.homes
  pub order : ComeInOrder [] h.homes
  pub members : AreForMembers first h.packages ns
  pub read : AreRead t (known_by facts) h x.members.items ns

-- the number of the package that the members are: that of the first
abbrev pub IsMain : Tables → Homes → (ℕ → Fact) → List NumberedMember → Option ℕ → Type 0
IsMain t h known ms None = are_one_package t h known ms ≡ false
IsMain t h known ms (Some n) = are_package t h known n ms ≡ true
