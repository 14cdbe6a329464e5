-- What was followed of worlds and interfaces, beside what makes a package of them (WIT.md, "Worlds"; Component Model WIT.md, "Package Format";
-- Binary.md, "Index Spaces" and "Import and Export Definitions").
use Rattle.std.specs.{Prelude.ℕ, Prelude.List, List.Contains}
use Rattle.comp_bytes.specs.Levels.{Piece}
use Rattle.plan_meaning.specs.{NumberedMembers.Homes, NumberedWorlds.HasPath}
use Rattle.read_exports.specs.declared.members.Member.{Member}
use Rattle.plan_package.specs.PlanWhole.{places_in}
use Rattle.read_parts.specs.declared.following.Followed.{Followed}
use Rattle.read_numbers.specs.NumberedInput.{tables_of}
use Rattle.plan_laws.specs.{WholeCondition.ImportsAreBare, WholeWorlds.WorldsAreFollowed}
use Rattle.comp_read.specs.ReadInput.{IsReadInput}
use Rattle.comp_meaning.specs.Reads as reads

abbrev pub ReadWorldsAreFollowed : Type 0
ReadWorldsAreFollowed = (pieces : List Piece) (x : Followed) (h : Homes) (ms : List Member) (members : List reads.Member) → IsReadInput pieces x h ms members
    → WorldsAreFollowed (tables_of x) ms

abbrev pub ReadImportsAreBare : Type 0
ReadImportsAreBare = (pieces : List Piece) (x : Followed) (h : Homes) (ms : List Member) (members : List reads.Member) → IsReadInput pieces x h ms members
    → ImportsAreBare ms

-- Each place with a path is that of a view.
abbrev pub ReadPlacesAreMet : Type 0
ReadPlacesAreMet = (pieces : List Piece) (x : Followed) (h : Homes) (ms : List Member) (members : List reads.Member) → IsReadInput pieces x h ms members
    → (q : ℕ) → HasPath (tables_of x) q → Contains (places_in ms) q
