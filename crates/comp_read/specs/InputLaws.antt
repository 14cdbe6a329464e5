-- What was followed of an input is what the laws of whole plans ask for (Component Model WIT.md, "Package Format").
use Rattle.std.specs.{Prelude.◌≡◌, Prelude.ℕ, Prelude.true, Prelude.List, List.AllByRecursion}
use Rattle.comp_bytes.specs.Levels.{Piece}
use Rattle.read_shown.specs.{Kinds.NamesHaveKinds, Parts.MemberStands}
use Rattle.plan_meaning.specs.{FollowedNumbers.AreMembersIn, NumberedMembers.Homes, NumberedMembers.are_package, NumberedRules.Fact, NumberedViews.Tables}
use Rattle.read_rules.specs.declared.tables.Fact.{Fact as KeptFact}
use Rattle.plan_type_laws.specs.{FormsObeyed.LengthsFit, ShownMarks.ArePlaced}
use Rattle.read_exports.specs.Members.{numbered_members}
use Rattle.read_exports.specs.declared.members.Member.{Member}
use Rattle.read_parts.specs.declared.following.Followed.{Followed}
use Rattle.read_numbers.specs.{FactLaws.known_by, KnownScopes.AreKnown, NumberedInput.tables_of}
use Rattle.plan_laws.specs.Apart.{FirstsRise}
use Rattle.plan_laws.specs.{ShownNames.IsInput, ShownNames.PartDeclaresNames, ShownWhole.AreReached, Whole.IsPackageInput, WholePlaces.LabelsStand}
use Rattle.comp_read.specs.ReadInput.{AreHomesOf, IsReadInput, ViewsObey}
use Rattle.comp_meaning.specs.Reads as reads

-- Each part is well-formed as it was read.
abbrev pub ReadMembersStand : Type 0
ReadMembersStand = (pieces : List Piece) (x : Followed) (h : Homes) (ms : List Member) (members : List reads.Member) → IsReadInput pieces x h ms members
    → AllByRecursion MemberStands members

-- Where views agree, each type that is shown is a name of its place, behind what it is declared as.
abbrev pub ReadMembersAreIn : Type 0
ReadMembersAreIn = (pieces : List Piece) (x : Followed) (h : Homes) (ms : List Member) (members : List reads.Member) → IsReadInput pieces x h ms members
    → (known : ℕ → Fact) → ViewsObey (tables_of x) known ms
    → AreMembersIn (tables_of x) (numbered_members ms)

-- Each type that a world imports is its name.
abbrev pub ReadMembersAreNamed : Type 0
ReadMembersAreNamed = (pieces : List Piece) (x : Followed) (h : Homes) (ms : List Member) (members : List reads.Member) → IsReadInput pieces x h ms members
    → AllByRecursion (λ (m : Member). PartDeclaresNames (tables_of x) m.part) ms

abbrev pub ReadIsInput : Type 0
ReadIsInput = (pieces : List Piece) (x : Followed) (h : Homes) (ms : List Member) (members : List reads.Member) → IsReadInput pieces x h ms members
    → (known : ℕ → Fact) → ViewsObey (tables_of x) known ms → IsInput (tables_of x) h ms members

-- Each world and each inline interface has a place of its own, and each type that a world imports its name there.
abbrev pub ReadPlacesAreApart : Type 0
ReadPlacesAreApart = (pieces : List Piece) (x : Followed) (h : Homes) (ms : List Member) (members : List reads.Member) → IsReadInput pieces x h ms members
    → (known : ℕ → Fact) → ViewsObey (tables_of x) known ms → ArePlaced (tables_of x) ms

-- The names of the first view of each place rise in the table.
abbrev pub ReadFirstsRise : Type 0
ReadFirstsRise = (pieces : List Piece) (x : Followed) (h : Homes) (ms : List Member) (members : List reads.Member) → IsReadInput pieces x h ms members
    → (known : ℕ → Fact) → ViewsObey (tables_of x) known ms → FirstsRise (tables_of x) ms

abbrev pub ReadLengthsFit : Type 0
ReadLengthsFit = (pieces : List Piece) (x : Followed) (h : Homes) (ms : List Member) (members : List reads.Member) → IsReadInput pieces x h ms members
    → LengthsFit (tables_of x)

-- What is exported at the top has labels, none twice.
abbrev pub ReadLabelsStand : Type 0
ReadLabelsStand = (pieces : List Piece) (x : Followed) (h : Homes) (ms : List Member) (members : List reads.Member) → IsReadInput pieces x h ms members
    → LabelsStand ms

-- The component type of an interface imports what is reached, each once.
abbrev pub ReadPartsAreReached : Type 0
ReadPartsAreReached = (pieces : List Piece) (x : Followed) (h : Homes) (ms : List Member) (members : List reads.Member) → IsReadInput pieces x h ms members
    → AreReached (tables_of x) ms

-- In a package the views of each interface agree, and each is what an interface may have.
abbrev pub PackageViewsObey : Type 0
PackageViewsObey = (t : Tables) (h : Homes) (known : ℕ → Fact) (n : ℕ) (ms : List Member) → are_package t h known n (numbered_members ms) ≡ true
    → ViewsObey t known ms

-- Each name that is read is a resource wherever it is met, or nowhere.
abbrev pub ReadNamesHaveKinds : Type 0
ReadNamesHaveKinds = (pieces : List Piece) (x : Followed) (h : Homes) (ms : List Member) (members : List reads.Member) → IsReadInput pieces x h ms members
    → (facts : List KeptFact) → AreKnown x facts
    → (n : ℕ) → are_package (tables_of x) h (known_by facts) n (numbered_members ms) ≡ true → NamesHaveKinds members

-- A package that was followed is one.
abbrev pub ReadIsPackageInput : Type 0
ReadIsPackageInput = (pieces : List Piece) (x : Followed) (h : Homes) (ms : List Member) (members : List reads.Member) → IsReadInput pieces x h ms members
    → (facts : List KeptFact) → AreKnown x facts → AreHomesOf (tables_of x) h
    → (n : ℕ) → are_package (tables_of x) h (known_by facts) n (numbered_members ms) ≡ true → IsPackageInput (tables_of x) h (known_by facts) n ms members
