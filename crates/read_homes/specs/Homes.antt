-- Packages by number, and what paths are read as (WIT.md, "Package declaration"; Binary.md, "Import and Export Definitions").
use Rattle.std.specs.Prelude.{◌≡◌, ◌⊎◌, ◌<◌, ℕ, length, List, [], ◌∷◌, ◌++◌, Option, Some, None, option_map, option_and_then, slice_get}
use Rattle.std.specs.Borrow.{Bor}
use Rattle.wit_model.specs.{Text.Text, Names.PackageIdentity, Names.cut, Names.known_path, Names.read_path, Names.versioned}
use Rattle.comp_bytes.specs.RawOf.{text_of}
use Rattle.comp_meaning.specs.Reads.{labelled_path}
use Rattle.plan_meaning.specs.{NumberedViews.Tables, NumberedMembers.HomesStand}
use Rattle.read_homes.specs.declared.packages.PackageTexts.{PackageTexts}

-- ---- texts that are parts of others, as texts

abbrev pub two_texts : Option (Bor (List ℕ) × Bor (List ℕ)) → Option (Text × Text)
two_texts o = option_map (λ x. (x.0.now, x.1.now)) o

abbrev pub with_version : Bor (List ℕ) × Option (Bor (List ℕ)) → Text × Option Text
with_version x = (x.0.now, option_map text_of x.1)

abbrev pub identity_of : PackageTexts → PackageIdentity
identity_of p = record { namespace = p.namespace.now; name = p.name.now; version = option_map text_of p.version }

-- a package and a name in it
abbrev pub named_in : PackageTexts × Bor (List ℕ) → PackageIdentity × Text
named_in x = (identity_of x.0, x.1.now)

-- a package by its number, and a name in it
abbrev pub home_of : ℕ × Bor (List ℕ) → ℕ × Text
home_of x = (x.0, x.1.now)

abbrev pub given_text : Option (Bor (List ℕ)) → Option Text
given_text o = option_map text_of o

abbrev pub given_home : Option (ℕ × Bor (List ℕ)) → Option (ℕ × Text)
given_home o = option_map home_of o

-- what a path is, by what stands behind its namespace
abbrev pub behind_namespace : Text → Text → Option (PackageIdentity × Text)
behind_namespace namespace rest =
    option_and_then (λ b. known_path (record { namespace = namespace; name = b.0; version = (versioned b.1).1 }) (versioned b.1).0) (cut 47 rest)

-- ---- packages

-- None stands twice.
abbrev pub AreApart : {X : Type 0} → List X → Type 0
AreApart {X = X} xs = (m n : ℕ) (x : X) → slice_get xs m ≡ Some x → slice_get xs n ≡ Some x → m ≡ n

-- It is in the list already, or comes behind the others.
pub data Joins {X : Type 0} (old : List X) (x : X) : List X → Type 0 where
  stays : Joins old x old
  comes : ((n : ℕ) → slice_get old n ≡ Some x → ⊥) → Joins old x (old ++ x ∷ [])

-- some path is read as a name in the package
pub record IsRead (identity : PackageIdentity) : Type 0 where
  pub path : Text
  pub name : Text
  pub reads : read_path path ≡ Some (identity, name)

-- Each package stands once, and is that of some path.
pub record ArePackages (packages : List PackageIdentity) : Type 0 where
  pub apart : AreApart packages
  pub read : (n : ℕ) (identity : PackageIdentity) → slice_get packages n ≡ Some identity → IsRead identity

-- The list has what it had, and perhaps more behind it.
pub record Grows {X : Type 0} (old new : List X) : Type 0 where
  pub more : List X
  pub is : new ≡ old ++ more

-- The path is read as this name in the package of this number; or it is none.
abbrev pub IsReadAs : List PackageIdentity → Text → Option (ℕ × Text) → Type 0
IsReadAs packages path None = read_path path ≡ None
IsReadAs packages path (Some home) = (identity : PackageIdentity) × (slice_get packages home.0 ≡ Some identity) × (read_path path ≡ Some (identity, home.1))

-- what is added is the package that was read, if it doesn't stand there, and nothing else
abbrev pub Takes : List PackageIdentity → Option PackageIdentity → List PackageIdentity → Type 0
Takes old None new = new ≡ old
Takes old (Some identity) new = Joins old identity new

-- the package of a path
abbrev pub package_read : Text → Option PackageIdentity
package_read path = option_map (λ x. x.0) (read_path path)

-- The path is one whose last name is the label, in the package of this number; or it is none.
abbrev pub IsLabelled : List PackageIdentity → Text → Text → Option ℕ → Type 0
IsLabelled packages label path None = labelled_path label path ≡ None
IsLabelled packages label path (Some n) = (identity : PackageIdentity) × (slice_get packages n ≡ Some identity) × (labelled_path label path ≡ Some identity)

-- ---- places

-- the package and the name of the interface of a place, if it has a path that is one
abbrev pub IsHomeOf : List PackageIdentity → Option Text → Option (ℕ × Text) → Type 0
IsHomeOf packages None home = home ≡ None
IsHomeOf packages (Some path) home = IsReadAs packages path home

-- the package of this number is that of some place
pub record HasPlace (homes : List (Option (ℕ × Text))) (n : ℕ) : Type 0 where
  pub place : ℕ
  pub name : Text
  pub home : slice_get homes place ≡ Some (Some (n, name))

-- each path is one
abbrev pub ArePaths : List (Option Text) → Type 0
ArePaths paths = (p : ℕ) (path : Text) → slice_get paths p ≡ Some (Some path) → (x : PackageIdentity × Text) × (read_path path ≡ Some x)

-- each package is an earlier one, or that of the place
abbrev pub IsReason : List PackageIdentity → List PackageIdentity → Option (ℕ × Text) → Type 0
IsReason old new home = (n : ℕ) → n < length new → (n < length old) ⊎ ((name : Text) × (home ≡ Some (n, name)))

-- Each package is an earlier one, or that of some place.
abbrev pub HaveReasons : List PackageIdentity → List PackageIdentity → List (Option (ℕ × Text)) → Type 0
HaveReasons old new homes = (n : ℕ) → n < length new → (n < length old) ⊎ HasPlace homes n

-- an earlier place than this is of the package of this number
pub record HasPlaceBefore (homes : List (Option (ℕ × Text))) (place n : ℕ) : Type 0 where
  pub number : ℕ
  pub earlier : number < place
  pub name : Text
  pub home : slice_get homes number ≡ Some (Some (n, name))

-- Each place stands behind one of each package that is new and has a smaller number than its own.
abbrev pub ComeInOrder : List PackageIdentity → List (Option (ℕ × Text)) → Type 0
ComeInOrder old homes = (p n : ℕ) (name : Text) → slice_get homes p ≡ Some (Some (n, name)) → (c : ℕ) → c < n → (c < length old) ⊎ HasPlaceBefore homes p c

-- what stands as it is known of the packages of places stands where there are more packages
abbrev pub KeepsHomes : List PackageIdentity → List PackageIdentity → Type 0
KeepsHomes old new = (t : Tables) (homes : List (Option (ℕ × Text))) → HomesStand t (record { packages = old; homes = homes })
    → HomesStand t (record { packages = new; homes = homes })

-- The homes stand in each table of these paths, where each is one.
abbrev pub StandInTables : List (Option Text) → List PackageIdentity → List (Option (ℕ × Text)) → Type 0
StandInTables paths packages homes = (t : Tables) → t.paths ≡ paths → ArePaths t.paths → HomesStand t (record { packages = packages; homes = homes })
