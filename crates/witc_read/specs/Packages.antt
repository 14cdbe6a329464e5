-- The packages that WIT texts begin with, in binary form, and why there is none.
use Rattle.std.specs.Prelude.{◌≡◌, ◌≢◌, ◌<◌, ◌==◌, Bool, true, false, ℕ, List, [], Some, map, slice_get, take}
use Rattle.std.specs.List.{list_all}
use Rattle.std.specs.Str.{is_utf8}
use Rattle.wit_encode.specs.Packages.{IsPreambleAt, MeansPackageAt, RefusesPackageAt, SpellsPackageAt}
use Rattle.wit_model.specs.declared.{error.Error.Error, model.PackageId.PackageId, model.Resolve.Resolve}
use Rattle.wit_model.specs.declared.error.Error.TheVariants as errors
use Rattle.text_names.specs.declared.error.Fault.{Fault}
use Rattle.text_names.specs.declared.error.Fault.TheVariants as faults
use Rattle.wit_text.specs.Texts.{ReadsTexts, RefusesTexts}
use Rattle.witc_read.specs.declared.packages.{NamedText.NamedText, ReadPackage.ReadPackage, Trouble.Trouble}
use Rattle.witc_read.specs.declared.packages.Trouble.TheVariants as troubles

-- the bytes of texts that have a name
abbrev pub bytes_of : List NamedText → List (List ℕ)
bytes_of texts = map (λ t. t.bytes.now) texts

-- whether a package is the first of two
abbrev pub is_package : PackageId → PackageId → Bool
is_package main id = id.0 == main.0

-- This is the package of the first of these, and of so many of them, the first ones, at least.
pub record IsMainOf (mains : List PackageId) (own : ℕ) (main : PackageId) : Type 0 where
  pub first : slice_get mains 0 ≡ Some main
  pub same : list_all (is_package main) (take own mains) ≡ true

-- The one of this number isn't this package.
abbrev pub IsOther : PackageId → List PackageId → ℕ → Type 0
IsOther main mains n = (other : PackageId) × (slice_get mains n ≡ Some other) × (other.0 ≢ main.0)

-- The one of this number is among the first ones, so many, and another package than the first.
pub record IsApart (mains : List PackageId) (own : ℕ) (n : ℕ) : Type 0 where
  pub main : PackageId
  pub first : slice_get mains 0 ≡ Some main
  pub within : n < own
  pub other : IsOther main mains n

-- The packages of texts, and the one with which all own ones begin, which are so many and the first ones.
pub record IsReadOf (texts : List (List ℕ)) (own : ℕ) (r : Resolve) (main : PackageId) : Type 0 where
  pub mains : List PackageId
  pub reads : ReadsTexts texts own r mains
  pub is_main : IsMainOf mains own main

-- The bytes are those of the package with which the own texts begin: they mean exactly it, in the one spelling that is written, without canonical names.
pub record IsPackageOf (texts : List (List ℕ)) (own : ℕ) (bytes : List ℕ) : Type 0 where
  pub resolve : Resolve
  pub main : PackageId
  pub read : IsReadOf texts own resolve main
  pub means : MeansPackageAt resolve main.0 bytes
  pub spelled : SpellsPackageAt resolve false main.0 bytes
  pub empty : IsPreambleAt resolve main.0 bytes

-- the same of this very package, as the texts are read
abbrev pub IsPackageAs : List (List ℕ) → ℕ → Resolve → PackageId → List ℕ → Type 0
IsPackageAs texts own r main bytes = (p : IsPackageOf texts own bytes) × (p.resolve ≡ r) × (p.main ≡ main)

-- the same of what is read
abbrev pub IsReadPackage : List (List ℕ) → ℕ → ReadPackage → Type 0
IsReadPackage texts own r = IsPackageAs texts own r.resolve r.main r.bytes.items

-- ---- why there is none

-- whether no package is made for want of memory
abbrev pub is_memory : Trouble → Bool
is_memory troubles.Memory = true
is_memory _ = false

-- a fault of texts, as what stands in the way of their package
abbrev pub trouble_of_fault : Fault → Trouble
trouble_of_fault faults.Memory = troubles.Memory
trouble_of_fault fault = troubles.Text fault

-- an error of encoding, as the same
abbrev pub trouble_of_error : Error → Trouble
trouble_of_error errors.Memory = troubles.Memory
trouble_of_error error = troubles.Bytes error

-- The text of this number isn't UTF-8, and it is the first such one.
pub record IsNoText (texts : List (List ℕ)) (n : ℕ) : Type 0 where
  pub text : List ℕ
  pub is : slice_get texts n ≡ Some text
  pub no_text : is_utf8 text ≡ false
  pub before : list_all is_utf8 (take n texts) ≡ true

-- The texts are read, and the one of this number is an own one that begins with another package than the first.
pub record AreApart (texts : List (List ℕ)) (own : ℕ) (n : ℕ) : Type 0 where
  pub resolve : Resolve
  pub mains : List PackageId
  pub reads : ReadsTexts texts own resolve mains
  pub apart : IsApart mains own n

-- The texts are read, and the package with which the own ones begin is refused by the encoder.
pub record RefusesPackage (texts : List (List ℕ)) (own : ℕ) (e : Error) : Type 0 where
  pub resolve : Resolve
  pub main : PackageId
  pub read : IsReadOf texts own resolve main
  pub refuses : RefusesPackageAt resolve main.0 false e

-- What stands in the way of the package with which the own ones of these texts begin. Want of memory says nothing of them.
abbrev pub IsTroubleOf : List (List ℕ) → ℕ → Trouble → Type 0
IsTroubleOf texts own troubles.Memory = Unit {0}
IsTroubleOf texts own (troubles.NoText n) = IsNoText texts n
IsTroubleOf texts own (troubles.Text fault) = (trouble_of_fault fault ≡ troubles.Text fault) × RefusesTexts texts fault
IsTroubleOf texts own troubles.Nothing = texts ≡ []
IsTroubleOf texts own (troubles.Apart n) = AreApart texts own n
IsTroubleOf texts own (troubles.Bytes e) = (trouble_of_error e ≡ troubles.Bytes e) × RefusesPackage texts own e

-- Why no package is made of texts, want of memory aside: one isn't UTF-8; they aren't read; they are none; two own ones begin with two packages; or the
-- package isn't encoded.
pub record IsUnmade (texts : List (List ℕ)) (own : ℕ) : Type 0 where
  pub trouble : Trouble
  pub no_memory : is_memory trouble ≡ false
  pub is : IsTroubleOf texts own trouble

-- the same of the packages that the texts begin with
abbrev pub IsNoMainOf : List PackageId → ℕ → Trouble → Type 0
IsNoMainOf mains own troubles.Nothing = mains ≡ []
IsNoMainOf mains own (troubles.Apart n) = IsApart mains own n
IsNoMainOf mains own _ = ⊥
