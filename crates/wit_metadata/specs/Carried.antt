-- What a component says that a module carries: a world, and how its strings pass (wit-component README, "Custom Section Format").
use Rattle.std.specs.Prelude.{◌≡◌, ◌↔◌, ◌-◌, ℕ, Bool, if◌then◌else◌, List, [], ◌∷◌, length, Option, Some, slice_get}
use Rattle.std.specs.List.{flat_map}
use Rattle.wit_model.specs.declared.model.{Package.Package, PackageId.PackageId, Resolve.Resolve, World.World, StringEncoding.StringEncoding}
use Rattle.wit_model.specs.{Lookup.identity_of, Lookup.package_at, Lookup.world_at, Meaning.WorldPackage, Text.Text, Text.text_eq, Text.text_of}
use Rattle.wit_model.specs.Meant.{MeantWorld}
use Rattle.comp_bytes.specs.{Parts.Part, Parts.sections_of_parts, Raw.Declarations, Raw.Section, Spelling.IsComponent, Writing.component_bytes}
use Rattle.comp_meaning.specs.Reads.{ReadsWorld}
use Rattle.encode_exports.specs.ExportedParts.{one_exported}
use Rattle.wit_encode.specs.Packages.{WrapsWorld}
use Rattle.wit_metadata.specs.Encodings.{contents_of, section_name}

-- a world has a package, which stands in the list
pub record HasHome (r : Resolve) (w : World) : Type 0 where
  pub home : PackageId
  pub in_package : w.package ≡ Some home
  pub package_ : Package
  pub stands : package_at r home.0 ≡ Some package_

-- the contents of the custom sections of a name, in order
abbrev pub contents_under : Text → List Section → List (List ℕ)
contents_under name sections = flat_map contents sections
  where
    contents : Section → List (List ℕ)
    contents (Section.custom other bytes) = if text_eq name other then bytes ∷ [] else []
    contents (Section.types ts) = []
    contents (Section.exports es) = []

-- the last of a list
abbrev pub last_of : List (List ℕ) → Option (List ℕ)
last_of xs = slice_get xs (length xs - 1)

-- The bytes are a component whose last custom section `wit-component-encoding` says this encoding.
pub record CarriesEncoding (e : StringEncoding) (bytes : List ℕ) : Type 0 where
  pub sections : List Section
  pub spelled : IsComponent sections bytes
  pub says : last_of (contents_under section_name sections) ≡ Some (contents_of e)

-- The bytes mean just what world n means, by itself.
abbrev pub MeansWorld : Resolve → ℕ → List ℕ → Type 0
MeansWorld r n bytes = (m : WorldPackage) → MeantWorld r n m ↔ ReadsWorld bytes m

-- the custom section that says the encoding
abbrev pub encoding_part : StringEncoding → Part
encoding_part e = Part.custom section_name (contents_of e)

-- The bytes are those of a component with that section, and behind it the wrapper of world n, with names whole or canonical, exported under the
-- world's name. They are in the one spelling that is written, where each number is in its shortest form.
pub record CarriesWorld (r : Resolve) (canonical : Bool) (n : ℕ) (e : StringEncoding) (bytes : List ℕ) : Type 0 where
  pub world : World
  pub there : world_at r n ≡ Some world
  pub home : HasHome r world
  pub declared : Declarations
  pub wraps : WrapsWorld r canonical (identity_of home.package_.name) n world declared
  pub are : bytes ≡ component_bytes (sections_of_parts (encoding_part e ∷ one_exported 0 (text_of world.name, declared)))
  pub spelled : IsComponent (sections_of_parts (encoding_part e ∷ one_exported 0 (text_of world.name, declared))) bytes
