-- Worlds of packages, as sections of modules carry them (wit-component README, "Custom Section Format").
use Rattle.std.specs.Prelude.{◌≡◌, ◌<◌, ◌++◌, ℕ, Bool, true, List, [], Option, Some, None, Vec, codes, length}
use Rattle.std.specs.declared.alloc.Global.{Global}
use Rattle.wit_model.specs.declared.error.Error.{Error}
use Rattle.wit_model.specs.declared.{error.Error.TheVariants.Size, model.Resolve.Resolve, model.StringEncoding.StringEncoding, model.WorldId.WorldId}
use Rattle.comp_bytes.specs.Writing.{framed, name_bytes}
use Rattle.wit_model.specs.Meaning.{WorldPackage}
use Rattle.bind_meaning.specs.{Binding.Binding, ByMeaning.binding_of_world, Clash.CanUnite, Union.union}
use Rattle.wit_component.specs.{Bound.IsBound, Bound.RefusesBindings, Bound.SectionMeans, Steps.IsDataInFront}
use Rattle.wit_component.specs.{Decoded.IsDecoded, Decoded.RefusesBytes, Order.FollowsBytes, Weight.world_package_weight}
use Rattle.wit_component.specs.{Carried.CarriesEncoding, Carried.CarriesWorld, Carried.MeansWorld, Packages.HasNoClashAt, Packages.RefusesWorldAt}
use Rattle.wit_component.specs.Reached.{OutgrowsLists}
use Rattle.witc_texts.specs.Named.{NamesWorld}
use Rattle.wit_model.specs.declared.error.Error.TheVariants as errors

-- The bytes mean a package with a world of this name, and the data mean that world by itself and say this encoding. The data carry
-- the two as they are encoded, in the order in which the bytes show them, with canonical names or without. Where names are
-- canonical, no two of one component type are equal.
pub record EmbedsWorld (bytes name : List ℕ) (e : StringEncoding) (canonical : Bool) (data_ : List ℕ) : Type 0 where
  pub resolve : Resolve
  pub number : ℕ
  pub world : WorldId
  pub decoded : IsDecoded bytes resolve number
  pub order : FollowsBytes bytes resolve
  pub named : NamesWorld resolve number name (Some world)
  pub means : MeansWorld resolve world.0 data_
  pub says : CarriesEncoding e data_
  pub carries : CarriesWorld resolve canonical world.0 e data_
  pub differ : canonical ≡ true → HasNoClashAt resolve world.0

-- The bytes mean a package without a world of this name.
pub record HasNoWorld (bytes name : List ℕ) : Type 0 where
  pub resolve : Resolve
  pub number : ℕ
  pub decoded : IsDecoded bytes resolve number
  pub named : NamesWorld resolve number name None

abbrev pub EmbedsIfThere : List ℕ → List ℕ → StringEncoding → Bool → Option (Vec ℕ Global) → Type 0
EmbedsIfThere bytes name e canonical None = HasNoWorld bytes name
EmbedsIfThere bytes name e canonical (Some data_) = EmbedsWorld bytes name e canonical data_.items

-- The bytes mean no package, or one whose world of this name is refused where it is encoded, for size only where it weighs too much.
pub data RefusesEmbedded (bytes name : List ℕ) (canonical : Bool) : Error → Type 0 where
  unread : (e : Error) → RefusesBytes bytes e → RefusesEmbedded bytes name canonical e
  unwritten : (r : Resolve) (n : ℕ) (world : WorldId) (e : Error) → IsDecoded bytes r n → FollowsBytes bytes r → NamesWorld r n name (Some world)
      → RefusesWorldAt r world.0 canonical e
      → (e ≡ Size → 4294967295 < world_package_weight r world.0) → RefusesEmbedded bytes name canonical e

-- the name of a section that carries a world of this name
abbrev pub section_name : List ℕ → List ℕ
section_name name = codes "component-type:" ++ name

-- what is in a custom section: its name, and its data behind it
abbrev pub section_contents : List ℕ → List ℕ → List ℕ
section_contents name data_ = name_bytes name ++ data_

-- a module with one more section behind it, of this data, which is called after the world
abbrev pub with_section : List ℕ → List ℕ → List ℕ → List ℕ
with_section module_ name data_ = module_ ++ framed 0 (section_contents (section_name name) data_)

-- why such a section isn't written: memory ran out, or the length of what is in it doesn't fit in 32 bits
abbrev pub RefusesSection : List ℕ → List ℕ → Error → Type 0
RefusesSection name data_ errors.Memory = Unit {0}
RefusesSection name data_ errors.Size = 4294967295 < length (section_contents name data_)
RefusesSection name data_ _ = ⊥

-- this data stands in such a section alone, and is read from it
abbrev pub IsCarried : List ℕ → List ℕ → Type 0
IsCarried name data_ = IsDataInFront (framed 0 (section_contents (section_name name) data_)) data_ []

-- the bytes are a module, whole, and bind something
abbrev pub BindsSomething : List ℕ → Type 0
BindsSomething module_ = (b : Binding) × IsBound module_ b

-- The module alone binds something. The bytes are that module with one more section, which carries the package's world of this name; and they bind that world,
-- with the encoding, beside what the module bound.
pub record AttachesWorld (module_ bytes name : List ℕ) (e : StringEncoding) (canonical : Bool) (out : List ℕ) : Type 0 where
  pub data_ : List ℕ
  pub embeds : EmbedsWorld bytes name e canonical data_
  pub is : out ≡ with_section module_ name data_
  pub before : Binding
  pub whole : IsBound module_ before
  pub meant : WorldPackage
  pub means : SectionMeans data_ meant e
  pub unites : CanUnite before (binding_of_world meant e)
  pub binds : IsBound out (union before (binding_of_world meant e))

abbrev pub AttachesIfThere : List ℕ → List ℕ → List ℕ → StringEncoding → Bool → Option (Vec ℕ Global) → Type 0
AttachesIfThere module_ bytes name e canonical None = HasNoWorld bytes name
AttachesIfThere module_ bytes name e canonical (Some out) = AttachesWorld module_ bytes name e canonical out.items

-- The world is refused; or the module alone is; or the section with its data isn't written; or what comes of the module is refused. Bindings are refused for
-- size only where a list would get too long.
pub data RefusesAttached (module_ bytes name : List ℕ) (e : StringEncoding) (canonical : Bool) : Error → Type 0 where
  unembedded : (error : Error) → RefusesEmbedded bytes name canonical error → RefusesAttached module_ bytes name e canonical error
  broken : (data_ : List ℕ) (error : Error) → EmbedsWorld bytes name e canonical data_ → RefusesBindings module_ error
      → (error ≡ Size → OutgrowsLists module_) → RefusesAttached module_ bytes name e canonical error
  unjoined : (data_ : List ℕ) (error : Error) → EmbedsWorld bytes name e canonical data_ → BindsSomething module_
      → RefusesSection (section_name name) data_ error → RefusesAttached module_ bytes name e canonical error
  unbound : (data_ : List ℕ) (error : Error) → EmbedsWorld bytes name e canonical data_ → BindsSomething module_
      → RefusesBindings (with_section module_ name data_) error
      → (error ≡ Size → OutgrowsLists (with_section module_ name data_)) → RefusesAttached module_ bytes name e canonical error
