-- Laws of what a module binds, over the definitions alone.
use Rattle.std.specs.Prelude.{◌≡◌, ◌≢◌, ℕ, List, [], ◌∷◌, None, String}
use Rattle.std.specs.FinMap.{get}
use Rattle.std.specs.declared.alloc.Global.{Global}
use Rattle.wit_model.specs.declared.{error.Cause.Cause, error.ClashKind.ClashKind, model.Resolve.Resolve, model.StringEncoding.StringEncoding}
use Rattle.wit_model.specs.declared.error.Error.{Error}
use Rattle.wit_model.specs.{Text.text_of, Meaning.WorldPackage, Meant.MeantWorld}
use Rattle.bind_meaning.specs.{Binding.Binding, Binding.IsBinding, ByMeaning.binding_of_world, Laws.HasGained, Roots.root_path}
use Rattle.wit_bind.specs.declared.bindgen.Bindgen.{Bindgen}
use Rattle.wit_bind.specs.Bindings.{IsBindgen, binding_of}
use Rattle.wit_metadata.specs.{Carried.CarriesEncoding, Carried.MeansWorld, Modules.Framed}
use Rattle.bind_sections.specs.{SectionBindings.IsBoundBy, Bound.CarryData, Bound.HasSections, Bound.IsBound, Bound.IsRefused, Bound.SectionMeans}
use Rattle.wit_model.specs.declared.error.Error.TheVariants as errors

-- Data means one world and says one encoding at most.
abbrev pub SectionsMeanOnce : Type 0
SectionsMeanOnce = (d : List ℕ) (m n : WorldPackage) (e f : StringEncoding) → SectionMeans d m e → SectionMeans d n f → (m ≡ n) × (e ≡ f)

-- What data binds is a binding: its world stands under its path, which is no interface's, and no key of it stands twice.
abbrev pub SectionsAreBindings : Type 0
SectionsAreBindings = (d : List ℕ) (m : WorldPackage) (e : StringEncoding) → SectionMeans d m e → IsBinding (binding_of_world m e)

-- What a module binds is a binding.
abbrev pub BoundAreBindings : Type 0
BoundAreBindings = (input : List ℕ) (c : Binding) → IsBound input c → IsBinding c

-- A module binds one thing at most.
abbrev pub BoundOnce : Type 0
BoundOnce = (input : List ℕ) (c d : Binding) → IsBound input c → IsBound input d → c ≡ d

-- What binds something isn't refused, but for want of memory.
abbrev pub BoundIsNotRefused : Type 0
BoundIsNotRefused = (input : List ℕ) (c : Binding) (error : Error) → IsBound input c → IsRefused input error → error ≡ errors.Memory

-- Two refusals that say the same: the same error, but for the cause and the offset of what isn't read, and where the text of a clash lies in memory.
pub data SameRefusal (e f : Error) : Type 0 where
  same : e ≡ f → SameRefusal e f
  unread : (c d : Cause) (o p : ℕ) → e ≡ errors.NoReading c o → f ≡ errors.NoReading d p → SameRefusal e f
  clash : (k l : ClashKind) (s t : String Global) → e ≡ errors.Clash k s → f ≡ errors.Clash l t → k ≡ l → text_of s ≡ text_of t → SameRefusal e f

-- A module is refused in one way, want of memory aside.
abbrev pub OneRefusal : Type 0
OneRefusal = (input : List ℕ) (e f : Error) → e ≢ errors.Memory → f ≢ errors.Memory → IsRefused input e → IsRefused input f → SameRefusal e f

-- What is bound of the data of a section is the binding of the world that it means, with the encoding that it says.
abbrev pub SectionsBindTheirWorlds : Type 0
SectionsBindTheirWorlds = (d : List ℕ) (b : Bindgen) (m : WorldPackage) (e : StringEncoding) → IsBoundBy d b → SectionMeans d m e → IsBindgen b
    × (binding_of b ≡ binding_of_world m e)

-- Data that binds something means a world, and says an encoding.
abbrev pub BoundSectionsMean : Type 0
BoundSectionsMean = (d : List ℕ) (b : Bindgen) → IsBoundBy d b → (m : WorldPackage) × (e : StringEncoding) × SectionMeans d m e

-- A module whose sections carry this data, and no other, binds this, which has what the world imports and exports, each of its functions with this
-- encoding.
pub record BindsItsWorld (d : List ℕ) (m : WorldPackage) (e : StringEncoding) : Type 0 where
  pub bound : Binding
  pub binds : (input : List ℕ) (fs : List Framed) → HasSections input fs [] → CarryData fs (d ∷ []) → IsBound input bound
  pub gained : HasGained (binding_of_world m e) bound

-- Data that means just what a world of a `Resolve` does, and carries an encoding, as `metadata::encode` answers it, binds that world as the one section
-- of a module, unless the world shows an interface at the root world's path.
abbrev pub OneSectionBinds : Type 0
OneSectionBinds = (r : Resolve) (n : ℕ) (m : WorldPackage) (e : StringEncoding) (d : List ℕ) → MeantWorld r n m → MeansWorld r n d → CarriesEncoding e d
    → get m.shown root_path ≡ None → BindsItsWorld d m e
