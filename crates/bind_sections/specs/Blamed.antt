-- At which section the bindings of a core module are refused (wit-component README, "Custom Section Format").
use Rattle.std.specs.Prelude.{◌≡◌, ◌≢◌, ◌⊎◌, ℕ, List, Option, Some, None}
use Rattle.wit_model.specs.declared.{error.Error.Error, model.StringEncoding.StringEncoding}
use Rattle.wit_model.specs.Meaning.{WorldPackage}
use Rattle.bind_meaning.specs.{Binding.Binding, ByMeaning.binding_of_world}
use Rattle.wit_metadata.specs.Modules.{IsFrontless, IsNoModule}
use Rattle.bind_sections.specs.{SectionBindings.RefusesSection, Bound.IsClashError, Bound.SectionMeans, Steps.IsCountedTo, Steps.IsDataInFront, Steps.IsReadTo}
use Rattle.wit_model.specs.declared.error.Error.TheVariants as errors

-- Behind sections that bind this, one with this data is refused so: the data binds nothing, or what it means clashes with what they bind.
abbrev pub RefusesNext : Binding → List ℕ → Error → Type 0
RefusesNext c d error =
    RefusesSection d error ⊎ ((m : WorldPackage) × (e : StringEncoding) × SectionMeans d m e × IsClashError c (binding_of_world m e) error)

-- Of the sections that carry worlds the one of this number, from 0, is refused so: so many of them stand in front of it, and bind something together.
pub record IsRefusedAs (input : List ℕ) (number : ℕ) (error : Error) : Type 0 where
  pub bound : Binding
  pub bytes : List ℕ
  pub before : IsCountedTo input bound number bytes
  pub data_ : List ℕ
  pub rest : List ℕ
  pub next : IsDataInFront bytes data_ rest
  pub why : RefusesNext bound data_ error

-- Of the sections that carry worlds the one of this number, from 0, is refused, and not for want of memory.
pub record IsRefusedSection (input : List ℕ) (number : ℕ) : Type 0 where
  pub error : Error
  pub other : error ≢ errors.Memory
  pub refused : IsRefusedAs input number error

-- No section that carries a world is refused: the bytes don't begin as a module, or all of them bind something together, up to where no section stands.
pub data RefusesNoSection (input : List ℕ) : Type 0 where
  no_module : IsNoModule input → RefusesNoSection input
  through : (c : Binding) (rest : List ℕ) → IsReadTo input c rest → IsFrontless rest → RefusesNoSection input

-- The section of the number that is told is refused, or where none is told, none is.
abbrev pub TellsSection : List ℕ → Option ℕ → Type 0
TellsSection input (Some number) = IsRefusedSection input number
TellsSection input None = RefusesNoSection input

-- What a refusal says where so many sections that carry worlds have been bound. For want of memory or of size, it says nothing of sections. Of
-- what is no module, or of bytes that begin no section, it says that no section is refused. Else it says that the next one is.
abbrev pub Blames : List ℕ → ℕ → Error → Type 0
Blames input number errors.Memory = Unit {0}
Blames input number errors.Size = Unit {0}
Blames input number errors.NotAModule = RefusesNoSection input
Blames input number (errors.BadModule offset) = RefusesNoSection input
Blames input number error = IsRefusedAs input number error

-- One section of a module is refused at most.
abbrev pub OneRefusedSection : Type 0
OneRefusedSection = (input : List ℕ) (m n : ℕ) → IsRefusedSection input m → IsRefusedSection input n → m ≡ n

-- Where no section is refused, none has a number.
abbrev pub NoRefusedSection : Type 0
NoRefusedSection = (input : List ℕ) (n : ℕ) → RefusesNoSection input → IsRefusedSection input n → ⊥
