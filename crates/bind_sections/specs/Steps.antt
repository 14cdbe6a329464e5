-- How a module is read, section by section, and what is known then.
use Rattle.std.specs.Prelude.{◌≡◌, ◌⊎◌, ℕ, List, [], ◌∷◌, ◌++◌, length}
use Rattle.wit_model.specs.declared.{error.Error.Error, model.StringEncoding.StringEncoding}
use Rattle.wit_model.specs.Meaning.{WorldPackage}
use Rattle.bind_meaning.specs.{Binding.Binding, ByMeaning.binding_of_world, Clash.CanUnite, Roots.root_binding, Union.union}
use Rattle.wit_metadata.specs.Modules.{AreSections, Carries, Framed, IsFrontless, IsInFront, module_preamble}
use Rattle.bind_sections.specs.SectionBindings.{RefusesSection}
use Rattle.bind_sections.specs.Bound.{Binds, CarryData, IsBound, IsClashError, IsLeftOver, IsRefused, SectionMeans}

-- So far these sections have been read, and bound to this; these bytes are left.
pub record IsReadTo (input : List ℕ) (c : Binding) (rest : List ℕ) : Type 0 where
  pub sections : List Framed
  pub front : List ℕ
  pub parts : input ≡ module_preamble ++ (front ++ rest)
  pub are : AreSections sections front
  pub data_ : List (List ℕ)
  pub carry : CarryData sections data_
  pub binds : Binds root_binding data_ c

-- So far these sections have been read, and so many of them carry worlds.
abbrev pub IsCountedTo : List ℕ → Binding → ℕ → List ℕ → Type 0
IsCountedTo input c number rest = (h : IsReadTo input c rest) × (length h.data_ ≡ number)

-- A section whose data this is stands in front of bytes.
pub record IsDataInFront (bytes d rest : List ℕ) : Type 0 where
  pub frame : Framed
  pub front : IsInFront bytes frame rest
  pub carry : CarryData (frame ∷ []) (d ∷ [])

-- Before the first section, the empty root world is bound.
abbrev pub ReadingBegins : Type 0
ReadingBegins = (input rest : List ℕ) → input ≡ module_preamble ++ rest → IsReadTo input root_binding rest

-- A section that carries no world is passed over.
abbrev pub OthersArePassed : Type 0
OthersArePassed = (input bytes rest : List ℕ) (c : Binding) (f : Framed) → IsReadTo input c bytes → IsInFront bytes f rest → (Carries f → ⊥)
    → IsReadTo input c rest

-- One that carries a world is bound, where what it means unites with what was bound before.
abbrev pub WorldsAreBound : Type 0
WorldsAreBound = (input bytes rest d : List ℕ) (c : Binding) (m : WorldPackage) (e : StringEncoding) → IsReadTo input c bytes → IsDataInFront bytes d rest
    → SectionMeans d m e → CanUnite c (binding_of_world m e)
    → IsReadTo input (union c (binding_of_world m e)) rest

-- Where nothing is left, that is what the module binds.
abbrev pub ReadingEnds : Type 0
ReadingEnds = (input : List ℕ) (c : Binding) → IsReadTo input c [] → IsBound input c

-- The first refusal of a section, or its clash with what was bound before it, is that of the module, whatever follows.
abbrev pub RefusalsEnd : Type 0
RefusalsEnd = (input bytes rest d : List ℕ) (c : Binding) (error : Error) → IsReadTo input c bytes → IsDataInFront bytes d rest
    → RefusesSection d error ⊎ ((m : WorldPackage) × (e : StringEncoding) × SectionMeans d m e × IsClashError c (binding_of_world m e) error)
    → IsRefused input error

-- Where something is left, and no section stands in front of it, the module is refused for that.
abbrev pub LeftOversEnd : Type 0
LeftOversEnd = (input bytes : List ℕ) (c : Binding) (error : Error) → IsReadTo input c bytes → IsFrontless bytes → IsLeftOver input bytes error
    → IsRefused input error
