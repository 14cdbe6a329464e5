-- What the sections of a core module bind together, or why they are refused (wit-component README, "Custom Section Format").
-- The sections that carry worlds are bound in order, each onto what was bound before it, beginning with the empty root world. The first refusal ends
-- it: that of a section, a clash, or, behind all sections, that what is left isn't empty.
use Rattle.std.specs.Prelude.{◌≡◌, ◌≢◌, ◌⊎◌, ◌+◌, ℕ, nat_eq, true, List, [], ◌∷◌, ◌++◌, length}
use Rattle.std.specs.List.{starts_with}
use Rattle.wit_model.specs.declared.{error.Error.Error, model.StringEncoding.StringEncoding}
use Rattle.wit_model.specs.{Text.text_of, Meaning.WorldPackage}
use Rattle.comp_bytes.specs.Frames.{IsCustom}
use Rattle.comp_meaning.specs.Reads.{ReadsWorld}
use Rattle.bind_meaning.specs.{Binding.Binding, ByMeaning.binding_of_world, Clash.CanUnite, Clash.IsClash, Roots.root_binding, Union.union}
use Rattle.wit_metadata.specs.Carried.{CarriesEncoding}
use Rattle.wit_metadata.specs.Modules.{AreSections, Carries, Framed, IsFrontless, carrying_name, module_preamble}
use Rattle.bind_sections.specs.SectionBindings.{RefusesSection}
use Rattle.wit_model.specs.declared.error.Error.TheVariants as errors

-- ---- the sections of a module

-- Behind the preamble these sections stand, one after the other, and this is what is left: no section stands in front of it.
pub record HasSections (bytes : List ℕ) (fs : List Framed) (left : List ℕ) : Type 0 where
  pub front : List ℕ
  pub parts : bytes ≡ module_preamble ++ (front ++ left)
  pub sections : AreSections fs front
  pub ends : IsFrontless left

-- the data of the sections that carry worlds, in order
pub data CarryData : List Framed → List (List ℕ) → Type 0 where
  none : CarryData [] []
  carrying : (f : Framed) (fs : List Framed) (c : List ℕ × List ℕ) (ds : List (List ℕ)) → f.0 ≡ 0 → IsCustom c f.1 → starts_with nat_eq c.0 carrying_name ≡ true
      → CarryData fs ds → CarryData (f ∷ fs) (c.1 ∷ ds)
  other : (f : Framed) (fs : List Framed) (ds : List (List ℕ)) → (Carries f → ⊥) → CarryData fs ds → CarryData (f ∷ fs) ds

-- ---- a section

-- The data of a section means this world by itself, and says this encoding.
pub record SectionMeans (data_ : List ℕ) (m : WorldPackage) (e : StringEncoding) : Type 0 where
  pub reads : ReadsWorld data_ m
  pub says : CarriesEncoding e data_

-- ---- one after the other

-- Onto this binding, the sections with these data bind that one.
abbrev pub Binds : Binding → List (List ℕ) → Binding → Type 0
Binds a [] c = a ≡ c
Binds a (d ∷ ds) c = (m : WorldPackage) × (e : StringEncoding) × SectionMeans d m e × CanUnite a (binding_of_world m e)
    × Binds (union a (binding_of_world m e)) ds c

-- the clash of two bindings, as it is answered
abbrev pub IsClashError : Binding → Binding → Error → Type 0
IsClashError a b (errors.Clash kind key) = IsClash a b kind (text_of key)
IsClashError a b _ = ⊥

-- Onto this binding, this is the first refusal of the sections, or else that of what is left behind them.
abbrev pub Refuses : (Error → Type 0) → Binding → List (List ℕ) → Error → Type 0
Refuses Left a [] error = Left error
Refuses Left a (d ∷ ds) error =
    RefusesSection d error
    ⊎ ((m : WorldPackage) × (e : StringEncoding) × SectionMeans d m e
    × (IsClashError a (binding_of_world m e) error ⊎ (CanUnite a (binding_of_world m e) × Refuses Left (union a (binding_of_world m e)) ds error)))

-- Bytes are left behind the sections of a module, and begin at this offset.
abbrev pub IsLeftOver : List ℕ → List ℕ → Error → Type 0
IsLeftOver input left (errors.BadModule offset) = (left ≢ []) × (offset + length left ≡ length input)
IsLeftOver input left _ = ⊥

-- ---- a module

-- The module binds this: it is sections to its end, and those that carry worlds bind it, one after the other.
pub record IsBound (input : List ℕ) (c : Binding) : Type 0 where
  pub sections : List Framed
  pub stand : HasSections input sections []
  pub data_ : List (List ℕ)
  pub carry : CarryData sections data_
  pub binds : Binds root_binding data_ c

-- The bytes are refused so: they don't begin as a module, or this is the first refusal.
pub data IsRefused (input : List ℕ) (error : Error) : Type 0 where
  no_module : ((rest : List ℕ) → input ≡ module_preamble ++ rest → ⊥) → error ≡ errors.NotAModule → IsRefused input error
  first : (fs : List Framed) (left : List ℕ) (ds : List (List ℕ)) → HasSections input fs left → CarryData fs ds
      → Refuses (IsLeftOver input left) root_binding ds error → IsRefused input error

-- The bytes are refused so, or for want of memory, or with `Size`, which another promise limits to lists that would be too long.
abbrev pub RefusesBindings : List ℕ → Error → Type 0
RefusesBindings input errors.Memory = Unit {0}
RefusesBindings input errors.Size = Unit {0}
RefusesBindings input error = IsRefused input error
