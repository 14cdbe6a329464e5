-- The sections of a core module, and a module without those that carry worlds (core specification, "Binary Format", "Modules" and "Custom
-- Section"; wit-component README, "Custom Section Format").
use Rattle.std.specs.Prelude.{◌≡◌, ◌≢◌, ◌<◌, ◌+◌, ℕ, nat_eq, Bool, true, false, List, [], ◌∷◌, ◌++◌, codes, length, Option, Some, None, Result, Ok, Err, Vec}
use Rattle.std.specs.{List.AllByRecursion, List.flat_map, List.starts_with, Borrow.Bor}
use Rattle.std.specs.declared.alloc.Global.{Global}
use Rattle.wit_model.specs.declared.error.Error.{Error}
use Rattle.wit_model.specs.Text.{Text}
use Rattle.comp_bytes.specs.{Form.Sequence, Frames.IsCustom, Frames.IsFrame, Writing.framed}
use Rattle.comp_bytes.specs.declared.frames.Section.{Section}
use Rattle.wit_model.specs.declared.error.Error.TheVariants as errors

-- the bytes with which a core module begins
abbrev pub module_preamble : List ℕ
module_preamble = 0 ∷ 0x61 ∷ 0x73 ∷ 0x6d ∷ 1 ∷ 0 ∷ 0 ∷ 0 ∷ []

-- a section: its id and its contents
abbrev pub Framed : Type 0
Framed = ℕ × List ℕ

-- a custom section begins with its name
abbrev pub IsNamed : Framed → Type 0
IsNamed f = f.0 ≡ 0 → (c : List ℕ × List ℕ) × IsCustom c f.1

-- these bytes are these sections, one after the other
abbrev pub AreSections : List Framed → List ℕ → Type 0
AreSections fs bytes = Sequence IsFrame fs bytes × AllByRecursion IsNamed fs

-- the bytes of a core module with these sections
abbrev pub IsModule : List Framed → List ℕ → Type 0
IsModule fs bytes = (rest : List ℕ) × (bytes ≡ module_preamble ++ rest) × AreSections fs rest

-- what the name of a custom section that carries a world begins with
abbrev pub carrying_name : Text
carrying_name = codes "component-type"

-- A section carries a world: it is a custom one whose name begins with `component-type`.
abbrev pub Carries : Framed → Type 0
Carries f = (f.0 ≡ 0) × ((c : List ℕ × List ℕ) × IsCustom c f.1 × (starts_with nat_eq c.0 carrying_name ≡ true))

-- the sections that carry none, in order
pub data AreOthers : List Framed → List Framed → Type 0 where
  none : AreOthers [] []
  carrying : (f : Framed) (fs others : List Framed) → Carries f → AreOthers fs others → AreOthers (f ∷ fs) others
  other : (f : Framed) (fs others : List Framed) → (Carries f → ⊥) → AreOthers fs others → AreOthers (f ∷ fs) (f ∷ others)

-- a module of these sections, each behind the shortest bytes of its length
abbrev pub module_bytes : List Framed → List ℕ
module_bytes fs = module_preamble ++ flat_map (λ f. framed f.0 f.1) fs

-- The bytes are a module, and no section of it carries a world.
pub record IsUnbound (bytes : List ℕ) : Type 0 where
  pub sections : List Framed
  pub is : IsModule sections bytes
  pub others : AreOthers sections sections

-- Some sections of the module carry worlds, and what is kept is the module of the others.
pub record IsStripped (bytes kept : List ℕ) : Type 0 where
  pub sections : List Framed
  pub is : IsModule sections bytes
  pub others : List Framed
  pub are : AreOthers sections others
  pub fewer : length others < length sections
  pub kept_are : kept ≡ module_bytes others

-- What is answered of a module without the worlds: none where it carries none, or the module of its other sections.
abbrev pub StripsModule : List ℕ → Option (Vec ℕ Global) → Type 0
StripsModule bytes None = IsUnbound bytes
StripsModule bytes (Some kept) = IsStripped bytes kept.items

-- A section stands in front of these bytes, with a name if it is a custom one, and these bytes behind it.
pub record IsInFront (bytes : List ℕ) (f : Framed) (rest : List ℕ) : Type 0 where
  pub front : List ℕ
  pub parts : bytes ≡ front ++ rest
  pub framed_ : IsFrame f front
  pub named_ : IsNamed f

-- No section stands in front of these bytes.
abbrev pub IsFrontless : List ℕ → Type 0
IsFrontless bytes = (f : Framed) (rest : List ℕ) → IsInFront bytes f rest → ⊥

-- Behind some sections of a module bytes are left that begin none, at this offset.
pub record IsBrokenAt (bytes : List ℕ) (offset : ℕ) : Type 0 where
  pub sections : List Framed
  pub front : List ℕ
  pub left : List ℕ
  pub parts : bytes ≡ module_preamble ++ (front ++ left)
  pub are : AreSections sections front
  pub some : left ≢ []
  pub ends : IsFrontless left
  pub at : offset + length left ≡ length bytes

-- Refused is what doesn't begin as a module; what begins so and has other bytes behind it than sections, at the offset of the first that is none; or any
-- module for want of memory.
abbrev pub RefusesModule : List ℕ → Error → Type 0
RefusesModule bytes errors.NotAModule = (rest : List ℕ) → bytes ≡ module_preamble ++ rest → ⊥
RefusesModule bytes (errors.BadModule offset) = IsBrokenAt bytes offset × ((fs : List Framed) → IsModule fs bytes → ⊥)
RefusesModule bytes errors.Memory = Unit {0}
RefusesModule bytes _ = ⊥

-- what is told of a section: that it has no name where it wants one, or whether it carries a world
abbrev pub TellsCarrying : Framed → Result Bool Error → Type 0
TellsCarrying f (Err e) = IsNamed f → ⊥
TellsCarrying f (Ok true) = IsNamed f × Carries f
TellsCarrying f (Ok false) = IsNamed f × (Carries f → ⊥)

abbrev pub IsFrontSection : List ℕ → Result (Section × Bool × Bor (List ℕ)) Error → Type 0
IsFrontSection bytes (Err e) = IsFrontless bytes
IsFrontSection bytes (Ok x) = IsInFront bytes (x.0.id, x.0.contents.now) x.2.now × TellsCarrying (x.0.id, x.0.contents.now) (Ok x.1)

-- ---- section by section

-- the bytes don't begin as a core module
abbrev pub IsNoModule : List ℕ → Type 0
IsNoModule bytes = (rest : List ℕ) → bytes ≡ module_preamble ++ rest → ⊥

-- what stands behind the name of a custom section with these contents, or none where they have no name in front
abbrev pub HasData : List ℕ → Option (Bor (List ℕ)) → Type 0
HasData contents None = (c : List ℕ × List ℕ) → IsCustom c contents → ⊥
HasData contents (Some found) = (name : List ℕ) × IsCustom (name, found.now) contents

-- The section carries a world, and this is its data: what stands behind its name.
pub record CarriesData (f : Framed) (text : List ℕ) : Type 0 where
  pub custom : f.0 ≡ 0
  pub name : List ℕ
  pub named_ : IsCustom (name, text) f.1
  pub begins : starts_with nat_eq name carrying_name ≡ true

-- A section stands in front of these bytes behind it: one that carries a world, with this data, or one that carries none.
abbrev pub IsFrontData : List ℕ → Option (Bor (List ℕ)) → List ℕ → Type 0
IsFrontData bytes (Some found) rest = (f : Framed) × IsInFront bytes f rest × CarriesData f found.now
IsFrontData bytes None rest = (f : Framed) × IsInFront bytes f rest × (Carries f → ⊥)
