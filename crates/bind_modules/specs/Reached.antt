-- Which bindings are reached while a module is read, and when a list of them would get too long.
use Rattle.std.specs.Prelude.{◌≡◌, ℕ, List, ◌++◌}
use Rattle.wit_model.specs.declared.model.WorldKey.{WorldKey}
use Rattle.wit_bind.specs.declared.bindgen.Bindgen.{Bindgen}
use Rattle.wit_bind.specs.{Merged.IsMerge, Merges.AreTooMany, Roots.IsRoot}
use Rattle.wit_metadata.specs.Modules.{Carries, Framed, IsInFront, module_preamble}
use Rattle.bind_sections.specs.{SectionBindings.IsBoundBy, Steps.IsDataInFront}

-- With what the first sections of a module bind, these bindings are reached, and these bytes of it are left. Behind the preamble, the
-- bindings are those of a module that carries no world. A section that carries none leaves them as they are. What the data of one
-- binds that carries a world is merged with them.
pub data IsReached (input : List ℕ) : Bindgen → List ℕ → Type 0 where
  begun : (b : Bindgen) (rest : List ℕ) → input ≡ module_preamble ++ rest → IsRoot b → IsReached input b rest
  passed : (b : Bindgen) (bytes rest : List ℕ) (f : Framed) → IsReached input b bytes → IsInFront bytes f rest → (Carries f → ⊥) → IsReached input b rest
  merged : (own other new : Bindgen) (answer : List WorldKey) (bytes d rest : List ℕ) → IsReached input own bytes → IsDataInFront bytes d rest
      → IsBoundBy d other → IsMerge own other new answer → IsReached input new rest

-- Behind some first sections stands one that carries a world, and a list of what has been reached would pass the longest with what comes of what it binds.
pub record OutgrowsLists (input : List ℕ) : Type 0 where
  pub own : Bindgen
  pub bytes : List ℕ
  pub reached : IsReached input own bytes
  pub data_ : List ℕ
  pub rest : List ℕ
  pub next : IsDataInFront bytes data_ rest
  pub other : Bindgen
  pub binds : IsBoundBy data_ other
  pub too_many : AreTooMany own other
