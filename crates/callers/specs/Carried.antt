-- A world that is written as a module carries it, and read back.
use Rattle.std.specs.Prelude.{◌≡◌, ◌↔◌, ℕ, Some}
use Rattle.wit_model.specs.declared.model.{Resolve.Resolve, World.World}
use Rattle.wit_component.specs.{Compatible.Accepts, Lookup.world_at, Meaning.WorldPackage, Meant.MeantWorld}

-- World k of the second `Resolve` means what world n of the first does, and nothing else.
pub record MeansTheSame (r : Resolve) (n : ℕ) (s : Resolve) (k : ℕ) : Type 0 where
  pub world : World
  pub stands : world_at s k ≡ Some world
  pub same : (m : WorldPackage) → MeantWorld r n m ↔ MeantWorld s k m

-- A world that means what world n does may take its own place.
pub record IsCarriedAndReplaced (r : Resolve) (n : ℕ) : Type 0 where
  pub again : Resolve
  pub number : ℕ
  pub same : MeansTheSame r n again number
  pub accepts : Accepts again same.world same.world
