-- The numbers that things of another `Resolve` have from now on.
use Rattle.std.specs.Prelude.{ℕ, ◌+◌, Bool, true, false, List, [], ◌∷◌, Option}
use Rattle.std.specs.Option.{option_map_or}
use Rattle.wit_model.specs.declared.{error.Error.Error, model.InterfaceId.InterfaceId, model.PackageId.PackageId, model.WorldId.WorldId}
use Rattle.wit_model.specs.declared.error.Error.TheVariants as errors
-- those that are copied, one behind the other from the first on, and the others' as they are
pub use Rattle.bind_union.specs.Matching.{numbers_of}

-- how many are copied
abbrev pub copied_count : List Bool → ℕ
copied_count [] = 0
copied_count (true ∷ bs) = copied_count bs + 1
copied_count (false ∷ bs) = copied_count bs

abbrev pub IsMemoryOrSize : Error → Type 0
IsMemoryOrSize errors.Memory = Unit {0}
IsMemoryOrSize errors.Size = Unit {0}
IsMemoryOrSize _ = ⊥

-- an own number, and 0 where there is none
abbrev pub package_number : Option PackageId → ℕ
package_number id = option_map_or (λ i. i.0) id 0

abbrev pub interface_number : Option InterfaceId → ℕ
interface_number id = option_map_or (λ i. i.0) id 0

abbrev pub world_number : Option WorldId → ℕ
world_number id = option_map_or (λ i. i.0) id 0
