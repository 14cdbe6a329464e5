-- The instances of a scope are its imports and its exports that are instances, in one order (Binary.md, "Index Spaces").
use Rattle.std.specs.{Prelude.◌≡◌, Prelude.List, Prelude.[], Prelude.◌∷◌, Prelude.map, List.flat_map}
use Rattle.comp_meaning.specs.Follow.{Instance, Seen, Shown, Scope, Direction, import_, export_, interface_of}

-- the instance that an import or an export is
abbrev pub instance_of : Shown → List Instance
instance_of (Shown.instance key view) = record { interface = interface_of key; view = view } ∷ []
instance_of _ = []

abbrev pub instances_in : List Seen → List Instance
instances_in seen = flat_map (λ s. instance_of s.shown) seen

-- those that are imported, or those that are exported
abbrev pub going : Direction → List (Direction × Instance) → List Instance
going direction [] = []
going import_ ((import_, x) ∷ rest) = x ∷ going import_ rest
going import_ ((export_, x) ∷ rest) = going import_ rest
going export_ ((import_, x) ∷ rest) = going export_ rest
going export_ ((export_, x) ∷ rest) = x ∷ going export_ rest

-- Each instance is imported or exported, and each import and each export that is an instance is one of them, in order.
pub record InstancesAreSeen (scope : Scope) : Type 0 where
  pub seen : List (Direction × Instance)
  pub all : map (λ x. x.1) seen ≡ scope.instances
  pub imported : going import_ seen ≡ instances_in scope.imports
  pub exported : going export_ seen ≡ instances_in scope.exports
