-- What types are made of, and whose they are.
use Rattle.std.specs.Prelude.{◌≡◌, ℕ, Bool, true, List, is_none, slice_get, Some, count_by}
use Rattle.std.specs.List.{Contains}
use Rattle.wit_model.specs.declared.model.{Function.Function, TypeDef.TypeDef, TypeOwner.TypeOwner}
use Rattle.wit_model.specs.Parts.{function_numbers}
use Rattle.bind_union.specs.Views.{kind_view, view_numbers}

-- the types that a type names in its definition
abbrev pub type_parts : TypeDef → List ℕ
type_parts t = view_numbers (kind_view t.kind)

-- The type of this number has such an owner.
pub record IsOwnedBy (types : List TypeDef) (Owner : TypeOwner → Type 0) (n : ℕ) : Type 0 where
  pub def : TypeDef
  pub found : slice_get types n ≡ Some def
  pub owned_so : Owner def.owner

-- It has such an owner, or it has no name, and all that it names in its definition is so.
pub data IsMadeOf (types : List TypeDef) (Owner : TypeOwner → Type 0) : ℕ → Type 0 where
  owned : {n : ℕ} → IsOwnedBy types Owner n → IsMadeOf types Owner n
  unnamed : {n : ℕ} (def : TypeDef) → slice_get types n ≡ Some def → is_none def.name ≡ true → ((m : ℕ) → Contains (type_parts def) m → IsMadeOf types Owner m)
      → IsMadeOf types Owner n

-- It has no name, and all that it names in its definition is made of types with such owners.
pub record IsMadeUp (types : List TypeDef) (Owner : TypeOwner → Type 0) (n : ℕ) : Type 0 where
  pub def : TypeDef
  pub found : slice_get types n ≡ Some def
  pub nameless : is_none def.name ≡ true
  pub parts : (m : ℕ) → Contains (type_parts def) m → IsMadeOf types Owner m

-- Something that comes names it: such a function in its signature, such a type in its definition, or a type without a name that is named so itself.
pub data IsMet (types : List TypeDef) (Calls : Function → Type 0) (Comes : ℕ → Type 0) : ℕ → Type 0 where
  by_function : {n : ℕ} (f : Function) → Calls f → Contains (function_numbers f) n → IsMet types Calls Comes n
  by_type : {n : ℕ} (m : ℕ) (def : TypeDef) → slice_get types m ≡ Some def → Comes m → Contains (type_parts def) n → IsMet types Calls Comes n
  by_unnamed : {n : ℕ} (m : ℕ) (def : TypeDef) → slice_get types m ≡ Some def → is_none def.name ≡ true → IsMet types Calls Comes m
      → Contains (type_parts def) n → IsMet types Calls Comes n

-- So many numbers have the property: so many places of a list are marked, and each number whose place is has it.
pub record Come (Has : ℕ → Type 0) (count : ℕ) : Type 0 where
  pub marks : List Bool
  pub marked : count_by (λ b. b) marks ≡ count
  pub each : (n : ℕ) → slice_get marks n ≡ Some true → Has n
