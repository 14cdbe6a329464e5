-- What a type asks of the scope that it is encoded in.
use Rattle.std.specs.Prelude.{ℕ, ◌≡◌, Bool, false, List, Some, None, is_some, String, true}
use Rattle.std.specs.List.{Contains}
use Rattle.std.specs.declared.alloc.Global.{Global}
use Rattle.wit_model.specs.{Text.text_of, Lookup.type_at, Lookup.place_of, Meant.type_meaning, Rules.is_named_kind}
use Rattle.wit_model.specs.declared.model.{Resolve.Resolve, TypeDef.TypeDef, «Type».«Type» as ValueType, InterfaceId.InterfaceId}
use Rattle.encode_types.specs.{Plan.foreign_owner, Plan.Reaches, Plan.IsLayered, Plan.AllInRange, Scope.Scope, Scope.IsImportable, Scope.IsDeclared, Kinds.kind_tree, Kinds.has_definition, Formed.IsFormed}

-- A type of another interface can be imported. A named type of the place is declared there, and what is defined is well formed.
-- An unnamed type is of no kind that has to be named.
pub record FitsScope (r : Resolve) (scope : Scope) (n : ℕ) (def : TypeDef) : Type 0 where
  pub foreign : (i : InterfaceId) → foreign_owner scope.own_interface def.owner ≡ Some i → IsImportable scope i.0 n
  pub unnamed : foreign_owner scope.own_interface def.owner ≡ None → def.name ≡ None → is_named_kind def.kind ≡ false
  pub placed : foreign_owner scope.own_interface def.owner ≡ None → (name : String Global) → def.name ≡ Some name → place_of r def.owner ≡ scope.place
  pub declared : foreign_owner scope.own_interface def.owner ≡ None → (name : String Global) → def.name ≡ Some name
      → IsDeclared scope (text_of name, type_meaning r def)
  pub formed : foreign_owner scope.own_interface def.owner ≡ None → has_definition def.kind ≡ true → IsFormed scope (kind_tree r def.kind)

-- whether a type is of another interface
abbrev pub is_foreign : Scope → TypeDef → Bool
is_foreign scope def = is_some (foreign_owner scope.own_interface def.owner)

-- a type of another interface can be imported
abbrev pub CanImport : Resolve → Scope → ℕ → Type 0
CanImport r scope n = (def : TypeDef) (i : InterfaceId) → type_at r n ≡ Some def → foreign_owner scope.own_interface def.owner ≡ Some i
    → IsImportable scope i.0 n

-- The type of this number fits the scope.
abbrev pub Fits : Resolve → Scope → ℕ → Type 0
Fits r scope n = (def : TypeDef) → type_at r n ≡ Some def → FitsScope r scope n def

-- Types that can be encoded: the scope has these packages, each type refers to smaller numbers alone, and what is met on the way down
-- fits the scope.
pub record CanEncode (r : Resolve) (scope : Scope) (ts : List ValueType) : Type 0 where
  pub packages_ : scope.packages ≡ r
  pub layered : IsLayered r
  pub in_range : AllInRange r ts
  pub fits : (t : ValueType) → Contains ts t → (n : ℕ) → Reaches r scope.own_interface t n → Fits r scope n
