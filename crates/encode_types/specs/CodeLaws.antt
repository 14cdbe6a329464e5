-- Equal lists are those of equal kinds, and of equal keys of functions.
use Rattle.std.specs.Prelude.{ℕ, ◌≡◌, true, false, List}
use Rattle.wit_model.specs.Rules.{is_named_kind}
use Rattle.wit_model.specs.declared.model.TypeDefKind.{TypeDefKind}
use Rattle.encode_types.specs.declared.key.FunctionKey.{FunctionKey}
use Rattle.encode_types.specs.{Key.same_key, Maps.same_kind, Codes.Names, Codes.IsTable, Codes.kind_code, Codes.IsKeyList}

-- Unnamed kinds have equal lists exactly where they are the same.
pub record EqualKindLists (a b : TypeDefKind) : Type 0 where
  pub same : kind_code a ≡ kind_code b → same_kind a b ≡ true
  pub equal : same_kind a b ≡ true → kind_code a ≡ kind_code b

-- Keys of functions, under one table of names, have equal lists exactly where they are the same.
pub record EqualKeyLists (a b : FunctionKey) (xs ys : List ℕ) : Type 0 where
  pub same : xs ≡ ys → same_key a b ≡ true
  pub equal : same_key a b ≡ true → xs ≡ ys

-- The lists of two unnamed kinds are equal exactly where the kinds are the same.
abbrev pub EqualKinds : Type 0
EqualKinds = (a b : TypeDefKind) → is_named_kind a ≡ false → is_named_kind b ≡ false → EqualKindLists a b

-- The lists of two keys of functions are equal exactly where the keys are the same.
abbrev pub EqualKeys : Type 0
EqualKeys = (names : Names) (a b : FunctionKey) (xs ys : List ℕ) → IsTable names → IsKeyList names a xs → IsKeyList names b ys → EqualKeyLists a b xs ys
