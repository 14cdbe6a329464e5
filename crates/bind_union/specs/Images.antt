-- Types of one `Resolve` in another, under other numbers.
use Rattle.std.specs.Prelude.{◌≡◌, ℕ, Bool, true, nat_lt, Some, None}
use Rattle.std.specs.List.{list_all}
use Rattle.wit_model.specs.declared.model.{Resolve.Resolve, TypeDef.TypeDef}
use Rattle.wit_model.specs.{Text.optional_text, Lookup.type_at, Lookup.place_of, Types.number_tree, Types.declaration_of, Parts.kind_numbers}
use Rattle.bind_union.specs.Views.{kind_view, renamed, view_numbers}

-- The kind is the same under the new numbers, and what it refers to is carried too.
pub record HasImageKind (f : ℕ → ℕ) (carried : ℕ → Bool) (def image : TypeDef) : Type 0 where
  pub kinds : kind_view image.kind ≡ renamed f (kind_view def.kind)
  pub parts : list_all carried (view_numbers (kind_view def.kind)) ≡ true

-- A type has the same name in the same place, and if it has no name the same kind. So a named type may be one that was there before.
pub record IsImage (r s : Resolve) (f : ℕ → ℕ) (carried : ℕ → Bool) (def image : TypeDef) : Type 0 where
  pub name : optional_text image.name ≡ optional_text def.name
  pub place : place_of s image.owner ≡ place_of r def.owner
  pub kind : def.name ≡ None → HasImageKind f carried def image

-- Each number that is carried is that of a type, which has an image under its new number.
pub record IsCarriedType (r s : Resolve) (f : ℕ → ℕ) (carried : ℕ → Bool) (n : ℕ) : Type 0 where
  pub def : TypeDef
  pub found : type_at r n ≡ Some def
  pub image : TypeDef
  pub at_image : type_at s (f n) ≡ Some image
  pub is_image : IsImage r s f carried def image

abbrev pub AreCarried : Resolve → Resolve → (ℕ → ℕ) → (ℕ → Bool) → Type 0
AreCarried r s f carried = (n : ℕ) → carried n ≡ true → IsCarriedType r s f carried n

-- each type refers to smaller numbers alone
abbrev pub RefersBelow : Resolve → Type 0
RefersBelow r = (n : ℕ) (def : TypeDef) → type_at r n ≡ Some def → list_all (λ m. nat_lt m n) (kind_numbers def.kind) ≡ true

-- What is carried stands for the same tree.
abbrev pub SameTrees : Type 0
SameTrees = (r s : Resolve) (f : ℕ → ℕ) (carried : ℕ → Bool) → RefersBelow r → RefersBelow s → AreCarried r s f carried →
    (n : ℕ) → carried n ≡ true → number_tree s (f n) ≡ number_tree r n

-- A kind that is carried declares the same.
abbrev pub SameDeclarations : Type 0
SameDeclarations = (r s : Resolve) (f : ℕ → ℕ) (carried : ℕ → Bool) → RefersBelow r → RefersBelow s → AreCarried r s f carried →
    (def image : TypeDef) → HasImageKind f carried def image → declaration_of s image ≡ declaration_of r def
