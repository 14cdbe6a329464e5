-- Keys that are cut in two at their last slash.
use Rattle.std.specs.Prelude.{◌≡◌, ◌==◌, Bool, false, if◌then◌else◌, [], ◌∷◌, Option, Some, None}
use Rattle.std.specs.{List.list_any, Borrow.Bor}
use Rattle.wit_model.specs.Text.{Text}
pub use Rattle.bind_meaning.specs.Keys.{text_under}

-- whether a text has a slash
abbrev pub has_slash : Text → Bool
has_slash text = list_any (λ b. b == 47) text

-- what stands before the last slash
unfoldable pub front_of : Text → Text
front_of [] = []
front_of (b ∷ text) = if has_slash text then b ∷ front_of text else []

-- what stands behind the last slash
unfoldable pub name_of : Text → Text
name_of [] = []
name_of (b ∷ text) = if has_slash text then name_of text else text

-- A key is a text, a slash, and a name without slashes.
pub record IsCut (key front name : Text) : Type 0 where
  pub is : key ≡ text_under front name
  pub bare : has_slash name ≡ false

-- A text without a slash is not cut, and any other is cut at its last one.
abbrev pub IsLastSlash : Text → Option (Bor Text × Bor Text) → Type 0
IsLastSlash text None = has_slash text ≡ false
IsLastSlash text (Some parts) = IsCut text parts.0.now parts.1.now
