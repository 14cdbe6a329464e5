-- A name is what stands behind its number, where that is UTF-8.
use Rattle.std.proofs.Common.{rules as std_rules, ◌≡◌, ℕ, false, Bool, List, Some, None, refl}
use Rattle.std.specs.Str.{is_utf8, IsUtf8}
use Rattle.std.proofs.lemmas.Str.{IsUtf8-from_is_utf8, is_utf8-from_IsUtf8}
use Rattle.comp_bytes.specs.Reading.{counted_at, name_at}

pub name_found : (bytes contents rest : List ℕ) → counted_at bytes ≡ Some (contents, rest) → IsUtf8 contents → name_at bytes ≡ Some (contents, rest)
unfolding name_at
name_found bytes contents rest e utf8 = rw (e, is_utf8-from_IsUtf8 contents utf8) refl

not_utf8 : (b : Bool) (contents : List ℕ) → is_utf8 contents ≡ b → ¬ (IsUtf8 contents) → is_utf8 contents ≡ false
not_utf8 x contents e no_text = search (std_rules, IsUtf8-from_is_utf8)

pub no_name : (bytes contents rest : List ℕ) → counted_at bytes ≡ Some (contents, rest) → ¬ (IsUtf8 contents) → name_at bytes ≡ None
unfolding name_at
no_name bytes contents rest e no_text = rw (e, not_utf8 (is_utf8 contents) contents refl no_text) refl
