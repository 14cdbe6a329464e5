-- The pieces of a version's canonical part are its text.
use Rattle.std.proofs.Common.{rules as std_rules, ◌≡◌, refl, ℕ, [], ◌∷◌, ◌++◌, append_assoc, cond, nat_lt, length, false, ◌==◌, Option, IfSome}
use Rattle.std.specs.{Prelude.decimal, Fmt.digits}
use Rattle.semver.specs.declared.Version.{Version}
use Rattle.semver.specs.Identifiers.{marked, parts_of, parts_text}
use Rattle.wit_model.specs.{Names.canonical_version, Text.Text}
use Rattle.bind_keys.specs.Versions.{canonical_text, identifiers_of, marked_by, numbers_of}

marked_is : (mark : ℕ) (text : Text) → marked_by (mark ∷ []) text ≡ marked mark text
marked_is mark x = search std_rules

-- an identifier that isn't empty stands behind its mark
pub marked_filled : (mark text : Text) → false ≡ (length text == 0) → marked_by mark text ≡ mark ++ text
marked_filled mark x h = search std_rules

whole : (v : Version) → numbers_of v ++ identifiers_of v ≡ parts_text (parts_of v)
whole v = search (std_rules, append_assoc, marked_is)

-- of a version that is no pre-release
abbrev released : Version → Text
released v = cond (nat_lt 0 v.major) (decimal v.major) (cond (nat_lt 0 v.minor) ((48 ∷ 46 ∷ []) ++ decimal v.minor) ((48 ∷ 46 ∷ 48 ∷ 46 ∷ []) ++ decimal v.patch))

zero_is : 48 ∷ [] ≡ decimal 0
unfolding digits
zero_is = refl

pub canonical_is : (v : Version) → canonical_text v ≡ canonical_version (parts_of v)
canonical_is v = search (std_rules, whole, zero_is)

-- `@` and the canonical part, behind a text
pub pushed : {A : Type 0} (old marked_ new : Text) (v : Version) (r : Option A) → marked_ ≡ old ++ (64 ∷ []) → IfSome r (λ _. new ≡ marked_ ++ canonical_text v)
    → IfSome r (λ _. new ≡ old ++ (64 ∷ canonical_version (parts_of v)))
pushed old marked_ new v x first h = search (std_rules, append_assoc, canonical_is)
