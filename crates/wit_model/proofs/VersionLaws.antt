-- A version is known by its text, and a package by its name in paths.
use Rattle.std.proofs.Common.{rules as std_rules, ◌≡◌, sym, ap, ◌∙◌, Bool, true, ◌&&◌, Option, Result, Ok}
use Rattle.std.proofs.lemmas.{Bool.and_parts, Bool.and_from, Bool.ltb-true, Option.same_Some, Slice.Eq.bytes_eq-Decides}
use Rattle.std.specs.{Option.option_eq, Result.result_unwrap_or}
use Rattle.semver.specs.declared.{error.Error.Error, Version.Version}
use Rattle.semver.specs.{Identifiers.parts_of, Identifiers.parts_text, Grammar.IsValid, Parse.Parts, Parse.version_parts}
use Rattle.semver.proofs.Grammar.{version_parts-complete}
use Rattle.wit_model.specs.{Text.Text, Text.text_eq, NameLaws.OneVersion, NameLaws.SameName}
use Rattle.wit_model.specs.{Names.is_version, Lookup.optional_version_text, Rules.passes, Rules.same_version}
use Rattle.wit_model.proofs.TextLemmas.{text_same}

five_parts : (a b c d e : Bool) → (a && (b && (c && (d && e)))) ≡ true → (a ≡ true) × (b ≡ true) × (c ≡ true) × (d ≡ true) × (e ≡ true)
five_parts a b c d e h = search std_rules

pub valid_parts : (v : Version) → is_version v ≡ true → IsValid (parts_of v)
valid_parts v h = search (std_rules, five_parts, ltb-true)

ok_same : (p q : Parts) → ◌≡◌ {A = Result Parts Error} (Ok p) (Ok q) → p ≡ q
ok_same p q e = ap (λ r. result_unwrap_or r p) e

parts_by_text : (p q : Parts) → IsValid p → IsValid q → parts_text p ≡ parts_text q → p ≡ q
parts_by_text p q valid other same = ok_same p q (sym (version_parts-complete p valid) ∙ (ap version_parts same ∙ version_parts-complete q other))

pub one_version : OneVersion
one_version v w h k same = parts_by_text (parts_of v) (parts_of w) (valid_parts v h) (valid_parts w k) same

-- ---- the same version, and the same name

pub same_text : (a b : Text) → a ≡ b → text_eq a b ≡ true
same_text a b e = (bytes_eq-Decides a b).1 e

pub versions_same : (a b : Version) → parts_of a ≡ parts_of b → same_version a b ≡ true
versions_same a b e = search std_rules

pub same_versions : (a b : Version) → same_version a b ≡ true → parts_of a ≡ parts_of b
same_versions a b h = search std_rules

optional_same : (a b : Option Version) → passes is_version a ≡ true → passes is_version b ≡ true → optional_version_text a ≡ optional_version_text b → option_eq same_version a b ≡ true
optional_same x y h k e = search (std_rules, versions_same, one_version, same_Some)

same_optional : (a b : Option Version) → option_eq same_version a b ≡ true → optional_version_text a ≡ optional_version_text b
same_optional x y e = search (std_rules, same_versions)

pub same_name : SameName
same_name a b h k = search (std_rules, text_same, and_parts, same_optional, and_from, same_text, optional_same)
