-- Paths are made of full names; a canonical path joined with its suffix is the plain path.
use Rattle.std.proofs.Common.{rules as std_rules, ◌≡◌, refl, sym, ap, ◌∙◌, ℕ, cond, eq-eqb, List, [], ◌∷◌, ◌++◌, length, drop, Option, Some, None, option_map, option_and_then, unwrap_or, append_assoc, append-nil, String}
use Rattle.std.proofs.Math.Seq.{drop-append_seam}
use Rattle.std.specs.declared.alloc.Global.{Global}
use Rattle.semver.specs.declared.Version.{Version}
use Rattle.semver.specs.{Identifiers.parts_of, Identifiers.parts_text, Parse.Parts}
use Rattle.wit_model.specs.declared.model.{Resolve.Resolve, PackageName.PackageName}
use Rattle.wit_model.specs.{Text.Text, Text.text_of, Rules.after_prefix, Calls.CanonicalPathsJoin}
use Rattle.wit_model.specs.{Names.path_in, Names.canonical_version, Names.version_suffix, Names.some_text, Paths.full_name, Paths.suffix_after}
use Rattle.wit_model.specs.Lookup.{interface_path, identity_of, canonical_identity_of, canonical_path, canonical_suffix}
use Rattle.wit_model.proofs.Versions.{canonical_front, canonical_joined}

abbrev path_of : PackageName × String Global → Text
path_of e = path_in (identity_of e.0) (text_of e.1)

abbrev canonical_of : PackageName × String Global → Text
canonical_of e = path_in (canonical_identity_of e.0) (text_of e.1)

abbrev suffix_of : PackageName × String Global → Option Text
suffix_of e = option_and_then (λ version. version_suffix (parts_of version)) e.0.version

module _ (r : Resolve) where
  pub path_made : (n : ℕ) → interface_path r n ≡ option_map path_of (full_name r n)
  path_made n = search std_rules

  pub canonical_made : (n : ℕ) → canonical_path r n ≡ option_map canonical_of (full_name r n)
  canonical_made n = search std_rules

  pub suffix_made : (n : ℕ) → canonical_suffix r n ≡ option_and_then suffix_of (full_name r n)
  suffix_made n = search std_rules

  module _ (n : ℕ) (p : PackageName) (s : String Global) (is : full_name r n ≡ Some (p, s)) where
    pub canonical_found : canonical_path r n ≡ Some (path_in (canonical_identity_of p) (text_of s))
    canonical_found = canonical_made n ∙ ap (option_map canonical_of) is

    pub suffix_found : canonical_suffix r n ≡ option_and_then (λ version. version_suffix (parts_of version)) p.version
    suffix_found = suffix_made n ∙ ap (option_and_then suffix_of) is

-- ---- the suffix of a version

pub after-itself : (front rest : Text) → after_prefix front (front ++ rest) ≡ Some rest
after-itself [] rest = refl
after-itself (b ∷ bs) rest = ap (λ v. cond v (after_prefix bs (bs ++ rest)) None) (eq-eqb b b refl) ∙ after-itself bs rest

-- what follows the canonical part is the suffix
pub suffix_follows : (p : Parts) → suffix_after (canonical_version p) (parts_text p) ≡ version_suffix p
suffix_follows p =
    let front = canonical_front p in
    ap (λ t. suffix_after (canonical_version p) t) front.1 ∙ (ap (option_and_then some_text) (after-itself (canonical_version p) front.0)
    ∙ ap some_text (sym (ap (drop (length (canonical_version p))) front.1 ∙ drop-append_seam (canonical_version p) front.0)))

-- ---- the law

path_longer : (n m name c s : Text) → (n ++ (58 ∷ (m ++ (47 ∷ (name ++ (64 ∷ c)))))) ++ s ≡ n ++ (58 ∷ (m ++ (47 ∷ (name ++ (64 ∷ (c ++ s))))))
path_longer n m name c s = search (std_rules, append_assoc)

joined : (p : PackageName) (s : String Global) → path_of (p, s) ≡ canonical_of (p, s) ++ unwrap_or (suffix_of (p, s)) []
joined p s = go p.version
  where
    before : List ℕ → List ℕ
    before t = text_of p.namespace ++ (58 ∷ (text_of p.name ++ (47 ∷ (text_of s ++ t))))

    go : (v : Option Version) → path_in (record { namespace = text_of p.namespace; name = text_of p.name; version = option_map (λ x. parts_text (parts_of x)) v }) (text_of s)
        ≡ path_in (record { namespace = text_of p.namespace; name = text_of p.name; version = option_map (λ x. canonical_version (parts_of x)) v }) (text_of s) ++ unwrap_or
        (option_and_then (λ x. version_suffix (parts_of x)) v) []
    go None = sym (append-nil (before []))
    go (Some v) = sym (path_longer (text_of p.namespace) (text_of p.name) (text_of s) (canonical_version (parts_of v)) (unwrap_or (version_suffix (parts_of v)) [])
        ∙ ap (λ t. before (64 ∷ t)) (canonical_joined (parts_of v)))

pub canonical_paths_join : CanonicalPathsJoin
canonical_paths_join r n = search (std_rules, path_made, unwrap_or, suffix_made, canonical_made, joined)
