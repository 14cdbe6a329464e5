-- The path of an interface, as it is written and completed, reads as its path.
use Rattle.std.proofs.Common.{rules as std_rules, ◌≡◌, refl, sym, ap, ◌∙◌, ℕ, ◌<◌, Bool, true, false, not, ◌==◌, [], ◌∷◌, ◌++◌, length, append-nil, Option, Some, None, option_map, option_and_then, unwrap_or}
use Rattle.std.proofs.lemmas.{List.Folds.list_all-append, Fmt.decimal_nonempty, Option.same_Some as same-some}
use Rattle.std.specs.{Prelude.is_some, List.list_all}
use Rattle.semver.specs.declared.Version.{Version}
use Rattle.semver.specs.{Identifiers.parts_of, Parse.Parts}
use Rattle.wit_model.specs.{Text.Text, Text.text_of, Rules.passes, Valid.IsValid}
use Rattle.wit_model.specs.Names.{PackageIdentity, path_in, cut, is_label, is_version, read_path, canonical_version, version_suffix}
use Rattle.wit_model.specs.Lookup.{interface_path, canonical_path, canonical_suffix, canonical_identity_of, identity_of}
use Rattle.wit_model.specs.declared.model.{Resolve.Resolve, PackageName.PackageName}
use Rattle.wit_model.proofs.{NameLaws.label_lacks, NameLaws.spelled_path_reads, OnePath.HasPath, OnePath.has-path, OnePath.package-name, OnePath.path-label}
use Rattle.wit_model.proofs.{PathParts.canonical_found, PathParts.canonical_paths_join, PathParts.suffix_found, PathsLemmas.named_in_full as full-name}
use Rattle.wit_model.proofs.VersionLaws.{valid_parts}
use Rattle.comp_meaning.specs.Follow.{Key, complete_path, is_begun_version, is_filled, plain_key}
use Rattle.encode_names.specs.WorldNames.{written_path, written_suffix}
use Rattle.base_lemmas.proofs.Bools.{no-and}
use Rattle.semver.specs.Grammar as grammar

-- ---- texts

filled-behind : (xs t : Text) → is_filled t ≡ true → is_filled (xs ++ t) ≡ true
filled-behind [] t h = h
filled-behind (x ∷ xs) t h = refl

long-filled : (t : Text) → 0 < length t → is_filled t ≡ true
long-filled x h = search std_rules

-- a text behind whose first `@` something stands
abbrev IsBegun : Text → Type 0
IsBegun t = is_begun_version (cut 64 t) ≡ true

begun-filled : (t : Text) → IsBegun t → is_filled t ≡ true
unfolding cut
begun-filled x h = search std_rules

onto-begun : (x : ℕ) (o : Option (Text × Text)) → is_begun_version o ≡ true → is_begun_version (option_map (λ p. (x ∷ p.0, p.1)) o) ≡ true
onto-begun x y h = search std_rules

begun-behind : (xs t : Text) → IsBegun t → IsBegun (xs ++ t)
unfolding cut
begun-behind [] t h = h
begun-behind (x ∷ xs) t h = search (std_rules, filled-behind, begun-filled, onto-begun, begun-behind xs t h)

begun-at : (version : Text) → is_filled version ≡ true → IsBegun (64 ∷ version)
unfolding cut
begun-at version h = h

path-begun : (namespace name interface version : Text) → is_filled version ≡ true → IsBegun (path_in (record { namespace = namespace; name = name; version = Some version }) interface)
path-begun namespace name interface version h =
    let last = begun-behind interface (64 ∷ version) (begun-at version h) in
    let slash = begun-behind (47 ∷ []) (interface ++ (64 ∷ version)) last in
    let middle = begun-behind name (47 ∷ (interface ++ (64 ∷ version))) slash in
    let colon = begun-behind (58 ∷ []) (name ++ (47 ∷ (interface ++ (64 ∷ version)))) middle in
    begun-behind namespace (58 ∷ (name ++ (47 ∷ (interface ++ (64 ∷ version))))) colon

-- the canonical part of a version isn't empty
canonical-filled : (p : Parts) → grammar.IsValid p → is_filled (canonical_version p) ≡ true
canonical-filled p h = search (std_rules, filled-behind, long-filled, decimal_nonempty)

-- a path is no label
path-no-label : (p : PackageIdentity) (name : Text) → is_label (path_in p name) ≡ false
path-no-label p name = go (is_label (path_in p name)) refl
  where
    colon : list_all (λ b. not (b == 58)) (path_in p name) ≡ false
    colon = list_all-append (λ b. not (b == 58)) p.namespace _ ∙ no-and (list_all (λ b. not (b == 58)) p.namespace)

    go : (b : Bool) → is_label (path_in p name) ≡ b → b ≡ false
    go false e = refl
    go true e = sym (label_lacks 58 refl (path_in p name) e) ∙ colon

-- ---- what completes a path

-- a begun path and its suffix are completed to the path that they spell
complete : (begun : Text) (suffix : Option Text) (path : Text) → path ≡ begun ++ unwrap_or suffix [] → ((t : Text) → suffix ≡ Some t → IsBegun begun) → is_some (read_path path) ≡ true
    → complete_path begun suffix ≡ Some path
complete begun x path e is reads = search std_rules

module _ (r : Resolve) (v : IsValid r) (n : ℕ) (path : Text) (is : interface_path r n ≡ Some path) where
  home : HasPath r n path
  home = has-path r n path is

  reads : is_some (read_path path) ≡ true
  reads = ap (λ t. is_some (read_path t)) home.spelled
      ∙ ap is_some (spelled_path_reads (identity_of home.package_.name) (text_of home.name) (package-name r v home.home.0 home.package_ home.stands).identity (path-label r v n path home))

  abbrev own : PackageName
  own = home.package_.name

  abbrev begun_path : Text
  begun_path = path_in (canonical_identity_of own) (text_of home.name)

  canonical-there : canonical_path r n ≡ Some begun_path
  canonical-there = canonical_found r n own home.name (full-name r n path home)

  suffix-begins : (t : Text) → canonical_suffix r n ≡ Some t → IsBegun begun_path
  suffix-begins t e = go own.version refl
    where
      go : (o : Option Version) → own.version ≡ o → IsBegun begun_path
      go None q =
          let wrong : None ≡ Some t = sym (suffix_found r n own home.name (full-name r n path home) ∙ ap (option_and_then (λ version. version_suffix (parts_of version))) q) ∙ e in
          let z : ⊥ = cc in absurd z
      go (Some version) q =
          ap (λ o. is_begun_version (cut 64 (path_in (record { namespace = text_of own.namespace; name = text_of own.name; version = option_map (λ x. canonical_version (parts_of x)) o })
          (text_of home.name)))) q ∙ path-begun (text_of own.namespace) (text_of own.name) (text_of home.name) (canonical_version (parts_of version))
          (canonical-filled (parts_of version) (valid_parts version (ap (passes is_version) (sym q) ∙ (package-name r v home.home.0 home.package_ home.stands).version)))

  pub written-path : (canonical : Bool) → complete_path (written_path r canonical n) (written_suffix r canonical (Some n)) ≡ Some path
  written-path x = search (std_rules, unwrap_or, complete, append-nil, reads, canonical-there, same-some, canonical_paths_join, suffix-begins)

  no-label : (canonical : Bool) → is_label (written_path r canonical n) ≡ false
  no-label false = ap (λ o. is_label (unwrap_or o [])) is ∙ ap is_label home.spelled ∙ path-no-label (identity_of own) (text_of home.name)
  no-label true = ap (λ o. is_label (unwrap_or o [])) canonical-there ∙ path-no-label (canonical_identity_of own) (text_of home.name)

  -- a path, as it is written, is read as the key that it is
  pub path-key : (canonical : Bool) → plain_key (written_path r canonical n) (written_suffix r canonical (Some n)) ≡ Some (Key.path path)
  path-key canonical = search (std_rules, no-label, written-path)
