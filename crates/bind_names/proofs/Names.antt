-- A copied name is the name, and a table gains the names of packages one by one.
use Rattle.std.proofs.Common.{rules as std_rules, ◌≡◌, refl, sym, ap, ◌∙◌, ℕ, ◌+◌, ◌<◌, ◌≤◌, Bool, true, ◌&&◌, ◌==◌, List, [], ◌∷◌, ◌++◌, take, length, get_or, Option, Some, None, arith, option_map, is_some}
use Rattle.std.proofs.lemmas.List.{take_more, length-take-le}
use Rattle.std.specs.{Option.option_eq}
use Rattle.semver.specs.declared.Version.{Version}
use Rattle.semver.specs.Identifiers.{parts_of}
use Rattle.wit_model.specs.declared.model.{Package.Package, PackageId.PackageId, PackageName.PackageName}
use Rattle.wit_model.specs.{Text.text_eq, Rules.same_package_name, Rules.same_version}
use Rattle.bind_union.specs.Carried.{IsSameName}
use Rattle.bind_match.specs.Matching.{package_from}
use Rattle.bind_match.proofs.SameNames.{find_last, from_last, number, or_last}
use Rattle.bind_names.specs.Named.{AreNamed, GainsName, Table, found_by, or_else}

-- ---- copies

abbrev Parts : Type 0
Parts = ℕ × ℕ × ℕ × List ℕ × List ℕ

abbrev same_parts : Parts → Parts → Bool
same_parts a b = a.0 == b.0 && (a.1 == b.1 && (a.2 == b.2 && (text_eq a.3 b.3 && text_eq a.4 b.4)))

by_parts : (a b : Option Version) → option_eq same_version a b ≡ option_eq same_parts (option_map parts_of a) (option_map parts_of b)
by_parts x y = search std_rules

-- all that is said of a name is said of its copy
pub copy_behind : (x old new : PackageName) → IsSameName old new → same_package_name x new ≡ same_package_name x old
copy_behind x old new s = search std_rules

-- ---- one more

-- a name that was not there
pub gained : (x name key : PackageName) (id : PackageId) (old new : Table) → same_package_name x key ≡ same_package_name x name → new.entries ≡ old.entries ++ (key, id) ∷ []
    → found_by new x ≡ or_else (found_by old x) (same_package_name x name) id
gained x name key id old new same more = search (std_rules, find_last, or_last)

-- a name that was there
pub stayed : (x name : PackageName) (id : PackageId) (old : Table) → true ≡ is_some (found_by old name) → found_by old x ≡ or_else (found_by old x) (same_package_name x name) id
stayed x name id old found = search std_rules

-- the packages, as far as they are taken
pub one_more : (packages : List Package) (n : ℕ) (p : Package) (old new : Table) → n < length packages → p ≡ get_or packages n p → AreNamed (take n packages) old → GainsName old p.name (number n) new
    → AreNamed (take (n + 1) packages) new
one_more packages n p old new lt is h gains x =
    let long : length (take n packages) ≡ n = length-take-le n packages (let le : n ≤ length packages = omega (arith, lt) in le) in
    let e : 0 + length (take n packages) ≡ n = omega (arith, long) in
    gains x ∙ as_last (found_by old x) (same_package_name x p.name) ∙ ap (λ o. or_last o (same_package_name x p.name) (number n)) (h x)
    ∙ ap (λ k. or_last (package_from x 0 (take n packages)) (same_package_name x p.name) (number k)) (sym e)
    ∙ sym (ap (package_from x 0) (take_more packages n p lt ∙ ap (λ y. take n packages ++ y ∷ []) (sym is)) ∙ from_last x 0 (take n packages) p)
  where
    as_last : (o : Option PackageId) (b : Bool) → or_else o b (number n) ≡ or_last o b (number n)
    as_last (Some m) b = refl
    as_last None b = refl

-- what lacks a name lacks its copy
pub lacking : (name copy : PackageName) (old : Table) → IsSameName name copy → found_by old name ≡ None → found_by old copy ≡ None
lacking name copy old same none = search std_rules
