-- The package that texts begin with.
use Rattle.std.proofs.Common.{◌≡◌, ◌∙◌, ◌<◌, ◌&&◌, refl, sym, ap, subst, arith, min, ℕ, true, List, [], ◌∷◌, length, map, take, slice_get, Some}
use Rattle.std.proofs.lemmas.List.{length-map, length-take, take_min}
use Rattle.std.proofs.lemmas.{Bool.lt-ltb, Bool.ltb-true, Option.slice_get_within}
use Rattle.std.specs.List.{AllZip, list_all}
use Rattle.base_lemmas.proofs.{Elements.all_get, Lists.slice_take}
use Rattle.wit_model.specs.Rules.{in_list}
use Rattle.wit_model.specs.declared.model.{PackageId.PackageId, Resolve.Resolve}
use Rattle.print_grammar.specs.Tree.{FileTree, PackageHead}
use Rattle.text_plain.specs.Plain.{FilesAre}
use Rattle.text_trees.specs.{Reads.IsReadAs, TextTree.TextTree}
use Rattle.print_items.specs.Shown.{shown_head}
use Rattle.text_types.specs.Each.{EachIs}
use Rattle.wit_text.specs.Texts.{in_folders, ReadsTexts}
use Rattle.witc_read.specs.Packages.{IsApart, IsNoMainOf, IsOther, IsTroubleOf}
use Rattle.witc_read.specs.declared.packages.Trouble.{Trouble}
use Rattle.witc_read.specs.declared.packages.Trouble.TheVariants as troubles

-- another one among the first ones, which are no more than there are
pub apart-in : (mains : List PackageId) (own : ℕ) (main : PackageId) (n : ℕ) → slice_get mains 0 ≡ Some main → IsOther main (take (min own (length mains)) mains) n
    → IsApart mains own n
apart-in mains own main n first among =
    let other = subst (λ (xs : List PackageId). IsOther main xs n) (take_min own mains) among in
    let below : n < min own (length mains) = subst (λ (k : ℕ). n < k) (length-take own mains) (slice_get_within (take own mains) n other.0 other.1) in
    let within : n < own = omega (arith, below) in
    record { main = main; first = first; within = within; other = (other.0, sym (slice_take mains own n within) ∙ other.1, other.2) }

-- texts that begin with no package are none
none-begins : (r : Resolve) {head : FileTree → PackageHead} {files : List FileTree} {mains : List PackageId}
    → EachIs (λ file id. slice_get (map shown_head r.packages.items) id.0 ≡ Some (head file)) files mains → mains ≡ [] → files ≡ []
none-begins r EachIs.no_more none = refl
none-begins r (EachIs.one_more h hs) none = absurd (omega (arith, ap length none))

no-texts : (own : ℕ) (texts : List (List ℕ)) (trees : List TextTree) (files : List FileTree) → files ≡ [] → AllZip IsReadAs texts trees
    → FilesAre (in_folders own trees) files → texts ≡ []
no-texts own [] trees files none read are = refl
no-texts own (text ∷ texts) [] files none read are = absurd read
no-texts own (text ∷ texts) (tree ∷ trees) [] none read are = absurd are
no-texts own (text ∷ texts) (tree ∷ trees) (file ∷ files) none read are = absurd (omega (arith, ap length none))

nothing : (texts : List (List ℕ)) (own : ℕ) (r : Resolve) → ReadsTexts texts own r [] → texts ≡ []
nothing texts own r reads = no-texts own texts reads.trees reads.files (none-begins r reads.shows.mains_are refl) reads.read reads.plain

-- what stands in the way of the package, where texts are read
pub no-main : (texts : List (List ℕ)) (own : ℕ) (r : Resolve) (mains : List PackageId) → ReadsTexts texts own r mains → (t : Trouble) → IsNoMainOf mains own t
    → IsTroubleOf texts own t
no-main texts own r mains reads troubles.Memory h = absurd h
no-main texts own r mains reads (troubles.NoText n) h = absurd h
no-main texts own r mains reads (troubles.Text fault) h = absurd h
no-main texts own r mains reads troubles.Nothing h = nothing texts own r (subst (λ (ids : List PackageId). ReadsTexts texts own r ids) h reads)
no-main texts own r mains reads (troubles.Apart n) h = record { resolve = r; mains = mains; reads = reads; apart = h }
no-main texts own r mains reads (troubles.Bytes e) h = absurd h

-- the packages that texts begin with are among those that are read
ranged : (r : Resolve) {head : FileTree → PackageHead} {files : List FileTree} {mains : List PackageId}
    → EachIs (λ file id. slice_get (map shown_head r.packages.items) id.0 ≡ Some (head file)) files mains
    → list_all (λ id. in_list r.packages.items id.0) mains ≡ true
ranged r EachIs.no_more = refl
ranged r (EachIs.one_more {y = m} {ys = ms} h hs) =
    let low : m.0 < length r.packages.items =
    subst (λ (k : ℕ). m.0 < k) (length-map r.packages.items shown_head) (slice_get_within (map shown_head r.packages.items) m.0 _ h) in
    let first : in_list r.packages.items m.0 ≡ true = lt-ltb m.0 (length r.packages.items) low in
    ap (λ b. b && list_all (λ (id : PackageId). in_list r.packages.items id.0) ms) first ∙ ranged r hs

pub main-in-range : (texts : List (List ℕ)) (own : ℕ) (r : Resolve) (mains : List PackageId) (n : ℕ) (main : PackageId) → ReadsTexts texts own r mains → slice_get mains n ≡ Some main
    → main.0 < length r.packages.items
main-in-range texts own r mains n main reads is =
    ltb-true main.0 (length r.packages.items) (all_get (λ id. in_list r.packages.items id.0) mains n main (ranged r reads.shows.mains_are) is)
