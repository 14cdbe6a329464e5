-- A component with the component types of a package means the package.
use Rattle.std.proofs.Common.{rules as std_rules, arith, ◌≡◌, refl, sym, ap, ◌∙◌, Bool, true, false, ◌&&◌, ◌==◌, List, [], ◌∷◌, ◌++◌, length, map, slice_get, Option, Some, ◌||◌, subst, ℕ, append-nil, Result, Ok, Err, IfErr, is_some}
use Rattle.std.proofs.lemmas.{Bool.true≢false, Bool.ltb-true, List.Elements.Contains-append_left, List.Elements.Contains-append_right}
use Rattle.std.specs.{List.list_all, List.AllZip, List.Contains, Prelude.IsErrAnd}
use Rattle.wit_model.specs.{Text.Text, Lookup.package_at, Lookup.identity_of, Rules.in_list, Valid.is_place, Valid.numbers_in_range, Valid.IsValid}
use Rattle.wit_model.specs.declared.{error.Error.Error, model.Resolve.Resolve, model.Package.Package, model.InterfaceId.InterfaceId, model.WorldId.WorldId}
use Rattle.comp_bytes.specs.{Raw.Declarations, Raw.Section, Parts.Part, Parts.sections_of_parts, Parts.with_part, Spelling.IsComponent, Spelling.preamble, Reading.◌>>=◌, Refusal.IsMemoryOrSize}
use Rattle.comp_meaning.specs.{Follow.each, Follow.when, Follow.is_filled, Reads.Top, Reads.exported_types, Reads.steps, Reads.top_section, Rules.distinct}
use Rattle.wit_encode.specs.Packages.{is_custom, AddsWorlds, AreNamed, AreWorlds, HasMembers, HasNoClashes, HasNoMembers, HaveNoEqualPaths, HoldsInterfaces, HoldsMembers, HoldsPackage, IsTypeOf, IsWrapperOf, ListedInterface, ListedWorld, MeansPackage, PartsMean, RefusesInterfaces, RefusesPackage, RefusesPackageAt, RefusesWorlds}
use Rattle.wit_model.proofs.OnePath.{package-passes}
use Rattle.indexmap.specs.IndexMap.{values}
use Rattle.encode_exports.specs.ExportedParts.{exporting}
use Rattle.encode_exports.proofs.Exports.{all_exported}
use Rattle.encode_shown.specs.PackageTypes.{ArePackageTypes, IsInterfaceType, IsListedWorldType}
use Rattle.encode_shown.proofs.Owning.{own-path}
use Rattle.base_lemmas.proofs.{Bools.right_of as second_true, Elements.all-contained, Elements.contains-map, Elements.contains-one, Elements.zip-kept}
use Rattle.encode_shown.proofs.PackageTypes as shown

-- ---- Custom sections behind the types and the exports of a component change nothing of what it exports.

-- ---- sections

abbrev is_custom_section : Section → Bool
is_custom_section (Section.types ts) = false
is_custom_section (Section.exports es) = false
is_custom_section (Section.custom name contents) = true

customs-are : (ps : List Part) → list_all is_custom ps ≡ true → list_all is_custom_section (sections_of_parts ps) ≡ true
customs-are [] h = refl
customs-are (Part.top_type t ∷ ps) h = absurd (true≢false (sym h))
customs-are (Part.top_export e ∷ ps) h = absurd (true≢false (sym h))
customs-are (Part.custom name contents ∷ ps) h = customs-are ps h

part-behind : (p : Part) (ss cs : List Section) → list_all is_custom_section cs ≡ true → with_part p (ss ++ cs) ≡ with_part p ss ++ cs
part-behind x ss cs h = search std_rules

parts-behind : (ps more : List Part) → list_all is_custom more ≡ true → sections_of_parts (ps ++ more) ≡ sections_of_parts ps ++ sections_of_parts more
parts-behind [] more h = refl
parts-behind (p ∷ ps) more h = ap (with_part p) (parts-behind ps more h) ∙ part-behind p (sections_of_parts ps) (sections_of_parts more) (customs-are more h)

-- ---- what they export

customs-pass : (top : Top) (cs : List Section) → list_all is_custom_section cs ≡ true → steps top_section top cs ≡ Some top
customs-pass top [] h = refl
customs-pass top (Section.types ts ∷ cs) h = absurd (true≢false (sym h))
customs-pass top (Section.exports es ∷ cs) h = absurd (true≢false (sym h))
customs-pass top (Section.custom name contents ∷ cs) h = customs-pass top cs h

same-then : (o : Option Top) (f g : Top → Option Top) → ((next : Top) → f next ≡ g next) → (o >>= f) ≡ (o >>= g)
same-then x f g same = search std_rules

steps-behind : (top : Top) (ss cs : List Section) → list_all is_custom_section cs ≡ true → steps top_section top (ss ++ cs) ≡ steps top_section top ss
steps-behind top [] cs h = customs-pass top cs h
steps-behind top (s ∷ ss) cs h = same-then (top_section top s) (λ next. steps top_section next (ss ++ cs)) (λ next. steps top_section next ss) (λ next. steps-behind next ss cs h)

abbrev exported-at : Top → Option (List (Text × Declarations))
exported-at top = when (length top.exported == length top.types && distinct (map (λ x. x.0) top.exported)) (each (λ x. slice_get top.types x.1 >>= λ ds. Some (x.0, ds)) top.exported)

pub exported-behind : (ps more : List Part) → list_all is_custom more ≡ true → exported_types (sections_of_parts (ps ++ more)) ≡ exported_types (sections_of_parts ps)
exported-behind ps more h = search (std_rules, parts-behind, steps-behind, customs-are)

-- ---- what stands in a package

module _ (r : Resolve) (v : IsValid r) (n : ℕ) (p : Package) (at : package_at r n ≡ Some p) where
  pub are-named : AreNamed r p.interfaces.entries
  are-named e c = ap is_some (own-path r v n p at e c)

  numbers-inside : (list_all (λ (id : InterfaceId). in_list r.interfaces.items id.0) (values p.interfaces) && list_all (λ (id : WorldId). in_list r.worlds.items id.0) (values p.worlds)) ≡ true
  unfolding numbers_in_range
  numbers-inside = second_true (is_place n) _ (package-passes numbers_in_range r v.rules.numbers_in_range n p at)

  pub are-worlds : AreWorlds r p.worlds.entries
  are-worlds e c = ltb-true e.1.0 (length r.worlds.items) (all-contained (λ (id : WorldId). in_list r.worlds.items id.0) (values p.worlds) e.1
      (second_true (list_all (λ (id : InterfaceId). in_list r.interfaces.items id.0) (values p.interfaces)) _ numbers-inside) (contains-map (λ x. x.1) p.worlds.entries e c))

  type-of : (canonical : Bool) (e : ListedInterface) → Contains p.interfaces.entries e → (x : Text × Declarations) → IsTypeOf r canonical e x → IsInterfaceType r p e x
  type-of canonical e c x is =
      let s = is.shows _ (own-path r v n p at e c) in
      record { label = is.label; scope = s.scope; follows = s.follows; imports = s.imports; exported = s.exported; shows = s.shows }

  types-of : (canonical : Bool) (entries : List ListedInterface) (types : List (Text × Declarations)) → ((e : ListedInterface) → Contains entries e → Contains p.interfaces.entries e)
      → AllZip (IsTypeOf r canonical) entries types → AllZip (IsInterfaceType r p) entries types
  types-of canonical [] [] own h = tt
  types-of canonical [] (x ∷ xs) own h = absurd h
  types-of canonical (e ∷ es) [] own h = absurd h
  types-of canonical (e ∷ es) (x ∷ xs) own h =
      (type-of canonical e (own e (Contains-append_left (e ∷ []) es e (contains-one e))) x h.0, types-of canonical es xs (λ f c. own f (Contains-append_right (e ∷ []) es f c)) h.1)

  wrapper-of : (canonical : Bool) (e : ListedWorld) (x : Text × Declarations) → IsWrapperOf r canonical (identity_of p.name) e x → IsListedWorldType r p e x
  wrapper-of canonical e x is = record {
    world = is.world;
    there = is.there;
    inner = is.wraps.inner;
    is = λ j. (is.label j, is.wraps.is j);
    scope = is.wraps.shows.scope;
    follows = is.wraps.shows.follows;
    shows = is.wraps.shows.shows;
  }

  pub no-worlds_yet : (canonical : Bool) (entries : List ListedInterface) (parts : List Part) → HoldsInterfaces r canonical entries parts
      → HoldsMembers r canonical (identity_of p.name) entries [] parts
  no-worlds_yet canonical entries parts h = grind (arith, append-nil)

  pub package-held : (canonical : Bool) (before parts : List Part) → HoldsInterfaces r canonical p.interfaces.entries before → AddsWorlds r canonical (identity_of p.name) p.worlds.entries before parts
      → HoldsPackage r canonical p parts
  package-held canonical before parts h adds =
      let all = adds p.interfaces.entries (no-worlds_yet canonical p.interfaces.entries before h) in
      record {
        types = all.interface_types ++ all.world_types;
        are = record {
          interface_types = all.interface_types;
          world_types = all.world_types;
          interfaces = types-of canonical p.interfaces.entries all.interface_types (λ e c. c) all.interfaces_are;
          worlds = zip-kept (IsWrapperOf r canonical (identity_of p.name)) (IsListedWorldType r p) (wrapper-of canonical) p.worlds.entries all.world_types all.worlds_are;
          are = refl;
        };
        is = all.is;
        members = all;
      }

  -- ---- its bytes

  members-filled : (types : List (Text × Declarations)) → ArePackageTypes r p types → is_filled types ≡ (is_filled p.interfaces.entries || is_filled p.worlds.entries)
  members-filled types are = search std_rules

  pub parts-mean : (canonical : Bool) (parts : List Part) → HoldsPackage r canonical p parts → HasMembers p → PartsMean r n parts
  parts-mean canonical parts h some more custom bytes spelled = shown.bytes-mean r v n p at h.types (sections_of_parts (exporting h.types ++ more)) bytes h.are (members-filled h.types h.are ∙ some)
      (exported-behind (exporting h.types) more custom ∙ all_exported h.types (shown.all-labels r v n p at h.types h.are) (shown.labels-apart r v n p at h.types h.are))
      (subst (λ (ps : List Part). IsComponent (sections_of_parts (ps ++ more)) bytes) h.is spelled)

  pub bytes-mean : (canonical : Bool) (parts : List Part) (bytes : List ℕ) → HoldsPackage r canonical p parts → IsComponent (sections_of_parts parts) bytes → HasMembers p → MeansPackage r n bytes
  bytes-mean canonical parts bytes h spelled some =
      parts-mean canonical parts h some [] refl bytes (subst (λ (ps : List Part). IsComponent (sections_of_parts ps) bytes) (sym (append-nil parts)) spelled)

  no-types : (types : List (Text × Declarations)) (bytes : List ℕ) → is_filled types ≡ false → IsComponent (sections_of_parts (exporting types)) bytes → bytes ≡ preamble
  no-types x bytes none spelled = search std_rules

  pub bytes-empty : (canonical : Bool) (parts : List Part) (bytes : List ℕ) → HoldsPackage r canonical p parts → IsComponent (sections_of_parts parts) bytes → HasNoMembers p → bytes ≡ preamble
  bytes-empty canonical parts bytes h spelled none = search std_rules

-- ---- refusals

module _ {X : Type 0} (r : Resolve) (p : Package) (canonical : Bool) (e : Error) (given : Result X Error) where
  passed : RefusesPackage r p canonical e → IsErrAnd given (λ d. d ≡ e) → IfErr given (RefusesPackage r p canonical)
  passed h same = search std_rules

  pub interfaces-refused : RefusesInterfaces r p.interfaces.entries canonical e → IsErrAnd given (λ d. d ≡ e) → IfErr given (RefusesPackage r p canonical)
  interfaces-refused h same = passed (RefusesPackage.of_interfaces h) same

  pub worlds-refused : (canonical ≡ true → HaveNoEqualPaths r p.interfaces.entries) → RefusesWorlds r p.worlds.entries canonical e → IsErrAnd given (λ d. d ≡ e)
      → IfErr given (RefusesPackage r p canonical)
  worlds-refused differ h same = passed (RefusesPackage.of_worlds differ h) same

-- the same of the package of a number
pub package-at : {X : Type 0} (r : Resolve) (n : ℕ) (canonical : Bool) (given : Result X Error) → ((p : Package) → package_at r n ≡ Some p → IfErr given (RefusesPackage r p canonical))
    → IfErr given (RefusesPackageAt r n canonical)
package-at r n canonical (Ok x) h = tt
package-at r n canonical (Err e) h = h

pub package-passed : {X : Type 0} (r : Resolve) (n : ℕ) (canonical : Bool) (e : Error) (given : Result X Error) → RefusesPackageAt r n canonical e → IsErrAnd given (λ d. d ≡ e)
    → IfErr given (RefusesPackageAt r n canonical)
package-passed r n canonical e x h same = search std_rules

pub room-refused : {X : Type 0} (r : Resolve) (p : Package) (canonical : Bool) (given : Result X Error) → (canonical ≡ true → HasNoClashes r p) → IfErr given IsMemoryOrSize
    → IfErr given (RefusesPackage r p canonical)
room-refused r p canonical x differ h = search std_rules
