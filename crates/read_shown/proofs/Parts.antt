-- Parts at the top are well-formed, and the component type of an interface has its export behind its imports.
use Rattle.std.proofs.Common.{rules as std_rules, ◌≡◌, inl, inr, refl, sym, ap, subst, ◌∙◌, ℕ, zero, suc, ◌+◌, ◌≤◌, arith, true, not, ◌&&◌, List, [], ◌∷◌, ◌++◌, map, length, length-append, Option, Some, None, slice_get, is_none}
use Rattle.std.proofs.{Math.ListN.length-map, lemmas.List.append-nil}
use Rattle.std.specs.List.{AllByRecursion, list_any}
use Rattle.wit_model.specs.{Text.Text, Text.text_eq, Names.PackageIdentity, Names.path_in, Names.read_path}
use Rattle.wit_model.proofs.{NameLaws.read_path_is_spelled, TextLemmas.text_same, TextLemmas.text_there}
use Rattle.comp_bytes.specs.Raw.{ExternName, Declarations}
use Rattle.comp_bytes.proofs.Readers.{bind_some, when_some}
use Rattle.comp_meaning.specs.Follow.{each, View, Instance, Seen, Shown, Scope, Direction, import_, export_, complete_path, component_scope, instance_place, provided, when}
use Rattle.comp_meaning.specs.Rules.{distinct, is_world, used_by_view}
use Rattle.comp_meaning.specs.Reads.{Part, Member, are_reached, exported_view, imported_view, interface_part, labelled_path, member, part_of, world_part, wrapped}
use Rattle.read_shown.specs.{Trees.AllAt, Views.ViewStands, Instances.instance_of, Instances.instances_in, Instances.going, Instances.InstancesAreSeen}
use Rattle.read_shown.specs.{Scopes.IsShownBefore, Scopes.ScopeStands, Parts.named_instance, Parts.MemberStands}
use Rattle.read_shown.proofs.{Instances.instances_seen, Lists.each_found, Lists.last_of, Scopes.scope_stands, Uses.use_stands_before}
use Rattle.base_lemmas.proofs.Bools.{left_of as first_true, right_of as second_true}
use Rattle.base_lemmas.proofs.{Lists.get_back as unmapped_get, Lists.mapped_get, Lists.middle_get, Lists.slice_front as front_get, Options.some_is}
use Rattle.comp_meaning.proofs.RulesLemmas.{not_twice as twice}

-- ---- what is found

-- the path of a part is that of its package and its label
path_is : (label path : Text) (package_ : PackageIdentity) → labelled_path label path ≡ Some package_ → path ≡ path_in package_ label
path_is label path package_ e =
    let p = bind_some (read_path path) _ package_ e in
    let w = when_some (text_eq p.0.1 label) (Some p.0.0) package_ p.2 in
    (read_path_is_spelled path p.0.0 p.0.1 p.1).spelled ∙ (λ i. path_in (some_is p.0.0 package_ w.1 i) (text_same p.0.1 label w.0 i))

export_found : (key : Text) (shown : Shown) (id : Option Text) (exported : Text × View) → exported_view (record { key = key; shown = shown; external_id = id } ∷ []) ≡ Some exported
    → instance_of shown ≡ named_instance exported ∷ []
export_found key y id exported e = search std_rules

import_found : (key : Text) (shown : Shown) (id : Option Text) (x : Text × View) → imported_view (record { key = key; shown = shown; external_id = id }) ≡ Some x
    → instance_of shown ≡ named_instance x ∷ []
import_found key z id x e = search std_rules

imports_found : (seen : List Seen) (imports : List (Text × View)) → each imported_view seen ≡ Some imports → instances_in seen ≡ map named_instance imports
imports_found [] imports e = ap (map named_instance) (some_is [] imports e)
imports_found (s ∷ seen) imports e =
    let first = bind_some (imported_view s) _ imports e in
    let more = bind_some (each imported_view seen) _ imports first.2 in
    (λ i. import_found s.key s.shown s.external_id first.0 first.1 i ++ imports_found seen more.0 more.1 i) ∙ ap (map named_instance) (some_is (first.0 ∷ more.0) imports more.2)

-- ---- where the export stands

none_exported : (seen : List (Direction × Instance)) → going export_ seen ≡ [] → going import_ seen ≡ map (λ x. x.1) seen
none_exported [] e = refl
none_exported ((import_, x) ∷ seen) e = ap (λ xs. x ∷ xs) (none_exported seen e)
none_exported ((export_, x) ∷ seen) e = absurd cc

-- the imports before and behind the one export
around_export : (seen : List (Direction × Instance)) (x : Instance) → going export_ seen ≡ x ∷ [] → (before : List Instance) × (behind : List Instance) × (map (λ y. y.1) seen ≡ before ++ x ∷ behind)
    × (going import_ seen ≡ before ++ behind)
around_export [] x e = absurd cc
around_export ((import_, y) ∷ seen) x e =
    let more = around_export seen x e in
    (y ∷ more.0, more.1, ap (λ ys. y ∷ ys) more.2, ap (λ ys. y ∷ ys) more.3)
around_export ((export_, y) ∷ seen) x e = search (std_rules, none_exported)

-- ---- what reaches the last import

-- the last import is used by the export
last_used : (front : List (Text × View)) (last : Text × View) (exported : View) → are_reached (front ++ last ∷ []) exported ≡ true → list_any (text_eq last.0) (used_by_view exported) ≡ true
last_used [] last exported e = first_true (list_any (text_eq last.0) (used_by_view exported)) true e
last_used (i ∷ front) last exported e = last_used front last exported (second_true _ _ e)

module _ (scope : Scope) (st : ScopeStands scope) (exported : Text × View) (imports : List (Text × View))
    (apart : distinct (exported.0 ∷ map (λ i. i.0) imports) ≡ true) (reached : are_reached imports exported.1 ≡ true)
    (before behind : List Instance) (all : scope.instances ≡ before ++ named_instance exported ∷ behind) (seen : map named_instance imports ≡ before ++ behind) where
  -- an import at this number, behind all that stand before the export, isn't used by the export
  unused : (last : Text × View) (n : ℕ) → slice_get imports n ≡ Some last → length before ≤ n → list_any (text_eq last.0) (used_by_view exported.1) ≡ true → ⊥
  unused last n at late used =
      let view = st.instances (length before) (named_instance exported) (ap (λ (xs : List Instance). slice_get xs (length before)) all ∙ middle_get before (named_instance exported) behind) in
      elim (use_stands_before scope.instances (length before) (named_instance exported) view last.0 (text_there last.0 (used_by_view exported.1) used)) [
        | inl same ↦ twice (exported.0 ∷ map (λ i. i.0) imports) apart zero (suc n) last.0 (omega arith) same (path_at n last at refl)
        | inr s ↦ (let low = s.below in let i = unmapped_get named_instance imports s.number s.shown
            (ap (λ (xs : List Instance). slice_get xs s.number) seen ∙ (front_get before behind s.number low
            ∙ (sym (front_get before (named_instance exported ∷ behind) s.number low) ∙ (ap (λ (xs : List Instance). slice_get xs s.number) (sym all) ∙ s.at)))) in
            twice (map (λ i. i.0) imports) (second_true (not (list_any (text_eq exported.0) (map (λ i. i.0) imports))) (distinct (map (λ i. i.0) imports)) apart) s.number n last.0
            (omega (arith, low, late)) (path_at s.number i.0 i.1 (some_is i.0.0 last.0 (ap (λ (x : Instance). x.interface) i.2 ∙ s.of_path))) (path_at n last at refl))
      ]
    where
      path_at : (k : ℕ) (i : Text × View) → slice_get imports k ≡ Some i → i.0 ≡ last.0 → slice_get (map (λ (x : Text × View). x.0) imports) k ≡ Some last.0
      path_at k i there same = mapped_get (λ (x : Text × View). x.0) imports k i there ∙ ap Some same

  -- so no import stands behind the export
  none_behind : behind ≡ []
  none_behind = by behind refl imports refl
    where
      counted : length imports ≡ length before + length behind
      counted = sym (length-map imports named_instance) ∙ (ap (λ (xs : List Instance). length xs) seen ∙ length-append before behind)

      by : (xs : List Instance) → behind ≡ xs → (is : List (Text × View)) → imports ≡ is → xs ≡ []
      by [] e is f = refl
      by (x ∷ xs) e [] f = absurd (omega (arith, (ap (λ (ys : List (Text × View)). length ys) f), ap (λ (ys : List Instance). length ys) e, counted))
      by (x ∷ xs) e (i ∷ is) f =
          let last = last_of i is in
          let whole : imports ≡ last.0 ++ last.1 ∷ [] = f ∙ last.2 in
          absurd (unused last.1 (length last.0) (ap (λ (ys : List (Text × View)). slice_get ys (length last.0)) whole ∙ middle_get last.0 last.1 [])
          (omega (arith, ap (λ (ys : List Instance). length ys) e, (ap (λ (ys : List (Text × View)). length ys) whole), (length-append last.0 (last.1 ∷ [])), counted))
          (last_used last.0 last.1 exported.1 (ap (λ ys. are_reached ys exported.1) (sym whole) ∙ reached)))

-- ---- parts

abbrev member_of : Text → PackageIdentity × Part → Member
member_of label p = record { label = label; package_ = p.0; part = p.1 }

-- the instances of an interface's scope are its imports, and then itself
interface_instances : (scope : Scope) → ScopeStands scope → InstancesAreSeen scope → (exported : Text × View) → instances_in scope.exports ≡ named_instance exported ∷ []
    → (imports : List (Text × View)) → instances_in scope.imports ≡ map named_instance imports → distinct (exported.0 ∷ map (λ i. i.0) imports) ≡ true → are_reached imports exported.1 ≡ true
    → scope.instances ≡ map named_instance imports ++ named_instance exported ∷ []
interface_instances scope st are exported out imports in_ apart reached =
    let around = around_export are.seen (named_instance exported) (are.exported ∙ out) in
    let all : scope.instances ≡ around.0 ++ named_instance exported ∷ around.1 = sym are.all ∙ around.2 in
    let seen : map named_instance imports ≡ around.0 ++ around.1 = sym in_ ∙ (sym are.imported ∙ around.3) in
    let none = none_behind scope st exported imports apart reached around.0 around.1 all seen in
    all ∙ (λ i. sym (seen ∙ (ap (λ xs. around.0 ++ xs) none ∙ append-nil around.0)) i ++ named_instance exported ∷ none i)

-- so they are its imports, and then the interface of its label in the package
pub interface_shows : (label : Text) (scope : Scope) → ScopeStands scope → InstancesAreSeen scope → (exported : Text × View) → exported_view scope.exports ≡ Some exported
    → (imports : List (Text × View)) → each imported_view scope.imports ≡ Some imports → (package_ : PackageIdentity) → labelled_path label exported.0 ≡ Some package_
    → distinct (exported.0 ∷ map (λ i. i.0) imports) ≡ true → are_reached imports exported.1 ≡ true
    → scope.instances ≡ map named_instance imports ++ named_instance (path_in package_ label, exported.1) ∷ []
interface_shows label scope st seen exported out imports in_ package_ path apart reached =
    interface_instances scope st seen exported (search std_rules) imports (imports_found scope.imports imports in_) apart reached
    ∙ ap (λ q. map named_instance imports ++ named_instance (q, exported.1) ∷ []) (path_is label exported.0 package_ path)

interface_read : (label : Text) (ds : Declarations) (p : PackageIdentity × Part) (scope : Scope) → component_scope ds ≡ Some scope → (exported : Text × View)
    → exported_view scope.exports ≡ Some exported
    → (imports : List (Text × View)) → each imported_view scope.imports ≡ Some imports → (package_ : PackageIdentity) → labelled_path label exported.0 ≡ Some package_
    → provided (distinct (exported.0 ∷ map (λ i. i.0) imports) && are_reached imports exported.1) (package_, Part.interface exported.1 imports) ≡ Some p → MemberStands (member_of label p)
interface_read label ds p scope follows exported out imports in_ package_ path e =
    let w = when_some _ _ p e in
    let st = scope_stands ds scope follows in
    subst (λ (q : PackageIdentity × Part). MemberStands (member_of label q)) (some_is _ p w.1) (record {
      views = subst (λ (xs : List Instance). AllAt (λ n (x : Instance). ViewStands (IsShownBefore xs n) (instance_place x.interface) x.view) xs)
          (interface_shows label scope st (instances_seen ds scope follows) exported out imports in_ package_ path (first_true _ _ w.0) (second_true _ _ w.0)) st.instances;
      part = tt;
    })

interface_stands : (label : Text) (ds : Declarations) (p : PackageIdentity × Part) → interface_part label ds ≡ Some p → MemberStands (member_of label p)
interface_stands label ds p e =
    let scope = bind_some (component_scope ds) _ p e in
    let exported = bind_some (exported_view scope.0.exports) _ p scope.2 in
    let imports = bind_some (each imported_view scope.0.imports) _ p exported.2 in
    let package_ = bind_some (labelled_path label exported.0.0) _ p imports.2 in
    interface_read label ds p scope.0 scope.1 exported.0 exported.1 imports.0 imports.1 package_.0 package_.1 package_.2

world_read : (label : Text) (ds : Declarations) (p : PackageIdentity × Part) (scope : Scope) → component_scope ds ≡ Some scope → (package_ : PackageIdentity)
    → provided (is_world scope) (package_, Part.world scope) ≡ Some p → MemberStands (member_of label p)
world_read label ds p scope follows package_ e =
    let w = when_some (is_world scope) (Some (package_, Part.world scope)) p e in
    let st = scope_stands ds scope follows in
    subst (λ (q : PackageIdentity × Part). MemberStands (member_of label q)) (some_is (package_, Part.world scope) p w.1) (record {
      views = st.instances;
      part = record { stands = st; seen = instances_seen ds scope follows; obeys = w.0 };
    })

world_stands : (label : Text) (w : Declarations × ExternName) (p : PackageIdentity × Part) → world_part label w ≡ Some p → MemberStands (member_of label p)
world_stands label w p e =
    let path = bind_some (when (is_none w.1.implements && is_none w.1.external_id) (complete_path w.1.text w.1.version_suffix)) _ p e in
    let package_ = bind_some (labelled_path label path.0) _ p path.2 in
    let scope = bind_some (component_scope w.0) _ p package_.2 in
    world_read label w.0 p scope.0 scope.1 package_.0 scope.2

pub member_stands : (x : Text × Declarations) (m : Member) → member x ≡ Some m → MemberStands m
member_stands x m e =
    let part = bind_some (part_of x.0 x.1) _ m e in
    subst MemberStands (some_is (member_of x.0 part.0) m part.2) (by (wrapped x.1) refl part.0 part.1)
  where
    by : (o : Option (Declarations × ExternName)) → wrapped x.1 ≡ o → (p : PackageIdentity × Part) → part_of x.0 x.1 ≡ Some p → MemberStands (member_of x.0 p)
    by None is p found = interface_stands x.0 x.1 p (sym (rw is refl) ∙ found)
    by (Some w) is p found = world_stands x.0 w p (sym (rw is refl) ∙ found)

pub members_stand : (types : List (Text × Declarations)) (members : List Member) → each member types ≡ Some members → AllByRecursion MemberStands members
members_stand types members e = each_found member MemberStands member_stands types members e
