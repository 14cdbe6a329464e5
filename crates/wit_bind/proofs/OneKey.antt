-- In a valid `Resolve` functions of a world that share a key shared their key without version.
use Rattle.std.proofs.Common.{rules as std_rules, ◌≡◌, refl, sym, ap, subst, ◌∙◌, ℕ, true, [], ◌∷◌, ◌++◌, append_assoc, append-nil, Option, Some, None, option_map, option_and_then, String, Result, Ok, Err, IfOk}
use Rattle.std.proofs.lemmas.{List.Elements.Contains-append_left, List.Elements.Contains-append_right, List.append_cancel_right, Option.same_Some as same-some}
use Rattle.std.specs.{List.Contains, Option.option_map_or}
use Rattle.std.specs.declared.alloc.Global.{Global}
use Rattle.wit_model.specs.declared.model.{Resolve.Resolve, Package.Package, Interface.Interface, WorldItem.WorldItem, WorldKey.WorldKey, PackageId.PackageId, PackageName.PackageName, InterfaceId.InterfaceId, World.World, StringEncoding.StringEncoding}
use Rattle.wit_model.specs.{Text.Text, Text.text_of, Names.at_version, Names.is_label, Names.path_in, Rules.passes, Lookup.canonical_identity_of, Lookup.interface_at, Lookup.package_at, Lookup.world_at, Paths.full_name, Valid.IsValid, Valid.labels}
use Rattle.wit_model.proofs.{Elements.none-in, NameLaws.label_lacks, OnePath.interface-passes, OnePath.package-name}
use Rattle.bind_keys.specs.{Keys.function_key, Keys.text_under, Keys.unversioned, Keys.unversioned_key, Encodings.Encodings, Encodings.encoding_at}
use Rattle.bind_keys.specs.Functions.{Items}
use Rattle.wit_bind.specs.OldKeys.{IsFunctionOf, itself, member, items_of, items_on, CarriesEach, CarriesOver, HadEncoding, OneOldKey}
use Rattle.wit_bind.specs.declared.encodings.Side.{Side}
use Rattle.bind_meaning.proofs.Listed.{given, mapped}
use Rattle.bind_meaning.proofs.KeyNames.{Lacks, colon, goes-on, key_lacks, last_cut, lacks-both, listed_lacks, same_cut, slash}
use Rattle.wit_bind.proofs.ValidKeys.{canonical-by-name}
use Rattle.base_lemmas.proofs.Bools.{left_of as first_true, right_of as second_true}
use Rattle.wit_model.specs.declared.model.WorldItem.TheVariants as item
use Rattle.wit_model.specs.declared.model.WorldKey.TheVariants as key
use Rattle.wit_bind.specs.declared.encodings.Side.TheVariants as sides

-- ---- paths

-- the names of an interface's package and its own are labels
record AreNamed (r : Resolve) (n : ℕ) (e : PackageName × String Global) : Type 0 where
  pub namespace : is_label (text_of e.0.namespace) ≡ true
  pub name : is_label (text_of e.0.name) ≡ true
  pub own : is_label (text_of e.1) ≡ true

module _ (r : Resolve) (v : IsValid r) where
  interface-label : (n : ℕ) (i : Interface) → interface_at r n ≡ Some i → passes (λ name. is_label (text_of name)) i.name ≡ true
  unfolding labels
  interface-label n i at = first_true (passes (λ name. is_label (text_of name)) i.name) _ (interface-passes labels r v.rules.labels n i at)

  are_named : (n : ℕ) (e : PackageName × String Global) → full_name r n ≡ Some e → AreNamed r n e
  are_named n e h =
      let home : Option Package = option_and_then (λ (j : Interface). option_and_then (λ (q : PackageId). package_at r q.0) j.package) (interface_at r n) in
      let i = given (λ (i : Interface). option_and_then (λ (t : String Global). option_map (λ (p : Package). (p.name, t)) home) i.name) (interface_at r n) e h in
      let t = given (λ (t : String Global). option_map (λ (p : Package). (p.name, t)) home) i.0.name e i.2 in
      let p = mapped (λ (p : Package). (p.name, t.0)) home e t.2 in
      let j = given (λ (j : Interface). option_and_then (λ (q : PackageId). package_at r q.0) j.package) (interface_at r n) p.0 p.1 in
      let q = given (λ (q : PackageId). package_at r q.0) j.0.package p.0 j.2 in
      let named = (package-name r v q.0.0 p.0 q.2).identity in
      subst (AreNamed r n) p.2 (record {
        namespace = first_true (is_label (text_of p.0.name.namespace)) _ named;
        name = first_true (is_label (text_of p.0.name.name)) _ (second_true (is_label (text_of p.0.name.namespace)) _ named);
        own = ap (passes (λ name. is_label (text_of name))) (sym t.1) ∙ interface-label n i.0 i.1;
      })

-- the canonical path, cut into its parts
abbrev end_of : PackageName → Text
end_of p = at_version (canonical_identity_of p).version

-- what an interface's name and its version's canonical part tell
same_front : (a b : Text) (x y : Option Text) → Lacks 64 a → Lacks 64 b → a ++ at_version x ≡ b ++ at_version y → a ≡ b
same_front a b None None h k same = sym (append-nil a) ∙ (same ∙ append-nil b)
same_front a b None (Some y) h k same = absurd (goes-on 64 b y (subst (Lacks 64) same (lacks-both 64 a [] h refl)))
same_front a b (Some x) None h k same = absurd (goes-on 64 a x (subst (Lacks 64) (sym same) (lacks-both 64 b [] k refl)))
same_front a b (Some x) (Some y) h k same = (same_cut 64 a x b y h k same).0

-- two canonical paths that are one are of one interface but for its version
same_path : (p q : PackageName) (s t : String Global) → Lacks 58 (text_of p.namespace) → Lacks 58 (text_of q.namespace) → Lacks 47 (text_of p.name) → Lacks 47 (text_of q.name) → Lacks 64 (text_of s)
    → Lacks 64 (text_of t) → path_in (canonical_identity_of p) (text_of s) ≡ path_in (canonical_identity_of q) (text_of t) → path_in (unversioned p) (text_of s) ≡ path_in (unversioned q) (text_of t)
same_path p q s t a b c d e f same = search (std_rules, same_cut, same_front)

-- ---- keys

module _ (r : Resolve) (v : IsValid r) where
  -- a key under a path is no key under a label
  apart_keys : (n : ℕ) (e : PackageName × String Global) → full_name r n ≡ Some e → (x f g : Text) → Lacks 47 x → Lacks 58 x
      → x ++ (47 ∷ f) ≡ path_in (canonical_identity_of e.0) (text_of e.1) ++ (47 ∷ g) → ⊥
  apart_keys n e h x f g slashless colonless same =
      let named = are_named r v n e h in
      let space = text_of e.0.namespace in
      let own = text_of e.0.name in
      let rest : Text = (text_of e.1 ++ end_of e.0) ++ (47 ∷ g) in
      let parts : path_in (canonical_identity_of e.0) (text_of e.1) ++ (47 ∷ g) ≡ (space ++ (58 ∷ own)) ++ (47 ∷ rest) = append_assoc space (58 ∷ (own ++ (47 ∷ (text_of e.1 ++ end_of e.0)))) (47 ∷ g)
      ∙ ap (λ t. space ++ (58 ∷ t)) (append_assoc own (47 ∷ (text_of e.1 ++ end_of e.0)) (47 ∷ g)) ∙ sym (append_assoc space (58 ∷ own) (47 ∷ rest)) in
      let front : Lacks 47 (space ++ (58 ∷ own)) = lacks-both 47 space (58 ∷ own) (label_lacks 47 refl space named.namespace) (label_lacks 47 refl own named.name) in
      let x_is = (same_cut 47 x f (space ++ (58 ∷ own)) rest slashless front (same ∙ parts)).0 in
      goes-on 58 space own (subst (Lacks 58) x_is colonless)

  -- what a key of an interface tells
  record IsPathKey (n : ℕ) (f k : Text) : Type 0 where
    pub named : PackageName × String Global
    pub is : full_name r n ≡ Some named
    pub spelled : k ≡ path_in (canonical_identity_of named.0) (text_of named.1) ++ (47 ∷ f)

  path_key : (id : InterfaceId) (f k : Text) → function_key r (key.Interface id) f ≡ Some k → IsPathKey id.0 f k
  path_key id f k h = go (full_name r id.0) refl (ap (option_map (λ text. text_under text f)) (sym (canonical-by-name r id.0)) ∙ h)
    where
      go : (o : Option (PackageName × String Global)) → full_name r id.0 ≡ o → option_map (λ text. text_under text f) (option_map (λ p. path_in (canonical_identity_of p.0) (text_of p.1)) o) ≡ Some k
          → IsPathKey id.0 f k
      go None at e = absurd (let z : ⊥ = cc in z)
      go (Some e) at h = record { named = e; is = at; spelled = sym (same-some (path_in (canonical_identity_of e.0) (text_of e.1) ++ (47 ∷ f)) k h) }

  old_key : (id : InterfaceId) (f : Text) (e : PackageName × String Global) → full_name r id.0 ≡ Some e
      → unversioned_key r (key.Interface id) f ≡ Some (path_in (unversioned e.0) (text_of e.1) ++ (47 ∷ f))
  old_key id f e at = ap (λ o. option_map (λ text. text_under text f) (option_map (λ p. path_in (unversioned p.0) (text_of p.1)) o)) at

  module _ (n : ℕ) (w : World) (at : world_at r n ≡ Some w) (items : Items) (among : (e : WorldKey × WorldItem) → Contains items e → Contains (w.imports.entries ++ w.exports.entries) e) where
    label_lacks_both : (x : String Global) (f : Text) → IsFunctionOf r items (key.Name x) f → Lacks 47 (text_of x) × Lacks 58 (text_of x)
    label_lacks_both x f (itself name g stands) =
        let c = among (key.Name x, item.Function g) stands in
        (key_lacks 47 slash r v n w at x (item.Function g) c, key_lacks 58 colon r v n w at x (item.Function g) c)
    label_lacks_both x f (member scope shown m owner name g stands of there has) =
        let c = among (key.Name x, shown) stands in
        (key_lacks 47 slash r v n w at x shown c, key_lacks 58 colon r v n w at x shown c)

    name_lacks : (id : InterfaceId) (f : Text) → IsFunctionOf r items (key.Interface id) f → Lacks 47 f
    name_lacks id f (member scope shown m owner name g stands of there has) = listed_lacks 47 slash r v m owner there name g has

    one_old : (a b : WorldKey) (f g k : Text) → IsFunctionOf r items a f → IsFunctionOf r items b g → function_key r a f ≡ Some k → function_key r b g ≡ Some k
        → unversioned_key r a f ≡ unversioned_key r b g
    one_old (key.Name x) (key.Name y) f g k of of' h h' = h ∙ sym h'
    one_old (key.Name x) (key.Interface id) f g k of of' h h' =
        let l = label_lacks_both x f of in
        let p = path_key id g k h' in
        absurd (apart_keys id.0 p.named p.is (text_of x) f g l.0 l.1 (same-some (text_of x ++ (47 ∷ f)) k h ∙ p.spelled))
    one_old (key.Interface id) (key.Name y) f g k of of' h h' =
        let l = label_lacks_both y g of' in
        let p = path_key id f k h in
        absurd (apart_keys id.0 p.named p.is (text_of y) g f l.0 l.1 (same-some (text_of y ++ (47 ∷ g)) k h' ∙ p.spelled))
    one_old (key.Interface id) (key.Interface id') f g k of of' h h' =
        let p = path_key id f k h in
        let q = path_key id' g k h' in
        let a = are_named r v id.0 p.named p.is in
        let b = are_named r v id'.0 q.named q.is in
        let same = sym p.spelled ∙ q.spelled in
        let ends : f ≡ g = last_cut 47 (path_in (canonical_identity_of p.named.0) (text_of p.named.1)) f (path_in (canonical_identity_of q.named.0) (text_of q.named.1)) g (name_lacks id f of)
        (name_lacks id' g of') same in
        let starts = append_cancel_right (path_in (canonical_identity_of p.named.0) (text_of p.named.1)) (path_in (canonical_identity_of q.named.0) (text_of q.named.1)) (47 ∷ g)
        (ap (λ t. path_in (canonical_identity_of p.named.0) (text_of p.named.1) ++ (47 ∷ t)) (sym ends) ∙ same) in
        let paths = same_path p.named.0 q.named.0 p.named.1 q.named.1 (label_lacks 58 refl (text_of p.named.0.namespace) a.namespace) (label_lacks 58 refl (text_of q.named.0.namespace) b.namespace)
        (label_lacks 47 refl (text_of p.named.0.name) a.name) (label_lacks 47 refl (text_of q.named.0.name) b.name)
        (label_lacks 64 refl (text_of p.named.1) a.own) (label_lacks 64 refl (text_of q.named.1) b.own) starts in
        old_key id f p.named p.is ∙ ((λ i. Some (paths i ++ (47 ∷ ends i))) ∙ sym (old_key id' g q.named q.is))

  of_side : (side : Side) (w : World) (e : WorldKey × WorldItem) → Contains (items_of side w) e → Contains (w.imports.entries ++ w.exports.entries) e
  of_side sides.Imports w e c = Contains-append_left w.imports.entries w.exports.entries e c
  of_side sides.Exports w e c = Contains-append_right w.imports.entries w.exports.entries e c

no_function : {P : Type 0} (r : Resolve) (a : WorldKey) (f : Text) → IsFunctionOf r [] a f → P
no_function r a f (itself name g stands) = none-in (key.Name name, item.Function g) stands
no_function r a f (member scope shown m owner name g stands of there has) = none-in (scope, shown) stands

pub one_old_key : OneOldKey
one_old_key r v side n a b f g k = by (world_at r n) refl
  where
    by : (o : Option World) → world_at r n ≡ o → IsFunctionOf r (option_map_or (items_of side) o []) a f → IsFunctionOf r (option_map_or (items_of side) o []) b g
        → function_key r a f ≡ Some k → function_key r b g ≡ Some k → unversioned_key r a f ≡ unversioned_key r b g
    by None at of of' h h' = no_function r a f of
    by (Some w) at of of' h h' = one_old r v n w at (items_of side w) (of_side r v side w) a b f g k of of' h h'

-- ---- so there is one encoding for each key

carries_each : (old : Text → Option StringEncoding) (r : Resolve) → IsValid r → (side : Side) (n : ℕ) (m : Encodings) → CarriesOver old r (items_on side r n) m
    → CarriesEach old r (items_on side r n) m
carries_each old r v side n m over = record { each = each; only = over.only }
  where
    each : (k : Text) (e : StringEncoding) → HadEncoding old r (items_on side r n) k e → encoding_at m k ≡ Some e
    each k e h =
        let found = over.each k e h in
        let g = over.only k found.0 found.1 in
        let was : g.was ≡ h.was = same-some g.was h.was (sym g.under ∙ one_old_key r v side n g.scope h.scope g.name h.name k g.of h.of g.is h.is ∙ h.under) in
        let value : found.0 ≡ e = same-some found.0 e (sym g.had ∙ ap old was ∙ h.had) in
        found.1 ∙ ap Some value

pub all_each : {E : Type 0} (old : Text → Option StringEncoding) (r : Resolve) → IsValid r → (side : Side) (n : ℕ) (a : Result Encodings E) → IfOk a (CarriesOver old r (items_on side r n))
    → IfOk a (CarriesEach old r (items_on side r n))
all_each old r v side n (Ok m) over = carries_each old r v side n m over
all_each old r v side n (Err e) over = tt
