-- A world is known by its path: in valid packages no two have the same, and none has that of an interface.
use Rattle.std.proofs.Common.{rules as std_rules, ◌≡◌, sym, ap, ◌∙◌, ℕ, true, not, List, Option, Some, option_map, option_and_then, String}
use Rattle.std.proofs.lemmas.Option.{same_Some as some-same}
use Rattle.std.specs.{Prelude.is_some, List.list_any, HashMap.get_by_text, Map.keys_of, Map.lookup}
use Rattle.std.specs.declared.alloc.Global.{Global}
use Rattle.wit_model.specs.declared.model.{Resolve.Resolve, Package.Package, PackageId.PackageId, World.World, WorldId.WorldId}
use Rattle.wit_model.specs.{Text.Text, Text.text_eq, Text.text_of, Names.is_label, Names.path_in, Valid.IsValid, Valid.labels, Valid.places}
use Rattle.wit_model.specs.Lookup.{identity_of, interface_path, package_at, path_in_package, path_of_world, world_at}
use Rattle.wit_model.specs.Rules.{is_id, is_world_name, world_is_listed}
use Rattle.wit_model.proofs.{RulesLemmas.is_id_some, NameLaws.one_path, VersionLaws.same_name, ValidLemmas.world_passes as world-passes}
use Rattle.wit_model.proofs.OnePath.{HasPath, has-path, interface-passes, one-number, package-name, package-once, path-label}
use Rattle.bind_meaning.proofs.Listed.{given, mapped}
use Rattle.base_lemmas.proofs.Elements.{any-at, contains-map, lookup_stands}
use Rattle.base_lemmas.proofs.Bools.{left_of as first_true, not-false as not-both, right_of as second_true}

-- what a path is of
pub record HasWorldPath (r : Resolve) (n : ℕ) (path : Text) : Type 0 where
  pub def : World
  pub there : world_at r n ≡ Some def
  pub home : PackageId
  pub in_package : def.package ≡ Some home
  pub package_ : Package
  pub stands : package_at r home.0 ≡ Some package_
  pub spelled : path ≡ path_in (identity_of package_.name) (text_of def.name)

-- the path of the world of this number
abbrev pub path_at : Resolve → ℕ → Option Text
path_at r n = option_and_then (path_of_world r) (world_at r n)

pub has-world-path : (r : Resolve) (n : ℕ) (path : Text) → path_at r n ≡ Some path → HasWorldPath r n path
has-world-path r n path e =
    let w = given (path_of_world r) (world_at r n) path e in
    let p = given (λ (q : PackageId). path_in_package r q.0 (text_of w.0.name)) w.0.package path w.2 in
    let q = mapped (λ (x : Package). path_in (identity_of x.name) (text_of w.0.name)) (package_at r p.0.0) path p.2 in
    record { def = w.0; there = w.1; home = p.0; in_package = p.1; package_ = q.0; stands = q.1; spelled = sym q.2 }

-- a name that leads to a world is a world's
found-name : (t : Text) (es : List (String Global × WorldId)) (n : ℕ) → is_id n (option_map (λ id. id.0) (lookup (λ k. text_eq t (text_of k)) es)) ≡ true
    → list_any (λ other. text_eq t (text_of other)) (keys_of es) ≡ true
found-name t es n h =
    let test = λ (k : String Global). text_eq t (text_of k) in
    let id = mapped (λ (id : WorldId). id.0) (lookup test es) n (is_id_some n _ h) in
    let x = lookup_stands test es id.0 id.1 in
    any-at test (keys_of es) x.0 (contains-map (λ (e : String Global × WorldId). e.0) es (x.0, id.0) x.1) x.2

module _ (r : Resolve) (v : IsValid r) where
  pub world-label : (n : ℕ) (path : Text) (h : HasWorldPath r n path) → is_label (text_of h.def.name) ≡ true
  unfolding labels
  world-label n path h = first_true (is_label (text_of h.def.name)) _ (world-passes labels r v.rules.labels n h.def h.there)

  -- it stands in its package under its name
  pub world-listed : (n : ℕ) (path : Text) (h : HasWorldPath r n path) → world_is_listed n (text_of h.def.name) h.package_ ≡ true
  unfolding places
  world-listed n path h = cc (second_true (is_some h.def.package) _ (world-passes places r v.rules.places n h.def h.there), world-passes places r v.rules.places n h.def h.there)

  -- what has one path has one package and one name
  one_home : (k l : ℕ) (p q : Package) → package_at r k ≡ Some p → package_at r l ≡ Some q → (s t : Text) → is_label s ≡ true → is_label t ≡ true
      → path_in (identity_of p.name) s ≡ path_in (identity_of q.name) t → (q ≡ p) × (s ≡ t)
  one_home k l p q e f s t a b same =
      let first = package-name r v k p e in
      let second = package-name r v l q f in
      let parts = one_path (identity_of p.name) (identity_of q.name) s t first.identity a second.identity b same in
      let homes : l ≡ k = package-once r v k l p q e f ((same_name p.name q.name first.version second.version).1 parts.0) in
      (some-same q p (sym f ∙ (ap (package_at r) homes ∙ e)), parts.1)

  -- worlds of the same path are one
  pub world-once : (m n : ℕ) (path : Text) → path_at r m ≡ Some path → path_at r n ≡ Some path → m ≡ n
  world-once m n path e f =
      let a = has-world-path r m path e in
      let b = has-world-path r n path f in
      let one = one_home a.home.0 b.home.0 a.package_ b.package_ a.stands b.stands (text_of a.def.name) (text_of b.def.name)
      (world-label m path a) (world-label n path b) (sym a.spelled ∙ b.spelled) in
      one-number m n (option_map (λ id. id.0) (get_by_text a.package_.worlds (text_of a.def.name))) (world-listed m path a) ((λ i. world_is_listed n (one.1 i) (sym one.0 i)) ∙ world-listed n path b)

  -- an interface's name is no world's
  unworldly : (n : ℕ) (path : Text) (h : HasPath r n path) → not (is_world_name h.package_ (text_of h.name)) ≡ true
  unfolding places
  unworldly n path h = search (std_rules, second_true (is_some h.def.package) _ (interface-passes places r v.rules.places n h.def h.there), interface-passes places r v.rules.places n h.def h.there)

  -- no interface has the path of a world
  pub path-apart : (m n : ℕ) (path : Text) → interface_path r m ≡ Some path → path_at r n ≡ Some path → ⊥
  path-apart m n path e f =
      let a = has-path r m path e in
      let b = has-world-path r n path f in
      let one = one_home a.home.0 b.home.0 a.package_ b.package_ a.stands b.stands (text_of a.name) (text_of b.def.name) (path-label r v m path a) (world-label n path b) (sym a.spelled ∙ b.spelled) in
      let listed : world_is_listed n (text_of a.name) a.package_ ≡ true = (λ i. world_is_listed n (one.1 i) (sym one.0 i)) ∙ world-listed n path b in
      not-both (is_world_name a.package_ (text_of a.name)) (unworldly m path a) (found-name (text_of a.name) a.package_.worlds.entries n listed)
