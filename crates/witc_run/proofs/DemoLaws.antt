-- What the demo's package means.
use Rattle.std.proofs.Common.{◌≡◌, ℕ, ap, ◌∙◌, Bool, true, ◌&&◌, List, [], ◌∷◌, ◌++◌, codes, map, filter, filter_map, flat_map, length, slice_get, None, Some, Option, option_map}
use Rattle.std.proofs.lemmas.List.Concat.{flat_map-append}
use Rattle.std.specs.{Prelude.String, FinMap.from_entries, List.list_all, Option.option_map_or}
use Rattle.std.specs.declared.alloc.Global.{Global}
use Rattle.indexmap.specs.IndexMap.{values}
use Rattle.wit_model.specs.declared.model.{Interface.Interface, InterfaceId.InterfaceId, Package.Package, Resolve.Resolve, World.World, WorldId.WorldId}
use Rattle.wit_model.specs.{Lookup.identity_of, Lookup.optional_version_text, Lookup.package_at, Lookup.world_at, Text.Text, Text.TextMap, Text.text_of}
use Rattle.wit_model.specs.Meaning.{Entry, InterfaceMeaning, PackageIdentity, PackageMeaning, WorldMeaning}
use Rattle.wit_model.specs.Meant.{Meant, by_path, entries_meaning, foreign_meaning, foreign_of, interface_meaning_at, is_foreign, no_world, package_meaning, world_meaning, world_meaning_at}
use Rattle.wit_model.specs.Uses.{interfaces_of_item, interfaces_of_world, reached, reached_in, worlds_of}
use Rattle.wit_component.specs.Built.{IsBare, is_bare, is_bare_interface, is_bare_type, is_bare_world, is_undocumented}
use Rattle.witc_run.specs.Demo.{IsFoo, IsOneFunction, demo, foo, nullary}

-- ---- the world

same-world : (a b c d : List (Text × Entry InterfaceMeaning)) → a ≡ b → c ≡ d → ◌≡◌ {A = WorldMeaning} (record { imports = a; exports = c }) (record { imports = b; exports = d })
same-world a b c d h k = cc

no-more : (xs ys : List ℕ) → xs ≡ [] → ys ≡ [] → xs ++ ys ≡ []
no-more xs ys h k = ap (λ (zs : List ℕ). zs ++ ys) h ∙ k

all-three : (a b c : Bool) → a ≡ true → b ≡ true → c ≡ true → a && (b && c) ≡ true
all-three a b c h k l = cc

pub foo-world : (w : World) → IsOneFunction (codes "host") w.imports.entries → IsOneFunction (codes "guest") w.exports.entries → is_bare w.docs w.stability ≡ true → IsFoo w
foo-world w imports exports bare = record {
  means = λ r. same-world (entries_meaning r w.imports.entries) ((codes "host", nullary) ∷ []) (entries_meaning r w.exports.entries) ((codes "guest", nullary) ∷ []) (imports.means r)
      (exports.means r);
  alone = λ r. flat_map-append (interfaces_of_item r) (values w.imports) (values w.exports) ∙ no-more _ _ (imports.alone r) (exports.alone r);
  bare = all-three _ _ _ bare imports.bare exports.bare;
}

-- ---- the package

one-world : (a b : Text) (i j : WorldMeaning) → a ≡ b → i ≡ j → ◌≡◌ {A = List (Text × WorldMeaning)} ((a, i) ∷ []) ((b, j) ∷ [])
one-world a b i j h k = cc

same-package : (a b : PackageIdentity) (c d : List (Text × InterfaceMeaning)) (e f : List (Text × WorldMeaning)) (g h : TextMap InterfaceMeaning) → a ≡ b → c ≡ d → e ≡ f → g ≡ h
    → ◌≡◌ {A = PackageMeaning} (record { identity = a; interfaces = c; worlds = e; foreign = g }) (record { identity = b; interfaces = d; worlds = f; foreign = h })
same-package a b c d e f g h ab cd ef gh = cc

same-identity : (a b c d : Text) (v w : Option Text) → a ≡ b → c ≡ d → v ≡ w
    → ◌≡◌ {A = PackageIdentity} (record { namespace = a; name = c; version = v }) (record { namespace = b; name = d; version = w })
same-identity a b c d v w h k l = cc

module _ (r : Resolve) (p : Package) (w : World) (name : String Global) (named : text_of name ≡ codes "foo") (worlds : p.worlds.entries ≡ (name, record { 0 = 0 }) ∷ [])
    (interfaces : p.interfaces.entries ≡ []) (all-interfaces : r.interfaces.items ≡ []) (all-worlds : r.worlds.items ≡ w ∷ []) (is-foo : IsFoo w) where
  its-worlds : worlds_of r p ≡ w ∷ []
  its-worlds = ap (λ (es : List (String Global × WorldId)). filter_map (λ (id : WorldId). world_at r id.0) (map (λ e. e.1) es)) worlds
      ∙ ap (λ (ws : List World). filter_map (λ (id : WorldId). slice_get ws id.0) (record { 0 = 0 } ∷ [])) all-worlds

  reaches-none : reached r [] ≡ []
  unfolding reached_in
  reaches-none = ap (λ (is : List Interface). reached_in r (length is) []) all-interfaces

  from-none : map (λ (id : InterfaceId). id.0) (values p.interfaces) ++ flat_map (interfaces_of_world r) (worlds_of r p) ≡ []
  from-none = ap (λ (es : List (String Global × InterfaceId)). map (λ (id : InterfaceId). id.0) (map (λ e. e.1) es) ++ flat_map (interfaces_of_world r) (worlds_of r p)) interfaces
      ∙ ap (flat_map (interfaces_of_world r)) its-worlds ∙ ap (λ (xs : List ℕ). xs ++ []) (is-foo.alone r)

  no-foreign : foreign_of r 0 p ≡ []
  no-foreign = ap (filter (is_foreign r 0)) (ap (reached r) from-none ∙ reaches-none)

  abbrev shown : String Global × WorldId → Text × WorldMeaning
  shown e = (text_of e.0, world_meaning_at r e.1.0)

  shown-worlds : map shown p.worlds.entries ≡ (codes "foo", foo) ∷ []
  shown-worlds = ap (map shown) worlds
      ∙ one-world (text_of name) (codes "foo") (world_meaning_at r 0) foo named (ap (λ (ws : List World). option_map_or (world_meaning r) (slice_get ws 0) no_world) all-worlds ∙ is-foo.means r)

  abbrev shown-interface : String Global × InterfaceId → Text × InterfaceMeaning
  shown-interface e = (text_of e.0, interface_meaning_at r e.1.0)

  pub meant : r.packages.items ≡ p ∷ [] → text_of p.name.namespace ≡ codes "a" → text_of p.name.name ≡ codes "b" → p.name.version ≡ None → Meant r 0 demo
  unfolding Meant
  meant packages namespace own version =
      let found : option_map (package_meaning r 0) (package_at r 0) ≡ Some (package_meaning r 0 p) = ap (λ (ps : List Package). option_map (package_meaning r 0) (slice_get ps 0)) packages in
      let means : package_meaning r 0 p ≡ demo = same-package (identity_of p.name) demo.identity (map shown-interface p.interfaces.entries) [] (map shown p.worlds.entries) ((codes "foo", foo) ∷ [])
      (by_path r (foreign_meaning r p) (foreign_of r 0 p)) (from_entries [])
      (same-identity (text_of p.name.namespace) (codes "a") (text_of p.name.name) (codes "b") (optional_version_text p.name.version) None namespace own (ap optional_version_text version))
      (ap (map shown-interface) interfaces)
      shown-worlds (ap (by_path r (foreign_meaning r p)) no-foreign) in
      found ∙ ap Some means

-- ---- bare

one-bare : {A : Type 0} (test : A → Bool) (x : A) (xs : List A) → xs ≡ x ∷ [] → test x ≡ true → list_all test xs ≡ true
one-bare test x xs h k = ap (list_all test) h ∙ ap (λ b. b && true) k

pub bare-demo : (r : Resolve) (p : Package) (w : World) → r.packages.items ≡ p ∷ [] → is_undocumented p.docs ≡ true → r.interfaces.items ≡ [] → r.worlds.items ≡ w ∷ [] → IsFoo w
    → r.types.items ≡ [] → IsBare r
bare-demo r p w packages undocumented interfaces worlds is-foo types = record {
  packages = one-bare (λ q. is_undocumented q.docs) p _ packages undocumented;
  interfaces = ap (list_all is_bare_interface) interfaces;
  worlds = one-bare is_bare_world w _ worlds is-foo.bare;
  types = ap (list_all is_bare_type) types;
}
