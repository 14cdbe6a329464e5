-- The component type of an interface of a valid `Resolve`, and the wrapper of a world, are read as parts of their package.
use Rattle.std.proofs.Common.{rules as std_rules, ◌≡◌, refl, sym, subst, ap, ◌∙◌, ℕ, zero, suc, true, false, not, ◌&&◌, ◌==◌, List, [], ◌∷◌, ◌++◌, map, Option, Some, None, String, arith}
use Rattle.std.proofs.lemmas.List.Elements.{Contains-append_left, Contains-append_right, Contains-append_cases}
use Rattle.std.proofs.{lemmas.Cmp.nat_list_eq_equiv, Math.Logic.⊎_elim}
use Rattle.std.proofs.lemmas.{Map.Views.list_any-from_Contains, Bool.and_from as both, Bool.both_ways, Bool.false_from_ne_true}
use Rattle.std.specs.declared.alloc.Global.{Global}
use Rattle.std.specs.{Prelude.option_and_then, Prelude.flat_map, List.AllZip, List.AllByRecursion, List.Contains, List.IsDistinct, List.list_any}
use Rattle.std.specs.Option.{option_map_or}
use Rattle.indexmap.specs.IndexMap.{values}
use Rattle.wit_model.specs.{Text.Text, Text.text_of, Text.text_eq, Names.PackageIdentity, Names.is_label, Names.path_in, Types.declared_by, Types.trees_of}
use Rattle.wit_model.specs.{Tree.type_, Tree.named, Meant.type_meaning_at, Rules.passes, Valid.IsValid}
use Rattle.wit_model.specs.Lookup.{package_at, world_at, type_at, interface_at, interface_path, place_of, identity_of}
use Rattle.wit_model.specs.Uses.{once, alias_target, owner_interface, used_interface, interface_used_by, interfaces_used_by, direct_deps}
use Rattle.wit_model.specs.declared.model.{Resolve.Resolve, Interface.Interface, InterfaceId.InterfaceId, TypeDefKind.TypeDefKind, TypeOwner.TypeOwner}
use Rattle.wit_model.specs.declared.model.{Package.Package, World.World, WorldId.WorldId, TypeDef.TypeDef, TypeId.TypeId}
use Rattle.wit_model.proofs.{NameLaws.spelled_path_reads, Elements.contains-flat, Elements.none-in, TextLemmas.text_alike as text-alike}
use Rattle.comp_bytes.specs.{Raw.Declarations}
use Rattle.comp_meaning.specs.Follow.{View, ShownType, Seen, Shown, Key, Scope, each, component_scope}
use Rattle.comp_meaning.specs.Rules.{distinct, used_by, used_by_view}
use Rattle.comp_meaning.specs.Reads.{Part, imported_view, are_reached, labelled_path, interface_part, world_part}
use Rattle.encode_shown.specs.PackageTypes.{plain_name}
use Rattle.encode_shown.specs.Views.{shown_type, home_of, types_of, ShowsInterface, ShowsImport, ShowsWorld, ShowsDependencies, AreUsed}
use Rattle.encode_shown.proofs.{Basics.given-by, Parts.alias-target, Keys.paths-apart, Members.meaning-there, Worlds.world-obeys, WorldMeans.world-label}
use Rattle.encode_shown.proofs.Reach.{once_from}
use Rattle.encode_shown.proofs.{Owning.identity, Owning.own-interface, Owning.own-path, Owning.own-world, Zips.zip-left, Zips.zip-right, Zips.given-contains}
use Rattle.base_lemmas.proofs.{Bools.left_of as first_true, Numbers.apart_back}
use Rattle.base_lemmas.proofs.Elements.{all_at, any-contains, contains-map, contains-one, filter_kept as filter-contains, last_of as one-contained, map_from as contains-mapped}
use Rattle.wit_model.specs.declared.model.TypeDefKind.TheVariants as kind
use Rattle.wit_model.specs.declared.model.«Type».TheVariants as ty

-- ---- numbers that differ

pub distinct-front : (xs ys : List ℕ) → IsDistinct (λ a b. a == b) (xs ++ ys) → IsDistinct (λ a b. a == b) xs
unfolding IsDistinct
distinct-front [] ys d = tt
distinct-front (x ∷ xs) ys d = (front xs d.0, distinct-front xs ys d.1)
  where
    front : (zs : List ℕ) → AllByRecursion (λ y. (x == y) ≡ false) (zs ++ ys) → AllByRecursion (λ y. (x == y) ≡ false) zs
    front [] a = tt
    front (z ∷ zs) a = (a.0, front zs a.1)

distinct-across : (xs ys : List ℕ) → IsDistinct (λ a b. a == b) (xs ++ ys) → (x y : ℕ) → Contains xs x → Contains ys y → (x == y) ≡ false
unfolding IsDistinct
distinct-across [] ys d x y c e = none-in x c
distinct-across (z ∷ xs) ys d x y (suc k, l, q) e = distinct-across xs ys d.1 x y (k, omega (arith, l), q) e
distinct-across (z ∷ xs) ys d x y (zero, l, q) e = ap (λ w. w == y) (sym q) ∙ all_at (λ w. (z == w) ≡ false) (xs ++ ys) d.0 y (Contains-append_right xs ys y e)

module _ (r : Resolve) (v : IsValid r) where
  -- ---- paths of what is used

  -- the path of the interface that a type uses
  used-path : (t : ℕ) (k : ℕ) (path : Text) → interface_used_by r t ≡ Some k → interface_path r k ≡ Some path → Contains (used_by (type_meaning_at r t).declaration) path
  used-path t k path used has_path = let def = given-by (used_interface r) (type_at r t) k used in of-kind def.0 def.1 def.0.kind refl def.2
    where
      of-owner : (a : TypeOwner) (name : Text) → owner_interface a ≡ Some k → Contains (used_by (type_ (named (place_of r a) name))) path
      of-owner x name e = search std_rules

      of-kind : (def : TypeDef) → type_at r t ≡ Some def → (c : TypeDefKind) → def.kind ≡ c
          → option_and_then (λ m. option_and_then (λ (target : TypeDef). owner_interface target.owner) (type_at r m)) (alias_target c) ≡ Some k
          → Contains (used_by (type_meaning_at r t).declaration) path
      of-kind def at (kind.Type_ (ty.Id id)) e h =
          let to = alias-target r v t def at id e in
          let declared : (type_meaning_at r t).declaration ≡ type_ (named (place_of r to.def.owner) (text_of to.string)) =
          ap (λ m. m.declaration) (meaning-there r t def at) ∙ ap (declared_by (trees_of r)) e ∙ ap type_ to.tree in
          subst (λ d. Contains (used_by d) path) (sym declared) (of-owner to.def.owner (text_of to.string)
          (sym (ap (option_and_then (λ (target : TypeDef). owner_interface target.owner)) to.there) ∙ h))
      of-kind def at _ e h = absurd cc

  -- the path of a dependency is used by a view of the types
  dependency-used : (m : ℕ) (view : View) → view.types ≡ option_map_or (types_of r m) (interface_at r m) [] → (k : ℕ) (path : Text) → Contains (direct_deps r m) k → interface_path r k ≡ Some path
      → Contains (used_by_view view) path
  dependency-used m view types k path c e = subst (λ (ts : List ShownType). Contains (flat_map (λ t. used_by t.meaning.declaration) ts) path) (sym types)
      (go (interface_at r m) (once_from k _ (filter-contains (λ j. not (j == m)) (once (option_map_or (interfaces_used_by r) (interface_at r m) [])) k c).0))
    where
      go : (o : Option Interface) → Contains (option_map_or (interfaces_used_by r) o []) k → Contains (flat_map (λ t. used_by t.meaning.declaration) (option_map_or (types_of r m) o [])) path
      go None d = none-in k d
      go (Some i) d =
          let given = given-contains (λ (id : TypeId). interface_used_by r id.0) (values i.types) k d in
          let entry = contains-mapped (λ (x : String Global × TypeId). x.1) i.types.entries given.0 given.1 in
          contains-flat (λ (t : ShownType). used_by t.meaning.declaration) (types_of r m i) (shown_type r (home_of r m) entry.0) path
          (contains-map (shown_type r (home_of r m)) i.types.entries entry.0 entry.1) (used-path entry.0.1.0 k path (ap (λ (id : TypeId). interface_used_by r id.0) entry.2 ∙ given.2) e)

  module _ (n : ℕ) (exported : View) (shows : ShowsInterface r n exported) where
    reached-are : (ns : List ℕ) (imports : List (Text × View)) → AllZip (ShowsImport r) ns imports → AreUsed r ns n → are_reached imports exported ≡ true
    reached-are [] [] z u = refl
    reached-are (k ∷ ns) (i ∷ imports) z u = both _ _ (list_any-from_Contains nat_list_eq_equiv i.0 (flat_map (λ (l : Text × View). used_by_view l.1) imports ++ used_by_view exported) (⊎_elim (λ c.
        let later = zip-right (ShowsImport r) ns imports u.0.0 z.1 c in
        Contains-append_left (flat_map (λ (l : Text × View). used_by_view l.1) imports) (used_by_view exported) i.0
        (contains-flat (λ (l : Text × View). used_by_view l.1) imports later.0 i.0 later.1 (dependency-used u.0.0 later.0.1 later.2.shows.types k i.0 u.0.2 z.0.path)))
        (λ c. Contains-append_right (flat_map (λ (l : Text × View). used_by_view l.1) imports) (used_by_view exported) i.0
        (dependency-used n exported shows.types k i.0 (subst (λ (m : ℕ). Contains (direct_deps r m) k) (sym (one-contained n u.0.0 c)) u.0.2) z.0.path))
        (Contains-append_cases ns (n ∷ []) u.0.0 u.0.1))) (reached-are ns imports z.1 u.1)
    reached-are _ _ z u = absurd z

  -- ---- paths that differ

  none-same : (n : ℕ) (path : Text) → interface_path r n ≡ Some path → (ns : List ℕ) (imports : List (Text × View)) → AllZip (ShowsImport r) ns imports → ((k : ℕ) → Contains ns k → (n == k) ≡ false)
      → list_any (text_eq path) (map (λ i. i.0) imports) ≡ false
  none-same n path e ns imports z d = false_from_ne_true _ (λ h.
      let any = any-contains (text_eq path) (map (λ i. i.0) imports) h in
      let i = contains-mapped (λ (i : Text × View). i.0) imports any.0 any.1 in
      let from = zip-left (ShowsImport r) ns imports i.0 z i.1 in
      both_ways _ (paths-apart r v n n from.0 path i.0.0 e from.2.path (d from.0 from.1)) (ap (text_eq path) i.2 ∙ any.2))

  imports-distinct : (ns : List ℕ) (imports : List (Text × View)) → AllZip (ShowsImport r) ns imports → IsDistinct (λ a b. a == b) ns → distinct (map (λ i. i.0) imports) ≡ true
  unfolding IsDistinct
  imports-distinct [] [] z d = refl
  imports-distinct (k ∷ ns) (i ∷ imports) z d = both _ _ (ap not (none-same k i.0 z.0.path ns imports z.1 (λ j c. all_at (λ y. (k == y) ≡ false) ns d.0 j c))) (imports-distinct ns imports z.1 d.1)
  imports-distinct _ _ z d = absurd z

  -- ---- the parts

  abbrev seen_import : Text × View → Seen
  seen_import i = record { key = i.0; shown = Shown.instance (Key.path i.0) i.1; external_id = None }

  imports-read : (ns : List ℕ) (imports : List (Text × View)) → AllZip (ShowsImport r) ns imports → each imported_view (map seen_import imports) ≡ Some imports
  imports-read [] [] z = refl
  imports-read (k ∷ ns) (i ∷ imports) z = search (std_rules, imports-read ns imports z.1)
  imports-read _ _ z = absurd z

  labelled : (p : PackageIdentity) (name label : Text) → Rattle.wit_model.specs.Names.is_identity p ≡ true → is_label name ≡ true → name ≡ label → labelled_path label (path_in p name) ≡ Some p
  labelled p name label h l e = search (std_rules, spelled_path_reads, text-alike)

  module _ (n : ℕ) (p : Package) (at : package_at r n ≡ Some p) where
    pub own-label : (e : String Global × InterfaceId) → Contains p.interfaces.entries e → is_label (text_of e.0) ≡ true
    unfolding Rattle.wit_model.specs.Valid.labels
    own-label e c =
        let is = own-interface r v n p at e c in
        ap is_label (sym is.text) ∙ (ap (passes (λ name. is_label (text_of name))) (sym is.named_)
        ∙ first_true (passes (λ name. is_label (text_of name)) is.def.name) _
        (Rattle.wit_model.proofs.OnePath.interface-passes Rattle.wit_model.specs.Valid.labels r v.rules.labels e.1.0 is.def is.there))

    pub interface-part-read : (e : String Global × InterfaceId) → Contains p.interfaces.entries e → (ds : Declarations) (scope : Scope) (imports : List (Text × View)) (exported : View)
        → component_scope ds ≡ Some scope
        → ShowsDependencies r e.1.0 (path_in (identity_of p.name) (text_of e.0)) scope imports exported → interface_part (text_of e.0) ds ≡ Some (identity_of p.name, Part.interface exported imports)
    interface-part-read e c ds scope imports exported follows shows =
        let path = path_in (identity_of p.name) (text_of e.0) in
        let ns = shows.reached.numbers in
        let apart = distinct-across ns (e.1.0 ∷ []) shows.reached.reached.once in
        let differ : distinct (path ∷ map (λ i. i.0) imports) ≡ true = both _ _
        (ap not (none-same e.1.0 path (own-path r v n p at e c) ns imports shows.reached.shown_imports (λ k d. apart_back k e.1.0 (apart k e.1.0 d (contains-one e.1.0)))))
        (imports-distinct ns imports shows.reached.shown_imports (distinct-front ns (e.1.0 ∷ []) shows.reached.reached.once)) in
        let all = reached-are e.1.0 exported shows.reached.shows ns imports shows.reached.shown_imports shows.reached.reached.used in
        let read : each imported_view scope.imports ≡ Some imports = ap (each imported_view) shows.imports_are ∙ imports-read ns imports shows.reached.shown_imports in
        let label : labelled_path (text_of e.0) path ≡ Some (identity_of p.name) = labelled (identity_of p.name) (text_of e.0) (text_of e.0) (identity r v n p at) (own-label e c) refl in
        let passed : (distinct (path ∷ map (λ i. i.0) imports) && are_reached imports exported) ≡ true = both _ _ differ all in
        rw (follows, shows.exports_are, read, label, passed) refl

    -- a world of the package under a label that is its name
    pub world-read : (m : ℕ) (w : World) → world_at r m ≡ Some w → (label : Text) → text_of w.name ≡ label → (ds : Declarations) (scope : Scope) → component_scope ds ≡ Some scope
        → ShowsWorld r w scope → world_part label (ds, plain_name (path_in (identity_of p.name) (text_of w.name))) ≡ Some (identity_of p.name, Part.world scope)
    world-read m w there label is ds scope follows shows =
        let name = world-label r v m w there scope shows in
        let spelled = spelled_path_reads (identity_of p.name) (text_of w.name) (identity r v n p at) name in
        let read = labelled (identity_of p.name) (text_of w.name) label (identity r v n p at) name is in
        rw (spelled, read, follows, world-obeys r v m w there scope shows) refl

    pub world-part-read : (e : String Global × WorldId) → Contains p.worlds.entries e → (w : World) → world_at r e.1.0 ≡ Some w → (ds : Declarations) (scope : Scope) → component_scope ds ≡ Some scope
        → ShowsWorld r w scope → world_part (text_of e.0) (ds, plain_name (path_in (identity_of p.name) (text_of w.name))) ≡ Some (identity_of p.name, Part.world scope)
    world-part-read e c w there ds scope follows shows = world-read e.1.0 w there (text_of e.0) (own-world r v n p at e c w there).0 ds scope follows shows
