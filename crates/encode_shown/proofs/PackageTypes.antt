-- The sections of a component that exports the component types of a package, or of one world, mean it.
use Rattle.std.proofs.Common.{rules as std_rules, ◌≡◌, ◌↔◌, map, refl, sym, subst, ap, ◌∙◌, ℕ, true, List, [], ◌∷◌, ◌++◌, Option, Some, String, arith}
use Rattle.std.proofs.lemmas.{Simd.map-map, List.map-append, List.Elements.Contains-append_cases, Option.same_Some as same-some}
use Rattle.std.proofs.Math.Logic.{⊎_elim}
use Rattle.std.specs.declared.alloc.Global.{Global}
use Rattle.std.specs.{List.AllZip, List.Contains, List.list_all}
use Rattle.indexmap.specs.IndexMap.{keys}
use Rattle.wit_model.specs.{Text.Text, Text.text_of, Text.text_eq, Names.PackageIdentity, Names.is_label, Meaning.PackageMeaning, Meaning.WorldPackage}
use Rattle.wit_model.specs.{Lookup.package_at, Lookup.world_at, Lookup.identity_of, Meant.Meant, Meant.MeantWorld, Meant.package_of_world, Rules.is_world_name}
use Rattle.wit_model.specs.Valid.{IsValid}
use Rattle.wit_model.proofs.AnyOrder.{distinct-texts}
use Rattle.wit_model.specs.declared.model.{Resolve.Resolve, Package.Package, PackageId.PackageId, InterfaceId.InterfaceId, World.World}
use Rattle.comp_bytes.specs.{Raw.Declarations, Raw.Section, Spelling.IsComponent, Reading.◌>>=◌}
use Rattle.comp_bytes.proofs.Readers.{bind_some}
use Rattle.comp_meaning.specs.{Follow.each, Follow.is_filled, Rules.distinct}
use Rattle.comp_meaning.specs.Reads.{Member, Part, member, interface_part, exported_types, package_of_members, world_of_members, Reads, ReadsWorld}
use Rattle.comp_meaning.proofs.MeaningLaws.{one_meaning, one_world}
use Rattle.encode_shown.specs.Views.{ShowsInterfaceMember, ShowsWorldMember}
use Rattle.encode_shown.specs.PackageTypes.{IsInterfaceType, IsWorldType, IsListedWorldType, ArePackageTypes}
use Rattle.encode_shown.proofs.{Dependencies.own-label, Dependencies.interface-part-read, Dependencies.world-read, Apart.distinct-from, Apart.distinct-both}
use Rattle.encode_shown.proofs.{Basics.given-by, Zips.zip-left}
use Rattle.encode_shown.proofs.{Owning.own-world, Owning.no-world-name, Packages.members-mean, WorldMeans.world-label, WorldMeans.world-package-means}
use Rattle.base_lemmas.proofs.Elements.{all_pass as all-from, any_of_map as list_any_mapped, contains-later, map_from as contains-mapped, zip_map as zip-same}
use Rattle.wit_model.specs.Meant as meant
use Rattle.comp_meaning.specs.Reads as reads

each-append : {A B : Type 0} (f : A → Option B) (xs ys : List A) (us vs : List B) → each f xs ≡ Some us → each f ys ≡ Some vs → each f (xs ++ ys) ≡ Some (us ++ vs)
each-append f [] ys us vs e h = h ∙ ap (λ (o : Option (List _)). Some (Rattle.std.proofs.Common.unwrap_or o [] ++ vs)) e
each-append f (x ∷ xs) ys us vs e h =
    let y = bind_some (f x) _ us e in
    let ws = bind_some (each f xs) _ us y.2 in
    ap (λ (o : Option _). o >>= λ z. each f (xs ++ ys) >>= λ zs. Some (z ∷ zs)) y.1 ∙ ap (λ (o : Option (List _)). o >>= λ zs. Some (y.0 ∷ zs)) (each-append f xs ys ws.0 vs ws.1 h)
    ∙ ap (λ zs. Some (zs ++ vs)) (same-some (y.0 ∷ ws.0) us ws.2)

abbrev as_member : Text → Option (PackageIdentity × Part) → Option Member
as_member label o = o >>= λ p. Some (record { label = label; package_ = p.0; part = p.1 })

-- the members that component types are read as
record AreRead {E : Type 0} (R : E → Member → Type 0) (es : List E) (xs : List (Text × Declarations)) : Type 0 where
  pub members : List Member
  pub read : each member xs ≡ Some members
  pub shown : AllZip R es members

all-read : {E : Type 0} (Q : E → Text × Declarations → Type 0) (R : E → Member → Type 0) (es : List E) (xs : List (Text × Declarations)) → AllZip Q es xs
    → ((e : E) (x : Text × Declarations) → Contains es e → Q e x → (m : Member) × (member x ≡ Some m) × R e m) → AreRead R es xs
all-read Q R [] [] z one = record { members = []; read = refl; shown = tt }
all-read Q R (e ∷ es) (x ∷ xs) z one =
    let m = one e x (0, omega arith, refl) z.0 in
    let rest = all-read Q R es xs z.1 (λ y w c q. one y w (contains-later e es y c) q) in
    record {
      members = m.0 ∷ rest.members;
      read = ap (λ (o : Option Member). o >>= λ y. each member xs >>= λ ys. Some (y ∷ ys)) m.1 ∙ ap (λ (o : Option (List Member)). o >>= λ ys. Some (m.0 ∷ ys)) rest.read;
      shown = (m.2, rest.shown);
    }
all-read Q R _ _ z one = absurd z

module _ (r : Resolve) (v : IsValid r) (n : ℕ) (p : Package) (at : package_at r n ≡ Some p) where
  abbrev named : PackageIdentity
  named = identity_of p.name

  interface-read : (e : String Global × InterfaceId) (x : Text × Declarations) → Contains p.interfaces.entries e → (is : IsInterfaceType r p e x)
      → member x ≡ Some (record { label = text_of e.0; package_ = named; part = Part.interface is.exported is.imports })
  interface-read e x c is = ap (as_member x.0) (search std_rules) ∙ ap (λ t. as_member t (interface_part t x.1)) is.label
      ∙ ap (as_member (text_of e.0)) (interface-part-read r v n p at e c x.1 is.scope is.imports is.exported is.follows is.shows)

  -- the wrapper of a world is read as a member
  pub wrapper-read : (m : ℕ) (label : Text) (x : Text × Declarations) (is : IsWorldType r p m label x) → text_of is.world.name ≡ label
      → member x ≡ Some (record { label = label; package_ = named; part = Part.world is.scope })
  wrapper-read m label x is name = ap member is.is ∙ ap (as_member label) (world-read r v n p at m is.world is.there label name is.inner is.scope is.follows is.shows)

  pub sections-mean : (xs : List (Text × Declarations)) (sections : List Section) → ArePackageTypes r p xs → is_filled xs ≡ true → exported_types sections ≡ Some xs
      → reads.package_of_sections sections ≡ Some (meant.package_meaning r n p)
  sections-mean xs sections types some e =
      let interfaces = all-read (IsInterfaceType r p) (ShowsInterfaceMember r named) p.interfaces.entries types.interface_types types.interfaces (λ e x c is.
      (_, interface-read e x c is, record { imports = is.imports; exported = is.exported; reached = is.shows.reached; is = refl })) in
      let worlds = all-read (IsListedWorldType r p) (ShowsWorldMember r named) p.worlds.entries types.world_types types.worlds (λ e x c is.
      (_, wrapper-read e.1.0 (text_of e.0) x is (own-world r v n p at e c is.world is.there).0, record { world = is.world; there = is.there; scope = is.scope; shows = is.shows; is = refl })) in
      let all : each member xs ≡ Some (interfaces.members ++ worlds.members) =
      ap (each member) types.are ∙ each-append member types.interface_types types.world_types interfaces.members worlds.members interfaces.read worlds.read in
      ap (λ (o : Option (List (Text × Declarations))). o >>= λ ts. each member ts >>= λ ms. package_of_members ms) e ∙ ap (λ (o : Option (List Member)). o >>= λ ms. package_of_members ms) all
      ∙ members-mean r v n p at (interfaces.members ++ worlds.members) (record
      { interface_members = interfaces.members; world_members = worlds.members; interfaces = interfaces.shown; worlds = worlds.shown; are = refl }) (search std_rules)

-- ---- labels

module _ (r : Resolve) (v : IsValid r) (n : ℕ) (p : Package) (at : package_at r n ≡ Some p) (xs : List (Text × Declarations)) (types : ArePackageTypes r p xs) where
  interface-names : map (λ x. x.0) types.interface_types ≡ map text_of (keys p.interfaces)
  interface-names = grind (arith, zip-same, map-map)

  world-names : map (λ x. x.0) types.world_types ≡ map text_of (keys p.worlds)
  world-names = grind (arith, zip-same, map-map)

  names-are : map (λ x. x.0) xs ≡ map text_of (keys p.interfaces) ++ map text_of (keys p.worlds)
  names-are = ap (map (λ x. x.0)) types.are ∙ map-append (λ (x : Text × Declarations). x.0) types.interface_types types.world_types ∙ (λ j. interface-names j ++ world-names j)

  -- no label stands twice
  pub labels-apart : distinct (map (λ x. x.0) xs) ≡ true
  labels-apart = ap distinct names-are ∙ distinct-both (map text_of (keys p.interfaces)) (map text_of (keys p.worlds))
      (distinct-from _ (distinct-texts (keys p.interfaces) (v.distinct_keys.packages n p at).0)) (distinct-from _ (distinct-texts (keys p.worlds) (v.distinct_keys.packages n p at).1)) (λ t c.
      let key = contains-mapped text_of (keys p.interfaces) t c in
      let entry = contains-mapped (λ (e : String Global × InterfaceId). e.0) p.interfaces.entries key.0 key.1 in
      list_any_mapped (text_eq t) text_of (keys p.worlds) ∙ ap (is_world_name p) (sym key.2 ∙ ap text_of (sym entry.2)) ∙ no-world-name r v n p at entry.0 entry.1)

  -- each is a label
  pub all-labels : list_all (λ x. is_label x.0) xs ≡ true
  all-labels = all-from (λ x. is_label x.0) xs (λ x c. ⊎_elim (λ c. let e = zip-left (IsInterfaceType r p) p.interfaces.entries types.interface_types x types.interfaces c in
      ap is_label e.2.label ∙ own-label r v n p at e.0 e.1) (λ c.
      let e = zip-left (IsListedWorldType r p) p.worlds.entries types.world_types x types.worlds c in
      ap (λ (y : Text × Declarations). is_label y.0) e.2.is ∙ ap is_label (sym (own-world r v n p at e.0 e.1 e.2.world e.2.there).0) ∙ world-label r v e.0.1.0 e.2.world e.2.there e.2.scope e.2.shows)
      (Contains-append_cases types.interface_types types.world_types x (subst (λ (ys : List (Text × Declarations)). Contains ys x) types.are c)))

-- ---- one world

pub world-sections-mean : (r : Resolve) → IsValid r → (n : ℕ) (w : World) (p : Package) → world_at r n ≡ Some w → package_of_world r w ≡ Some p → (x : Text × Declarations) (sections : List Section)
    → IsWorldType r p n (text_of w.name) x → exported_types sections ≡ Some (x ∷ []) → reads.world_of_sections sections ≡ Some (meant.world_package r p w)
world-sections-mean r v n w p there home x sections is e =
    let same : is.world ≡ w = same-some is.world w (sym is.there ∙ there) in
    let id = given-by (λ (q : PackageId). package_at r q.0) w.package p home in
    ap (λ (o : Option (List (Text × Declarations))). o >>= λ ts. each member ts >>= λ ms. world_of_members ms) e
    ∙ ap (λ (o : Option Member). (o >>= λ y. Some (y ∷ [])) >>= λ ms. world_of_members ms) (wrapper-read r v id.0.0 p id.2 n (text_of w.name) x is (ap (λ (u : World). text_of u.name) same))
    ∙ world-package-means r v n w there is.scope (subst (λ (u : World). Rattle.encode_shown.specs.Views.ShowsWorld r u is.scope) same is.shows) p home

-- ---- bytes

meant-is : (r : Resolve) (n : ℕ) (p : Package) (m : PackageMeaning) → package_at r n ≡ Some p → Meant r n m ↔ (meant.package_meaning r n p ≡ m)
unfolding Meant
meant-is r n p m at = search std_rules

-- The bytes mean what the package means, and nothing else.
pub bytes-mean : (r : Resolve) → IsValid r → (n : ℕ) (p : Package) → package_at r n ≡ Some p → (xs : List (Text × Declarations)) (sections : List Section) (bytes : List ℕ) → ArePackageTypes r p xs
    → is_filled xs ≡ true → exported_types sections ≡ Some xs → IsComponent sections bytes → (m : PackageMeaning) → Meant r n m ↔ Reads bytes m
bytes-mean r v n p at xs sections bytes types some e spelled m =
    let means = sections-mean r v n p at xs sections types some e in
    let read : Reads bytes (meant.package_meaning r n p) = record { sections = sections; spelled = spelled; means = means } in (
      λ h. record { sections = sections; spelled = spelled; means = means ∙ ap Some ((meant-is r n p m at).0 h) },
      λ other. (meant-is r n p m at).1 (one_meaning bytes (meant.package_meaning r n p) m read other),
    )

world-meant-is : (r : Resolve) (n : ℕ) (w : World) (p : Package) (m : WorldPackage) → world_at r n ≡ Some w → package_of_world r w ≡ Some p → MeantWorld r n m ↔ (meant.world_package r p w ≡ m)
unfolding MeantWorld
world-meant-is r n w p m at home = search std_rules

pub world-bytes-mean : (r : Resolve) → IsValid r → (n : ℕ) (w : World) (p : Package) → world_at r n ≡ Some w → package_of_world r w ≡ Some p
    → (x : Text × Declarations) (sections : List Section) (bytes : List ℕ) → IsWorldType r p n (text_of w.name) x
    → exported_types sections ≡ Some (x ∷ []) → IsComponent sections bytes → (m : WorldPackage) → MeantWorld r n m ↔ ReadsWorld bytes m
world-bytes-mean r v n w p there home x sections bytes is e spelled m =
    let means = world-sections-mean r v n w p there home x sections is e in
    let read : ReadsWorld bytes (meant.world_package r p w) = record { sections = sections; spelled = spelled; means = means } in (
      λ h. record { sections = sections; spelled = spelled; means = means ∙ ap Some ((world-meant-is r n w p m there home).0 h) },
      λ other. (world-meant-is r n w p m there home).1 (one_world bytes (meant.world_package r p w) m read other),
    )
