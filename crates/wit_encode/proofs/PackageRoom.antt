-- A component in which the component types of a package have no room: the package is too heavy.
use Rattle.std.proofs.Common.{rules as std_rules, ◌≡◌, ◌<◌, ◌≤◌, ◌+◌, inl, inr, refl, sym, ap, subst, ◌∙◌, Bool, false, ◌&&◌, List, [], ◌∷◌, ◌++◌, append_assoc, Some, ℕ, zero, suc, append-nil, length, length-append, option_map, option_to_list, Option, arith}
use Rattle.std.proofs.lemmas.Bool.{lt-ltb}
use Rattle.std.proofs.lemmas.List.{Elements.Contains-append_left, Elements.Contains-append_right, Sums.sum_by-cons, Sums.sum_by-append}
use Rattle.wit_model.specs.{Text.Text, Text.text_of, Names.PackageIdentity, Names.path_in, Valid.IsValid}
use Rattle.wit_model.specs.Lookup.{interface_path, world_at, identity_of, package_at, path_in_package, path_of_world}
use Rattle.wit_model.specs.Weight.{interface_weight, exported_weight, package_weight, unit_of, world_weight, wrapped_weight}
use Rattle.wit_model.specs.declared.model.{Resolve.Resolve, World.World, Package.Package, PackageId.PackageId}
use Rattle.comp_bytes.specs.{Raw.Declarations, Raw.TopType, Raw.declaration_count, Parts.Part, Parts.fits_component, Parts.plain_export, Parts.top_slots}
use Rattle.comp_bytes.specs.Writing.{u32_bytes, name_bytes, declarations_bytes}
use Rattle.encode_exports.specs.ExportedParts.{one_exported, exporting_from}
use Rattle.encode_exports.proofs.Exports.{one_more}
use Rattle.encode_types.specs.Room.{limit}
use Rattle.wit_encode.specs.{Dependencies.ShowsComponent, Instance.declared_extent, WrittenNames.WritesPaths, DependencyCounts.DefinesComponent}
use Rattle.wit_encode.specs.Packages.{HoldsMembers, ListedInterface, ListedWorld, WrapsWorld, HoldsInterfaces, HoldsPackage, IsTypeOf, IsWrapperOf}
use Rattle.wit_encode.specs.PackageRoom.{InterfacesLackRoom, LacksInterface, LacksWorld, WorldsLackRoom, parts_extent, AreLong, part_extent}
use Rattle.wit_encode.proofs.{Lengths.long-parts, Lengths.long-component, Lengths.name-short, Lengths.u32-short, Weighing.one-of}
use Rattle.wit_encode.proofs.Packages.{IsBegun, WorldsBegun, next-listed, next-world, type-added, world-added}
use Rattle.wit_encode.proofs.WholePackages.{are-worlds, no-worlds_yet}
use Rattle.std.specs.{Prelude.option_and_then, Prelude.sum_by, List.AllZip, List.Contains}
use Rattle.wit_model.proofs.OnePath.{found-in}
use Rattle.encode_shown.proofs.Owning.{own-world}
use Rattle.encode_shown.specs.PackageTypes.{wrapper}
use Rattle.base_lemmas.proofs.Elements.{contains-one}

-- ---- Component types for which a component has no room.

-- ---- one component type more

module _ (old : List Part) (x : Text × Declarations) where
  abbrev typed : Part
  typed = Part.top_type (TopType.component x.1)

  abbrev export : Part
  export = Part.top_export (plain_export x.0 (top_slots old))

  whole : (old ++ typed ∷ []) ++ export ∷ [] ≡ old ++ one_exported (top_slots old) x
  whole = append_assoc old (typed ∷ []) (export ∷ [])

  long-export : (fits_component (old ++ typed ∷ []) && fits_component (old ++ one_exported (top_slots old) x)) ≡ false → limit < 8 + parts_extent (old ++ one_exported (top_slots old) x)
  long-export e = subst (λ (ps : List Part). limit < 8 + parts_extent ps) whole
      (long-parts (old ++ typed ∷ []) (export ∷ []) (ap (λ (ps : List Part). fits_component (old ++ typed ∷ []) && fits_component ps) whole ∙ e))

pub interface-long : (r : Resolve) (canonical : Bool) (e : ListedInterface) (declared : Declarations) (old : List Part)
    → ((path : Text) → interface_path r e.1.0 ≡ Some path → ShowsComponent r e.1.0 path declared) → WritesPaths r canonical e.1.0 declared → DefinesComponent r e.1.0 declared
    → declared_extent declared ≤ interface_weight r e.1.0
    → (fits_component (old ++ Part.top_type (TopType.component declared) ∷ []) && fits_component (old ++ one_exported (top_slots old) (text_of e.0, declared))) ≡ false
    → LacksInterface r canonical e old
interface-long r canonical e declared old shows names once light long = inr (λ entries h. record {
  parts = old ++ one_exported (top_slots old) (text_of e.0, declared);
  hold = type-added r canonical e declared old _ shows names once light (λ types is. one_more old _ types (text_of e.0, declared) refl is) entries h;
  long = long-export old (text_of e.0, declared) long;
})

pub world-long : (r : Resolve) (canonical : Bool) (p : PackageIdentity) (e : ListedWorld) (w : World) (declared : Declarations) (old : List Part) → world_at r e.1.0 ≡ Some w
    → WrapsWorld r canonical p e.1.0 w declared
    → (fits_component (old ++ Part.top_type (TopType.component declared) ∷ []) && fits_component (old ++ one_exported (top_slots old) (text_of e.0, declared))) ≡ false → LacksWorld r canonical p e old
world-long r canonical p e w declared old there wraps long = inr (λ interfaces worlds h. record {
  parts = old ++ one_exported (top_slots old) (text_of e.0, declared);
  hold = world-added r canonical p e w declared old _ there wraps (λ types is. one_more old _ types (text_of e.0, declared) refl is) interfaces worlds h;
  long = long-export old (text_of e.0, declared) long;
})

-- ---- one after the other

pub next-lacks : (r : Resolve) (canonical : Bool) (entries left rest : List ListedInterface) (parts : List Part) (e : ListedInterface) → IsBegun r canonical entries left parts → left ≡ e ∷ rest
    → LacksInterface r canonical e parts → InterfacesLackRoom r canonical entries
next-lacks r canonical entries left rest parts e h is (inl heavy) = InterfacesLackRoom.too_heavy e (next-listed r canonical entries left rest parts e h is) heavy
next-lacks r canonical entries left rest parts e h is (inr long) =
    InterfacesLackRoom.too_long (h.done ++ e ∷ []) rest (h.split ∙ ap (λ (es : List ListedInterface). h.done ++ es) is ∙ sym (append_assoc h.done (e ∷ []) rest)) (long h.done h.holds)

pub next-world_lacks : (r : Resolve) (p : PackageIdentity) (canonical : Bool) (entries left rest : List ListedWorld) (parts middle : List Part) (e : ListedWorld)
    → WorldsBegun r p canonical entries left parts middle
    → left ≡ e ∷ rest → LacksWorld r canonical p e middle → (interfaces : List ListedInterface) → HoldsMembers r canonical p interfaces [] parts → WorldsLackRoom r canonical p interfaces entries
next-world_lacks r p canonical entries left rest parts middle e h is (inl heavy) = λ interfaces held. WorldsLackRoom.too_heavy e (next-world r p canonical entries left rest parts middle e h is) heavy
next-world_lacks r p canonical entries left rest parts middle e h is (inr long) = λ interfaces held.
    WorldsLackRoom.too_long (h.done ++ e ∷ []) rest (h.split ∙ ap (λ (es : List ListedWorld). h.done ++ es) is ∙ sym (append_assoc h.done (e ∷ []) rest))
    (long interfaces h.done (h.adds interfaces held))

-- ---- component types and their exports

abbrev pub type-extent : Text × Declarations → ℕ
type-extent x = 41 + (length x.0 + length (declarations_bytes x.1))

pub one-short : (n : ℕ) (x : Text × Declarations) → parts_extent (one_exported n x) ≤ type-extent x
one-short n x =
    let export = Part.top_export (plain_export x.0 n) in
    let first = sum_by-cons part_extent (Part.top_type (TopType.component x.1)) (export ∷ []) in
    let second = sum_by-cons part_extent export [] in
    let count = u32-short (declaration_count x.1) in
    let body = length-append (u32_bytes (declaration_count x.1)) (declarations_bytes x.1) in
    omega (arith, name-short x.0, u32-short n, length-append (0 ∷ name_bytes x.0) (3 ∷ (u32_bytes n ++ 0 ∷ [])), length-append (u32_bytes n) (0 ∷ []))

exporting-short : (n : ℕ) (xs : List (Text × Declarations)) → parts_extent (exporting_from n xs) ≤ sum_by type-extent xs
exporting-short n [] = omega arith
exporting-short n (x ∷ xs) =
    let rest = exporting-short (suc (suc n)) xs in omega (arith, one-short n x, sum_by-append part_extent (one_exported n x) (exporting_from (suc (suc n)) xs), sum_by-cons type-extent x xs)

pub wrapper-short : (path : Text) (inner : Declarations) → length (declarations_bytes (wrapper path inner)) ≤ 21 + (length path + length (declarations_bytes inner))
wrapper-short path inner =
    let count = u32-short (declaration_count inner) in
    let body = length-append (u32_bytes (declaration_count inner)) (declarations_bytes inner) in
    let name = name-short path in
    let index = u32-short 0 in
    let whole = length-append (1 ∷ 0x41 ∷ (u32_bytes (declaration_count inner) ++ declarations_bytes inner)) ((4 ∷ ((0 ∷ name_bytes path) ++ (4 ∷ u32_bytes 0))) ++ []) in
    omega (arith, length-append (0 ∷ name_bytes path) (4 ∷ u32_bytes 0), ap length (append-nil (4 ∷ ((0 ∷ name_bytes path) ++ (4 ∷ u32_bytes 0)))))

pub extent-is : (ds : Declarations) → declared_extent ds ≡ length (declarations_bytes ds)
unfolding declared_extent
extent-is ds = refl

-- ---- packages

module _ (r : Resolve) (v : IsValid r) (n : ℕ) (p : Package) (at : package_at r n ≡ Some p) where
  abbrev interface-weight : ListedInterface → ℕ
  interface-weight e = exported_weight (text_of e.0) (interface_weight r e.1.0)

  abbrev world-weight : ListedWorld → ℕ
  world-weight e = exported_weight (text_of e.0) (wrapped_weight r e.1.0)

  weight-is : package_weight r n ≡ 64 + (sum_by interface-weight p.interfaces.entries + sum_by world-weight p.worlds.entries)
  unfolding package_weight
  weight-is = search std_rules

  interface-within : (e : ListedInterface) → Contains p.interfaces.entries e → interface_weight r e.1.0 ≤ package_weight r n
  interface-within e c = omega (arith, one-of interface-weight p.interfaces.entries e c, weight-is)

  path-is : (e : ListedWorld) → Contains p.worlds.entries e → (w : World) → world_at r e.1.0 ≡ Some w → path_of_world r w ≡ Some (path_in (identity_of p.name) (text_of w.name))
  path-is e c w there =
      let own = own-world r v n p at e c w there in
      ap (λ (o : Option PackageId). option_and_then (λ q. path_in_package r q.0 (text_of w.name)) o) own.1.1 ∙ ap (λ (k : ℕ). path_in_package r k (text_of w.name)) own.1.2
      ∙ ap (λ (o : Option Package). option_map (λ q. path_in (identity_of q.name) (text_of w.name)) o) at

  world-within : (e : ListedWorld) → Contains p.worlds.entries e → (w : World) → world_at r e.1.0 ≡ Some w
      → length (path_in (identity_of p.name) (text_of w.name)) + world_weight r e.1.0 ≤ package_weight r n
  world-within e c w there =
      let path : unit_of (option_to_list (option_and_then (path_of_world r) (world_at r e.1.0))) ≡ unit_of (path_in (identity_of p.name) (text_of w.name) ∷ []) =
      ap (λ (o : Option World). unit_of (option_to_list (option_and_then (path_of_world r) o))) there ∙ ap (λ (o : Option Text). unit_of (option_to_list o)) (path-is e c w there) in
      let long : length (path_in (identity_of p.name) (text_of w.name)) ≤ unit_of (path_in (identity_of p.name) (text_of w.name) ∷ []) = omega arith in
      omega (arith, one-of world-weight p.worlds.entries e c, weight-is, path, long)

  one-text : (t : Text) → unit_of (t ∷ []) ≡ 64 + length t
  one-text t = omega (arith, sum_by-cons length t [])

  -- the component types of interfaces are light together
  interfaces-light : (canonical : Bool) (es : List ListedInterface) (xs : List (Text × Declarations)) → AllZip (IsTypeOf r canonical) es xs → sum_by type-extent xs ≤ sum_by interface-weight es
  interfaces-light canonical [] [] h = omega arith
  interfaces-light canonical [] (x ∷ xs) h = absurd h
  interfaces-light canonical (e ∷ es) [] h = absurd h
  interfaces-light canonical (e ∷ es) (x ∷ xs) h =
      let rest = interfaces-light canonical es xs h.1 in
      let short = h.0.light in
      omega (arith, short, extent-is x.1, ap length h.0.label, sum_by-cons type-extent x xs, sum_by-cons interface-weight e es, one-text (text_of e.0), rest)

  -- the same of worlds
  worlds-light : (canonical : Bool) (es : List ListedWorld) (xs : List (Text × Declarations)) → ((e : ListedWorld) → Contains es e → Contains p.worlds.entries e)
      → AllZip (IsWrapperOf r canonical (identity_of p.name)) es xs → sum_by type-extent xs ≤ sum_by world-weight es
  worlds-light canonical [] [] own h = omega arith
  worlds-light canonical [] (x ∷ xs) own h = absurd h
  worlds-light canonical (e ∷ es) [] own h = absurd h
  worlds-light canonical (e ∷ es) (x ∷ xs) own h =
      let rest = worlds-light canonical es xs (λ f c. own f (Contains-append_right (e ∷ []) es f c)) h.1 in
      let short = h.0.wraps.light in
      let inner = extent-is h.0.wraps.inner in
      let path = path_in (identity_of p.name) (text_of h.0.world.name) in
      let wrapped = wrapper-short path h.0.wraps.inner in
      let is : length (declarations_bytes x.1) ≡ length (declarations_bytes (wrapper path h.0.wraps.inner)) = ap (λ (ds : Declarations). length (declarations_bytes ds)) h.0.wraps.is in
      let named : unit_of (option_to_list (option_and_then (path_of_world r) (world_at r e.1.0))) ≡ unit_of (path ∷ []) =
      ap (λ (o : Option World). unit_of (option_to_list (option_and_then (path_of_world r) o))) h.0.there ∙ ap (λ (o : Option Text). unit_of (option_to_list o))
      (path-is e (own e (Contains-append_left (e ∷ []) es e (contains-one e))) h.0.world h.0.there) in
      let a = sum_by-cons type-extent x xs in
      omega (arith, short, inner, ap length h.0.label, wrapped, is, named, a, sum_by-cons world-weight e es, one-text (text_of e.0), one-text path, rest)

  long-lacks : (canonical : Bool) (interfaces more_interfaces : List ListedInterface) (worlds more_worlds : List ListedWorld) → p.interfaces.entries ≡ interfaces ++ more_interfaces
      → p.worlds.entries ≡ worlds ++ more_worlds → AreLong (HoldsMembers r canonical (identity_of p.name) interfaces worlds) → limit < package_weight r n
  long-lacks canonical interfaces more_interfaces worlds more_worlds are those h =
      let a = interfaces-light canonical interfaces h.hold.interface_types h.hold.interfaces_are in
      let b = worlds-light canonical worlds h.hold.world_types (λ e c. subst (λ (es : List ListedWorld). Contains es e) (sym those) (Contains-append_left worlds more_worlds e c)) h.hold.worlds_are in
      let is = ap parts_extent h.hold.is in
      let short = exporting-short zero (h.hold.interface_types ++ h.hold.world_types) in
      let both = sum_by-append type-extent h.hold.interface_types h.hold.world_types in
      let front = ap (sum_by interface-weight) are ∙ sum_by-append interface-weight interfaces more_interfaces in
      omega (arith, is, short, both, front, ap (sum_by world-weight) those ∙ sum_by-append world-weight worlds more_worlds, weight-is, h.long, a, b)

  pub interfaces-lack : (canonical : Bool) → InterfacesLackRoom r canonical p.interfaces.entries → limit < package_weight r n
  interfaces-lack canonical (InterfacesLackRoom.too_heavy e c heavy) = omega (arith, interface-within e c, heavy)
  interfaces-lack canonical (InterfacesLackRoom.too_long first rest are long) = long-lacks canonical first rest [] p.worlds.entries are refl (record {
    parts = long.parts;
    hold = no-worlds_yet r v n p at canonical first long.parts long.hold;
    long = long.long;
  })

  pub worlds-lack : (canonical : Bool) (before : List Part) → HoldsInterfaces r canonical p.interfaces.entries before
      → (HoldsMembers r canonical (identity_of p.name) p.interfaces.entries [] before → WorldsLackRoom r canonical (identity_of p.name) p.interfaces.entries p.worlds.entries)
      → limit < package_weight r n
  worlds-lack canonical before held lacks = by-lack (lacks (no-worlds_yet r v n p at canonical p.interfaces.entries before held))
    where
      by-lack : WorldsLackRoom r canonical (identity_of p.name) p.interfaces.entries p.worlds.entries → limit < package_weight r n
      by-lack (WorldsLackRoom.too_heavy e c heavy) =
          let w = found-in r.worlds.items e.1.0 (lt-ltb e.1.0 (length r.worlds.items) (are-worlds r v n p at e c)) in omega (arith, world-within e c w.0 w.1, heavy w.0 w.1)
      by-lack (WorldsLackRoom.too_long first rest are long) = long-lacks canonical p.interfaces.entries [] first rest (sym (append-nil p.interfaces.entries)) are long

  pub all-lack : (canonical : Bool) (parts : List Part) → HoldsPackage r canonical p parts → fits_component parts ≡ false → limit < package_weight r n
  all-lack canonical parts h e = long-lacks canonical p.interfaces.entries [] p.worlds.entries [] (sym (append-nil p.interfaces.entries)) (sym (append-nil p.worlds.entries)) (record {
    parts = parts;
    hold = h.members;
    long = long-component parts e;
  })
