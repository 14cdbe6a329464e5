-- What paths and names mean is shown by the same paths. Serves Interfaces, Worlds.
use Rattle.std.proofs.Common.{◌≡◌, refl, sym, ap, subst, ◌∙◌, ℕ, Bool, true, false, ◌&&◌, ◌==◌, not, [], Option, Some, None, option_map, slice_get}
use Rattle.std.proofs.lemmas.{Bool.and_from as both, Map.Entries.place_from_lookup, Option.same_Some, List.Folds.list_all-map}
use Rattle.std.specs.{Prelude.if◌then◌else◌, Prelude.is_some, List.find, List.list_all, Option.option_eq, Option.option_map_or, HashMap.get_by_text}
use Rattle.indexmap.specs.IndexMap.{values}
use Rattle.wit_model.specs.declared.error.EntryList.TheVariants as lists
use Rattle.wit_model.specs.declared.model.{Resolve.Resolve, TypeDef.TypeDef, TypeId.TypeId, TypeOwner.TypeOwner, Interface.Interface}
use Rattle.wit_model.specs.declared.model.{InterfaceId.InterfaceId, Package.Package, PackageId.PackageId}
use Rattle.wit_model.specs.{Text.Text, Text.text_eq, Text.text_of, Parts.same_owner, Lookup.interface_at, Lookup.package_at, Checks.KeepsIn}
use Rattle.wit_model.specs.{Checks.has_name, Checks.listings}
use Rattle.wit_model.specs.Rules.{in_list, interface_belongs, is_id, is_named_of, interface_type_numbers, package_number, passes, text_is}
use Rattle.wit_model.specs.Valid.{IsValid, as_interface, is_place, numbers_in_range, names_in_packages, order_of_types, places}
use Rattle.wit_model.proofs.{Entries.each_from_all, Entries.none_breaks, Listings.interface_fits, Listings.misnamed_in_interface_breaks, OnePath.found-in}
use Rattle.wit_model.proofs.{OnePath.interface-passes, OnePath.package-passes}
use Rattle.wit_model.proofs.{PartsLemmas.owner_same, TextLemmas.text_alike, TextLemmas.text_named, TextLemmas.text_same}
use Rattle.print_grammar.specs.Tree.{PackageHead, PathTree, PathTree.Local, PathTree.Full}
use Rattle.print_items.specs.Shown.{full_path, path_from, present_name, shown_head, shown_path}
use Rattle.base_lemmas.proofs.{Bools.left_of, Bools.right_of, Elements.all-contained, Elements.get-contains, Numbers.equal, Numbers.nothing_more}
use Rattle.base_lemmas.proofs.{Numbers.same-number}
use Rattle.text_shown.specs.{Means.HasInterface, Means.PathIs, Means.IsUsed, Members.IsForeign, Same.is_of, Same.plain_path}

-- a package is of its own name
own_package : (here : PackageHead) → is_of here here.namespace here.name here.version ≡ true
own_package here = both (text_eq here.namespace here.namespace) _ (text_alike here.namespace)
    (both (text_eq here.name here.name) _ (text_alike here.name) (alike here.version))
  where
    alike : (t : Option Text) → option_eq text_eq t t ≡ true
    alike None = refl
    alike (Some t) = text_alike t

module _ (r : Resolve) (valid : IsValid r) where
  -- ---- interfaces of packages

  -- What is known of an interface that a package has.
  record IsPlaced (n : ℕ) (name : Text) (id : InterfaceId) : Type 0 where
    interface : Interface
    there : interface_at r id.0 ≡ Some interface
    home : is_id n (package_number interface.«package») ≡ true
    named : present_name interface.name ≡ name
    has_name : is_some interface.name ≡ true

  placed : (n : ℕ) (name : Text) (id : InterfaceId) → HasInterface r n name id → IsPlaced n name id
  unfolding numbers_in_range places names_in_packages
  placed n name id h =
      let place = place_from_lookup _ h.home.interfaces.entries id h.has in
      let has = get-contains h.home.interfaces.entries place.0 (place.1, id) place.2 in
      let numbers = left_of _ _ (right_of (is_place n) _ (package-passes numbers_in_range r valid.rules.numbers_in_range n h.home h.there)) in
      let range = all-contained (λ e. in_list r.interfaces.items e.1.0) h.home.interfaces.entries (place.1, id)
      (sym (list_all-map (λ id. in_list r.interfaces.items id.0) (λ e. e.1) h.home.interfaces.entries) ∙ numbers) has in
      let found = found-in r.interfaces.items id.0 range in
      let belongs : interface_belongs r n (place.1, id) ≡ true = all-contained (interface_belongs r n) h.home.interfaces.entries (place.1, id)
      (left_of _ _ (package-passes places r valid.rules.places n h.home h.there)) has in
      let called = all-contained (λ e. passes (λ i. text_is i.name (text_of e.0)) (interface_at r e.1.0)) h.home.interfaces.entries (place.1, id)
      (left_of _ _ (package-passes names_in_packages r valid.rules.names_in_packages n h.home h.there)) has in
      let own = text_named found.0.name (text_of place.1) (subst (λ o. passes (λ i. text_is i.name (text_of place.1)) o ≡ true) found.1 called) in
      let homes = subst (λ o. passes (λ i. passes (λ s. is_id n (package_number i.«package») && text_eq (text_of s) (text_of place.1)) i.name) o
      ≡ true) found.1 belongs in
      record {
        interface = found.0;
        there = found.1;
        home = left_of _ _ (subst (λ o. passes (λ s. is_id n (package_number found.0.«package») && text_eq (text_of s) (text_of place.1)) o
            ≡ true) own.1 homes);
        named = ap present_name own.1 ∙ own.2 ∙ sym (text_same name (text_of place.1) place.3);
        has_name = ap is_some own.1;
      }

  -- ---- types of interfaces

  -- What is known of a type that an interface has.
  record IsListed (n : ℕ) (name : Text) (id : TypeId) : Type 0 where
    def : TypeDef
    there : slice_get r.types.items id.0 ≡ Some def
    named : option_map text_of def.name ≡ Some name
    owned : def.owner ≡ as_interface n

  listed : (n : ℕ) (i : Interface) → interface_at r n ≡ Some i → (name : Text) (id : TypeId) → get_by_text i.types name ≡ Some id → IsListed n name id
  unfolding numbers_in_range order_of_types listings
  listed n i at name id h =
      let place = place_from_lookup _ i.types.entries id h in
      let has = get-contains i.types.entries place.0 (place.1, id) place.2 in
      let numbers = left_of _ _ (right_of (passes (in_list r.packages.items) (package_number i.«package»)) _ (right_of (is_place n) _
      (interface-passes numbers_in_range r valid.rules.numbers_in_range n i at))) in
      let range = all-contained (λ e. in_list r.types.items e.1.0) i.types.entries (place.1, id)
      (sym (list_all-map (λ id. in_list r.types.items id.0) (λ e. e.1) i.types.entries) ∙ numbers) has in
      let found = found-in r.types.items id.0 range in
      let all_own : list_all (is_named_of r (as_interface n)) (interface_type_numbers i) ≡ true =
      left_of _ _ (interface-passes order_of_types r valid.rules.order_of_types n i at) in
      let own = all-contained (λ e. is_named_of r (as_interface n) e.1.0) i.types.entries (place.1, id)
      (sym (list_all-map (λ id. is_named_of r (as_interface n) id.0) (λ e. e.1) i.types.entries)
      ∙ sym (list_all-map (is_named_of r (as_interface n)) (λ id. id.0) (values i.types)) ∙ all_own) has in
      let called = all-contained (λ e. has_name r (λ t. text_eq t (text_of e.0)) e.1.0) i.types.entries (place.1, id) own_names has in
      let own_name = text_named found.0.name (text_of place.1) (subst (λ o. passes (λ def. text_is def.name (text_of place.1)) o ≡ true) found.1 called) in
      record {
        def = found.0;
        there = found.1;
        named = ap (option_map text_of) own_name.1 ∙ ap Some (own_name.2 ∙ sym (text_same name (text_of place.1) place.3));
        owned = owner_same found.0.owner (as_interface n) (right_of (is_some found.0.name) _
            (subst (λ o. passes (λ def. is_some def.name && same_owner def.owner (as_interface n)) o ≡ true) found.1 own));
      }
    where
      all_listed : KeepsIn listings r lists.Interfaces
      all_listed = each_from_all (listings.interface_ r) 0 r.interfaces.items
          (λ m j e. subst (λ k. listings.interface_ r k j ≡ true) (sym (nothing_more m))
          (left_of _ _ (interface-passes order_of_types r valid.rules.order_of_types m j e)))

      -- the types of an interface stand under their own names
      own_names : list_all (λ e. has_name r (λ t. text_eq t (text_of e.0)) e.1.0) i.types.entries ≡ true
      own_names = go (option_map (λ x. x.1.0) (find (λ x. not (has_name r (λ t. text_eq t (text_of x.0)) x.1.0)) i.types.entries)) refl
        where
          go : (o : Option ℕ) → option_map (λ x. x.1.0) (find (λ x. not (has_name r (λ t. text_eq t (text_of x.0)) x.1.0)) i.types.entries) ≡ o
              → list_all (λ x. has_name r (λ t. text_eq t (text_of x.0)) x.1.0) i.types.entries ≡ true
          go None q = interface_fits r i q
          go (Some m) q = absurd (none_breaks r valid.rules 5 lists.Types m (misnamed_in_interface_breaks r n i at all_listed m (sym q)))

  -- ---- paths

  -- the path to an interface of a package
  path_to : (home : PackageId) (n : ℕ) (name : Text) (id : InterfaceId) (p : Package) → package_at r n ≡ Some p → HasInterface r n name id
      → shown_path r home id ≡ (if n == home.0 then Local name else full_path name p)
  path_to home n name id p at h =
      let k = placed n name id h in
      let own = home_of k.interface.«package» k.home in
      let called = present_name k.interface.name in
      ap (λ o. option_map_or (path_from r home) o (Local [])) k.there
      ∙ ap (λ o. path_from r home (record k.interface { «package» = o })) own.1
      ∙ ap (λ m. if m == home.0 then Local called else option_map_or (full_path called) (package_at r m) (Local called)) own.2
      ∙ ap (λ o. if n == home.0 then Local called else option_map_or (full_path called) o (Local called)) at
      ∙ ap (λ t. if n == home.0 then Local t else full_path t p) k.named
    where
      home_of : (o : Option PackageId) → is_id n (package_number o) ≡ true → (q : PackageId) × (o ≡ Some q) × (q.0 ≡ n)
      home_of None h = absurd cc
      home_of (Some q) h = (q, refl, equal q.0 n h)

  -- Whatever a path means is shown by the same path.
  pub path_shown : (home : PackageId) (p : Package) → package_at r home.0 ≡ Some p → (path : PathTree) (id : InterfaceId) → PathIs r home.0 path id
      → plain_path (shown_head p) (shown_path r home id) ≡ plain_path (shown_head p) path
  path_shown home p at path id (PathIs.own_package {name = name} k) =
      ap (plain_path (shown_head p)) (path_to home home.0 name id p at k ∙ ap (λ b. if b then Local name else full_path name p) (same-number home.0))
  path_shown home p at path id
      (PathIs.other_package {n = n} {p = q} {namespace = namespace} {name = name} {interface = interface} {version = version} there head k) =
      go (n == home.0) refl
    where
      named : PackageHead
      named = record { docs = []; namespace = namespace; name = name; version = version }

      whole : full_path interface q ≡ Full namespace name interface version
      whole = ap (λ (h : PackageHead). Full h.namespace h.name interface h.version) head

      go : (b : Bool) → (n == home.0) ≡ b → plain_path (shown_head p) (shown_path r home id) ≡ plain_path (shown_head p) (Full namespace name interface version)
      go false e = ap (plain_path (shown_head p)) (path_to home n interface id q there k
          ∙ ap (λ b. if b then Local interface else full_path interface q) e ∙ whole)
      go true e =
          let one : q ≡ p = same_Some q p (sym there ∙ ap (package_at r) (equal n home.0 e) ∙ at) in
          let here : shown_head p ≡ named = ap shown_head (sym one) ∙ head in
          let there_too : plain_path (shown_head p) (Full namespace name interface version) ≡ Local interface =
          ap (λ h. plain_path h (Full namespace name interface version)) here
          ∙ ap (λ b. if b then Local interface else Full namespace name interface version) (own_package named) in
          ap (plain_path (shown_head p)) (path_to home n interface id q there k ∙ ap (λ b. if b then Local interface else full_path interface q) e)
          ∙ sym there_too

  -- An interface that a path means has a name.
  pub path_named : (home : ℕ) (path : PathTree) (id : InterfaceId) → PathIs r home path id → (i : Interface) → interface_at r id.0 ≡ Some i
      → is_some i.name ≡ true
  path_named home path id (PathIs.own_package {name = name} k) i at = let q =
      placed home name id k in ap (λ o. option_map_or (λ x. is_some x.name) o false) (sym at ∙ q.there) ∙ q.has_name
  path_named home path id (PathIs.other_package {n = n} {interface = interface} there head k) i at =
      let q = placed n interface id k in ap (λ o. option_map_or (λ x. is_some x.name) o false) (sym at ∙ q.there) ∙ q.has_name

  -- and is there
  pub path_there : (home : ℕ) (path : PathTree) (id : InterfaceId) → PathIs r home path id
      → option_map_or (λ i. is_some i.name) (interface_at r id.0) false ≡ true
  path_there home path id (PathIs.own_package {name = name} k) = let q =
      placed home name id k in ap (λ o. option_map_or (λ x. is_some x.name) o false) q.there ∙ q.has_name
  path_there home path id (PathIs.other_package {n = n} {interface = interface} there head k) =
      let q = placed n interface id k in ap (λ o. option_map_or (λ x. is_some x.name) o false) q.there ∙ q.has_name

  -- A type that is used is one of another interface.
  pub used_is_foreign : (home : PackageId) (p : Package) → package_at r home.0 ≡ Some p
      → (own : TypeOwner) (path : PathTree) (name : Text) (id : TypeId) → IsUsed r home.0 own path name id
      → IsForeign r (shown_head p) own (Some home) path name id
  used_is_foreign home p at own path name id k =
      let t = k.is in
      let l = listed t.number.0 t.interface t.there name id t.has in
      record {
        interface = t.number;
        def = l.def;
        there = l.there;
        named = l.named;
        owned = l.owned;
        apart = k.apart;
        shown =
            path_shown home p at path t.number t.means;
      }
