-- Instances of the interfaces that have been imported stand.
use Rattle.std.proofs.Common.{◌≡◌, refl, sym, subst, ap, ◌∙◌, ℕ, zero, suc, ◌+◌, ◌<◌, nat_lt, Bool, true, false, not, ◌||◌, if◌then◌else◌, List, [], ◌∷◌, length, Option, Some, None, String, slice_get, is_some, map, option_map, option_and_then, arith}
use Rattle.std.proofs.lemmas.{Bool.ltb-true, Bool.ltb-false, Bool.and_from as both, Bool.or_right as or-second, List.Sorted.IsPermutation-refl}
use Rattle.std.proofs.lemmas.{Cmp.nat_list_eq_equiv, Option.slice_get-map, Option.slice_get_within}
use Rattle.std.specs.{List.Contains, List.filter, List.list_all, Option.option_map_or}
use Rattle.std.specs.declared.alloc.Global.{Global}
use Rattle.wit_model.specs.{Text.Text, Text.text_of, Tree.named, Tree.of_interface, Types.number_tree, Parts.is_resource, Parts.numbered_from, Parts.same_owner}
use Rattle.wit_model.specs.Lookup.{interface_at, interface_path, path_of_interface, place_of, place_of_path, type_at}
use Rattle.wit_model.specs.Valid.{IsValid}
use Rattle.wit_model.specs.declared.model.{Resolve.Resolve, Interface.Interface, InterfaceId.InterfaceId, TypeDef.TypeDef, TypeOwner.TypeOwner}
use Rattle.wit_model.proofs.{Elements.contains-get, PartsLemmas.owner_same as same-owner}
use Rattle.comp_meaning.specs.Follow.{View, find_type}
use Rattle.encode_shown.specs.Views.{ShowsImport, ShowsInterface, functions_of, home_of, name_slot}
use Rattle.encode_shown.proofs.Parts.{named-tree, place-alike}
use Rattle.encode_names.proofs.TypesFound.{types_are_found}
use Rattle.encode_types.specs.Resources.{is_named_interface, named_resources}
use Rattle.encode_types.specs.Known.{Around, below, is_instance_of, is_known_as, is_named_of, is_slot_for, is_standing, outer_instances, shows_type, standing_instances, stands_around}
use Rattle.wit_encode.proofs.Naming.{HaveHomes, names-agree, one-home}
use Rattle.base_lemmas.proofs.Elements.{zip_at}
use Rattle.wit_encode.specs.Dependencies.{HasImported, ImportsStand, imported_instance}
use Rattle.base_lemmas.proofs.{Bools.left_of as first_true, Bools.right_of as second_true, Elements.filter_keeps as contains-filter, Options.there as some-of}
use Rattle.wit_model.specs.declared.model.TypeOwner.TheVariants as owner

-- ---- lists

all-numbered : {A : Type 0} (p : ℕ × A → Bool) (j : ℕ) (xs : List A) → ((k : ℕ) (x : A) → slice_get xs k ≡ Some x → p (j + k, x) ≡ true) → list_all p (numbered_from j xs) ≡ true
all-numbered p j [] all = refl
all-numbered p j (x ∷ xs) all = both (p (j, x)) _ (subst (λ (m : ℕ). p (m, x) ≡ true) (omega arith) (all 0 x refl))
    (all-numbered p (j + 1) xs (λ k y e. subst (λ (m : ℕ). p (m, y) ≡ true) (omega arith) (all (suc k) y e)))

pub below-there : (m n : ℕ) → n < m → Contains (below m) n
below-there zero n l = absurd (omega (arith, l))
below-there (suc m) n l = go (below-there m n) (nat_lt n m) refl
  where
    go : (n < m → Contains (below m) n) → (b : Bool) → nat_lt n m ≡ b → Contains (m ∷ below m) n
    go more true e = let rest = more (ltb-true n m e) in (suc rest.0, omega (arith, rest.1), rest.2)
    go more false e = (0, omega arith, omega (arith, l, ltb-false n m e))

module _ (r : Resolve) (v : IsValid r) where
  -- ---- the slot of a name

  homes : HaveHomes r (is_named_interface r)
  homes a b h k e = one-home r v owner.None a b (or-second (same_owner owner.None a) _ h) (or-second (same_owner owner.None b) _ k) e

  module _ (i : InterfaceId) (path : Text) (is : interface_path r i.0 ≡ Some path) (n : ℕ) (def : TypeDef) (name : String Global) (at : type_at r n ≡ Some def) (named_ : def.name ≡ Some name) (owned : def.owner ≡ owner.Interface i) where
    home : home_of r i.0 ≡ of_interface path
    home = ap place_of_path is

    tree : number_tree r n ≡ named (of_interface path) (text_of name)
    tree = named-tree r v n def name at named_ ∙ ap (λ (o : TypeOwner). named (place_of r o) (text_of name)) owned ∙ ap (λ p. named p (text_of name)) home

    agrees : named_resources r (of_interface path) (text_of name) ≡ is_resource r n
    agrees = ap (λ p. named_resources r p (text_of name)) (sym home) ∙ ap (λ (o : TypeOwner). named_resources r (place_of r o) (text_of name)) (sym owned)
        ∙ names-agree r v (is_named_interface r) homes n def name at named_ (ap (is_named_interface r) owned ∙ ap is_some is)

    known-as : (b : Bool) → named_resources r (of_interface path) (text_of name) ≡ b
        → is_known_as (named_resources r) (named (of_interface path) (text_of name)) (name_slot b (of_interface path) (text_of name)) ≡ true
    known-as true e = both _ _ e (both _ _ (place-alike (of_interface path)) (nat_list_eq_equiv.refl (text_of name)))
    known-as false e = both _ _ (ap not e) (both _ _ (place-alike (of_interface path)) (nat_list_eq_equiv.refl (text_of name)))

    slot-known : is_slot_for r n (Some (name_slot (is_resource r n) (home_of r i.0) (text_of name))) ≡ true
    slot-known = ap (λ t. is_known_as (named_resources r) t (name_slot (is_resource r n) (home_of r i.0) (text_of name))) tree
        ∙ ap (λ p. is_known_as (named_resources r) (named (of_interface path) (text_of name)) (name_slot (is_resource r n) p (text_of name))) home ∙ known-as (is_resource r n) agrees

  -- ---- an instance

  module _ (n : ℕ) (w : Text × View) (shows : ShowsImport r n w) where
    abbrev id : InterfaceId
    id = record { 0 = n }

    there : (interface : Interface) × (interface_at r n ≡ Some interface)
    there = go (interface_at r n) refl
      where
        go : (o : Option Interface) → interface_at r n ≡ o → (interface : Interface) × (interface_at r n ≡ Some interface)
        go (Some interface) e = (interface, e)
        go None e = cc (sym (ap (option_and_then (path_of_interface r)) e) ∙ shows.path)

    -- a view of the types alone finds what a view of the interface finds
    abbrev with-functions : View
    with-functions = record { types = w.1.types; functions = option_map_or (functions_of r) (interface_at r n) [] }

    whole-view : ShowsInterface r n with-functions
    whole-view = record { types = shows.shows.types; functions = IsPermutation-refl (option_map_or (functions_of r) (interface_at r n) []) }

    shows-one : (k : ℕ) (def : TypeDef) → type_at r k ≡ Some def → (b : Bool) → is_named_of n def ≡ b → (not b || shows_type r (imported_instance w) (k, def)) ≡ true
    shows-one k def at false e = refl
    shows-one k def at true e =
        let owned : def.owner ≡ owner.Interface id = sym (same-owner (owner.Interface id) def.owner (first_true (same_owner (owner.Interface id) def.owner) _ e)) in
        let name = some-of def.name (second_true (same_owner (owner.Interface id) def.owner) _ e) in
        ap (λ (o : Option (String Global)). option_map_or (λ x. is_slot_for r k (find_type (text_of x) w.1.types)) o false) name.1
        ∙ ap (is_slot_for r k) (types_are_found r id there.0 k def name.0 with-functions v there.1 at name.1 owned whole-view) ∙ slot-known id w.0 shows.path k def name.0 at name.1 owned

    pub instance-stands : is_standing r n (imported_instance w) ≡ true
    instance-stands = both (is_instance_of (interface_path r n) (imported_instance w)) _ (ap (λ o. is_instance_of o (imported_instance w)) shows.path ∙ nat_list_eq_equiv.refl w.0)
        (all-numbered (λ (e : ℕ × TypeDef). not (is_named_of n e.1) || shows_type r (imported_instance w) e) 0 r.types.items (λ k def at. let here : 0 + k ≡ k = omega arith in
        subst (λ (m : ℕ). (not (is_named_of n def) || shows_type r (imported_instance w) (m, def)) ≡ true) (sym here) (shows-one k def at (is_named_of n def) refl)))

  -- ---- the interfaces that have been imported

  pub import-stands : (a : Around) (ns : List ℕ) (n : ℕ) → HasImported r a ns → Contains ns n → Contains (standing_instances r a) n
  import-stands a ns n h c =
      let at = contains-get ns n c in
      let w = zip_at (ShowsImport r) ns h.views h.shown at.0 n at.1 in
      let instances : outer_instances a.declared ≡ map imported_instance h.views = ap (λ o. option_map_or (λ s. s.instances) o []) h.followed ∙ h.instances in
      let found : slice_get (outer_instances a.declared) at.0 ≡ Some (imported_instance w.0) =
      ap (λ xs. slice_get xs at.0) instances ∙ slice_get-map imported_instance h.views at.0 ∙ ap (option_map imported_instance) w.1 in
      let stands : stands_around r a.instances (outer_instances a.declared) n ≡ true =
      ap (λ o. option_map_or (λ k. option_map_or (is_standing r n) (slice_get (outer_instances a.declared) k) false) o false) (h.listed at.0 n at.1)
      ∙ ap (λ o. option_map_or (is_standing r n) o false) found ∙ instance-stands n w.0 w.2 in
      let inside : n < length r.interfaces.items = slice_get_within r.interfaces.items n (there n w.0 w.2).0 (there n w.0 w.2).1 in
      let all = contains-filter (stands_around r a.instances (outer_instances a.declared)) (below (length r.interfaces.items)) n (below-there (length r.interfaces.items) n inside) stands in
      subst (λ b. Contains (if b then filter (stands_around r a.instances (outer_instances a.declared)) (below (length r.interfaces.items)) else []) n) (sym h.right) all

pub imports_stand : ImportsStand
imports_stand r around numbers i v h used j c = import-stands r v around numbers j h (used j c)
