-- Faults by numbers are faults of the bindings.
use Rattle.std.proofs.Common.{rules as std_rules, ◌≡◌, ◌≢◌, ◌↔◌, inl, inr, refl, sym, ap, subst, ◌∙◌, arith, ℕ, zero, suc, ◌<◌, Bool, true, false, List, [], ◌∷◌, slice_get, Option, Some, None, option_map, option_and_then, is_some, String}
use Rattle.std.proofs.lemmas.Option.{slice_get_within, same_Some as same-some}
use Rattle.std.specs.{Option.option_map_or, FinMap.find, FinMap.get}
use Rattle.std.specs.declared.alloc.Global.{Global}
use Rattle.wit_model.specs.declared.model.{Interface.Interface, InterfaceId.InterfaceId, Resolve.Resolve, World.World, WorldItem.WorldItem, WorldKey.WorldKey}
use Rattle.wit_model.specs.declared.model.WorldId.{WorldId}
use Rattle.wit_model.specs.Text.{Text, text_cmp, text_of}
use Rattle.wit_model.specs.Lookup.{interface_at, interface_path, key_text, path_of_interface, path_of_world, world_at}
use Rattle.wit_model.specs.Meaning.{Entry, InterfaceMeaning, InterfaceSense, WorldMeaning, WorldSense, entry_sense, interface_sense, world_sense}
use Rattle.wit_model.specs.Meant.{entries_meaning, entry_meaning, interface_meaning_at, no_world, world_meaning, world_meaning_at}
use Rattle.wit_model.proofs.{Elements.contains-get, AnyOrder.found-there as find-contains}
use Rattle.compat_meaning.specs.Senses.{Sense, of_import, of_interface, of_world, sense_of}
use Rattle.bind_meaning.specs.{Binding.Binding, Binding.Stand, ByNumbers.binding_at, Encodings.Encodings, Roots.root_path}
use Rattle.bind_meaning.specs.Clash.{Differ, ExportFault, ImportFault, InterfaceFault, IsFirstOf, WorldFault, carried_worlds}
use Rattle.bind_meaning.proofs.{Listed.from-map, Listed.given as unpacked, Searches.second-there as second-differs, Searches.stands-second as second-stands}
use Rattle.bind_meaning.proofs.{Maps.by_tie, Maps.get-without, Maps.itself_ties, WorldPaths.path_at}
use Rattle.bind_meaning.proofs.WorldBindings.{export-key, exports-distinct, import-key, imports-distinct, interface-found, interface-under, world-found, world-under}
use Rattle.bind_match.specs.declared.matches.Matches.{Matches}
use Rattle.bind_match.specs.Matching.{interface_in, is_root_world, own_interface_of, own_world_of, world_in}
use Rattle.bind_clash.specs.Faults.{ExportStands, ImportFaults, InterfaceDiffers, InterfaceFaultIn, IsFirstFault, OtherSense, WorldDiffers, WorldFaultIn, is_own_world_of, own_place_in}
use Rattle.bind_clash.specs.Laws.{AreWorlds, FaultsAreOfBindings, IsFirstIn}
use Rattle.bind_clash.proofs.KeysMatched.{found-distinct, no-own-entry, own-entry}
use Rattle.bind_clash.proofs.PathsMatched.{IsPathOf, crossed-world-has, crossed-world-there, has-root, interface-in-has, interface-in-there, own-interface-has, own-interface-there, root-has, untrue, world-in-has, world-in-there, world-path-of}
use Rattle.base_lemmas.proofs.{Elements.contains-map, Elements.get-contains, Options.there as some-of}
use Rattle.compat_meaning.specs.declared.place.Place.TheVariants as place

-- ---- what is there on both sides

pub both-stand : {X Y : Type 0} (o : Option X) (p : Option Y) (x : X) (y : Y) → o ≡ Some x → p ≡ Some y → Stand o p
both-stand {X} {Y} o p x y e f = subst (λ (z : Option Y). Stand {X = X} {Y = Y} o z) (sym f) (subst (λ (z : Option X). Stand {X = X} {Y = Y} z (Some y)) (sym e) tt)

first-stands : {X Y : Type 0} (o : Option X) (p : Option Y) → Stand o p → (x : X) × (o ≡ Some x)
first-stands y p h = search std_rules

first-differs : {X S : Type 0} (sense : X → S) (o p : Option X) → Differ sense o p → (x : X) × (o ≡ Some x)
first-differs sense y p h = search std_rules

-- two that are known differ where their senses do
known : {X S : Type 0} (sense : X → S) (o p : Option X) (x y : X) → o ≡ Some x → p ≡ Some y → Differ sense o p ↔ (sense x ≢ sense y)
known {X} sense o p x y e f = subst (λ (z : Option X). Differ sense z p ↔ (sense x ≢ sense y)) (sym e)
    (subst (λ (z : Option X). Differ sense (Some x) z ↔ (sense x ≢ sense y)) (sym f) ((λ d. d), (λ d. d)))

-- ---- senses of places

one-interface : (x y : InterfaceSense) → of_interface x ≡ of_interface y → x ≡ y
one-interface x y e = cc

one-world : (x y : WorldSense) → of_world x ≡ of_world y → x ≡ y
one-world x y e = cc

one-import : (x y : Entry InterfaceSense) → of_import x ≡ of_import y → x ≡ y
one-import x y e = cc

differ-as : {S : Type 0} (c : S → Sense) → ((x y : S) → c x ≡ c y → x ≡ y) → (o p : Option Sense) (x y : S) → o ≡ Some (c x) → p ≡ Some (c y) → (o ≢ p) ↔ (x ≢ y)
differ-as {S} c one o p x y e f = ((λ d same. d (e ∙ (ap (λ (s : S). Some (c s)) same ∙ sym f))), (λ d same. d (one x y (same-some (c x) (c y) (sym e ∙ (same ∙ f))))))

interface-sensed-at : (r : Resolve) (id : InterfaceId) (t : Text) → interface_path r id.0 ≡ Some t
    → sense_of r (place.Interface id) ≡ Some (of_interface (interface_sense (interface_meaning_at r id.0)))
interface-sensed-at r id t e = search std_rules

world-sensed-at : (r : Resolve) (id : WorldId) (t : Text) → path_at r id.0 ≡ Some t → sense_of r (place.World id) ≡ Some (of_world (world_sense (world_meaning_at r id.0)))
world-sensed-at r id t e = search std_rules

import-sensed-at : (r : Resolve) (id : WorldId) (w : World) → world_at r id.0 ≡ Some w → (p : ℕ) (e : WorldKey × WorldItem) → slice_get w.imports.entries p ≡ Some e
    → sense_of r (place.Import id p) ≡ Some (of_import (entry_sense (entry_meaning r e.1)))
import-sensed-at r id w at p e here = search std_rules

-- ---- the worlds that are carried

carried-at : (b : Binding) (t : Text) → (t ≡ root_path → ⊥) → get (carried_worlds b) t ≡ get b.worlds t
carried-at b t other = search (std_rules, get-without, by_tie)

carried-given : (b : Binding) (t : Text) (x : WorldMeaning) → get (carried_worlds b) t ≡ Some x → (get b.worlds t ≡ Some x) × (t ≡ root_path → ⊥)
carried-given b t x e = search (std_rules, get-without, untrue, itself_ties)

-- ---- the first entry with a fault

module _ (r : Resolve) (G : Text → Type 0) (t : Text) where
  first-at : (es : List (WorldKey × WorldItem)) (n : ℕ) (e : WorldKey × WorldItem) → slice_get es n ≡ Some e → key_text r e.0 ≡ t → G t
      → ((k : ℕ) (d : WorldKey × WorldItem) → slice_get es k ≡ Some d → k < n → G (key_text r d.0) → ⊥) → IsFirstOf (entries_meaning r es) G t
  first-at [] n e at text fault before = let no : ⊥ = cc in absurd no
  first-at (d ∷ es) zero e at text fault before = record {
    before = [];
    entry = entry_meaning r d.1;
    after = entries_meaning r es;
    listed = ap (λ (s : Text). (s, entry_meaning r d.1) ∷ entries_meaning r es) (ap (λ (y : WorldKey × WorldItem). key_text r y.0) (same-some d e at) ∙ text);
    fault = fault;
    first = tt;
  }
  first-at (d ∷ es) (suc n) e at text fault before =
      let z = first-at es n e at text fault (λ k x h less. before (suc k) x h (let more : suc k < suc n = omega (arith, less) in more)) in record {
        before = (key_text r d.0, entry_meaning r d.1) ∷ z.before;
        entry = z.entry;
        after = z.after;
        listed = ap (λ (xs : List (Text × Entry InterfaceMeaning)). (key_text r d.0, entry_meaning r d.1) ∷ xs) z.listed;
        fault = fault;
        first = (before 0 d refl (let more : 0 < suc n = omega arith in more), z.first);
      }

-- an entry that is found stands there
entry-of : (r : Resolve) (es : List (WorldKey × WorldItem)) (t : Text) (x : Entry InterfaceMeaning) → find text_cmp t (entries_meaning r es) ≡ Some x → (p : ℕ)
    × ((e : WorldKey × WorldItem) × ((slice_get es p ≡ Some e) × (key_text r e.0 ≡ t)))
entry-of r es t x e =
    let d = from-map (λ (y : WorldKey × WorldItem). (key_text r y.0, entry_meaning r y.1)) es (t, x) (find-contains (entries_meaning r es) t x e) in
    let p = contains-get es d.0 d.1.0 in
    (p.0, (d.0, (p.1, ap (λ (y : Text × Entry InterfaceMeaning). y.0) d.1.1)))

module _ (r : Resolve) (es : List (WorldKey × WorldItem)) (F : ℕ → WorldKey → Type 0) (G : Text → Type 0)
    (same : (p : ℕ) (e : WorldKey × WorldItem) → slice_get es p ≡ Some e → F p e.0 ↔ G (key_text r e.0))
    (among : (t : Text) → G t → (x : Entry InterfaceMeaning) × (find text_cmp t (entries_meaning r es) ≡ Some x)) where
  first-meant : (o : Option Text) → IsFirstFault r es F o → IsFirstIn (entries_meaning r es) G o
  first-meant None none = λ t g.
      let x = among t g in
      let e = entry-of r es t x.0 x.1 in
      none e.0 e.1.0 e.1.1.0 ((same e.0 e.1.0 e.1.1.0).1 (subst G (sym e.1.1.1) g))
  first-meant (Some t) h = first-at r G t es h.0 h.1 h.2 h.3 (subst G h.3 ((same h.0 h.1 h.2).0 h.4)) (λ k d at less g. h.5 k d at less ((same k d at).1 g))

-- ---- two worlds

module _ (own other : Resolve) (m : Matches) (n k : ℕ) (w z : World) (s : AreWorlds own other m n k w z) (a b c d : Encodings) where
  abbrev A : Binding
  A = binding_at own n a b

  abbrev B : Binding
  B = binding_at other k c d

  -- an interface of the other with a path
  module _ (p : ℕ) (i : Interface) (at : interface_at other p ≡ Some i) (t : Text) (path : path_of_interface other i ≡ Some t) where
    their-path : interface_path other p ≡ Some t
    their-path = ap (option_and_then (path_of_interface other)) at ∙ path

    their-interface : get B.interfaces t ≡ Some (interface_meaning_at other p)
    their-interface = interface-found other s.other_valid p t their-path

    interfaces-differ : (id : InterfaceId) → own_interface_of own m.packages.items i ≡ Some id → InterfaceDiffers own other m p i ↔ Differ interface_sense (get A.interfaces t) (get B.interfaces t)
    interfaces-differ id e =
        let ours = own-interface-has own other s.own_valid s.other_valid m.packages.items s.matched.packages p i at t path id e in
        let by_place = differ-as of_interface one-interface (sense_of own (place.Interface id)) (sense_of other (place.Interface (record { 0 = p }))) (interface_sense (interface_meaning_at own id.0))
        (interface_sense (interface_meaning_at other p)) (interface-sensed-at own id t ours) (interface-sensed-at other (record { 0 = p }) t their-path) in
        let by_path = known interface_sense (get A.interfaces t) (get B.interfaces t) (interface_meaning_at own id.0) (interface_meaning_at other p) (interface-found own s.own_valid id.0 t ours)
        their-interface in
        subst (λ (o : Option InterfaceId). OtherSense own other (option_map place.Interface o) (place.Interface (record { 0 = p }))
        ↔ Differ interface_sense (get A.interfaces t) (get B.interfaces t)) (sym e) ((λ x. by_path.1 (by_place.0 x)), (λ x. by_place.1 (by_path.0 x)))

    interface-differs-forth : InterfaceDiffers own other m p i → Differ interface_sense (get A.interfaces t) (get B.interfaces t)
    interface-differs-forth x = by (own_interface_of own m.packages.items i) refl
      where
        by : (o : Option InterfaceId) → own_interface_of own m.packages.items i ≡ o → Differ interface_sense (get A.interfaces t) (get B.interfaces t)
        by None e = absurd (subst (λ (o : Option InterfaceId). OtherSense own other (option_map place.Interface o) (place.Interface (record { 0 = p }))) e x)
        by (Some id) e = (interfaces-differ id e).0 x

    interface-differs-back : Differ interface_sense (get A.interfaces t) (get B.interfaces t) → InterfaceDiffers own other m p i
    interface-differs-back x =
        let g = first-differs interface_sense (get A.interfaces t) (get B.interfaces t) x in
        let ours = interface-under own t g.0 g.1 in
        let id = own-interface-there own other s.own_valid s.other_valid m.packages.items s.matched.packages p i at t path ours.number ours.under in
        (interfaces-differ id.0 id.1.0).1 x

    own-world-forth : is_own_world_of own m i ≡ true → Stand (get A.worlds t) (get B.interfaces t)
    own-world-forth x =
        let id = some-of (option_and_then (λ (name : String Global). world_in own m.packages.items i.«package» (text_of name)) i.name) x in
        let ours = crossed-world-has own other s.own_valid s.other_valid m.packages.items s.matched.packages p i at t path id.0 id.1 in
        both-stand (get A.worlds t) (get B.interfaces t) (world_meaning_at own id.0.0) (interface_meaning_at other p) (world-found own s.own_valid id.0.0 t ours) their-interface

    own-world-back : Stand (get A.worlds t) (get B.interfaces t) → is_own_world_of own m i ≡ true
    own-world-back x =
        let g = first-stands (get A.worlds t) (get B.interfaces t) x in
        let ours = world-under own t g.0 g.1 in
        let id = crossed-world-there own other s.own_valid s.other_valid m.packages.items s.matched.packages p i at t path ours.number ours.under in
        ap is_some id.1.0

  -- a world of the other with a path
  module _ (p : ℕ) (y : World) (at : world_at other p ≡ Some y) (t : Text) (path : path_of_world other y ≡ Some t) where
    place-of : IsPathOf other y.«package» (text_of y.name) t
    place-of = world-path-of other s.other_valid p y at t path

    world-their-path : path_at other p ≡ Some t
    world-their-path = ap (option_and_then (path_of_world other)) at ∙ path

    elsewhere : is_root_world other y ≡ false → t ≡ root_path → ⊥
    elsewhere f e = untrue (sym f ∙ has-root other s.other_valid y t place-of e)

    no-root : (t ≡ root_path → ⊥) → is_root_world other y ≡ false
    no-root apart = by (is_root_world other y) refl
      where
        by : (q : Bool) → is_root_world other y ≡ q → q ≡ false
        by true e = absurd (apart (root-has other s.other_valid y t place-of e))
        by false e = refl

    their-world : is_root_world other y ≡ false → get (carried_worlds B) t ≡ Some (world_meaning_at other p)
    their-world f = carried-at B t (elsewhere f) ∙ world-found other s.other_valid p t world-their-path

    worlds-differ : is_root_world other y ≡ false → (id : WorldId) → own_world_of own m.packages.items y ≡ Some id
        → OtherSense own other (option_map place.World (own_world_of own m.packages.items y)) (place.World (record { 0 = p })) ↔ Differ world_sense (get A.worlds t) (get (carried_worlds B) t)
    worlds-differ f id e =
        let ours = world-in-has own other s.own_valid s.other_valid m.packages.items s.matched.packages y.«package» (text_of y.name) t place-of id e in
        let by_place = differ-as of_world one-world (sense_of own (place.World id)) (sense_of other (place.World (record { 0 = p }))) (world_sense (world_meaning_at own id.0))
        (world_sense (world_meaning_at other p)) (world-sensed-at own id t ours) (world-sensed-at other (record { 0 = p }) t world-their-path) in
        let by_path = known world_sense (get A.worlds t) (get (carried_worlds B) t) (world_meaning_at own id.0) (world_meaning_at other p) (world-found own s.own_valid id.0 t ours) (their-world f) in
        subst (λ (o : Option WorldId). OtherSense own other (option_map place.World o) (place.World (record { 0 = p })) ↔ Differ world_sense (get A.worlds t) (get (carried_worlds B) t)) (sym e)
        ((λ x. by_path.1 (by_place.0 x)), (λ x. by_place.1 (by_path.0 x)))

    world-differs-forth : WorldDiffers own other m p y → WorldFault A B t
    world-differs-forth x = by (own_world_of own m.packages.items y) refl
      where
        by : (o : Option WorldId) → own_world_of own m.packages.items y ≡ o → WorldFault A B t
        by None e = absurd (subst (λ (o : Option WorldId). OtherSense own other (option_map place.World o) (place.World (record { 0 = p }))) e x.1)
        by (Some id) e = (worlds-differ x.0 id e).0 x.1

    world-differs-back : (t ≡ root_path → ⊥) → WorldFault A B t → WorldDiffers own other m p y
    world-differs-back apart x =
        let g = first-differs world_sense (get A.worlds t) (get (carried_worlds B) t) x in
        let ours = world-under own t g.0 g.1 in
        let id = world-in-there own other s.own_valid s.other_valid m.packages.items s.matched.packages y.«package» (text_of y.name) t place-of ours.number ours.under in
        (no-root apart, (worlds-differ (no-root apart) id.0 id.1.0).1 x)

    crossing-forth : is_root_world other y ≡ false → is_some (interface_in own m.packages.items y.«package» (text_of y.name)) ≡ true → Stand (get A.interfaces t) (get (carried_worlds B) t)
    crossing-forth f x =
        let id = some-of (interface_in own m.packages.items y.«package» (text_of y.name)) x in
        let ours = interface-in-has own other s.own_valid s.other_valid m.packages.items s.matched.packages y.«package» (text_of y.name) t place-of id.0 id.1 in
        both-stand (get A.interfaces t) (get (carried_worlds B) t) (interface_meaning_at own id.0.0) (world_meaning_at other p) (interface-found own s.own_valid id.0.0 t ours) (their-world f)

    crossing-back : Stand (get A.interfaces t) (get (carried_worlds B) t) → is_some (interface_in own m.packages.items y.«package» (text_of y.name)) ≡ true
    crossing-back x =
        let g = first-stands (get A.interfaces t) (get (carried_worlds B) t) x in
        let ours = interface-under own t g.0 g.1 in
        let id = interface-in-there own other s.own_valid s.other_valid m.packages.items s.matched.packages y.«package» (text_of y.name) t place-of ours.number ours.under in
        ap is_some id.1.0

  -- what the other binding has under a path stands there by number
  record IsTheirInterface (t : Text) : Type 0 where
    number : ℕ
    def : Interface
    there : interface_at other number ≡ Some def
    path : path_of_interface other def ≡ Some t

  their-interface-at : (t : Text) (x : InterfaceMeaning) → get B.interfaces t ≡ Some x → IsTheirInterface t
  their-interface-at t x e =
      let h = interface-under other t x e in
      let i = unpacked (path_of_interface other) (interface_at other h.number) t h.under in
      record { number = h.number; def = i.0; there = i.1; path = i.2 }

  record IsTheirWorld (t : Text) : Type 0 where
    number : ℕ
    def : World
    there : world_at other number ≡ Some def
    path : path_of_world other def ≡ Some t
    apart : t ≡ root_path → ⊥

  their-world-at : (t : Text) (x : WorldMeaning) → get (carried_worlds B) t ≡ Some x → IsTheirWorld t
  their-world-at t x e =
      let given_ = carried-given B t x e in
      let h = world-under other t x given_.0 in
      let i = unpacked (path_of_world other) (world_at other h.number) t h.under in
      record { number = h.number; def = i.0; there = i.1; path = i.2; apart = given_.1 }

  interface-forth : (t : Text) → InterfaceFaultIn own other m t → InterfaceFault A B t
  interface-forth t (inl h) = elim h.2.3 [ inl x ↦ inr (inr (own-world-forth h.0 h.2.0 h.2.1 t h.2.2 x)) | inr x ↦ inl (interface-differs-forth h.0 h.2.0 h.2.1 t h.2.2 x) ]
  interface-forth t (inr h) = inr (inl (crossing-forth h.0 h.2.0 h.2.1 t h.2.2.0 h.2.2.1 h.2.2.2))

  interface-back : (t : Text) → InterfaceFault A B t → InterfaceFaultIn own other m t
  interface-back t (inl x) =
      let g = second-differs interface_sense (get A.interfaces t) (get B.interfaces t) x in
      let i = their-interface-at t g.0 g.1 in
      inl (i.number, slice_get_within other.interfaces.items i.number i.def i.there, (i.def, i.there, i.path, inr (interface-differs-back i.number i.def i.there t i.path x)))
  interface-back t (inr (inl x)) =
      let g = second-stands (get A.interfaces t) (get (carried_worlds B) t) x in
      let y = their-world-at t g.0 g.1 in
      inr (
        y.number,
        slice_get_within other.worlds.items y.number y.def y.there,
        (y.def, y.there, (y.path, no-root y.number y.def y.there t y.path y.apart, crossing-back y.number y.def y.there t y.path x)),
      )
  interface-back t (inr (inr x)) =
      let g = second-stands (get A.worlds t) (get B.interfaces t) x in
      let i = their-interface-at t g.0 g.1 in
      inl (i.number, slice_get_within other.interfaces.items i.number i.def i.there, (i.def, i.there, i.path, inl (own-world-back i.number i.def i.there t i.path x)))

  world-forth : (t : Text) → WorldFaultIn own other m t → WorldFault A B t
  world-forth t h = world-differs-forth h.0 h.2.0 h.2.1 t h.2.2 h.2.3

  world-back : (t : Text) → WorldFault A B t → WorldFaultIn own other m t
  world-back t x =
      let g = second-differs world_sense (get A.worlds t) (get (carried_worlds B) t) x in
      let y = their-world-at t g.0 g.1 in
      (y.number, slice_get_within other.worlds.items y.number y.def y.there, (y.def, y.there, y.path, world-differs-back y.number y.def y.there t y.path y.apart x))

  -- ---- imports and exports

  abbrev Keyed : Type 0
  Keyed = List (Text × Entry InterfaceMeaning)

  -- the other's entry under its own key
  import-found : (p : ℕ) (e : WorldKey × WorldItem) → slice_get z.imports.entries p ≡ Some e
      → find text_cmp (key_text other e.0) (entries_meaning other z.imports.entries) ≡ Some (entry_meaning other e.1)
  import-found p e at = found-distinct (entries_meaning other z.imports.entries) (key_text other e.0) (entry_meaning other e.1) (imports-distinct other s.other_valid k z s.other_at)
      (contains-map (λ (y : WorldKey × WorldItem). (key_text other y.0, entry_meaning other y.1)) z.imports.entries e (get-contains z.imports.entries p e at))

  export-found : (p : ℕ) (e : WorldKey × WorldItem) → slice_get z.exports.entries p ≡ Some e
      → find text_cmp (key_text other e.0) (entries_meaning other z.exports.entries) ≡ Some (entry_meaning other e.1)
  export-found p e at = found-distinct (entries_meaning other z.exports.entries) (key_text other e.0) (entry_meaning other e.1) (exports-distinct other s.other_valid k z s.other_at)
      (contains-map (λ (y : WorldKey × WorldItem). (key_text other y.0, entry_meaning other y.1)) z.exports.entries e (get-contains z.exports.entries p e at))

  abbrev ImportsDiffer : Keyed → Keyed → Text → Type 0
  ImportsDiffer xs ys t = Differ entry_sense (find text_cmp t xs) (find text_cmp t ys)

  abbrev ExportsStand : Keyed → Keyed → Text → Type 0
  ExportsStand xs ys t = Stand (find text_cmp t xs) (find text_cmp t ys)

  module _ (p : ℕ) (e : WorldKey × WorldItem) (at : slice_get z.imports.entries p ≡ Some e) where
    abbrev OurImport : Option (Entry InterfaceMeaning)
    OurImport = find text_cmp (key_text other e.0) (entries_meaning own w.imports.entries)

    abbrev TheirImport : Option (Entry InterfaceMeaning)
    TheirImport = find text_cmp (key_text other e.0) (entries_meaning other z.imports.entries)

    abbrev DiffersAt : Option ℕ → Type 0
    DiffersAt o = OtherSense own other (option_map (place.Import (record { 0 = n })) o) (place.Import (record { 0 = k }) p)

    import-same : ImportFaults own other m n k w p e.0 ↔ Differ entry_sense OurImport TheirImport
    import-same = by (own_place_in m w.imports.entries e.0) refl
      where
        by : (o : Option ℕ) → own_place_in m w.imports.entries e.0 ≡ o → DiffersAt (own_place_in m w.imports.entries e.0) ↔ Differ entry_sense OurImport TheirImport
        by None f =
            let none = no-own-entry own other s.own_valid s.other_valid m s.matched w.imports.entries (import-key own s.own_valid n w s.own_at) e.0
            (import-key other s.other_valid k z s.other_at e (get-contains z.imports.entries p e at)) f in
            ((λ x. absurd (subst DiffersAt f x)), (λ x. absurd (subst (λ (o : Option (Entry InterfaceMeaning)). Differ entry_sense o TheirImport) none x)))
        by (Some q) f =
            let h = own-entry own other s.own_valid s.other_valid m s.matched w.imports.entries (import-key own s.own_valid n w s.own_at) e.0
            (import-key other s.other_valid k z s.other_at e (get-contains z.imports.entries p e at)) q f in
            let by_place = differ-as of_import one-import (sense_of own (place.Import (record { 0 = n }) q)) (sense_of other (place.Import (record { 0 = k }) p))
            (entry_sense (entry_meaning own h.entry.1)) (entry_sense (entry_meaning other e.1))
            (import-sensed-at own (record { 0 = n }) w s.own_at q h.entry h.stands) (import-sensed-at other (record { 0 = k }) z s.other_at p e at) in
            let by_key = known entry_sense OurImport TheirImport (entry_meaning own h.entry.1) (entry_meaning other e.1) h.found (import-found p e at) in
            subst (λ (o : Option ℕ). DiffersAt o ↔ Differ entry_sense OurImport TheirImport) (sym f) ((λ x. by_key.1 (by_place.0 x)), (λ x. by_place.1 (by_key.0 x)))

  module _ (p : ℕ) (e : WorldKey × WorldItem) (at : slice_get z.exports.entries p ≡ Some e) where
    abbrev OurExport : Option (Entry InterfaceMeaning)
    OurExport = find text_cmp (key_text other e.0) (entries_meaning own w.exports.entries)

    abbrev TheirExport : Option (Entry InterfaceMeaning)
    TheirExport = find text_cmp (key_text other e.0) (entries_meaning other z.exports.entries)

    export-same : ExportStands m w.exports.entries p e.0 ↔ Stand OurExport TheirExport
    export-same = by (own_place_in m w.exports.entries e.0) refl
      where
        by : (o : Option ℕ) → own_place_in m w.exports.entries e.0 ≡ o → (is_some (own_place_in m w.exports.entries e.0) ≡ true) ↔ Stand OurExport TheirExport
        by None f =
            let none = no-own-entry own other s.own_valid s.other_valid m s.matched w.exports.entries (export-key own s.own_valid n w s.own_at) e.0
            (export-key other s.other_valid k z s.other_at e (get-contains z.exports.entries p e at)) f in
            ((λ x. untrue (sym (ap is_some f) ∙ x)), (λ x. absurd (subst (λ (o : Option (Entry InterfaceMeaning)). Stand o TheirExport) none x)))
        by (Some q) f =
            let h = own-entry own other s.own_valid s.other_valid m s.matched w.exports.entries (export-key own s.own_valid n w s.own_at) e.0
            (export-key other s.other_valid k z s.other_at e (get-contains z.exports.entries p e at)) q f in
            ((λ x. both-stand OurExport TheirExport (entry_meaning own h.entry.1) (entry_meaning other e.1) h.found (export-found p e at)), (λ x. ap is_some f))

  imports-first : (o : Option Text) → IsFirstFault other z.imports.entries (ImportFaults own other m n k w) o → IsFirstIn B.bound.imports (ImportFault A B) o
  imports-first o h =
      let ours : A.bound.imports ≡ entries_meaning own w.imports.entries = ap (λ (x : Option World). (option_map_or (world_meaning own) x no_world).imports) s.own_at in
      let theirs : B.bound.imports ≡ entries_meaning other z.imports.entries = ap (λ (x : Option World). (option_map_or (world_meaning other) x no_world).imports) s.other_at in
      subst (λ (ys : Keyed). IsFirstIn ys (ImportsDiffer A.bound.imports ys) o) (sym theirs)
      (subst (λ (xs : Keyed). IsFirstIn (entries_meaning other z.imports.entries) (ImportsDiffer xs (entries_meaning other z.imports.entries)) o) (sym ours)
      (first-meant other z.imports.entries (ImportFaults own other m n k w) (ImportsDiffer (entries_meaning own w.imports.entries) (entries_meaning other z.imports.entries)) import-same
      (λ t g. second-differs entry_sense (find text_cmp t (entries_meaning own w.imports.entries)) (find text_cmp t (entries_meaning other z.imports.entries)) g) o h))

  exports-first : (o : Option Text) → IsFirstFault other z.exports.entries (ExportStands m w.exports.entries) o → IsFirstIn B.bound.exports (ExportFault A B) o
  exports-first o h =
      let ours : A.bound.exports ≡ entries_meaning own w.exports.entries = ap (λ (x : Option World). (option_map_or (world_meaning own) x no_world).exports) s.own_at in
      let theirs : B.bound.exports ≡ entries_meaning other z.exports.entries = ap (λ (x : Option World). (option_map_or (world_meaning other) x no_world).exports) s.other_at in
      subst (λ (ys : Keyed). IsFirstIn ys (ExportsStand A.bound.exports ys) o) (sym theirs)
      (subst (λ (xs : Keyed). IsFirstIn (entries_meaning other z.exports.entries) (ExportsStand xs (entries_meaning other z.exports.entries)) o) (sym ours)
      (first-meant other z.exports.entries (ExportStands m w.exports.entries) (ExportsStand (entries_meaning own w.exports.entries) (entries_meaning other z.exports.entries)) export-same
      (λ t g. second-stands (find text_cmp t (entries_meaning own w.exports.entries)) (find text_cmp t (entries_meaning other z.exports.entries)) g) o h))

pub faults_are_of_bindings : FaultsAreOfBindings
faults_are_of_bindings own other m n k w v s a b c d = search (std_rules, interface-forth, interface-back, world-forth, world-back, imports-first, exports-first)
