-- What is matched is in range, and what a comparison says of it.
use Rattle.std.proofs.Common.{rules as std_rules, arith, ◌≡◌, ◌↔◌, ◌⊎◌, refl, sym, ap, subst, ◌∙◌, inl, inr, ℕ, ◌<◌, Bool, true, false, not, ◌&&◌, cond, List, [], ◌∷◌, map, length, get_or, Option, Some, None, option_map, option_and_then, is_some, IsTrue, lt-ltb, ltb-true, Result, IfOk, String}
use Rattle.std.proofs.Math.ListN.{length-map}
use Rattle.std.proofs.lemmas.{Option.slice_get_read, Option.slice_get-map, Option.same_Some as same-some, Bool.cases_order}
use Rattle.std.specs.{List.list_all, Map.lookup}
use Rattle.wit_model.specs.declared.model.{Interface.Interface, InterfaceId.InterfaceId, PackageId.PackageId, Resolve.Resolve, World.World, WorldId.WorldId}
use Rattle.wit_model.specs.declared.error.Error.{Error}
use Rattle.wit_model.specs.Lookup.{interface_at, interface_path, package_at, path_in_package, path_of_world, world_at}
use Rattle.wit_model.specs.{Rules.entries_in_range, Rules.in_list, Rules.package_number, Rules.passes, Valid.IsValid, Valid.is_place, Valid.numbers_in_range}
use Rattle.wit_model.specs.Text.{Text, optional_text, text_eq, text_of}
use Rattle.std.specs.declared.alloc.Global.{Global}
use Rattle.wit_model.proofs.{Entries.each_from_at, Entries.lists_pass, OnePath.found-in, OnePath.package-passes}
use Rattle.compat_meaning.specs.declared.place.Place.{Place}
use Rattle.compat_meaning.specs.Senses.{sense_of}
use Rattle.bind_meaning.proofs.Listed.{given as unpacked}
use Rattle.bind_match.specs.declared.matches.Matches.{Matches}
use Rattle.bind_match.specs.Matching.{home_in, interface_in, is_root_world, own_interface_of, own_world_of, world_in}
use Rattle.bind_clash.specs.Faults.{is_own_world_of, CrossingAt, CrossingOf, InterfaceDiffers, InterfaceFaultAt, IsLeastFault, IsMatched, OtherSense, WorldDiffers, WorldFaultAt}
use Rattle.bind_clash.proofs.LeastFaults.{one_fault, same_faults}
use Rattle.base_lemmas.proofs.{Bools.left_of as first_true, Bools.right_of as second_true, Numbers.false_true, Options.if_ok as in_ok}
use Rattle.compat_meaning.specs.declared.place.Place.TheVariants as place

-- ---- small words

value_passes : {K X : Type 0} (p : X → Bool) (test : K → Bool) (es : List (K × X)) (x : X) → list_all p (map (λ e. e.1) es) ≡ true → lookup test es ≡ Some x → p x ≡ true
value_passes p test [] x h e = let w : ⊥ = cc in absurd w
value_passes p test (d ∷ es) x h e = by (test d.0) refl e (λ g. value_passes p test es x (second_true (p d.1) _ h) g)
  where
    by : (b : Bool) → test d.0 ≡ b → cond b (Some d.1) (lookup test es) ≡ Some x → (lookup test es ≡ Some x → p x ≡ true) → p x ≡ true
    by true t g rest = ap p (sym (same-some d.1 x g)) ∙ first_true (p d.1) _ h
    by false t g rest = rest g

pub not_true : (b : Bool) → b ≡ false → IsTrue b → ⊥
not_true b e h = let w : true ≡ false = sym h ∙ e in let q : ⊥ = cc in q

-- ---- what is matched is there

module _ (r : Resolve) (v : IsValid r) (packages : List (Option PackageId)) (home : Option PackageId) (name : Text) where
  interface_in_range : (id : InterfaceId) → interface_in r packages home name ≡ Some id → in_list r.interfaces.items id.0 ≡ true
  unfolding numbers_in_range
  interface_in_range id e =
      let a = unpacked _ (home_in packages home) id e in
      let b = unpacked _ (package_at r a.0.0) id a.2 in
      let passed = package-passes numbers_in_range r v.rules.numbers_in_range a.0.0 b.0 b.1 in
      value_passes (λ (x : InterfaceId). in_list r.interfaces.items x.0) (λ k. text_eq name (text_of k)) b.0.interfaces.entries id (first_true _ _ (second_true (is_place a.0.0) _ passed)) b.2

  world_in_range : (id : WorldId) → world_in r packages home name ≡ Some id → in_list r.worlds.items id.0 ≡ true
  unfolding numbers_in_range
  world_in_range id e =
      let a = unpacked _ (home_in packages home) id e in
      let b = unpacked _ (package_at r a.0.0) id a.2 in
      let passed = package-passes numbers_in_range r v.rules.numbers_in_range a.0.0 b.0 b.1 in
      value_passes (λ (x : WorldId). in_list r.worlds.items x.0) (λ k. text_eq name (text_of k)) b.0.worlds.entries id (second_true _ _ (second_true (is_place a.0.0) _ passed)) b.2

kept_some : {X Y : Type 0} (f : X → Y) (o : Option X) (x : X) → o ≡ Some x → is_some (option_map f o) ≡ true
kept_some f o x e = ap (λ o. is_some (option_map f o)) e

pub interface_sensed : (r : Resolve) (id : InterfaceId) → in_list r.interfaces.items id.0 ≡ true → is_some (sense_of r (place.Interface id)) ≡ true
interface_sensed r id h = let x = found-in r.interfaces.items id.0 h in kept_some _ (interface_at r id.0) x.0 x.1

pub world_sensed : (r : Resolve) (id : WorldId) → in_list r.worlds.items id.0 ≡ true → is_some (sense_of r (place.World id)) ≡ true
world_sensed r id h = let x = found-in r.worlds.items id.0 h in kept_some _ (world_at r id.0) x.0 x.1

module _ (own other : Resolve) (v : IsValid own) (m : Matches) (h : IsMatched own other m) where
  pub interface_matched : (n : ℕ) (o : Option InterfaceId) → n < length other.interfaces.items → o ≡ get_or m.interfaces.items n o → (i : Interface) → interface_at other n ≡ Some i
      → own_interface_of own m.packages.items i ≡ o
  interface_matched n o lt is i at = search (std_rules, same-some, slice_get_read, length-map, slice_get-map)

  pub world_matched : (n : ℕ) (o : Option WorldId) → n < length other.worlds.items → o ≡ get_or m.worlds.items n o → (w : World) → world_at other n ≡ Some w → own_world_of own m.packages.items w ≡ o
  world_matched n o lt is w at = search (std_rules, same-some, slice_get_read, length-map, slice_get-map)

  pub interface_there : (n : ℕ) (o : Option InterfaceId) → n < length other.interfaces.items → o ≡ get_or m.interfaces.items n o → (id : InterfaceId) → o ≡ Some id
      → is_some (sense_of own (place.Interface id)) ≡ true
  interface_there n o lt is id e =
      let x = found-in other.interfaces.items n (lt-ltb n (length other.interfaces.items) lt) in
      let found = interface_matched n o lt is x.0 x.1 ∙ e in
      let a = unpacked _ x.0.name id found in
      interface_sensed own id (interface_in_range own v m.packages.items x.0.«package» (text_of a.0) id a.2)

  pub world_there : (n : ℕ) (o : Option WorldId) → n < length other.worlds.items → o ≡ get_or m.worlds.items n o → (id : WorldId) → o ≡ Some id → is_some (sense_of own (place.World id)) ≡ true
  world_there n o lt is id e =
      let x = found-in other.worlds.items n (lt-ltb n (length other.worlds.items) lt) in
      let found = world_matched n o lt is x.0 x.1 ∙ e in
      world_sensed own id (world_in_range own v m.packages.items x.0.«package» (text_of x.0.name) id found)

-- ---- what a comparison says

not_same : (P : Type 0) (y : Bool) → (IsTrue y ↔ P) → IsTrue (not y) ↔ (P → ⊥)
not_same x y h = search std_rules

pub other_sense : (r s own other : Resolve) → r ≡ own → s ≡ other → (p q : Place) (y : Bool) → (IsTrue y ↔ (sense_of r p ≡ sense_of s q)) → (o : Option Place) → o ≡ Some p → IsTrue (not y)
    ↔ OtherSense own other o q
other_sense r s own other e f p q y h o g = search std_rules

pub none_other : (own other : Resolve) (q : Place) (o : Option Place) → o ≡ None → IsTrue false ↔ OtherSense own other o q
none_other own other q o g = subst (λ (o : Option Place). IsTrue false ↔ OtherSense own other o q) (sym g) ((λ h. false_true h), (λ h. absurd h))

-- ---- a fault of one path

pub path_fault : (F : Text → Type 0) (o : Option Text) → ((t : Text) → o ≡ Some t → F t) → ((t : Text) → F t → o ≡ Some t) → IsLeastFault F o
path_fault F None f g = λ t h. let e = g t h in let w : ⊥ = cc in absurd w
path_fault F (Some t) f g = one_fault F t (f t refl) (λ s h. sym (same-some t s (g s h)))

pub not_root : (r : Resolve) (n : ℕ) (x w : World) → n < length r.worlds.items → x ≡ get_or r.worlds.items n x → world_at r n ≡ Some w → is_root_world r x ≡ false → is_root_world r w ≡ false
not_root r n x w lt is at e = ap (is_root_world r) (same-some w x (sym at ∙ slice_get_read r.worlds.items _ n x refl lt is)) ∙ e

pub with_root : (b : Bool) → b ≡ false → (y : Bool) (P : Type 0) → (IsTrue y ↔ P) → IsTrue y ↔ ((b ≡ false) × P)
with_root b e y P h = ((λ t. (e, h.0 t)), λ p. h.1 p.1)

module _ (own other : Resolve) (m : Matches) (n : ℕ) (i : Interface) (at : interface_at other n ≡ Some i) where
  pub interface_fault : IsTrue (is_own_world_of own m i) ⊎ InterfaceDiffers own other m n i → (r : Result (Option (String Global)) Error) → IfOk r (λ p. optional_text p ≡ interface_path other n)
      → IfOk r (λ p. IsLeastFault (InterfaceFaultAt own other m n) (optional_text p))
  interface_fault fault r h = search (std_rules, in_ok, path_fault)

  pub interface_faultless : is_own_world_of own m i ≡ false → (InterfaceDiffers own other m n i → ⊥) → (t : Text) → InterfaceFaultAt own other m n t → ⊥
  interface_faultless absent none t h = search std_rules

-- ---- numbers fit

pub world_fits : (r : Resolve) → IsValid r → (n : ℕ) → n < length r.worlds.items → n < 4294967296
unfolding numbers_in_range
world_fits r v n lt = elim (cases_order n 4294967295) [
  | inl same ↦ omega (arith, same)
  | inr (inl less) ↦ omega (arith, less)
  | inr (inr more) ↦
      let in_list_ : 4294967295 < length r.worlds.items = omega (arith, lt, more) in
      let x = found-in r.worlds.items 4294967295 (lt-ltb 4294967295 (length r.worlds.items) in_list_) in
      let passed = each_from_at (numbers_in_range.world_ r) 0 r.worlds.items 4294967295 x.0 (lists_pass numbers_in_range r v.rules.numbers_in_range).2 x.1 in
      absurd (false_true (first_true (is_place 4294967295) (passes (in_list r.packages.items) (package_number x.0.«package»)
      && (entries_in_range r x.0.imports.entries && entries_in_range r x.0.exports.entries)) passed))
]

-- the package of a world is there
pub home_there : (r : Resolve) → IsValid r → (n : ℕ) (w : World) → world_at r n ≡ Some w → passes (in_list r.packages.items) (package_number w.«package») ≡ true
unfolding numbers_in_range
home_there r v n w at = search (std_rules, each_from_at, lists_pass, first_true, second_true)

-- ---- worlds

pub crossing_fault : (own other : Resolve) (m : Matches) (w : World) (home : PackageId) → w.«package» ≡ Some home → (t : Text) → path_in_package other home.0 (text_of w.name) ≡ Some t
    → is_root_world other w ≡ false → is_some (interface_in own m.packages.items w.«package» (text_of w.name)) ≡ true → IsLeastFault (CrossingOf own other m w) (Some t)
crossing_fault own other m w home inside t path root found =
    let e : path_of_world other w ≡ Some t = ap (option_and_then (λ (p : PackageId). path_in_package other p.0 (text_of w.name))) inside ∙ path in
    one_fault (CrossingOf own other m w) t (e, root, found) (λ s h. same-some s t (sym h.0 ∙ e))

pub crossing_at : (own other : Resolve) (m : Matches) (n : ℕ) (w : World) → world_at other n ≡ Some w → (o : Option Text) → IsLeastFault (CrossingOf own other m w) o
    → IsLeastFault (CrossingAt own other m n) o
crossing_at own other m n w at o h =
    same_faults (CrossingOf own other m w) (CrossingAt own other m n) (λ t f. (w, at, f)) (λ t f. subst (λ (x : World). CrossingOf own other m x t) (same-some f.0 w (sym f.1 ∙ at)) f.2) o h

pub world_fault : (own other : Resolve) (m : Matches) (n : ℕ) (w : World) → world_at other n ≡ Some w → (home : PackageId) → w.«package» ≡ Some home → (t : Text)
    → path_in_package other home.0 (text_of w.name) ≡ Some t → WorldDiffers own other m n w → IsLeastFault (WorldFaultAt own other m n) (Some t)
world_fault own other m n w at home inside t path d =
    let e : path_of_world other w ≡ Some t = ap (option_and_then (λ (p : PackageId). path_in_package other p.0 (text_of w.name))) inside ∙ path in
    one_fault (WorldFaultAt own other m n) t (w, at, e, d) (λ s h. same-some s t (sym h.2 ∙ ap (path_of_world other) (same-some h.0 w (sym h.1 ∙ at)) ∙ e))

pub home_below : (r : Resolve) → IsValid r → (n : ℕ) (w : World) → world_at r n ≡ Some w → (home : PackageId) → w.«package» ≡ Some home → home.0 < length r.packages.items
home_below r v n w at home inside = ltb-true home.0 (length r.packages.items) (ap (λ (p : Option PackageId). passes (in_list r.packages.items) (package_number p)) (sym inside) ∙ home_there r v n w at)
