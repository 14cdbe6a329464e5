-- The kind of each name of an interface, found in the first view that shows it, and of each name of a view's own place.
use Rattle.std.proofs.Common.{rules as std_rules, ◌≡◌, refl, sym, ap, subst, ◌∙◌, ℕ, zero, suc, Bool, true, false, cond, List, [], ◌∷◌, length, Option, Some, None, option_map, slice_get, unwrap_or}
use Rattle.wit_model.specs.{Text.Text, Text.text_eq, Tree.Place, Meaning.FunctionMeaning}
use Rattle.wit_model.proofs.{VersionLaws.same_text, TextLemmas.text_same}
use Rattle.comp_meaning.specs.Follow.{Slot, View, ShownType, Instance, find_type, instance_place}
use Rattle.read_shown.specs.{Views.named_slot, Views.ShowsName, Views.IsMetInView, Views.inside, Views.outside, Kinds.kind_at, Kinds.OfKind, Kinds.ViewHasKinds}
use Rattle.read_shown.specs.{Scopes.IsShownBefore, Trees.DeclarationStands, Trees.SignatureStands}
use Rattle.read_shown.proofs.{Views.shows_at, Wider.declaration_wider, Wider.signature_wider, Scopes.type_found}
use Rattle.read_shown.proofs.{Agreement.one_number, Agreement.Alike, Agreement.NamesDiffer, Lists.first_found, Lists.first_some, Lists.first_there}
use Rattle.read_shown.proofs.OneKind.{before_somewhere, kind_of_named, one_kind, slot_kind, AllStand, IsOfPath, IsShownSomewhere}
use Rattle.base_lemmas.proofs.Options.{some_is}

-- ---- in a list of types

-- the kind of the first type of this name
abbrev pub found_kind : List ShownType → Text → Option Bool
found_kind ts name = option_map slot_kind (find_type name ts)

type_there : (name : Text) (ts : List ShownType) (n : ℕ) (t : ShownType) → slice_get ts n ≡ Some t → t.name ≡ name → (s : Slot) × (find_type name ts ≡ Some s)
type_there name [] n t at is = absurd cc
type_there name (u ∷ ts) zero t at is = (u.slot, ap (λ b. cond b (Some u.slot) (find_type name ts)) (same_text name u.name (sym (ap (λ (x : ShownType). x.name) (some_is u t at) ∙ is))))
type_there name (u ∷ ts) (suc n) t at is = by (text_eq name u.name) (type_there name ts n t at is)
  where
    by : (b : Bool) → (s : Slot) × (find_type name ts ≡ Some s) → (s : Slot) × (cond b (Some u.slot) (find_type name ts) ≡ Some s)
    by true rest = (u.slot, refl)
    by false rest = rest

kind_there : (name : Text) (ts : List ShownType) (n : ℕ) (t : ShownType) → slice_get ts n ≡ Some t → t.name ≡ name → (c : Bool) × (found_kind ts name ≡ Some c)
kind_there name ts n t at is = let s = type_there name ts n t at is in (slot_kind s.0, ap (option_map slot_kind) s.1)

kind_is : (name : Text) (ts : List ShownType) (c : Bool) → found_kind ts name ≡ Some c → (n : ℕ) × (t : ShownType) × (slice_get ts n ≡ Some t) × (t.name ≡ name) × (slot_kind t.slot ≡ c)
kind_is name ts c e = search (std_rules, slot_kind, type_found, text_same, some_is)

-- ---- a view's own names

abbrev pub own_kind : View → Text → Bool
own_kind v name = unwrap_or (found_kind v.types name) false

pub own_is : (place : Place) (v : View) → NamesDiffer v → (count : ℕ) (name : Text) (b : Bool) → ShowsName place v count name b → b ≡ own_kind v name
own_is place v apart count name b s =
    let c = kind_there name v.types s.number s.shown s.at s.named in
    let t = kind_is name v.types c.0 c.1 in
    let number : s.number ≡ t.0 = one_number v apart s.number t.0 s.shown t.1 s.at t.2 (s.named ∙ sym t.3) in
    let same : s.shown ≡ t.1 = some_is s.shown t.1 (sym s.at ∙ (ap (λ i. slice_get v.types i) number ∙ t.2)) in
    sym (kind_of_named place name b) ∙ (ap slot_kind (sym s.slot) ∙ (ap (λ (x : ShownType). slot_kind x.slot) same ∙ (t.4 ∙ sym (ap (λ o. unwrap_or o false) c.1))))

-- ---- the names of interfaces

abbrev kind_shown : Text → Text → Instance → Option Bool
kind_shown path name x = by x.interface
  where
    by : Option Text → Option Bool
    by None = None
    by (Some p) = cond (text_eq path p) (found_kind x.view.types name) None

named_of : (path name : Text) (p : Option Text) (v : View) (c : Bool) → kind_shown path name (record { interface = p; view = v }) ≡ Some c → (p ≡ Some path) × (found_kind v.types name ≡ Some c)
named_of path name x v c e = search std_rules

module _ (parts : List (List Instance)) (stand : AllStand parts)
    (alike : (path : Text) (x y : Instance) → IsOfPath parts path x → IsOfPath parts path y → Alike x.view y.view)
    (once : (path : Text) (x : Instance) → IsOfPath parts path x → NamesDiffer x.view) where
  abbrev pub kinds : Text → Text → Bool
  kinds path name = unwrap_or (first_some (first_some (kind_shown path name)) parts) false

  -- what is found is shown
  found_at : (path name : Text) (c : Bool) (m : ℕ) (xs : List Instance) → slice_get parts m ≡ Some xs → (n : ℕ) (x : Instance) → slice_get xs n ≡ Some x → x.interface ≡ Some path
      → (k : ℕ) (t : ShownType) → slice_get x.view.types k ≡ Some t → t.name ≡ name → slot_kind t.slot ≡ c → IsShownSomewhere parts path name c
  found_at path name c m xs there n x at of_path k t e named kind =
      let st = (stand m xs there n x at).types k t e in
      let same : st.is_resource ≡ c = sym (kind_of_named (instance_place x.interface) t.name st.is_resource) ∙ (ap slot_kind (sym st.slot) ∙ kind) in
      record {
        instance_ = x;
        there = record { part = m; instances = xs; part_at = there; number = n; at = at; of_path = of_path };
        shows = shows_at (Place.of_interface path) x.view k t e name c named (st.slot ∙ (λ i. named_slot (instance_place (of_path i)) (named i) (same i)));
      }

  found_somewhere : (path name : Text) (c : Bool) → first_some (first_some (kind_shown path name)) parts ≡ Some c → IsShownSomewhere parts path name c
  found_somewhere path name c e =
      let part = first_found (first_some (kind_shown path name)) parts c e in
      let x = first_found (kind_shown path name) part.1 c part.3 in
      let named = named_of path name x.1.interface x.1.view c x.3 in
      let t = kind_is name x.1.view.types c named.1 in
      found_at path name c part.0 part.1 part.2 x.0 x.1 x.2 named.0 t.0 t.1 t.2 t.3 t.4

  -- what is shown somewhere is of the kind that is found
  pub kinds_are : (path name : Text) (b : Bool) → IsShownSomewhere parts path name b → b ≡ kinds path name
  kinds_are path name b w =
      let o = w.there in
      let c = kind_there name w.instance_.view.types w.shows.number w.shows.shown w.shows.at w.shows.named in
      let d = first_there (kind_shown path name) o.instances o.number w.instance_ c.0 o.at ((search std_rules) ∙ c.1) in
      let e = first_there (first_some (kind_shown path name)) parts o.part o.instances d.0 o.part_at d.1 in
      one_kind parts stand alike once path name b e.0 w (found_somewhere path name e.0 e.1) ∙ sym (ap (λ p. unwrap_or p false) e.1)

  -- ---- each view

  pub view_kinds : (m : ℕ) (xs : List Instance) → slice_get parts m ≡ Some xs → (n : ℕ) (x : Instance) → slice_get xs n ≡ Some x → NamesDiffer x.view → ViewHasKinds kinds xs n x
  view_kinds m xs there n x at apart = record { own = own_kind x.view; shown = shown; met = met; types = types; functions = functions }
    where
      inside_is : (o : Option Text) → x.interface ≡ o → (count : ℕ) (name : Text) (b : Bool) → ShowsName (instance_place x.interface) x.view count name b
          → b ≡ kind_at kinds (own_kind x.view) (instance_place o) name
      inside_is None is count name b s = own_is (instance_place x.interface) x.view apart count name b s
      inside_is (Some path) is count name b s = kinds_are path name b (record {
        instance_ = x;
        there = record { part = m; instances = xs; part_at = there; number = n; at = at; of_path = is };
        shows = shows_at (Place.of_interface path) x.view s.number s.shown s.at name b s.named (s.slot ∙ ap (λ o. named_slot (instance_place o) name b) is);
      })

      met : (count : ℕ) (place : Place) (name : Text) (b : Bool) → IsMetInView (IsShownBefore xs n) (instance_place x.interface) x.view count place name b
          → b ≡ kind_at kinds (own_kind x.view) place name
      met count place name b (inside here s) = inside_is x.interface refl count name b s ∙ ap (λ p. kind_at kinds (own_kind x.view) p name) (sym here)
      met count place name b (outside s) = kinds_are s.path name b (before_somewhere parts m xs there n place name b s) ∙ ap (λ p. kind_at kinds (own_kind x.view) p name) (sym s.stands)

      -- a type that is shown has the kind of its name
      kind_shown_at : (k : ℕ) (t : ShownType) (e : slice_get x.view.types k ≡ Some t)
          → ((stand m xs there n x at).types k t e).is_resource ≡ kind_at kinds (own_kind x.view) (instance_place x.interface) t.name
      kind_shown_at k t e = met (length x.view.types) (instance_place x.interface) t.name ((stand m xs there n x at).types k t e).is_resource (inside refl
          (shows_at (instance_place x.interface) x.view k t e t.name ((stand m xs there n x at).types k t e).is_resource refl ((stand m xs there n x at).types k t e).slot))

      shown : (k : ℕ) (t : ShownType) → slice_get x.view.types k ≡ Some t
          → t.slot ≡ named_slot (instance_place x.interface) t.name (kind_at kinds (own_kind x.view) (instance_place x.interface) t.name)
      shown k t e = ((stand m xs there n x at).types k t e).slot ∙ ap (named_slot (instance_place x.interface) t.name) (kind_shown_at k t e)

      types : (k : ℕ) (t : ShownType) → slice_get x.view.types k ≡ Some t
          → DeclarationStands (OfKind (kind_at kinds (own_kind x.view))) t.meaning.declaration (kind_at kinds (own_kind x.view) (instance_place x.interface) t.name)
      types k t e =
          let st = (stand m xs there n x at).types k t e in
          subst (DeclarationStands (OfKind (kind_at kinds (own_kind x.view))) t.meaning.declaration) (kind_shown_at k t e)
          (declaration_wider (IsMetInView (IsShownBefore xs n) (instance_place x.interface) x.view k) (OfKind (kind_at kinds (own_kind x.view))) (met k) t.meaning.declaration st.is_resource
          st.declared)

      functions : (k : ℕ) (f : Text × FunctionMeaning) → slice_get x.view.functions k ≡ Some f → SignatureStands (OfKind (kind_at kinds (own_kind x.view))) f.1.signature
      functions k f e = signature_wider (IsMetInView (IsShownBefore xs n) (instance_place x.interface) x.view (length x.view.types)) (OfKind (kind_at kinds (own_kind x.view)))
          (met (length x.view.types))
          f.1.signature ((stand m xs there n x at).functions k f e)
