-- There are marks that tell which of the names that are shown are resources.
use Rattle.plan_type_laws.proofs.{PartPlaces.slot_number, PartPlaces.parts_weaker, UsedWalk.unnamed_node, Walks.all_split, Walks.all_two, Walks.two_held}
use Rattle.plan_type_laws.proofs.PartKinds.{NameKinds, ViewKinds, PartKinds, SeenKinds, ShownKinds, member_kinds}
use Rattle.plan_type_laws.proofs.InnerForms.{form_range, handle_held, inner_names, inner_stands, name_alone, name_there, signature_parts_hold, view_part}
use Rattle.std.proofs.Common.{rules as std_rules, ◌≡◌, ◌⊎◌, inl, inr, refl, sym, ap, subst, ◌∙◌, ℕ, ◌+◌, ◌<◌, arith, Bool, true, false, not, List, [], ◌∷◌, map, Option, Some, None, option_and_then, slice_get, ◌==◌, filter, if◌then◌else◌, ◌++◌}
use Rattle.std.proofs.ByRecursion.{All-map as all_mapped, All-weaker as recursion_weaker}
use Rattle.std.proofs.lemmas.Bool.{and_from as both, eqb-true, not-true}
use Rattle.std.specs.{List.AllByRecursion, List.Contains, List.list_all, List.flat_map, Option.option_map_or}
use Rattle.wit_model.specs.{Text.Text, Tree.TypeDeclaration, Tree.Form, Tree.Place, Tree.Tree, Tree.children, Uses.has}
use Rattle.comp_meaning.specs.Follow.{instance_place}
use Rattle.read_shown.specs.{Kinds.OfKind, Kinds.kind_at, Trees.DeclarationStands, Trees.PartsStand, Trees.SignatureStands, Trees.TreeStands, Trees.is_handle}
use Rattle.plan_meaning.proofs.{Lists.no_true, ShapeLaws.PartView, ShapeLaws.is_name, ShapeLaws.is_node, ShapeLaws.is_primitive}
use Rattle.plan_meaning.proofs.NumberedRules.{no_shape, shape_there}
use Rattle.plan_meaning.specs.FollowedNumbers.{IsCalledIn, IsMetFrom, IsShownIn}
use Rattle.plan_meaning.specs.{KeptResources.FormIsMarked, Shapes.named_shape, Shapes.node_shape, PlanRules.is_handle_form, NumberedMembers.NumberedMember}
use Rattle.plan_meaning.specs.{NumberedRules.name_at, NumberedRules.name_in, NumberedWorlds.HasPath, NumberedWorlds.are_once, NumberedWorlds.place_of_key}
use Rattle.plan_meaning.specs.NumberedViews.{AllOf, AreTables, HasNameIn, IsPart, NumberedFunction, NumberedType, NumberedView, PartsOf, Tables, declaration_of, function_at, inside, itself, place_at, signature_at, tree_at}
use Rattle.plan_parts.specs.Interfaces.{slot_part}
use Rattle.plan_types.specs.Showings.{NumberedShowing, showing_of, showings_of_view, signatures_of_view, showings_of_import, showings_of_members, showings_of_part, showings_of_seen, showings_of_shown, signatures_of_members, signatures_of_part, signatures_of_seen, signatures_of_shown}
use Rattle.plan_type_laws.specs.ShownForms.{EachForm, HasNumberIn}
use Rattle.plan_type_laws.specs.ShownMarks.{IsMarkedAs, ShowingIsMarked, NamesAreMarked, has_no_path, places_of_part, places_of_seen, places_of_shown}
use Rattle.base_lemmas.proofs.{Elements.contains-later, Elements.get-contains, Elements.all_both, Numbers.apart_back, Numbers.same-number}
use Rattle.base_lemmas.proofs.{Bools.first_false, Bools.left_of as first_true, Bools.right_of as second_true, Bools.second_false, Lists.append_of_map}
use Rattle.read_rules.specs.declared.{reached.ImportedView.ImportedView, scopes.Seen.Seen, scopes.Shown.Shown as NumberShown}
use Rattle.read_rules.specs.{Scopes.numbered_key, Scopes.numbered_seen, Scopes.numbered_shown, Tables.given_text, Views.numbered_view}
use Rattle.read_exports.specs.declared.members.{Member.Member, Part.Part}
use Rattle.read_exports.specs.Members.{numbered_members, numbered_part}
use Rattle.plan_type_laws.specs.ShownForms as forms
use Rattle.read_rules.specs.declared.scopes.Shown.TheVariants as shown
use Rattle.read_exports.specs.declared.members.Part.TheVariants as parts

-- ---- The marks of names by their kinds: what is shown in one place is marked as it is shown.

same_handle : (form : Form) → is_handle_form form ≡ is_handle form
same_handle x = search std_rules

module _ (t : Tables) (tables : AreTables t) (kinds : Text → Text → Bool) (own_at : ℕ → Text → Bool) where
  -- whether the name of a place is a resource
  abbrev pub kind_of : ℕ × Text → Bool
  kind_of x = kind_at kinds (own_at x.0) (place_at t x.0) x.1

  abbrev pub marks : ℕ → Bool
  marks k = option_map_or kind_of (name_at t k) false

  mark_of_name : (k q : ℕ) (name : Text) → name_at t k ≡ Some (q, name) → marks k ≡ kind_of (q, name)
  mark_of_name k q name is = ap (λ o. option_map_or kind_of o false) is

  pub mark_of_primitive : (k : ℕ) → k < 14 → marks k ≡ false
  mark_of_primitive k low = ap (λ o. option_map_or kind_of (option_and_then name_in o) false) (no_shape t k low)

  pub mark_of_form : (n : ℕ) (form : Form) (parts : List ℕ) → slice_get t.shapes n ≡ Some (node_shape form parts) → marks (14 + n) ≡ false
  mark_of_form n form parts at = ap (λ o. option_map_or kind_of o false) (ap (option_and_then name_in) (shape_there t (14 + n) n (node_shape form parts) refl at) ∙ unnamed_node form parts)

  -- ---- what is claimed

  -- a type of values, whose forms are marked
  abbrev pub IsValue : ℕ → Type 0
  IsValue k = (marks k ≡ false) × EachForm t (FormIsMarked marks) k

  abbrev pub Shown : NumberedShowing → Type 0
  Shown s = ShowingIsMarked t marks s × AllOf (EachForm t (FormIsMarked marks)) s.declared

  abbrev pub Called : ℕ → Type 0
  Called n = PartsOf IsValue (function_at t n)

  abbrev pub AreShown : List NumberedShowing → List ℕ → Type 0
  AreShown showings signatures = AllByRecursion Shown showings × AllByRecursion Called signatures

  -- ---- kinds as they are seen from a place

  -- the names of the place have these kinds
  abbrev pub HasOwn : ℕ → (Text → Bool) → Type 0
  HasOwn p own = (name : Text) → kind_at kinds own (place_at t p) name ≡ kind_of (p, name)

  pub own_by_path : (p : ℕ) (own : Text → Bool) → HasPath t p → HasOwn p own
  own_by_path p own x name = ap (λ o. kind_at kinds own (instance_place o) name) x.1 ∙ sym (ap (λ o. kind_at kinds (own_at p) (instance_place o) name) x.1)

  module _ (p : ℕ) (own : Text → Bool) (has : HasOwn p own) where
    abbrev Kind : Place → Text → Bool → Type 0
    Kind = OfKind (kind_at kinds own)

    abbrev From : ℕ → Type 0
    From k = (q : ℕ) → HasNameIn t.shapes k q → (q ≡ p) ⊎ HasPath t q

    name_kind : (q : ℕ) → (q ≡ p) ⊎ HasPath t q → (name : Text) → kind_at kinds own (place_at t q) name ≡ kind_of (q, name)
    name_kind q (inl e) name = subst (λ (r : ℕ). kind_at kinds own (place_at t r) name ≡ kind_of (r, name)) (sym e) (has name)
    name_kind q (inr x) name = own_by_path q own x name

    -- a name that is met
    name_mark : (k n q : ℕ) (name : Text) → k ≡ 14 + n → slice_get t.shapes n ≡ Some (named_shape q name) → From k → kind_at kinds own (place_at t q) name ≡ marks k
    name_mark k n q name e at from = name_kind q (from q (itself k n q name e at)) name ∙ sym (mark_of_name k q name (name_there t k n q name e at))

    -- a type of values
    value_mark : (k : ℕ) → IsPart t k → From k → TreeStands Kind (tree_at t k) → marks k ≡ false
    value_mark k range from stands = by (view_part t tables k range)
      where
        by : PartView (place_at t) t.shapes tables.shapes k (tree_at t k) → marks k ≡ false
        by (is_primitive x small is number) = mark_of_primitive k small
        by (is_name n q name e at is) = sym (subst (TreeStands Kind) is stands ∙ name_mark k n q name e at from)
        by (is_node n form parts e at is low) = ap marks e ∙ mark_of_form n form parts at

    values_marked : (ks : List ℕ) → AllByRecursion (IsPart t) ks → AllByRecursion From ks → PartsStand Kind false (children (map (tree_at t) ks)) → list_all (λ k. not (marks k)) ks ≡ true
    values_marked [] range from stand = refl
    values_marked (k ∷ ks) range from stand = both (not (marks k)) (list_all (λ k. not (marks k)) ks) (ap not (value_mark k range.0 from.0 stand.0)) (values_marked ks range.1 from.1 stand.1)

    -- the resource of a handle
    handle_mark : (k : ℕ) → IsPart t k → From k → (place : Place) (name : Text) → tree_at t k ≡ Tree.named place name → Kind place name true → marks k ≡ true
    handle_mark k range from place name e met = by (view_part t tables k range)
      where
        by : PartView (place_at t) t.shapes tables.shapes k (tree_at t k) → marks k ≡ true
        by (is_primitive x small is number) = let wrong : Tree.named place name ≡ Tree.primitive x = sym e ∙ is in absurd cc
        by (is_name n q other en at is) =
            let same : Tree.named place name ≡ Tree.named (place_at t q) other = sym e ∙ is in
            let places : place ≡ place_at t q = cc in
            let names : name ≡ other = cc in
            sym ((met ∙ (λ i. kind_at kinds own (places i) (names i))) ∙ name_mark k n q other en at from)
        by (is_node n form parts en at is low) = let wrong : Tree.named place name ≡ Tree.node form (children (map (tree_at t) parts)) = sym e ∙ is in absurd cc

    -- ---- forms

    each_from_form : (n : ℕ) (form : Form) (parts : List ℕ) → slice_get t.shapes n ≡ Some (node_shape form parts) → From (14 + n) → AllByRecursion From parts
    each_from_form n form parts at from = by parts (λ k c q has. from q (inside (14 + n) n k q form parts refl at c has))
      where
        by : (ks : List ℕ) → ((k : ℕ) → Contains ks k → From k) → AllByRecursion From ks
        by [] all = tt
        by (k ∷ ks) all = (all k (get-contains (k ∷ ks) 0 k refl), by ks (λ j c. all j (contains-later k ks j c)))

    form_marked : (n : ℕ) (form : Form) (parts : List ℕ) → slice_get t.shapes n ≡ Some (node_shape form parts) → From (14 + n) → TreeStands Kind (Tree.node form (children (map (tree_at t) parts)))
        → FormIsMarked marks form parts
    form_marked n form parts at from stands = by (is_handle form) refl stands.1
      where
        range : AllByRecursion (IsPart t) parts
        range = form_range t tables n form parts at

        froms : AllByRecursion From parts
        froms = each_from_form n form parts at from

        by : (b : Bool) → is_handle form ≡ b → PartsStand Kind b (children (map (tree_at t) parts)) → FormIsMarked marks form parts
        by false e stand = record { handle = λ h. no_true (sym (same_handle form ∙ e) ∙ h); other = λ h. values_marked parts range froms stand }
        by true e stand =
            let held = handle_held t tables Kind parts stand in
            record {
              handle = λ h. ap (list_all marks) held.alone ∙ both (marks held.part) true
                  (handle_mark held.part (subst (AllByRecursion (IsPart t)) held.alone range).0 (subst (AllByRecursion From) held.alone froms).0 held.place held.name held.is held.met) refl;
              other = λ h. no_true (sym h ∙ (same_handle form ∙ e));
            }

    part_marked : (k : ℕ) → From k → TreeStands Kind (tree_at t k) → EachForm t (FormIsMarked marks) k
    part_marked k from stands = record {
      holds = λ n form parts within at. form_marked n form parts at (λ q named. from q (inner_names t tables k n q within named)) (inner_stands t tables Kind k n form parts stands within at);
    }

    -- ---- what is declared

    no_form : (k : ℕ) → k < 14 → EachForm t (FormIsMarked marks) k
    no_form k low = record { holds = λ n form parts within at. by n within }
      where
        by : {form : Form} {parts : List ℕ} (n : ℕ) → HasNumberIn t k n → FormIsMarked marks form parts
        by n (forms.itself i m e) = absurd (omega (arith, low, e))
        by n (forms.inside i m j l f ks e at c within) = absurd (omega (arith, low, e))

    pub record DeclaredIsMarked (b : Bool) (d : Option ℕ) : Type 0 where
      pub tells : (k : ℕ) → marks k ≡ b → IsMarkedAs marks k d
      pub inner : AllOf (EachForm t (FormIsMarked marks)) d

    declared_marked : (b : Bool) (d : Option ℕ) → AllOf (IsMetFrom t p) d → DeclarationStands Kind (declaration_of t d) b → DeclaredIsMarked b d
    declared_marked b None met stands = record { tells = λ k e. e ∙ stands; inner = tt }
    declared_marked b (Some old) met stands = by (view_part t tables old met.range)
      where
        by : PartView (place_at t) t.shapes tables.shapes old (tree_at t old) → DeclaredIsMarked b (Some old)
        by (is_primitive x small is number) =
            record { tells = λ k e. e ∙ (subst (λ y. DeclarationStands Kind (TypeDeclaration.type_ y) b) is stands ∙ sym (mark_of_primitive old small)); inner = no_form old small }
        by (is_name n q name en at is) = record {
          tells = λ k e. e ∙ (subst (λ y. DeclarationStands Kind (TypeDeclaration.type_ y) b) is stands ∙ name_mark old n q name en at met.names);
          inner = record { holds = λ m form parts within there. name_alone t tables old m (place_at t q) name form parts is within there };
        }
        by (is_node n form parts en at is low) =
            let kind = subst (λ y. DeclarationStands Kind (TypeDeclaration.type_ y) b) is stands in
            record { tells = λ k e. e ∙ (kind.0 ∙ sym (ap marks en ∙ mark_of_form n form parts at)); inner = part_marked old met.names (subst (TreeStands Kind) (sym is) kind.1) }

    -- ---- functions

    pub call_marked : (n : ℕ) → IsCalledIn t p n × SignatureStands Kind (signature_at t n) → Called n
    call_marked n called = signature_parts_hold t tables Kind (IsMetFrom t p) IsValue (λ k met stand. (value_mark k met.range met.names stand, part_marked k met.names stand)) (function_at t n)
        called.0.parts called.1

    -- ---- what is shown

    showing_marked : (s : NumberedShowing) (name : Text) → name_at t s.part ≡ Some (p, name) → AllOf (IsMetFrom t p) s.declared
        → DeclarationStands Kind (declaration_of t s.declared) (kind_at kinds own (place_at t p) name) → Shown s
    showing_marked s name is met stands =
        let declared = declared_marked (kind_at kinds own (place_at t p) name) s.declared met stands in
        (record { name = (p, name); is = is; marked = declared.tells s.part (mark_of_name s.part p name is ∙ sym (has name)) }, declared.inner)

    type_marked : (x : NumberedType) → IsShownIn t p x → DeclarationStands Kind (declaration_of t x.declared) (kind_at kinds own (place_at t p) x.name) → Shown (showing_of x)
    type_marked x is stands = showing_marked (showing_of x) x.name (name_there t (slot_part x.slot) is.number p x.name (slot_number t x.slot is.number is.slot) is.name.named) is.name.met stands

    pub name_marked : (key : Text) (part : ℕ) (d : Option ℕ) (external_id : Option Text) → NameKinds t kinds p own key part d → Shown (record { part = part; declared = d; external_id = external_id })
    name_marked key part d external_id names = showing_marked (record { part = part; declared = d; external_id = external_id }) key names.is names.met names.kind

  pub view_marked : (p : ℕ) (v : NumberedView) (k : ViewKinds t kinds p v) → HasOwn p k.own → AreShown (showings_of_view v) (signatures_of_view v)
  view_marked p v k has = (
    all_mapped Shown showing_of v.types (recursion_weaker (λ (x : NumberedType). IsShownIn t p x
        × DeclarationStands (OfKind (kind_at kinds k.own)) (declaration_of t x.declared) (kind_at kinds k.own (place_at t p) x.name)) (λ (x : NumberedType). Shown (showing_of x))
        (λ x is. type_marked p k.own has x is.0 is.1) v.types k.types),
    all_mapped Called (λ (f : Text × NumberedFunction). f.1.signature) v.functions
        (recursion_weaker (λ (f : Text × NumberedFunction). IsCalledIn t p f.1.signature × SignatureStands (OfKind (kind_at kinds k.own)) (signature_at t f.1.signature))
        (λ (f : Text × NumberedFunction). Called f.1.signature) (λ f is. call_marked p k.own has f.1.signature is) v.functions k.functions),
  )

-- ---- places and the kinds of their names

-- a place, and which of its names are resources
abbrev Frame : Type 0
Frame = ℕ × (Text → Bool)

-- the kinds of the first that has this number
abbrev own_in : List Frame → ℕ → Text → Bool
own_in [] q = λ name. false
own_in (f ∷ fs) q = if f.0 == q then f.1 else own_in fs q

module _ (test : ℕ → Bool) where
  abbrev places : List Frame → List ℕ
  places fs = filter test (map (λ (f : Frame). f.0) fs)

  abbrev Found : (ℕ → Text → Bool) → Frame → Type 0
  Found own f = test f.0 ≡ true → own f.0 ≡ f.1

  -- the place has another number, if it is asked about
  abbrev Differ : ℕ → Frame → Type 0
  Differ q f = test f.0 ≡ true → (q == f.0) ≡ false

  -- a place that stands once stands nowhere behind
  others_differ : (q : ℕ) (fs : List Frame) → has (places fs) q ≡ false → AllByRecursion (Differ q) fs
  others_differ q [] none = tt
  others_differ q (f ∷ fs) none = by (test f.0) refl none (others_differ q fs)
    where
      by : (b : Bool) → test f.0 ≡ b → has (if b then f.0 ∷ places fs else places fs) q ≡ false → (has (places fs) q ≡ false → AllByRecursion (Differ q) fs) → AllByRecursion (Differ q) (f ∷ fs)
      by true e none later = (λ h. apart_back f.0 q (first_false (f.0 == q) (has (places fs) q) none), later (second_false (f.0 == q) (has (places fs) q) none))
      by false e none later = ((λ h. let wrong : true ≡ false = sym h ∙ e in absurd cc), later none)

  -- a place that isn't asked about differs from those that are
  past : (p : ℕ) → test p ≡ false → (fs : List Frame) → AllByRecursion (Differ p) fs
  past p e [] = tt
  past p e (f ∷ fs) = search (std_rules, eqb-true, past p e fs)

  found_behind : (f : Frame) (fs : List Frame) → AllByRecursion (Differ f.0) fs → AllByRecursion (Found (own_in fs)) fs → AllByRecursion (Found (own_in (f ∷ fs))) fs
  found_behind f fs apart found = search (std_rules, recursion_weaker, both, all_two)

  -- each place without another of its number is found
  each_found : (fs : List Frame) → are_once (places fs) ≡ true → AllByRecursion (Found (own_in fs)) fs
  each_found [] once = tt
  each_found (f ∷ fs) once = ((λ h. ap (λ b. if b then f.1 else own_in fs f.0) (same-number f.0)), by (test f.0) refl once (each_found fs))
    where
      by : (b : Bool) → test f.0 ≡ b → are_once (if b then f.0 ∷ places fs else places fs) ≡ true → (are_once (places fs) ≡ true → AllByRecursion (Found (own_in fs)) fs)
          → AllByRecursion (Found (own_in (f ∷ fs))) fs
      by true e once later = found_behind f fs (others_differ f.0 fs (not-true (has (places fs) f.0) (first_true _ _ once))) (later (second_true _ _ once))
      by false e once later = found_behind f fs (past f.0 e fs) (later once)

-- ---- the frames of what is shown

module _ (t : Tables) (kinds : Text → Text → Bool) where
  abbrev frames_of_shown : (home : ℕ) (own : Text → Bool) (key : Text) (s : NumberShown) → ShownKinds t kinds home own key s → List Frame
  frames_of_shown home own key (shown.Instance k v) is = (place_of_key (numbered_key k), is.own) ∷ []
  frames_of_shown home own key _ is = []

  abbrev frames_of_seen : (home : ℕ) (own : Text → Bool) (ss : List Seen) → AllByRecursion (SeenKinds t kinds home own) ss → List Frame
  frames_of_seen home own [] all = []
  frames_of_seen home own (s ∷ ss) all = frames_of_shown home own s.key.now s.shown all.0 ++ frames_of_seen home own ss all.1

  abbrev frames_of_part : (part : Part) → PartKinds t kinds part → List Frame
  frames_of_part (parts.World w) is = (w.home, is.own) ∷ (frames_of_seen w.home is.own w.imports.now is.imports ++ frames_of_seen w.home is.own w.exports.now is.exports)
  frames_of_part (parts.Interface p v imports) is = []

  abbrev frames : (ms : List Member) → AllByRecursion (λ (m : Member). PartKinds t kinds m.part) ms → List Frame
  frames [] all = []
  frames (m ∷ ms) all = frames_of_part m.part all.0 ++ frames ms all.1

  places_shown : (home : ℕ) (own : Text → Bool) (key : Text) (s : NumberShown) (is : ShownKinds t kinds home own key s)
      → map (λ (f : Frame). f.0) (frames_of_shown home own key s is) ≡ places_of_shown (numbered_shown s)
  places_shown home own key x is = search std_rules

  places_seen : (home : ℕ) (own : Text → Bool) (ss : List Seen) (all : AllByRecursion (SeenKinds t kinds home own) ss)
      → map (λ (f : Frame). f.0) (frames_of_seen home own ss all) ≡ places_of_seen (map numbered_seen ss)
  places_seen home own [] all = refl
  places_seen home own (s ∷ ss) all = search (std_rules, append_of_map, places_shown, places_seen home own ss all.1)

  places_part : (part : Part) (is : PartKinds t kinds part) → map (λ (f : Frame). f.0) (frames_of_part part is) ≡ places_of_part (numbered_part part)
  places_part x is = search (std_rules, append_of_map, places_seen)

  places_are : (ms : List Member) (all : AllByRecursion (λ (m : Member). PartKinds t kinds m.part) ms)
      → map (λ (f : Frame). f.0) (frames ms all) ≡ flat_map (λ (m : NumberedMember). places_of_part m.part) (numbered_members ms)
  places_are [] all = refl
  places_are (m ∷ ms) all = append_of_map (λ (f : Frame). f.0) (frames_of_part m.part all.0) (frames ms all.1) ∙ λ i. places_part m.part all.0 i ++ places_are ms all.1 i

-- ---- what is shown

module _ (t : Tables) (tables : AreTables t) (kinds : Text → Text → Bool) (own_at : ℕ → Text → Bool) where
  abbrev Owned : Frame → Type 0
  Owned f = has_no_path t f.0 ≡ true → own_at f.0 ≡ f.1

  owned : (p : ℕ) (own : Text → Bool) → Owned (p, own) → HasOwn t tables kinds own_at p own
  owned p own found = search std_rules

  abbrev Holds : List NumberedShowing → List ℕ → Type 0
  Holds showings signatures = AreShown t tables kinds own_at showings signatures

  module _ (home : ℕ) (own : Text → Bool) (has_own : HasOwn t tables kinds own_at home own) where
    shown_held : (key : Text) (s : NumberShown) (external_id : Option Text) (is : ShownKinds t kinds home own key s) → AllByRecursion Owned (frames_of_shown t kinds home own key s is)
        → Holds (showings_of_shown s external_id) (signatures_of_shown s)
    shown_held key (shown.Instance k v) external_id is all = view_marked t tables kinds own_at (place_of_key (numbered_key k)) (numbered_view v) is (owned (place_of_key (numbered_key k)) is.own all.0)
    shown_held key (shown.Function n) external_id is all = (tt, (call_marked t tables kinds own_at home own has_own n is, tt))
    shown_held key (shown.Declares part d) external_id is all = ((name_marked t tables kinds own_at home own has_own key part d external_id is, tt), tt)

    seen_held : (ss : List Seen) (is : AllByRecursion (SeenKinds t kinds home own) ss) → AllByRecursion Owned (frames_of_seen t kinds home own ss is)
        → Holds (flat_map showings_of_seen ss) (flat_map signatures_of_seen ss)
    seen_held [] is all = (tt, tt)
    seen_held (s ∷ ss) is all =
        let split = all_split Owned (frames_of_shown t kinds home own s.key.now s.shown is.0) (frames_of_seen t kinds home own ss is.1) all in
        two_held (Shown t tables kinds own_at) (Called t tables kinds own_at) (showings_of_seen s) (flat_map showings_of_seen ss) (signatures_of_seen s) (flat_map signatures_of_seen ss)
        (shown_held s.key.now s.shown (given_text s.external_id) is.0 split.0) (seen_held ss is.1 split.1)

  imports_held : (is : List ImportedView) → AllByRecursion (λ (i : ImportedView). HasPath t i.place × ViewKinds t kinds i.place (numbered_view i.view)) is
      → AllByRecursion (Shown t tables kinds own_at) (flat_map showings_of_import is)
  imports_held [] all = tt
  imports_held (i ∷ is) all = all_both (Shown t tables kinds own_at) (showings_of_import i) (flat_map showings_of_import is)
      (view_marked t tables kinds own_at i.place (numbered_view i.view) all.0.1 (own_by_path t tables kinds own_at i.place all.0.1.own all.0.0)).0 (imports_held is all.1)

  part_held : (part : Part) (is : PartKinds t kinds part) → AllByRecursion Owned (frames_of_part t kinds part is) → Holds (showings_of_part part) (signatures_of_part part)
  part_held (parts.World w) is all =
      let split = all_split Owned (frames_of_seen t kinds w.home is.own w.imports.now is.imports) (frames_of_seen t kinds w.home is.own w.exports.now is.exports) all.1 in
      let has_own = owned w.home is.own all.0 in
      two_held (Shown t tables kinds own_at) (Called t tables kinds own_at) (flat_map showings_of_seen w.imports.now) (flat_map showings_of_seen w.exports.now)
      (flat_map signatures_of_seen w.imports.now) (flat_map signatures_of_seen w.exports.now)
      (seen_held w.home is.own has_own w.imports.now is.imports split.0) (seen_held w.home is.own has_own w.exports.now is.exports split.1)
  part_held (parts.Interface p v imports) is all =
      let view = view_marked t tables kinds own_at p (numbered_view v) is.view (own_by_path t tables kinds own_at p is.view.own is.home) in
      (all_both (Shown t tables kinds own_at) (flat_map showings_of_import imports.now) (showings_of_view (numbered_view v)) (imports_held imports.now is.imported) view.0, view.1)

  members_held : (ms : List Member) (is : AllByRecursion (λ (m : Member). PartKinds t kinds m.part) ms) → AllByRecursion Owned (frames t kinds ms is)
      → Holds (showings_of_members ms) (signatures_of_members ms)
  members_held [] is all = (tt, tt)
  members_held (m ∷ ms) is all =
      let split = all_split Owned (frames_of_part t kinds m.part is.0) (frames t kinds ms is.1) all in
      two_held (Shown t tables kinds own_at) (Called t tables kinds own_at) (showings_of_part m.part) (showings_of_members ms) (signatures_of_part m.part) (signatures_of_members ms)
      (part_held m.part is.0 split.0) (members_held ms is.1 split.1)

-- ---- marks

pub names_marked : NamesAreMarked
names_marked t tables h stand ms members zip stands has within placed =
    let kinds = has.kinds in
    let is = member_kinds t kinds h stand ms members zip stands.parts has.each within placed.names in
    let fs = frames t kinds ms is in
    let own_at = own_in fs in
    let held = members_held t tables kinds own_at ms is (each_found (has_no_path t) fs (ap (λ ps. are_once (filter (has_no_path t) ps)) (places_are t kinds ms is) ∙ placed.apart)) in
    let showings = showings_of_members ms in
    let signatures = signatures_of_members ms in
    let Form = EachForm t (FormIsMarked (marks t tables kinds own_at)) in
    record {
      marks = marks t tables kinds own_at;
      primitives = mark_of_primitive t tables kinds own_at;
      forms = mark_of_form t tables kinds own_at;
      names = recursion_weaker (Shown t tables kinds own_at) (ShowingIsMarked t (marks t tables kinds own_at)) (λ s h. h.0) showings held.0;
      inner = record {
        declared = recursion_weaker (Shown t tables kinds own_at) (λ (s : NumberedShowing). AllOf Form s.declared) (λ s h. h.1) showings held.0;
        called = recursion_weaker (Called t tables kinds own_at) (λ n. PartsOf Form (function_at t n)) (λ n h. parts_weaker (IsValue t tables kinds own_at) Form (λ k v. v.1) (function_at t n) h)
            signatures held.1;
      };
      values = recursion_weaker (Called t tables kinds own_at) (λ n. PartsOf (λ k. marks t tables kinds own_at k ≡ false) (function_at t n))
          (λ n h. parts_weaker (IsValue t tables kinds own_at) (λ k. marks t tables kinds own_at k ≡ false) (λ k v. v.0) (function_at t n) h) signatures held.1;
    }
