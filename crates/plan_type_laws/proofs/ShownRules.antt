-- What is shown of what was read obeys the rules.
use Rattle.plan_type_laws.proofs.{Walks.all_two, Walks.Held, Walks.two_held, KeptKinds.kinds_tell, InnerForms.name_there}
use Rattle.plan_type_laws.proofs.UsedWalk.{form_there, in_both, in_flat, one_there, unnamed_node, used_fine}
use Rattle.plan_type_laws.proofs.PartPlaces.{exported_place, key_place, no_names, parts_weaker, path_place}
use Rattle.std.proofs.Common.{rules as std_rules, ◌≡◌, refl, sym, ap, subst, ◌∙◌, ℕ, zero, suc, ◌+◌, ◌-◌, arith, Bool, true, false, not, ◌==◌, if◌then◌else◌, List, [], ◌∷◌, map, Option, Some, None, option_and_then, option_to_list, slice_get, ◌<◌, ◌&&◌, ◌||◌, ◌++◌}
use Rattle.std.proofs.{ByRecursion.All-weaker as recursion_weaker}
use Rattle.std.proofs.lemmas.{Option.same_Some as same-some, Option.slice_get_within, Slice.Zip.AllZip-long as zip_length, List.Folds.list_all-append}
use Rattle.std.specs.{Option.option_map_or, List.AllByRecursion, List.AllZip, List.flat_map, List.list_all, List.list_any}
use Rattle.wit_model.specs.declared.model.TypeOwner.{TypeOwner}
use Rattle.wit_model.specs.{Text.Text, Tree.Form, Tree.Place, Meaning.FunctionMeaning, Meaning.Signature, Names.PackageIdentity, Names.is_label, Names.path_in}
use Rattle.wit_model.specs.Uses.{has}
use Rattle.wit_model.proofs.Elements.{has-contains}
use Rattle.plan_meaning.proofs.NumberedRules.{shape_there}
use Rattle.plan_meaning.specs.{GatheredPlan.DeclaresKind, Shapes.Shape, Shapes.first_label, Shapes.named_shape, Shapes.node_shape}
use Rattle.plan_meaning.specs.KeptTypes.{IsKeptForm, alone, of_name}
use Rattle.plan_meaning.specs.{NumberedRules.is_form, NumberedRules.name_at, NumberedRules.name_in, NumberedRules.shape_at, Plan.Plan, Plan.PlannedType}
use Rattle.plan_meaning.specs.NumberedViews.{AllOf, AreTables, FunctionShape, PartsOf, Tables, function_at, IsPart, NumberedFunction, NumberedType, NumberedView, declaration_of, path_at, path_text, place_at, shown_function, shown_type, signature_at, view_of}
use Rattle.plan_meaning.specs.FollowedNumbers.{AreMembersIn, IsCalledIn, IsMetFrom, IsPartIn, IsScopeIn, IsSeenIn, IsShownIn, IsViewIn}
use Rattle.plan_meaning.specs.NumberedMembers.{Homes, HomesStand, IsMember, ShowsPart}
use Rattle.plan_meaning.specs.NumberedWorlds.{HasPath, Shows, key_of, place_of_key, seen_of, shown_of}
use Rattle.plan_parts.proofs.DeclaredKinds.{kinds_declared}
use Rattle.plan_parts.specs.{Kept.AreMarked, Marks.is_marked}
use Rattle.plan_types.specs.PlannedTypes.{PlansType, named as named_type, unnamed}
use Rattle.plan_types.specs.Showings.{NumberedShowing, showing_of, showings_of_import, showings_of_members, showings_of_part, showings_of_seen, showings_of_shown, showings_of_view, signatures_of_members, signatures_of_part, signatures_of_seen, signatures_of_shown, signatures_of_view}
use Rattle.plan_types.specs.Used.{declared_parts, form_parts, function_parts, showing_parts, signature_parts, used_parts, AreUsed}
use Rattle.plan_type_laws.specs.ShownForms.{EachForm, FindsShown, FormsHold, itself, inside}
use Rattle.plan_type_laws.specs.{ShownMarks.NamesSeen, ShownMarks.NamesShown, ShownMarks.PartNames, UsedParts.ShowingObeys, UsedParts.SignatureObeys}
use Rattle.plan_type_laws.specs.ShownRules.{NamesObeyRules, ShowingIsName, ShownObeysRules}
use Rattle.base_lemmas.proofs.{Elements.all_at, Elements.zip_at_right as zip_get, Elements.all_both, Bools.left_of as first_true, Bools.right_of as second_true}
use Rattle.comp_meaning.specs.{Follow.Scope, Follow.Seen, Follow.ShownType, Follow.View, Follow.interface_of, Follow.instance_place, Reads.Sight}
use Rattle.read_shown.specs.{Parts.PartStands, Trees.AllAt}
use Rattle.read_rules.specs.declared.{reached.ImportedView.ImportedView, scopes.Scope.Scope as NumberScope, scopes.Shown.Shown as NumberShown}
use Rattle.read_rules.specs.declared.scopes.Seen.{Seen as NumberSeen}
use Rattle.read_rules.specs.{Reached.numbered_import, Scopes.numbered_key, Scopes.numbered_scope, Scopes.numbered_seen, Scopes.numbered_shown}
use Rattle.read_rules.specs.{Tables.given_text, Views.numbered_view}
use Rattle.read_exports.specs.declared.members.{Member.Member, Part.Part}
use Rattle.read_exports.specs.Members.{numbered_member, numbered_members, numbered_part}
use Rattle.comp_meaning.specs.Reads as reads
use Rattle.comp_meaning.specs.Rules as rules
use Rattle.read_shown.specs.Scopes as scopes
use Rattle.read_rules.specs.declared.scopes.Shown.TheVariants as shown
use Rattle.read_exports.specs.declared.members.Part.TheVariants as parts

-- ---- What holds of each form that is shown holds of each form of the plan.

-- ---- marks

pub mark_there : (marks : List Bool) (n : ℕ) → slice_get marks n ≡ Some true → is_marked marks n ≡ true
mark_there [] n e = let wrong : None ≡ Some true = e in absurd cc
mark_there (m ∷ marks) zero e = same-some m true e
mark_there (m ∷ marks) (suc n) e = mark_there marks n e

-- the parts that a function takes and gives
pub function_part : (P : ℕ → Type 0) (f : FunctionShape) → PartsOf P f → (k : ℕ) → has (signature_parts f) k ≡ true → P k
function_part P f all k there = in_both (map (λ (x : Text × ℕ). x.1) f.params) (option_to_list f.result) k (params f.params all.0) (result f.result all.1) there
  where
    params : (xs : List (Text × ℕ)) → AllByRecursion (λ (x : Text × ℕ). P x.1) xs → has (map (λ (x : Text × ℕ). x.1) xs) k ≡ true → P k
    params [] ps there = let wrong : false ≡ true = there in absurd cc
    params (x ∷ xs) ps there = in_both (x.1 ∷ []) (map (λ (x : Text × ℕ). x.1) xs) k (λ one. subst P (one_there x.1 k one) ps.0) (params xs ps.1) there

    result : (r : Option ℕ) → AllOf P r → has (option_to_list r) k ≡ true → P k
    result None given there = let wrong : false ≡ true = there in absurd cc
    result (Some j) given there = subst P (one_there j k there) given

-- the shape of a part
pub numbered_shape : (t : Tables) (k : ℕ) (s : Shape) → shape_at t k ≡ Some s → (n : ℕ) × (k ≡ 14 + n) × (slice_get t.shapes n ≡ Some s)
numbered_shape t k s at = search std_rules

-- a form has no name
pub form_unnamed : (s : Shape) → not (s.sort == 0) ≡ true → name_in s ≡ None
form_unnamed s form = search std_rules

module _ (t : Tables) (tables : AreTables t) (P : Form → List ℕ → Type 0) where
  -- a part of a form of which it holds
  inner_form : (n : ℕ) (s : Shape) → slice_get t.shapes n ≡ Some s → name_in s ≡ None → EachForm t P (14 + n) → (k : ℕ) → has s.parts k ≡ true → EachForm t P k
  inner_form n s at no_name each k there =
      let node = form_there n s no_name (tables.shapes.each n s at) in
      let parts = node.1 in
      record {
        holds = λ m f ps within is. each.holds m f ps (inside (14 + n) n k m node.0 parts refl (at ∙ ap Some node.2)
            (has-contains parts k (sym (ap (λ (r : Shape). has r.parts k) node.2) ∙ there)) within) is;
      }

  -- what a name declares
  declared_form : (d : Option ℕ) → AllOf (EachForm t P) d → (k : ℕ) → has (declared_parts t d) k ≡ true → EachForm t P k
  declared_form None all k there = let wrong : false ≡ true = there in absurd cc
  declared_form (Some old) all k there = by (is_form t old) refl there
    where
      of_shape : (o : Option Shape) → shape_at t old ≡ o → option_map_or (λ (s : Shape). not (s.sort == 0)) o false ≡ true → has (option_map_or (λ (s : Shape). s.parts) o []) k ≡ true → EachForm t P k
      of_shape None e form there = let wrong : false ≡ true = form in absurd cc
      of_shape (Some s) e form there =
          let n = numbered_shape t old s e in
          inner_form n.0 s n.2 (form_unnamed s form) (subst (EachForm t P) n.1 all) k there

      by : (b : Bool) → is_form t old ≡ b → has (if b then form_parts t old else old ∷ []) k ≡ true → EachForm t P k
      by true form there = of_shape (shape_at t old) refl form there
      by false form there = subst (EachForm t P) (one_there old k there) all

  module _ (showings : List NumberedShowing) (are_names : AllByRecursion (λ (s : NumberedShowing). (x : ℕ × Text) × (name_at t s.part ≡ Some x)) showings) (signatures : List ℕ)
      (hold : FormsHold t P showings signatures) (marks : List Bool) (used : AreUsed t (used_parts t showings signatures) marks) where
    shown_form : (n : ℕ) (s : Shape) → slice_get t.shapes n ≡ Some s → name_in s ≡ None → has (flat_map (showing_parts t) showings) (14 + n) ≡ true → EachForm t P (14 + n)
    shown_form n s at no_name there = in_flat (showing_parts t) (λ x. ((y : ℕ × Text) × (name_at t x.part ≡ Some y)) × AllOf (EachForm t P) x.declared) (14 + n) one showings
        (all_two (λ x. (y : ℕ × Text) × (name_at t x.part ≡ Some y)) (λ x. AllOf (EachForm t P) x.declared) showings are_names hold.declared) there
      where
        one : (x : NumberedShowing) → ((y : ℕ × Text) × (name_at t x.part ≡ Some y)) × AllOf (EachForm t P) x.declared → has (showing_parts t x) (14 + n) ≡ true → EachForm t P (14 + n)
        one x (is, all) there = in_both (x.part ∷ []) (declared_parts t x.declared) (14 + n) (λ h.
            let wrong : None ≡ Some is.0 = sym (ap (name_at t) (one_there x.part (14 + n) h) ∙ (ap (option_and_then name_in) (shape_there t (14 + n) n s refl at) ∙ no_name)) ∙ is.1 in absurd cc)
            (declared_form x.declared all (14 + n)) there

    called_form : (n : ℕ) (s : Shape) → slice_get t.shapes n ≡ Some s → name_in s ≡ None → has (flat_map (function_parts t) signatures) (14 + n) ≡ true → EachForm t P (14 + n)
    called_form n s at no_name there =
        in_flat (function_parts t) (λ m. PartsOf (EachForm t P) (function_at t m)) (14 + n) (λ m all h. function_part (EachForm t P) (function_at t m) all (14 + n) h) signatures hold.called there

    -- a form that is used
    pub used_form : (n : ℕ) (s : Shape) → is_marked marks n ≡ true → slice_get t.shapes n ≡ Some s → name_in s ≡ None → EachForm t P (14 + n)
    used_form n s is at no_name = used_fine t tables (EachForm t P) inner_form showings signatures shown_form called_form marks used n s is at no_name

    module _ (kept : List ℕ) (are : AreMarked marks kept) (p : Plan) (owners : ℕ → TypeOwner) (find : ℕ → Option NumberedShowing) (finds : FindsShown showings find) (types : AllZip (PlansType t kept find owners) kept p.types) where
      -- what a name of the plan is shown as
      pub shown_kind : (j n : ℕ) (x : PlannedType) (q : ℕ) (name : Text) → slice_get p.types j ≡ Some x → slice_get kept j ≡ Some n → slice_get t.shapes n ≡ Some (named_shape q name)
          → (y : NumberedShowing) × (find n ≡ Some y) × DeclaresKind t kept p y.declared x.kind
      shown_kind j n x q name at stands there = by (zip_get (PlansType t kept find owners) kept p.types types j x at)
        where
          at_number : PlansType t kept find owners n x → (y : NumberedShowing) × (find n ≡ Some y) × DeclaresKind t kept p y.declared x.kind
          at_number (unnamed s s_at no_name a b c formed) =
              let wrong : ◌≡◌ {A = Option (ℕ × Text)} None (Some (q, name)) = sym no_name ∙ ap name_in (same-some s (named_shape q name) (sym s_at ∙ there)) in absurd cc
          at_number (named_type s r other y s_at is first a b c kind) = (y, first, kinds_declared t tables kept p (zip_length (PlansType t kept find owners) kept p.types types) y.declared x.kind kind)

          by : (m : ℕ) × (slice_get kept j ≡ Some m) × PlansType t kept find owners m x → (y : NumberedShowing) × (find n ≡ Some y) × DeclaresKind t kept p y.declared x.kind
          by found = at_number (subst (λ m. PlansType t kept find owners m x) (same-some found.0 n (sym found.1 ∙ stands)) found.2)

      pub kept_forms : (n : ℕ) (form : Form) (parts : List ℕ) → IsKeptForm t kept p n → slice_get t.shapes n ≡ Some (node_shape form parts) → P form parts
      kept_forms n form parts (alone j x at stands) there =
          (used_form n (node_shape form parts) (mark_there marks n (are.among j n stands)) there (unnamed_node form parts)).holds n form parts (itself (14 + n) n refl) there
      kept_forms n form parts (of_name j m x q name at stands named_at kind) there =
          let y = shown_kind j m x q name at stands named_at in
          (subst (AllOf (EachForm t P)) (kinds_tell t tables kept p y.0.declared (Some (14 + n)) x.kind y.2 kind)
          (all_at (λ (s : NumberedShowing). AllOf (EachForm t P) s.declared) showings hold.declared y.0 (finds m y.0 y.1).0)).holds n form parts (itself (14 + n) n refl) there

-- ---- what is shown of what was read obeys the rules

module _ (t : Tables) (tables : AreTables t) where
  abbrev Hold : List NumberedShowing → List ℕ → Type 0
  Hold = Held (ShowingIsName t) (SignatureObeys t)

  -- ---- functions

  call_obeys : (p n : ℕ) (place : Place) → IsCalledIn t p n → rules.is_signature place (signature_at t n) ≡ true → SignatureObeys t n
  call_obeys p n place called obeys = record { place = place; range = parts_weaker (IsMetFrom t p) (IsPart t) (λ k met. met.range) (function_at t n) called.parts; obeys = obeys }

  abbrev is_function_of_any : Place → List Text → Text → Signature → Bool
  is_function_of_any place resources name f = is_label name || list_any (rules.is_function_of place name f) resources

  function_signature : (place : Place) (resources : List Text) (name : Text) (f : Signature) → rules.is_function place resources name f ≡ true → rules.is_signature place f ≡ true
  function_signature place resources name f h = first_true (rules.is_signature place f) (is_function_of_any place resources name f) h

  functions_obey : (p : ℕ) (place : Place) (resources : List Text) (fs : List (Text × NumberedFunction)) → AllByRecursion (λ (f : Text × NumberedFunction). IsCalledIn t p f.1.signature) fs
      → list_all (λ (f : Text × FunctionMeaning). rules.is_function place resources f.0 f.1.signature) (map (shown_function t) fs) ≡ true
      → AllByRecursion (SignatureObeys t) (map (λ (f : Text × NumberedFunction). f.1.signature) fs)
  functions_obey p place resources [] called h = tt
  functions_obey p place resources (f ∷ fs) called h = (
    call_obeys p f.1.signature place called.0 (function_signature place resources f.0 (signature_at t f.1.signature) (first_true _ _ h)),
    functions_obey p place resources fs called.1 (second_true _ _ h),
  )

  -- ---- types

  types_obey : (p : ℕ) (xs : List NumberedType) → AllByRecursion (IsShownIn t p) xs
      → list_all (λ (x : ShownType). is_label x.name && rules.is_declared (place_at t p) x.meaning.declaration) (map (shown_type t) xs) ≡ true → AllByRecursion (ShowingIsName t) (map showing_of xs)
  types_obey p [] is h = tt
  types_obey p (x ∷ xs) is h =
      let test = λ (x : ShownType). is_label x.name && rules.is_declared (place_at t p) x.meaning.declaration in
      ((search std_rules), types_obey p xs is.1 (second_true (test (shown_type t x)) (list_all test (map (shown_type t) xs)) h))

  -- ---- views

  view_obeys : (p : ℕ) (v : NumberedView) → IsViewIn t p v → (place : Place) → place ≡ place_at t p → rules.is_interface place (view_of t v) ≡ true → Hold (showings_of_view v) (signatures_of_view v)
  view_obeys p v within place same h =
      let resources = rules.resources_of (view_of t v).types in
      let both = first_true _ _ (ap (λ q. rules.is_interface q (view_of t v)) (sym same) ∙ h) in
      (types_obey p v.types within.types (first_true _ _ both), functions_obey p (place_at t p) resources v.functions within.functions (second_true _ _ both))

  -- ---- worlds

  module _ (home : ℕ) (no_path : path_at t home ≡ None) where
    name_obeys : (key : Text) (part : ℕ) (d : Option ℕ) (external_id : Option Text) → NamesShown t home key (shown.Declares part d)
        → IsSeenIn t home (record { key = key; shown = numbered_shown (shown.Declares part d); external_id = external_id })
        → (is_label key && rules.is_declared Place.here (declaration_of t d)) ≡ true → ShowingIsName t (record { part = part; declared = d; external_id = external_id })
    name_obeys key part d external_id named within h = record {
      number = named.0;
      home = home;
      name = key;
      part = named.1;
      there = named.2;
      behind = subst (λ n. AllOf (λ k. k < 14 + n) d) (tables.shapes.apart within.0 named.0 (named_shape home key) within.1.named named.2) within.1.behind;
      label = first_true (is_label key) (rules.is_declared Place.here (declaration_of t d)) h;
      obeys = ap (λ o. rules.is_declared (instance_place o) (declaration_of t d)) no_path ∙ second_true (is_label key) (rules.is_declared Place.here (declaration_of t d)) h;
    }

    item_obeys : (resources : List Text) (key : Text) (s : NumberShown) (external_id : Option Text) → IsSeenIn t home (record { key = key; shown = numbered_shown s; external_id = external_id })
        → NamesShown t home key s → rules.is_item resources key (shown_of t (numbered_shown s)) ≡ true → Hold (showings_of_shown s external_id) (signatures_of_shown s)
    item_obeys resources key (shown.Instance k v) external_id within named h =
        view_obeys (place_of_key (numbered_key k)) (numbered_view v) within.1 (instance_place (interface_of (key_of t (numbered_key k)))) (key_place t (numbered_key k) within.0) h
    item_obeys resources key (shown.Function n) external_id within named h = (tt, (call_obeys home n Place.here within (function_signature Place.here resources key (signature_at t n) h), tt))
    item_obeys resources key (shown.Declares part d) external_id within named h = ((name_obeys key part d external_id named within h, tt), tt)

    imports_obey : (earlier : List Seen) (ss : List NumberSeen) → AllByRecursion (IsSeenIn t home) (map numbered_seen ss) → AllByRecursion (NamesSeen t home) ss
        → rules.are_imports earlier (map (seen_of t) (map numbered_seen ss)) ≡ true → Hold (flat_map showings_of_seen ss) (flat_map signatures_of_seen ss)
    imports_obey earlier [] within named h = (tt, tt)
    imports_obey earlier (s ∷ ss) within named h =
        let x = seen_of t (numbered_seen s) in
        two_held (ShowingIsName t) (SignatureObeys t) (showings_of_seen s) (flat_map showings_of_seen ss) (signatures_of_seen s) (flat_map signatures_of_seen ss)
        (item_obeys (rules.resources_seen earlier) s.key.now s.shown (given_text s.external_id) within.0 named.0 (first_true _ _ h))
        (imports_obey (earlier ++ x ∷ []) ss within.1 named.1 (second_true _ _ h))

    exports_obey : (ss : List NumberSeen) → AllByRecursion (IsSeenIn t home) (map numbered_seen ss) → AllByRecursion (NamesSeen t home) ss
        → list_all (λ (s : Seen). rules.is_item [] s.key s.shown) (map (seen_of t) (map numbered_seen ss)) ≡ true → Hold (flat_map showings_of_seen ss) (flat_map signatures_of_seen ss)
    exports_obey [] within named h = (tt, tt)
    exports_obey (s ∷ ss) within named h = two_held (ShowingIsName t) (SignatureObeys t) (showings_of_seen s) (flat_map showings_of_seen ss) (signatures_of_seen s) (flat_map signatures_of_seen ss)
        (item_obeys [] s.key.now s.shown (given_text s.external_id) within.0 named.0 (first_true _ _ h)) (exports_obey ss within.1 named.1 (second_true _ _ h))

  world_obeys : (w : NumberScope) (scope : Scope) → Shows t (numbered_scope w) scope → scopes.ScopeStands scope → rules.is_world scope ≡ true → IsScopeIn t (numbered_scope w)
      → AllByRecursion (NamesSeen t w.home) w.imports.now
      → Hold (flat_map showings_of_seen w.imports.now ++ flat_map showings_of_seen w.exports.now) (flat_map signatures_of_seen w.imports.now ++ flat_map signatures_of_seen w.exports.now)
  world_obeys w scope is stands h within names =
      let two = first_true _ _ (first_true _ _ (first_true _ _ h)) in
      two_held (ShowingIsName t) (SignatureObeys t) (flat_map showings_of_seen w.imports.now) (flat_map showings_of_seen w.exports.now) (flat_map signatures_of_seen w.imports.now)
      (flat_map signatures_of_seen w.exports.now) (imports_obey w.home within.home [] w.imports.now within.imports names (ap (rules.are_imports []) (sym is.imports) ∙ first_true _ _ two))
      (exports_obey w.home within.home w.exports.now within.exports (no_names t w.home w.exports.now (subst (AllAt (λ n (s : Seen). scopes.is_type s.shown ≡ false)) is.exports stands.no_types))
      (ap (list_all (λ (s : Seen). rules.is_item [] s.key s.shown)) (sym is.exports) ∙ second_true _ _ two))

  -- ---- members

  abbrev may_be : Sight → Bool
  may_be s = rules.is_interface (Place.of_interface s.path) s.view

  abbrev imported : Text × View → Sight
  imported i = record { path = i.0; view = i.1; whole = false }

  views_obey : (is : List ImportedView) → AllByRecursion (λ (i : ℕ × NumberedView). HasPath t i.0 × IsViewIn t i.0 i.1) (map numbered_import is)
      → list_all may_be (map imported (map (λ (i : ℕ × NumberedView). (path_text t i.0, view_of t i.1)) (map numbered_import is))) ≡ true
      → AllByRecursion (ShowingIsName t) (flat_map showings_of_import is)
  views_obey [] within h = tt
  views_obey (i ∷ is) within h = all_both (ShowingIsName t) (showings_of_import i) (flat_map showings_of_import is)
      (view_obeys i.place (numbered_view i.view) within.0.1 (Place.of_interface (path_text t i.place)) (path_place t i.place within.0.0) (first_true _ _ h)).0
      (views_obey is within.1 (second_true _ _ h))

  module _ (h : Homes) (stand : HomesStand t h) (m : Member) (identity : PackageIdentity) (there : slice_get h.packages m.package_number ≡ Some identity) (name : Text)
      (under : name ≡ m.label.now) where
    part_obeys : (part : Part) (y : reads.Part) → ShowsPart t h (numbered_member m) (numbered_part part) y → PartStands y
        → list_all may_be (reads.sights (record { label = name; package_ = identity; part = y })) ≡ true → IsPartIn t (numbered_part part) → PartNames t part
        → Hold (showings_of_part part) (signatures_of_part part)
    part_obeys (parts.World w) (reads.Part.world scope) is stands may within names = world_obeys w scope is stands.stands stands.obeys within names
    part_obeys (parts.Interface p v imports) (reads.Part.interface view views) is stands may within names =
        let own : Sight = record { path = path_in identity name; view = view; whole = true } in
        let front = list_all may_be (map imported views) in
        let split : (front && list_all may_be (own ∷ [])) ≡ true = sym (list_all-append may_be (map imported views) (own ∷ [])) ∙ may in
        let shown = view_obeys p (numbered_view v) within.0.1 (Place.of_interface (path_in identity name)) (exported_place t h stand m identity there name under p is.path is.home)
        (ap (rules.is_interface (Place.of_interface (path_in identity name))) (sym is.shown) ∙ (first_true (may_be own) true (second_true front (list_all may_be (own ∷ [])) split))) in (
          all_both (ShowingIsName t) (flat_map showings_of_import imports.now) (showings_of_view (numbered_view v))
              (views_obey imports.now within.1 (ap (λ vs. list_all may_be (map imported vs)) (sym is.imported) ∙ first_true front (list_all may_be (own ∷ [])) split)) shown.0,
          shown.1,
        )
    part_obeys _ _ is stands may within names = absurd is

  members_obey : (h : Homes) → HomesStand t h → (ms : List Member) (members : List reads.Member) → AllZip (IsMember t h) (numbered_members ms) members
      → AllByRecursion (λ (x : reads.Member). PartStands x.part) members → list_all may_be (flat_map reads.sights members) ≡ true → AreMembersIn t (numbered_members ms)
      → AllByRecursion (λ (m : Member). PartNames t m.part) ms → Hold (showings_of_members ms) (signatures_of_members ms)
  members_obey h stand (m ∷ ms) [] zip stands may within names = absurd zip
  members_obey h stand (m ∷ ms) (x ∷ members) zip stands may within names =
      let split = sym (list_all-append may_be (reads.sights x) (flat_map reads.sights members)) ∙ may in
      two_held (ShowingIsName t) (SignatureObeys t) (showings_of_part m.part) (showings_of_members ms) (signatures_of_part m.part) (signatures_of_members ms)
      (part_obeys h stand m x.package_ zip.0.package_ x.label zip.0.label m.part x.part zip.0.part stands.0 (first_true _ _ split) within.0 names.0)
      (members_obey h stand ms members zip.1 stands.1 (second_true _ _ split) within.1 names.1)
  members_obey h stand _ _ zip stands may within names = (tt, tt)

  -- ---- what follows for each name

  name_is_shown : (s : NumberedShowing) → ShowingIsName t s → ShowingObeys t s
  name_is_shown s is = search (std_rules, name_there t s.part is.number is.home is.name is.part is.there, slice_get_within t.shapes is.number (named_shape is.home is.name) is.there)

pub shown_obeys : ShownObeysRules
shown_obeys t tables h stand ms members zip stands may within names = search (std_rules, members_obey, recursion_weaker, name_is_shown)

pub names_obey : NamesObeyRules
names_obey t tables showings are find finds p owners marks homes n q name s mark there found =
    let shown = finds n s found in
    let is = all_at (ShowingIsName t) showings are s shown.0 in
    let number : is.number ≡ n = omega (arith, is.part, shown.1) in
    let same : named_shape is.home is.name ≡ named_shape q name = same-some (named_shape is.home is.name) (named_shape q name) (sym is.there ∙ (ap (slice_get t.shapes) number ∙ there)) in
    let home : is.home ≡ q = ap (λ (x : Shape). x.number) same in
    record {
      label = subst (λ x. is_label x ≡ true) (ap (λ (x : Shape). first_label x.labels) same) is.label;
      behind = subst (λ m. AllOf (λ k. k < 14 + m) s.declared) number is.behind;
      obeys = subst (λ x. rules.is_declared (place_at t x) (declaration_of t s.declared) ≡ true) home is.obeys;
      home = homes n q name mark there;
    }
