-- Forms of what was followed are as definitions have them.
use Rattle.std.proofs.Common.{rules as std_rules, ◌≡◌, refl, sym, ap, subst, ◌∙◌, ℕ, Bool, true, false, ◌&&◌, List, [], ◌∷◌, map, length, Option, Some, None, option_map, slice_get, unwrap_or}
use Rattle.std.proofs.lemmas.{Bool.lt-ltb, Bool.and_from as both, List.Elements.Contains-append_left, List.Elements.Contains-append_right}
use Rattle.std.proofs.{ByRecursion.All-map as all_mapped, lemmas.Option.slice_get-map as get_of_map}
use Rattle.std.specs.{List.AllByRecursion, List.AllZip, List.Contains, List.flat_map, Option.option_map_or}
use Rattle.wit_model.specs.{Text.Text, Types.no_tree}
use Rattle.wit_model.specs.{Tree.TypeDeclaration, Tree.Form, Tree.Place, Tree.Tree, Meaning.FunctionMeaning, Names.PackageIdentity, Names.path_in, Rules.has_items}
use Rattle.wit_model.proofs.{Elements.contains-get, TreeLemmas.child_list_of_children as child_list_back}
use Rattle.comp_meaning.specs.Follow.{Instance, Scope, Seen, interface_of, is_filled, is_key, is_key_primitive, instance_place}
use Rattle.read_shown.specs.{Parts.PartStands, Parts.instances_of, Parts.named_instance, Scopes.IsMetInScope, Scopes.IsShownBefore, Scopes.ShownStands}
use Rattle.read_shown.specs.Trees.{AllAt, DeclarationStands, SignatureStands, TreeStands, is_formed}
use Rattle.read_shown.specs.Views.{IsMetInView, TypeStands, ViewStands}
use Rattle.plan_meaning.proofs.{Lists.no_true, ShapeLaws.PartView, ShapeLaws.is_name, ShapeLaws.is_node, ShapeLaws.is_primitive, ShapeLaws.part_front}
use Rattle.plan_meaning.specs.{NumberedMembers.Homes, NumberedMembers.IsMember, NumberedMembers.ShowsPart, PlanRules.is_form, PlanRules.is_key_part}
use Rattle.plan_meaning.specs.NumberedViews.{AllOf, AreTables, IsPart, NumberedFunction, NumberedView, PartsOf, Tables, declaration_of, function_at, path_text, place_at, shown_function, shown_type, signature_at, tree_at, view_of}
use Rattle.plan_meaning.specs.{NumberedWorlds.key_of, NumberedWorlds.seen_of, NumberedWorlds.shown_of, Shapes.node_shape, Shapes.primitives, Shapes.shape_trees}
use Rattle.read_rules.specs.declared.{reached.ImportedView.ImportedView, scopes.Seen.Seen as NumberSeen, scopes.Shown.Shown as NumberShown}
use Rattle.read_rules.specs.{Reached.numbered_import, Scopes.numbered_key, Scopes.numbered_seen, Scopes.numbered_shown, Tables.given_text, Views.numbered_view}
use Rattle.read_exports.specs.declared.members.{Member.Member, Part.Part}
use Rattle.read_exports.specs.Members.{numbered_member, numbered_members, numbered_part}
use Rattle.plan_types.specs.Showings.{NumberedShowing, showing_of, showings_of_import, showings_of_members, showings_of_part, showings_of_seen, showings_of_shown, showings_of_view, signatures_of_members, signatures_of_part, signatures_of_seen, signatures_of_shown, signatures_of_view}
use Rattle.plan_type_laws.proofs.InnerForms.{form_range, inner_stands, signature_parts_hold, view_part}
use Rattle.plan_type_laws.proofs.Walks.{all_any, all_flat, at_each, Held, all_held, two_held}
use Rattle.plan_type_laws.specs.{FormsObeyed.FormsAreObeyed, FormsObeyed.LengthsFit, MembersStand.MembersStand, MembersStand.all_instances}
use Rattle.plan_type_laws.specs.ShownForms.{EachForm, FormsHold}
use Rattle.base_lemmas.proofs.Bools.{left_of as first_true}
use Rattle.base_lemmas.proofs.{Elements.all_both, Elements.contains-one, Elements.get-contains, Lists.map_of_map, Lists.within_there as slice_there}
use Rattle.comp_meaning.specs.Reads as reads
use Rattle.read_shown.specs.Scopes as scopes
use Rattle.read_rules.specs.declared.scopes.Shown.TheVariants as shown
use Rattle.read_exports.specs.declared.members.Part.TheVariants as parts

module _ (t : Tables) (tables : AreTables t) (fit : LengthsFit t) where
  -- ---- forms

  key_part : (k : ℕ) → IsPart t k → is_key (tree_at t k) ≡ true → is_key_part k ≡ true
  key_part k range key = by (view_part t tables k range)
    where
      by : PartView (place_at t) t.shapes tables.shapes k (tree_at t k) → is_key_part k ≡ true
      by (is_primitive p small stands number) =
          let found = slice_there primitives k small in
          ap (λ o. option_map_or is_key_primitive o false) found.1 ∙ (sym (ap is_key
          (part_front (shape_trees (place_at t) t.shapes) k small ∙ ap (λ o. unwrap_or o no_tree) (get_of_map Tree.primitive primitives k ∙ ap (option_map Tree.primitive) found.1))) ∙ key)
      by (is_name n q x is at stands) = no_true (sym (ap is_key stands) ∙ key)
      by (is_node n f ks is at stands parts) = no_true (sym (ap is_key stands) ∙ key)

  filled : {A : Type 0} (xs : List A) (b : Bool) → (is_filled xs && b) ≡ true → has_items xs ≡ true
  filled x b h = search std_rules

  tuple_filled : (parts : List ℕ) → is_filled (map (tree_at t) parts) ≡ true → has_items parts ≡ true
  tuple_filled x h = search std_rules

  key_first : (parts : List ℕ) → AllByRecursion (IsPart t) parts → is_formed Form.map_of (map (tree_at t) parts) ≡ true → is_form Form.map_of parts ≡ true
  key_first x range h = search (std_rules, no_true, key_part, first_true)

  form_obeys : (form : Form) (parts : List ℕ) (n : ℕ) → slice_get t.shapes n ≡ Some (node_shape form parts) → is_formed form (map (tree_at t) parts) ≡ true → is_form form parts ≡ true
  form_obeys x parts n at h = search (std_rules, filled, both, first_true, lt-ltb, key_first, form_range, tuple_filled)

-- What holds of each form with its parts holds of each form that is shown.
module _ (t : Tables) (tables : AreTables t) (Obeys : Form → List ℕ → Type 0) (form_obeys : (form : Form) (parts : List ℕ) (n : ℕ) → slice_get t.shapes n ≡ Some (node_shape form parts) → is_formed form (map (tree_at t) parts) ≡ true → Obeys form parts) where
  -- ---- parts

  part_obeys : (Met : Place → Text → Bool → Type 0) (k : ℕ) → TreeStands Met (tree_at t k) → EachForm t Obeys k
  part_obeys Met k stands = record {
    holds = λ n form parts within at. form_obeys form parts n at (ap (is_formed form) (sym (child_list_back (map (tree_at t) parts))) ∙ (inner_stands t tables Met k n form parts stands within at).0);
  }

  declared_obeys : (Met : Place → Text → Bool → Type 0) (b : Bool) (d : Option ℕ) → DeclarationStands Met (declaration_of t d) b → AllOf (EachForm t Obeys) d
  declared_obeys Met b None stands = tt
  declared_obeys Met b (Some k) stands = by (tree_at t k) refl stands
    where
      by : (x : Tree) → tree_at t k ≡ x → DeclarationStands Met (TypeDeclaration.type_ x) b → EachForm t Obeys k
      by (Tree.primitive p) e stands = part_obeys Met k (subst (TreeStands Met) (sym e) tt)
      by (Tree.named place name) e stands = part_obeys (λ p n r. Unit {0}) k (subst (TreeStands (λ p n r. Unit {0})) (sym e) tt)
      by (Tree.node form ts) e stands = part_obeys Met k (subst (TreeStands Met) (sym e) stands.1)

  signature_obeys : (Met : Place → Text → Bool → Type 0) (n : ℕ) → SignatureStands Met (signature_at t n) → PartsOf (EachForm t Obeys) (function_at t n)
  signature_obeys Met n stands = signature_parts_hold t tables Met (λ k. Unit {0}) (EachForm t Obeys) (λ k any stand. part_obeys Met k stand) (function_at t n) (search (std_rules, all_any)) stands

  -- ---- views

  abbrev ShowingStands : NumberedShowing → Type 0
  ShowingStands s = AllOf (EachForm t Obeys) s.declared

  abbrev FunctionStands : ℕ → Type 0
  FunctionStands n = PartsOf (EachForm t Obeys) (function_at t n)

  view_types : (Outside : Place → Text → Bool → Type 0) (own : Place) (v : NumberedView) → ViewStands Outside own (view_of t v) → AllByRecursion ShowingStands (showings_of_view v)
  view_types Outside own v stands = all_mapped ShowingStands showing_of v.types
      (at_each (shown_type t) (TypeStands Outside own (view_of t v)) (λ x. Unit {0}) (λ x. ShowingStands (showing_of x)) v.types
      (λ n x any is. declared_obeys (IsMetInView Outside own (view_of t v) n) is.is_resource x.declared is.declared) (all_any v.types) stands.types)

  view_functions : (Outside : Place → Text → Bool → Type 0) (own : Place) (v : NumberedView) → ViewStands Outside own (view_of t v) → AllByRecursion FunctionStands (signatures_of_view v)
  view_functions Outside own v stands = all_mapped FunctionStands (λ (f : Text × NumberedFunction). f.1.signature) v.functions
      (at_each (shown_function t) (λ n (f : Text × FunctionMeaning). SignatureStands (IsMetInView Outside own (view_of t v) (length (view_of t v).types)) f.1.signature) (λ f. Unit {0})
      (λ (f : Text × NumberedFunction). FunctionStands f.1.signature) v.functions
      (λ n f any is. signature_obeys (IsMetInView Outside own (view_of t v) (length (view_of t v).types)) f.1.signature is) (all_any v.functions) stands.functions)

  -- ---- worlds

  abbrev AreHeld : List NumberedShowing → List ℕ → Type 0
  AreHeld = Held ShowingStands FunctionStands

  module _ (scope : Scope) (stands : scopes.ScopeStands scope) where
    seen_obeys : (n : ℕ) (s : NumberShown) (external_id : Option Text) → ShownStands scope.instances scope.imports n (shown_of t (numbered_shown s))
        → AreHeld (showings_of_shown s external_id) (signatures_of_shown s)
    seen_obeys n (shown.Instance key v) external_id is =
        let x : Instance = record { interface = interface_of (key_of t (numbered_key key)); view = view_of t (numbered_view v) } in
        let view = stands.instances is.0 x is.1 in (
          view_types (IsShownBefore scope.instances is.0) (instance_place x.interface) (numbered_view v) view,
          view_functions (IsShownBefore scope.instances is.0) (instance_place x.interface) (numbered_view v) view,
        )
    seen_obeys n (shown.Function m) external_id is = (tt, (signature_obeys (IsMetInScope scope.instances scope.imports n) m is, tt))
    seen_obeys n (shown.Declares part d) external_id is = ((declared_obeys (IsMetInScope scope.instances scope.imports n) is.0 d is.1, tt), tt)

    all_seen : (count : ℕ → ℕ) (ss : List NumberSeen) → AllAt (λ n (s : Seen). ShownStands scope.instances scope.imports (count n) s.shown) (map (seen_of t) (map numbered_seen ss))
        → AreHeld (flat_map showings_of_seen ss) (flat_map signatures_of_seen ss)
    all_seen count ss all = all_held ShowingStands FunctionStands showings_of_seen signatures_of_seen ss
        (at_each (λ (s : NumberSeen). seen_of t (numbered_seen s)) (λ n (s : Seen). ShownStands scope.instances scope.imports (count n) s.shown) (λ s. Unit {0})
        (λ (s : NumberSeen). AreHeld (showings_of_seen s) (signatures_of_seen s)) ss (λ n s any is. seen_obeys (count n) s.shown (given_text s.external_id) is) (all_any ss)
        (subst (AllAt (λ n (s : Seen). ShownStands scope.instances scope.imports (count n) s.shown)) (map_of_map (seen_of t) numbered_seen ss) all))

  -- ---- members

  -- an instance whose view is well-formed behind some of these
  abbrev StandsAmong : List Instance → Instance → Type 0
  StandsAmong all x = (n : ℕ) × ViewStands (IsShownBefore all n) (instance_place x.interface) x.view

  module _ (h : Homes) (all : List Instance) (m : Member) (label : Text) (identity : PackageIdentity) where
    part_obeys_all : (part : Part) (y : reads.Part) → ShowsPart t h (numbered_member m) (numbered_part part) y
        → ((x : Instance) → Contains (instances_of (record { label = label; package_ = identity; part = y })) x → StandsAmong all x)
        → PartStands y → AreHeld (showings_of_part part) (signatures_of_part part)
    part_obeys_all (parts.World w) (reads.Part.world scope) is views stands =
        let holds = stands.stands in
        let imports = all_seen scope holds (λ n. n) w.imports.now (subst (AllAt (λ n (s : Seen). ShownStands scope.instances scope.imports n s.shown)) is.imports holds.imports) in
        let exports = all_seen scope holds (λ n. length scope.imports) w.exports.now
        (subst (AllAt (λ n (s : Seen). ShownStands scope.instances scope.imports (length scope.imports) s.shown)) is.exports holds.exports) in
        two_held ShowingStands FunctionStands (flat_map showings_of_seen w.imports.now) (flat_map showings_of_seen w.exports.now) (flat_map signatures_of_seen w.imports.now)
        (flat_map signatures_of_seen w.exports.now) imports exports
    part_obeys_all (parts.Interface p v imports) (reads.Part.interface view views) is each_stands stands =
        let front = map named_instance views in
        let last : Instance = named_instance (path_in identity label, view) in
        let V = λ (n : ℕ) (x : Instance). StandsAmong all x in
        let own = each_stands last (Contains-append_right front (last ∷ []) last (contains-one last)) in
        let own_view = subst (ViewStands (IsShownBefore all own.0) (instance_place last.interface)) is.shown own.1 in
        let each : AllByRecursion (λ (i : ImportedView). AllByRecursion ShowingStands (showings_of_import i)) imports.now =
        at_each (λ (i : ImportedView). named_instance (path_text t i.place, view_of t (numbered_view i.view))) V (λ i. Unit {0})
        (λ (i : ImportedView). AllByRecursion ShowingStands (showings_of_import i)) imports.now
        (λ n i any is. view_types (IsShownBefore all is.0) (instance_place (Some (path_text t i.place))) (numbered_view i.view) is.1) (all_any imports.now)
        (subst (AllAt V) (ap (map named_instance) is.imported ∙ (map_of_map named_instance (λ (i : ℕ × NumberedView). (path_text t i.0, view_of t i.1)) (map numbered_import imports.now)
        ∙ map_of_map (λ (i : ℕ × NumberedView). named_instance (path_text t i.0, view_of t i.1)) numbered_import imports.now))
        (λ n x e. each_stands x (Contains-append_left front (last ∷ []) x (get-contains front n x e)))) in (
          all_both ShowingStands (flat_map showings_of_import imports.now) (showings_of_view (numbered_view v)) (all_flat ShowingStands showings_of_import imports.now each)
              (view_types (IsShownBefore all own.0) (instance_place last.interface) (numbered_view v) own_view),
          view_functions (IsShownBefore all own.0) (instance_place last.interface) (numbered_view v) own_view,
        )
    part_obeys_all _ _ is each_stands stands = absurd is

  members_obey : (h : Homes) (all : List Instance) (ms : List Member) (members : List reads.Member) → AllZip (IsMember t h) (numbered_members ms) members
      → ((x : Instance) → Contains (all_instances members) x → StandsAmong all x) → AllByRecursion (λ (x : reads.Member). PartStands x.part) members
      → AllByRecursion (λ (m : Member). AreHeld (showings_of_part m.part) (signatures_of_part m.part)) ms
  members_obey h all (m ∷ ms) [] zip each stand = absurd zip
  members_obey h all (m ∷ ms) (x ∷ members) zip each stand = (
    part_obeys_all h all m x.label x.package_ m.part x.part zip.0.part (λ y c. each y (Contains-append_left (instances_of x) (all_instances members) y c)) stand.0,
    members_obey h all ms members zip.1 (λ y c. each y (Contains-append_right (instances_of x) (all_instances members) y c)) stand.1,
  )
  members_obey h all _ _ zip each stand = tt

  pub forms_hold : (h : Homes) (ms : List Member) (members : List reads.Member) → AllZip (IsMember t h) (numbered_members ms) members → MembersStand members
      → FormsHold t Obeys (showings_of_members ms) (signatures_of_members ms)
  forms_hold h ms members zip stand =
      let all = all_instances members in
      let each = members_obey h all ms members zip (λ x c. let at = contains-get all x c in (at.0, stand.views at.0 x at.1)) stand.parts in
      let held = all_held ShowingStands FunctionStands (λ (m : Member). showings_of_part m.part) (λ (m : Member). signatures_of_part m.part) ms each in
      record { declared = held.0; called = held.1 }

pub forms_obeyed : FormsAreObeyed
forms_obeyed t tables fit h ms members zip stand = forms_hold t tables (λ form parts. is_form form parts ≡ true) (form_obeys t tables fit) h ms members zip stand
