-- A plan that was made of what was followed means what that means.
use Rattle.std.proofs.Common.{rules as std_rules, ◌≡◌, refl, sym, ap, subst, ◌∙◌, ℕ, ◌+◌, ◌≤◌, arith, Bool, true, false, ◌==◌, List, [], ◌∷◌, length, map, Some, None, slice_get, ◌-◌, ◌<◌, inl, inr, nat_lt, cond, option_to_list, Option}
use Rattle.std.proofs.{lemmas.Bool.ltb-false, lemmas.Bool.ltb-true, lemmas.Bool.eq-eqb, ByRecursion.All-weaker as recursion_weaker}
use Rattle.std.proofs.lemmas.{List.Elements.Contains-append_left, List.Elements.Contains-append_right, Option.slice_get_within, Option.same_Some as same-some}
use Rattle.std.specs.{List.AllByRecursion, List.list_all, List.Contains, List.flat_map, List.AllZip, Prelude.not, Option.option_map_or}
use Rattle.wit_model.specs.{Text.Text, Tree.Form}
use Rattle.read_shown.specs.Trees.{count_true, is_formed}
use Rattle.plan_meaning.specs.{KeptResources.FormIsMarked, PlanRules.is_handle_form, FollowedNumbers.IsMetFrom, FollowedNumbers.IsShownIn, ReadFunctions.Beside}
use Rattle.plan_meaning.specs.{Shapes.Shape, Shapes.form_code, Shapes.node_shape, Shapes.IsShape, Shapes.named_shape, NumberedWorlds.place_of_key}
use Rattle.plan_meaning.specs.{NumberedMembers.Homes, NumberedMembers.NumberedMember, NumberedMembers.home_at, Renumbering.a_primitive, Renumbering.a_shape}
use Rattle.plan_meaning.specs.{Plan.Plan, Plan.PlannedPackage, Plan.package_in, GatheredPlan.IsGathered, GatheredPlan.WorldsListed, GatheredPlan.worlds_listed}
use Rattle.plan_meaning.specs.NumberedViews.{Tables, tree_at, AllOf, FunctionShape, IsPart, NumberedSight, NumberedType, PartsOf, function_at, NumberedView}
use Rattle.plan_meaning.specs.NumberedRules.{name_in, Fact, is_form, name_at, shape_at}
use Rattle.plan_meaning.specs.PlanMeaning.{plan_meaning}
use Rattle.plan_meaning.proofs.Lists.{no_true}
use Rattle.plan_meaning.proofs.{ShapeLaws.form_back, GatheredPlan.gathered_package_is_meant, KeptTypes.kept_types_pass, ReadWholes.read_package_plan_stands}
use Rattle.plan_parts.specs.Kept.{IsKeptPart}
use Rattle.plan_parts.specs.Kinds.{IsFormOver, given_count, has_count, shape_form, MayBeDeclared, nothing, over_parts, a_part}
use Rattle.plan_parts.specs.{Interfaces.IsFunctionOver, Interfaces.IsKeptSlot, Interfaces.slot_part, Marks.IsUsed, Marks.is_marked, Marks.marked, Marks.part}
use Rattle.read_exports.specs.declared.members.{Member.Member, Part.Part}
use Rattle.plan_types.specs.Showings.{showings_of_members, signatures_of_members, NumberedShowing, showing_of, signatures_of_shown, showings_of_shown}
use Rattle.plan_types.specs.PlannedTypes.{MayBePlanned, a_form, a_name}
use Rattle.plan_types.specs.Used.{declared_parts, form_parts, function_parts, showing_parts, signature_parts, used_parts}
use Rattle.plan_type_laws.specs.{ShownForms.EachForm, ShownForms.FormsHold, ShownForms.itself, ShownMarks.MarksStand}
use Rattle.plan_type_laws.proofs.{FormsObeyed.forms_hold, UsedWalk.form_there, UsedWalk.unnamed_node, PartPlaces.slot_number, ShownMarks.names_marked}
use Rattle.plan_type_laws.proofs.{FirstFound.firsts_found, ShownRules.form_unnamed, ShownRules.mark_there, ShownRules.numbered_shape, ShownRules.used_form}
use Rattle.plan_type_laws.proofs.InnerForms.{name_there}
use Rattle.plan_laws.specs.{ShownNames.IsInput, ShownNames.IsShownByPart, ShownNames.by_import, ShownNames.by_view, FirstViews.told, FirstViews.ViewsAreOrdered}
use Rattle.plan_laws.specs.{WholeTypes.IsRuledInput, WholeTypes.TypesAreWhole, ShownRules.TypeObeys, WholeCondition.ImportsAreBare, WholeCondition.PartIsBare}
use Rattle.plan_laws.specs.{ViewedInterfaces.views_read, WholePlan.IsWholeInput, WholePlan.PlanIsWhole, WorldItems.WorldsAreApart, WholeFunctions.beside_tables}
use Rattle.plan_laws.specs.Whole.{IsPackageInput}
use Rattle.base_lemmas.proofs.Bools.{left_of as first_true, right_of as second_true}
use Rattle.base_lemmas.proofs.Lists.{length_of_map, get_back as unmapped_get, mapped_get, within_there as slice_there}
use Rattle.base_lemmas.proofs.Elements.{all_at, contains-map, contains-one, map_from as from_map}
use Rattle.wit_model.proofs.Elements.{contains-flat, contains-get, contains-has}
use Rattle.read_exports.specs.Members.{numbered_member, numbered_members, numbered_part}
use Rattle.read_rules.specs.declared.scopes.{Scope.Scope, Seen.Seen, Shown.Shown}
use Rattle.read_rules.{specs.Scopes.numbered_instance, specs.Scopes.numbered_key, specs.Reached.numbered_import, specs.Tables.given_text}
use Rattle.plan_package.specs.PlanWhole.{AreKeptFor, IsKeptWhole, MayBeWhole, places_in, shown_first, PlansWhole}
use Rattle.plan_package.specs.{Views.views_of_members, Views.views_of_part, Views.whole_view, WholeInterfaces.ViewIsKept}
use Rattle.plan_package.specs.WholeWorlds.{SeenIsKept, SeenIsPlaced, ShownIsKept, ShownIsPlaced, WorldIsKept, WorldIsPlaced, worlds_in}
use Rattle.plan_package.specs.WholePackages.{IsMainPackage, PlansPackage, another, entries_from, the_main}
use Rattle.plan_laws.proofs.{ShownAlike.functions_alike, ShownNames.part_of_function as part_of, ShownNames.names_are_shown, Apart.whole_stands_apart}
use Rattle.plan_laws.proofs.{WholeReasonsForeign.there_marked, WholeTypes.package_there, WholeTypes.packages_are_ruled, WholeTypes.planned_types_are_whole}
use Rattle.plan_laws.proofs.{Gathered.foreign_gathered, Gathered.top_listed, Gathered.worlds_are_listed, MetNames.flat_cases, MetNames.within}
use Rattle.plan_laws.proofs.{Owned.found_there, Owned.view_met, ViewsAgree.seen_showing, ViewsAgree.seen_signature, ViewsAgree.shown_so, ViewsAgree.views_tell}
use Rattle.plan_laws.proofs.{WholePlan.plan_read, WorldKeys.world_member}
use Rattle.plan_laws.proofs.Sources.{Side, at_mapped, interface_views, mapped_cases, seen_sight, sight_of, view_among, world_in, member_view_in, all_of}
use Rattle.comp_meaning.specs.Reads as reads
use Rattle.plan_meaning.specs.Shapes as shapes
use Rattle.read_exports.specs.declared.members.Part.TheVariants as parts
use Rattle.read_rules.specs.declared.scopes.Shown.TheVariants as shown

-- ---- A form of what was followed has as many parts as it asks for, and a handle is of a type that is no primitive.

abbrev pub HasCount : Form → List ℕ → Type 0
HasCount form parts = has_count form (length parts) ≡ true

given_many : (cases : List (Text × Bool)) → count_true (map (λ (c : Text × Bool). c.1) cases) ≡ given_count cases
given_many [] = refl
given_many ((l, true) ∷ cases) = let rest = given_many cases in omega (arith, rest)
given_many ((l, false) ∷ cases) = given_many cases

module _ (t : Tables) where
  abbrev many : List ℕ → ℕ
  many parts = length (map (tree_at t) parts)

  same : (parts : List ℕ) (k : ℕ) → (many parts == k) ≡ true → (length parts == k) ≡ true
  same parts k h = ap (λ (l : ℕ). l == k) (sym (length_of_map (tree_at t) parts)) ∙ h

  form_counts : (form : Form) (parts : List ℕ) (n : ℕ) → slice_get t.shapes n ≡ Some (node_shape form parts) → is_formed form (map (tree_at t) parts) ≡ true → HasCount form parts
  form_counts x parts n at h = search (std_rules, same, second_true, given_many)

pub forms_count : (t : Tables) (h : Homes) (ms : List Member) (members : List reads.Member) → IsInput t h ms members → FormsHold t HasCount (showings_of_members ms) (signatures_of_members ms)
forms_count t h ms members input = forms_hold t input.tables HasCount (form_counts t) h ms members input.shown input.stand

-- ---- forms by their numbers

sorts : (form : Form) → (1 ≤ (form_code form).sort) × ((form_code form).sort ≤ 14)
sorts x = search std_rules

-- ---- a form over what is kept

module _ (t : Tables) (h : Homes) (ms : List Member) (members : List reads.Member) (input : IsInput t h ms members) (marks : MarksStand t (showings_of_members ms) (signatures_of_members ms)) where
  -- a resource is no primitive
  high_parts : (parts : List ℕ) → list_all marks.marks parts ≡ true → AllByRecursion (λ k. 14 ≤ k) parts
  high_parts [] h = tt
  high_parts (k ∷ parts) h = search (std_rules, second_true, ltb-false, no_true, ltb-true, first_true, high_parts parts (second_true (marks.marks k) (list_all marks.marks parts) h))

  pub form_over : (kept : List ℕ) (n : ℕ) (s : Shape) → slice_get t.shapes n ≡ Some s → name_in s ≡ None → EachForm t HasCount (14 + n) → EachForm t (FormIsMarked marks.marks) (14 + n)
      → AllByRecursion (IsKeptPart kept) s.parts → IsFormOver kept s
  form_over kept n s at none counts held parts = by (form_there n s none (input.tables.shapes.each n s at))
    where
      by : (form : Form) × (parts : List ℕ) × (s ≡ node_shape form parts) → IsFormOver kept s
      by (form, ks, e) =
          let there : slice_get t.shapes n ≡ Some (node_shape form ks) = at ∙ ap Some e in
          let is : shape_form s ≡ form = ap shape_form e ∙ form_back form in
          let own : s.parts ≡ ks = ap (λ (x : Shape). x.parts) e in
          record {
            low = subst (λ (x : Shape). 1 ≤ x.sort) (sym e) (sorts form).0;
            high = subst (λ (x : Shape). x.sort ≤ 14) (sym e) (sorts form).1;
            count = (λ i. has_count (is i) (length (own i))) ∙ counts.holds n form ks (itself (14 + n) n refl) there;
            parts = parts;
            handle = λ handles. subst (AllByRecursion (λ k. 14 ≤ k)) (sym own) (high_parts ks ((held.holds n form ks (itself (14 + n) n refl) there).handle (ap is_handle_form (sym is) ∙ handles)));
          }

-- ---- what the page is for

-- ---- A plan can be made of what was followed: all that is shown is over types that are used.

-- ---- parts of functions

parts_each : (P : ℕ → Type 0) (f : FunctionShape) → ((k : ℕ) → Contains (signature_parts f) k → P k) → PartsOf P f
parts_each P f each = (all_of _ _ (λ x c. each x.1 (Contains-append_left _ _ _ (contains-map (λ (y : Text × ℕ). y.1) _ x c))), result _ (λ k c. each k (Contains-append_right _ _ k c)))
  where
    result : (r : Option ℕ) → ((k : ℕ) → Contains (option_to_list r) k → P k) → AllOf P r
    result None one = tt
    result (Some k) one = one k (contains-one k)

-- a part of a function is one of these

module _ (t : Tables) (h : Homes) (known : ℕ → Fact) (n : ℕ) (ms : List Member) (members : List reads.Member) (given : IsPackageInput t h known n ms members) (bare : ImportsAreBare ms) where
  abbrev views : List NumberedSight
  views = views_of_members (numbered_members ms)

  abbrev showings : List NumberedShowing
  showings = showings_of_members ms

  abbrev signatures : List ℕ
  signatures = signatures_of_members ms

  ruled : IsRuledInput t h ms members
  ruled = packages_are_ruled t h known n ms members given

  marks : MarksStand t showings signatures
  marks = names_marked t given.input.tables h given.input.homes ms members given.input.shown given.input.stand given.kinds given.input.numbers given.placed

  -- ---- views by which a place is shown

  -- what shows types alone shows no functions
  alone : (s : NumberedSight) → Contains views s → s.whole ≡ false → s.view.functions ≡ []
  alone s c not_whole = let m = mapped_cases (λ (x : NumberedMember). views_of_part x.part) numbered_member ms s c in
      by m.0.part (at_mapped (λ (x : NumberedMember). PartIsBare x.part) numbered_member ms bare m.0 m.1) m.2
    where
      by : (a : Part) → PartIsBare (numbered_part a) → Contains (views_of_part (numbered_part a)) s → s.view.functions ≡ []
      by (parts.World w) all there = no_true (sym not_whole ∙ ap (λ (x : NumberedSight). x.whole) (sym (from_map whole_view (map numbered_instance w.instances.now) s there).2))
      by (parts.Interface q v imports) all there = elim (interface_views q v imports s there) [
        | inl i ↦ ap (λ (x : NumberedSight). x.view.functions) (sym i.2) ∙ at_mapped (λ (x : ℕ × NumberedView). x.1.functions ≡ []) numbered_import imports.now all i.0 i.1
        | inr own ↦ no_true (sym not_whole ∙ ap (λ (x : NumberedSight). x.whole) (sym own))
      ]

  -- a type of a view is shown
  type_shown : (s : NumberedSight) → Contains views s → (x : NumberedType) → Contains s.view.types x → (y : NumberedShowing) × Contains showings y × (y.part ≡ slot_part x.slot)
  type_shown s c x there =
      let so = shown_so t h ms members given.input given.placed.apart s c in
      let u = so.other in
      let from = from_map told u.view.types (told x) (subst (λ es. Contains es (told x))
      (views_tell t h ms members given.input given.placed.apart ruled.agree s u c so.among (sym so.place)) (contains-map told s.view.types x there)) in
      let z = from.0 in
      let a = all_at (IsShownIn t s.place) s.view.types (member_view_in t ms given.input.numbers s c).types x there in
      let b = all_at (IsShownIn t u.place) u.view.types (member_view_in t ms given.input.numbers u so.among).types z from.1 in (
        showing_of z,
        so.types z from.1,
        omega (
          arith,
          (given.input.tables.shapes.apart b.number a.number (named_shape s.place x.name)
              (b.name.named ∙ (λ i. Some (named_shape (so.place i) ((ap (λ (e : Text × (Option ℕ × Option Text)). e.0) from.2) i)))) a.name.named),
          slot_number t x.slot a.number a.slot,
          slot_number t z.slot b.number b.slot,
        ),
      )

  -- the parts of a type stand before it
  shape_parts : (m : ℕ) (s : Shape) → slice_get t.shapes m ≡ Some s → AllByRecursion (λ k. k < 14 + m) s.parts
  shape_parts m s at = search std_rules

  -- ---- what is kept

  module _ (kept : List ℕ) (kept_for : AreKeptFor t ms kept) where
    abbrev Used : ℕ → Type 0
    Used k = IsUsed (map (λ (s : Shape). s.parts) t.shapes) kept_for.used.roots k

    used_mark : (k : ℕ) → Used k → is_marked kept_for.marks k ≡ true
    used_mark k used = (kept_for.used.marked k).1 used

    part_kept : (k : ℕ) → ((m : ℕ) → k ≡ 14 + m → Used m) → IsKeptPart kept k
    part_kept k used = by (nat_lt k 14) refl
      where
        by : (b : Bool) → nat_lt k 14 ≡ b → IsKeptPart kept k
        by true e = (k, a_primitive (ltb-true k 14 e) refl)
        by false e =
            let number : k ≡ 14 + (k - 14) = omega (arith, ltb-false k 14 e) in
            let stands = kept_for.marked.stand (k - 14) (there_marked kept_for.marks (k - 14) (used_mark (k - 14) (used (k - 14) number))) in
            (14 + stands.0, a_shape (k - 14) stands.0 number stands.1 refl)

    root_kept : (k : ℕ) → Contains (used_parts t showings signatures) k → IsPart t k → IsKeptPart kept k
    root_kept k c range = part_kept k (λ m e. marked m (kept_for.used.shown m (omega (arith, range, e))
        ∙ contains-has (used_parts t showings signatures) (14 + m) (subst (Contains (used_parts t showings signatures)) e c)))

    -- ---- of what is shown

    showing_root : (y : NumberedShowing) → Contains showings y → (k : ℕ) → Contains (showing_parts t y) k → Contains (used_parts t showings signatures) k
    showing_root y c k there = Contains-append_left (flat_map (showing_parts t) showings) (flat_map (function_parts t) signatures) k (contains-flat (showing_parts t) showings y k c there)

    showing_is : (y : NumberedShowing) → Contains showings y → TypeObeys t y
    showing_is y c = all_at (TypeObeys t) showings ruled.rules.types y c

    showing_kept : (y : NumberedShowing) → Contains showings y → (14 ≤ y.part) × IsKeptPart kept y.part
    showing_kept y c =
        let is = showing_is y c in
        let at = is.part in
        (omega (arith, at), root_kept y.part (showing_root y c y.part (0, omega arith, refl)) (omega (arith, slice_get_within t.shapes is.number (named_shape is.place is.name) is.is.named, at)))

    signature_kept : (k : ℕ) → Contains signatures k → PartsOf (IsKeptPart kept) (function_at t k)
    signature_kept k c = parts_each (IsKeptPart kept) (function_at t k) (λ j there. root_kept j (Contains-append_right _ _ j (contains-flat (function_parts t) signatures k j c there))
        (part_of (IsPart t) (function_at t k) (all_at _ _ ruled.rules.signatures k c).range j there))

    -- ---- forms

    -- the parts of a type that is used
    inner_kept : (m : ℕ) (s : Shape) → slice_get t.shapes m ≡ Some s → Used m → AllByRecursion (IsKeptPart kept) s.parts
    inner_kept m s at used = all_of (IsKeptPart kept) s.parts (λ k c. part_kept k (λ i e. part m i s.parts used (mapped_get (λ (x : Shape). x.parts) t.shapes m s at) (subst (Contains s.parts) e c)))

    are_names : AllByRecursion (λ (y : NumberedShowing). (x : ℕ × Text) × (name_at t y.part ≡ Some x)) showings
    are_names = recursion_weaker (TypeObeys t) (λ (y : NumberedShowing). (x : ℕ × Text) × (name_at t y.part ≡ Some x))
        (λ y is. ((is.place, is.name), name_there t y.part is.number is.place is.name is.part is.is.named)) showings ruled.rules.types

    form_kept : (m : ℕ) (s : Shape) → slice_get t.shapes m ≡ Some s → name_in s ≡ None → Used m → MayBePlanned t kept (shown_first ms) m
    form_kept m s at none used =
        let mark = used_mark m used in
        a_form s at none (form_over t h ms members given.input marks kept m s at none
        (used_form t given.input.tables HasCount showings are_names signatures (forms_count t h ms members given.input) kept_for.marks kept_for.used m s mark at none)
        (used_form t given.input.tables (FormIsMarked marks.marks) showings are_names signatures marks.inner kept_for.marks kept_for.used m s mark at none) (inner_kept m s at used))

    -- ---- names

    may_declare : (y : NumberedShowing) → Contains showings y → MayBeDeclared t kept y.declared
    may_declare y c = by y.declared refl (showing_is y c).is.met (all_at _ _ (forms_count t h ms members given.input).declared y c) (all_at _ _ marks.inner.declared y c)
      where
        in_parts : (k : ℕ) → Contains (declared_parts t y.declared) k → Contains (used_parts t showings signatures) k
        in_parts k there = showing_root y c k (Contains-append_right (y.part ∷ []) (declared_parts t y.declared) k there)

        of_form : (k : ℕ) → y.declared ≡ Some k → is_form t k ≡ true → EachForm t HasCount k → EachForm t (FormIsMarked marks.marks) k → (o : Option Shape) → shape_at t k ≡ o
            → option_map_or (λ (s : Shape). not (s.sort == 0)) o false ≡ true → MayBeDeclared t kept (Some k)
        of_form k e form counts held None at is = no_true is
        of_form k e form counts held (Some s) at is =
            let number = numbered_shape t k s at in
            let inner : (j : ℕ) → Contains s.parts j → IsKeptPart kept j = λ j there.
            let below = all_at (λ i. i < 14 + number.0) s.parts (shape_parts number.0 s number.2) j there in
            root_kept j (in_parts j (subst (λ d. Contains (declared_parts t d) j) (sym e)
            (subst (λ b. Contains (cond b (form_parts t k) (k ∷ [])) j) (sym form) (subst (λ o. Contains (option_map_or (λ (x : Shape). x.parts) o []) j) (sym at) there))))
            (omega (arith, slice_get_within t.shapes number.0 s number.2, below)) in
            over_parts k s refl form at (form_over t h ms members given.input marks kept number.0 s number.2 (form_unnamed s is) (subst (EachForm t HasCount) number.1 counts)
            (subst (EachForm t (FormIsMarked marks.marks)) number.1 held) (all_of (IsKeptPart kept) s.parts inner))

        by : (d : Option ℕ) → y.declared ≡ d → AllOf (IsMetFrom t (showing_is y c).place) d → AllOf (EachForm t HasCount) d → AllOf (EachForm t (FormIsMarked marks.marks)) d → MayBeDeclared t kept d
        by None e met counts held = nothing refl
        by (Some k) e met counts held = which (is_form t k) refl
          where
            which : (b : Bool) → is_form t k ≡ b → MayBeDeclared t kept (Some k)
            which true form = of_form k e form counts held (shape_at t k) refl form
            which false fails = a_part k refl fails
                (root_kept k (in_parts k (subst (λ d. Contains (declared_parts t d) k) (sym e) (subst (λ b. Contains (cond b (form_parts t k) (k ∷ [])) k) (sym fails) (contains-one k)))) met.range)

    -- a name that is used is shown
    name_showing : (m q : ℕ) (name : Text) → slice_get t.shapes m ≡ Some (named_shape q name) → Used m → (y : NumberedShowing) × Contains showings y × (y.part ≡ 14 + m)
    name_showing m q name at used =
        let found = names_are_shown t h ms members given.input kept_for.marks kept_for.used m q name (used_mark m used) at in
        by found.0 found.1 found.2
      where
        by : (x : Member) → Contains ms x → IsShownByPart t x.part q m → (y : NumberedShowing) × Contains showings y × (y.part ≡ 14 + m)
        by x c (by_view shows) =
            let y = type_shown shows.sight (view_among ms x c shows.sight shows.among) shows.type_ shows.there in
            (y.0, y.1, y.2 ∙ slot_number t shows.type_.slot m shows.slot)
        by x c (by_import w is home imports) =
            let y : NumberedShowing = record { part = 14 + m; declared = imports.declared; external_id = given_text imports.seen.external_id } in (
              y,
              seen_showing t h ms members given.input given.placed.apart x c w is imports.seen (inl imports.among) y
                  (subst (λ k. Contains (showings_of_shown k (given_text imports.seen.external_id)) y) (sym imports.shown) (contains-one y)),
              refl,
            )

    type_kept : (m : ℕ) → Contains kept m → MayBePlanned t kept (shown_first ms) m
    type_kept m c =
        let j = contains-get kept m c in
        let used : Used m = (kept_for.used.marked m).0 (mark_there kept_for.marks m (kept_for.marked.among j.0 m j.1)) in
        let shape = slice_there t.shapes m (used_within m used) in
        by shape.0 shape.1 used (name_in shape.0) refl
      where
        used_within : (k : ℕ) → Used k → k < length t.shapes
        used_within k (marked i is) = (let root = within kept_for.used.roots i is in let many = kept_for.used.many in omega (arith, root, many))
        used_within k (part i j ks before at there) =
            let shape = unmapped_get (λ (s : Shape). s.parts) t.shapes i ks at in
            omega (arith, slice_get_within t.shapes i shape.0 shape.1, (all_at (λ x. x < 14 + i) ks (subst (AllByRecursion (λ x. x < 14 + i)) shape.2 (shape_parts i shape.0 shape.1)) (14 + j) there))

        by : (s : Shape) → slice_get t.shapes m ≡ Some s → Used m → (o : Option (ℕ × Text)) → name_in s ≡ o → MayBePlanned t kept (shown_first ms) m
        by s at used None none = form_kept m s at none used
        by s at used (Some x) is = of_shape (given.input.tables.shapes.each m s at)
          where
            of_shape : IsShape m s → MayBePlanned t kept (shown_first ms) m
            of_shape (shapes.a_node form ks e low) = let wrong : ◌≡◌ {A = Option (ℕ × Text)} None (Some x) = sym (unnamed_node form ks) ∙ (sym (ap name_in e) ∙ is) in absurd cc
            of_shape (shapes.a_name q name e) =
                let y = name_showing m q name (at ∙ ap Some e) used in
                let first = found_there (λ (z : NumberedShowing). 14 + m == z.part) showings y.0 y.1 (eq-eqb (14 + m) y.0.part (sym y.2)) in
                a_name s x.0 x.1 first.0 at is first.1 (may_declare first.0 ((firsts_found showings).0 m first.0 first.1).0)

    -- ---- views and worlds

    view_kept : (s : NumberedSight) → Contains views s → ViewIsKept t kept s.view
    view_kept s c = record {
      types = all_of (IsKeptSlot kept) s.view.types (λ x there.
          let y = type_shown s c x there in
          let is = showing_kept y.0 y.1 in
          (subst (λ k. 14 ≤ k) y.2 is.0, subst (IsKeptPart kept) y.2 is.1));
      functions = by s.whole refl;
    }
      where
        by : (b : Bool) → s.whole ≡ b → AllByRecursion (IsFunctionOver t kept) s.view.functions
        by true e =
            let so = shown_so t h ms members given.input given.placed.apart s c in
            all_of (IsFunctionOver t kept) s.view.functions
            (λ f there. signature_kept f.1.signature (so.functions e f (functions_alike t h known n ms members given s so.other c so.among (sym so.place) e (so.whole e) f there)))
        by false e = subst (AllByRecursion (IsFunctionOver t kept)) (sym (alone s c e)) tt

    world_kept : (w : Text × Scope) → Contains (worlds_in ms) w → WorldIsKept t kept w.1
    world_kept w c =
        let m = world_member ms w c in
        record {
          imports = all_of (SeenIsKept t kept) w.1.imports.now (λ s among. by m.0 m.1 m.2 s (inl among) s.shown refl);
          exports = all_of (SeenIsKept t kept) w.1.exports.now (λ s among. by m.0 m.1 m.2 s (inr among) s.shown refl);
        }
      where
        by : (m : Member) → Contains ms m → m.part ≡ parts.World w.1 → (s : Seen) → Side w.1 s → (x : Shown) → s.shown ≡ x → ShownIsKept t kept s.shown
        by m m_in is s side (shown.Instance key v) e = subst (ShownIsKept t kept) (sym e) tt
        by m m_in is s side (shown.Function f) e = subst (ShownIsKept t kept) (sym e)
            (signature_kept f (seen_signature t h ms members given.input given.placed.apart m m_in w.1 is s side f (subst (λ k. Contains (signatures_of_shown k) f) (sym e) (contains-one f))))
        by m m_in is s side (shown.Declares q d) e =
            let y : NumberedShowing = record { part = q; declared = d; external_id = given_text s.external_id } in
            subst (ShownIsKept t kept) (sym e) (showing_kept y (seen_showing t h ms members given.input given.placed.apart m m_in w.1 is s side y
            (subst (λ k. Contains (showings_of_shown k (given_text s.external_id)) y) (sym e) (contains-one y))))

    kept_whole : IsKeptWhole t ms kept
    kept_whole = record {
      types = all_of (MayBePlanned t kept (shown_first ms)) kept type_kept;
      views = all_of (λ (s : NumberedSight). ViewIsKept t kept s.view) views view_kept;
      worlds = all_of (λ (w : Text × Scope). WorldIsKept t kept w.1) (worlds_in ms) world_kept;
    }

  -- ---- places

  world_placed : (w : Text × Scope) → Contains (worlds_in ms) w → WorldIsPlaced (places_in ms) w.1
  world_placed w c =
      let m = world_member ms w c in
      record {
        imports = all_of (SeenIsPlaced (places_in ms)) w.1.imports.now (λ s among. by m.0 m.1 m.2 s (inl among) s.shown refl);
        exports = all_of (SeenIsPlaced (places_in ms)) w.1.exports.now (λ s among. by m.0 m.1 m.2 s (inr among) s.shown refl);
      }
    where
      by : (m : Member) → Contains ms m → m.part ≡ parts.World w.1 → (s : Seen) → Side w.1 s → (x : Shown) → s.shown ≡ x → ShownIsPlaced (places_in ms) s.shown
      by m m_in is s side (shown.Instance key v) e =
          let from = flat_cases (λ (x : NumberedMember). views_of_part x.part) (numbered_members ms) (sight_of key v)
          (seen_sight t ms m m_in w.1 is ((world_in t h ms members given.input m m_in w.1 is).good) s side key v e) in
          subst (ShownIsPlaced (places_in ms)) (sym e) (contains-has (places_in ms) (place_of_key (numbered_key key)) (view_met ms from.0 from.1 (sight_of key v) from.2))
      by m m_in is s side _ e = subst (ShownIsPlaced (places_in ms)) (sym e) tt

  parts_fall : (m : ℕ) (ks : List ℕ) → slice_get (map (λ (s : Shape). s.parts) t.shapes) m ≡ Some ks → AllByRecursion (λ k. k < 14 + m) ks
  parts_fall m ks at = let shape = unmapped_get (λ (s : Shape). s.parts) t.shapes m ks at in subst (AllByRecursion (λ k. k < 14 + m)) shape.2 (shape_parts m shape.0 shape.1)

  pub whole_may_be_planned : MayBeWhole t ms
  whole_may_be_planned = record { fall = parts_fall; kept = kept_whole; placed = all_of (λ (w : Text × Scope). WorldIsPlaced (places_in ms) w.1) (worlds_in ms) world_placed }

-- ---- a plan that was made of what was followed means what that means

module _ (t : Tables) (h : Homes) (known : ℕ → Fact) (n : ℕ) (ms : List Member) (members : List reads.Member) (given : IsPackageInput t h known n ms members) (input : IsWholeInput t h n ms) (p : Plan)
    (planned : PlansWhole t h.packages (home_at h) n ms p) (whole : TypesAreWhole t planned.kept ms p) where
  -- views in order, and worlds in places of their own
  apart : ViewsAreOrdered t ms × WorldsAreApart ms
  apart = whole_stands_apart t h known n ms members given input.rise

  abbrev b : Beside
  b = beside_tables known whole.marks.marks ms

  -- the package itself, and what it lists
  pub record IsMain : Type 0 where
    pub package_ : PlannedPackage
    pub there : package_in p n ≡ Some package_
    pub made : IsMainPackage input.identity (places_in ms) ms package_

  pub main : IsMain
  main =
      let found = package_there t h ms members (packages_are_ruled t h known n ms members given) n p planned n input.identity input.stands in
      by found.0 found.1 (planned.packages.each n found.0 found.1)
    where
      by : (k : PlannedPackage) → package_in p n ≡ Some k → PlansPackage h.packages n (places_in ms) ms (entries_from (home_at h) n 0 (places_in ms)) n k → IsMain
      by k at (the_main identity own there made) = search (std_rules, same-some)
      by k at (another identity other there made) = absurd (other refl)

  gathered : IsGathered t h n (numbered_members ms) p
  gathered = let foreign = foreign_gathered t h known n ms members given apart.0 p planned b refl in record {
    kept = planned.kept;
    keeps = (kept_types_pass t given.input.tables planned.kept p whole.types).0;
    main = main.package_;
    stands = ap (slice_get p.packages) planned.main ∙ main.there;
    identity = input.stands ∙ ap Some (sym main.made.is);
    interfaces = top_listed t h known n ms members given apart.0 p planned b refl main.package_.interfaces main.made.interfaces;
    worlds = subst (AllZip (WorldsListed t planned.kept p) (worlds_listed (numbered_members ms))) (sym main.made.worlds)
        (worlds_are_listed t h known n ms members given apart.0 apart.1 input.followed p planned whole);
    chosen = foreign.chosen;
    chosen_are = foreign.chosen_are;
    foreign = foreign.zip;
  }

  pub plan_meant : plan_meaning p ≡ reads.package_with input.identity members
  plan_meant = search (std_rules, gathered_package_is_meant, gathered, same-some, main)

pub plan_is_whole : PlanIsWhole
plan_is_whole t h known n ms members given input p planned fits =
    let whole = planned_types_are_whole t h ms members (packages_are_ruled t h known n ms members given) n p planned in
    let read = plan_read t h known n ms members given input p planned fits whole in
    record {
      whole = whole;
      read = read;
      plan = read_package_plan_stands t given.input.tables h given.input.homes planned.kept p (beside_tables known whole.marks.marks ms) (views_read ms) read;
      means = plan_meant t h known n ms members given input p planned whole;
    }
