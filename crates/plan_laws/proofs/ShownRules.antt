-- What is shown obeys the rules of reading.
use Rattle.plan_type_laws.proofs.{PartPlaces.slot_number, PartPlaces.parts_weaker, Walks.all_unmapped}
use Rattle.std.proofs.Common.{◌≡◌, subst, ℕ, ◌+◌, inl, List, Option, rules as std_rules, refl, sym, ap, ◌∙◌, zero, suc, ◌⊎◌, inr, arith, Bool, true, false, ◌&&◌, ◌||◌, [], ◌∷◌, ◌++◌, map}
use Rattle.std.proofs.lemmas.{Slice.Eq.bytes_eq-Decides, List.Elements.Contains-append_cases}
use Rattle.std.specs.List.{Contains, AllByRecursion, list_all, list_any}
use Rattle.wit_model.specs.{Text.Text, Text.text_eq, Names.is_label, Meaning.FunctionMeaning, Meaning.Signature, Tree.Place, Tree.TypeDeclaration}
use Rattle.plan_meaning.specs.FollowedNumbers.{IsNameOf, IsPartIn, IsShownIn, IsMetFrom, IsViewIn}
use Rattle.plan_meaning.specs.NumberedViews.{AreTables, Tables, IsPart, NumberedFunction, NumberedSight, NumberedType, declaration_of, function_at, place_at, shown_function, shown_type, signature_at, view_of}
use Rattle.plan_meaning.specs.NumberedMembers.{Homes, IsKnownSight, NumberedMember, are_interfaces, sights_of_members, sights_of_part}
use Rattle.plan_meaning.specs.{Shapes.named_shape, NumberedWorlds.NumberedSeen, NumberedWorlds.instance_of, NumberedWorlds.seen_of, NumberedWorlds.shown_of}
use Rattle.plan_meaning.specs.NumberedRules.{Fact}
use Rattle.read_rules.specs.declared.scopes.{Scope.Scope, Seen.Seen, Shown.Shown}
use Rattle.read_exports.specs.Members.{numbered_part, numbered_member, numbered_members}
use Rattle.read_exports.specs.declared.members.{Member.Member, Part.Part}
use Rattle.plan_types.specs.Showings.{NumberedShowing, showings_of_members, showing_of, signatures_of_members}
use Rattle.plan_laws.specs.ShownNames.{DeclaresName, IsInput, PartDeclaresNames}
use Rattle.plan_laws.specs.ShownRules.{PartObeys, RulesAreObeyed, ShownObeysRules, TypeObeys, ViewObeys}
use Rattle.plan_laws.proofs.Sources.{origin, part_at, side_good, view_in, IsWorldIn, Side, among_mapped, imported_showing, mapped_cases, signed, world_in, all_of}
use Rattle.plan_laws.proofs.MetNames.{flat_cases}
use Rattle.base_lemmas.proofs.Elements.{all_at, all-contained, contains-later, contains-map, last_of as one-contained, map_from as from_map}
use Rattle.base_lemmas.proofs.Bools.{left_of as first_true, right_of as second_true}
use Rattle.wit_model.proofs.Elements.{none-in}
use Rattle.comp_meaning.specs.{Follow.Direction, Follow.Instance, Follow.export_, Follow.import_, Follow.interface_of, Follow.instance_place, Rules.distinct}
use Rattle.read_shown.specs.{Instances.going, Instances.instances_in, Parts.WorldStands}
use Rattle.plan_meaning.proofs.NumberedRules.{interface_same}
use Rattle.read_rules.specs.{Scopes.numbered_instance, Scopes.numbered_seen, Scopes.numbered_shown, Tables.given_text}
use Rattle.plan_package.specs.Views.{views_of_members, views_of_part, whole_view}
use Rattle.plan_type_laws.specs.UsedParts.{SignatureObeys}
use Rattle.comp_meaning.specs.Reads as reads
use Rattle.read_rules.specs.declared.scopes.Shown.TheVariants as shown
use Rattle.read_exports.specs.declared.members.Part.TheVariants as parts
use Rattle.plan_laws.proofs.Sources as sources
use Rattle.comp_meaning.specs.Follow as follow
use Rattle.comp_meaning.specs.Rules as rules
use Rattle.read_shown.specs.Instances as shown_instances

-- ---- Each type that is shown is a name of the table, behind what it is declared as.

module _ (t : Tables) (tables : AreTables t) where
  -- the name whose type is shown
  pub record IsNamed (y : NumberedShowing) : Type 0 where
    pub place : ℕ
    pub name : Text
    pub number : ℕ
    pub part : y.part ≡ 14 + number
    pub is : IsNameOf t place name y.declared number

  module _ (h : Homes) (ms : List Member) (members : List reads.Member) (input : IsInput t h ms members) where
    -- an import of a world declares its name
    pub import_named : (m : Member) → Contains ms m → (w : Scope) → m.part ≡ parts.World w → (s : Seen) → Contains w.imports.now s → (part : ℕ) (d : Option ℕ) → s.shown ≡ shown.Declares part d
        → (n : ℕ) × (part ≡ 14 + n) × IsNameOf t w.home s.key.now d n
    import_named m c w is s there part d e =
        let good = side_good w t (subst (λ a. IsPartIn t (numbered_part a)) is (part_at t ms input.numbers m c)) s (inl there) (shown.Declares part d) e in
        let named = subst (λ (x : Shown). DeclaresName t w.home (record { key = s.key; shown = x; external_id = s.external_id })) e
        (all_at (DeclaresName t w.home) w.imports.now (subst (PartDeclaresNames t) is (all_at (λ (x : Member). PartDeclaresNames t x.part) ms input.declared m c)) s there) in
        (named.0, named.1, subst (IsNameOf t w.home s.key.now d) (tables.shapes.apart good.0 named.0 (named_shape w.home s.key.now) good.1.named named.2) good.1)

    pub showings_named : (y : NumberedShowing) → Contains (showings_of_members ms) y → IsNamed y
    showings_named y c = let from = origin t h ms members input y c in by from.0 from.1 from.2
      where
        by : (m : Member) → Contains ms m → sources.IsShownIn m.part y → IsNamed y
        by m m_in (sources.in_view s there x among same) =
            let is = all_at (IsShownIn t s.place) s.view.types (view_in t m.part (part_at t ms input.numbers m m_in) s there).types x among in
            subst IsNamed same (record { place = s.place; name = x.name; number = is.number; part = slot_number t x.slot is.number is.slot; is = is.name })
        by m m_in (sources.of_world w is s there part d e same) =
            let named = import_named m m_in w is s there part d e in
            subst IsNamed same (record { place = w.home; name = s.key.now; number = named.0; part = named.1; is = named.2 })

-- ---- what the page is for

-- ---- what a world imports and exports, as trees

-- ---- resources among imports

pub record IsResourceIn (ss : List follow.Seen) (r : Text) : Type 0 where
  pub seen : follow.Seen
  pub among : Contains ss seen
  pub shown : seen.shown ≡ follow.Shown.declares TypeDeclaration.resource
  pub named : r ≡ seen.key

resource_in : (r : Text) (ss : List follow.Seen) → list_any (text_eq r) (rules.resources_seen ss) ≡ true → IsResourceIn ss r
resource_in r [] any = let wrong : false ≡ true = any in absurd cc
resource_in r (s ∷ ss) any = by s.shown refl any (λ more. let is = resource_in r ss more in
    record { seen = is.seen; among = contains-later s ss is.seen is.among; shown = is.shown; named = is.named })
  where
    which : (b : Bool) → text_eq r s.key ≡ b → s.shown ≡ follow.Shown.declares TypeDeclaration.resource → (b || list_any (text_eq r) (rules.resources_seen ss)) ≡ true
        → (list_any (text_eq r) (rules.resources_seen ss) ≡ true → IsResourceIn (s ∷ ss) r) → IsResourceIn (s ∷ ss) r
    which true e is any more = record { seen = s; among = (zero, omega arith, refl); shown = is; named = (bytes_eq-Decides r s.key).0 e }
    which false e is any more = more any

    by : (k : follow.Shown) → s.shown ≡ k → list_any (text_eq r) (rules.resources_seen (record { key = s.key; shown = k; external_id = s.external_id } ∷ ss)) ≡ true
        → (list_any (text_eq r) (rules.resources_seen ss) ≡ true → IsResourceIn (s ∷ ss) r) → IsResourceIn (s ∷ ss) r
    by (follow.Shown.declares TypeDeclaration.resource) e any more = which (text_eq r s.key) refl e any more
    by _ e any more = more any

-- An import or an export that may stand behind resources among these.
pub record IsItemAmong (ss : List follow.Seen) (key : Text) (x : follow.Shown) : Type 0 where
  pub resources : List Text
  pub is : rules.is_item resources key x ≡ true
  pub from : (r : Text) → list_any (text_eq r) resources ≡ true → IsResourceIn ss r

abbrev pub SeenIsItem : List follow.Seen → follow.Seen → Type 0
SeenIsItem all s = IsItemAmong all s.key s.shown

pub import_items : (all earlier ss : List follow.Seen) → rules.are_imports earlier ss ≡ true → ((s : follow.Seen) → Contains earlier s → Contains all s)
    → ((s : follow.Seen) → Contains ss s → Contains all s) → AllByRecursion (SeenIsItem all) ss
import_items all earlier [] ok before behind = tt
import_items all earlier (s ∷ ss) ok before behind =
    let rest : rules.are_imports (earlier ++ s ∷ []) ss ≡ true = second_true (rules.is_item (rules.resources_seen earlier) s.key s.shown) (rules.are_imports (earlier ++ s ∷ []) ss) ok in (
      record {
        resources = rules.resources_seen earlier;
        is = (first_true (rules.is_item (rules.resources_seen earlier) s.key s.shown) (rules.are_imports (earlier ++ s ∷ []) ss) ok);
        from = λ r any.
            let is = resource_in r earlier any in record { seen = is.seen; among = before is.seen is.among; shown = is.shown; named = is.named };
      },
      import_items all (earlier ++ s ∷ []) ss rest (λ z c. either z (Contains-append_cases earlier (s ∷ []) z c)) (λ z c. behind z (contains-later s ss z c)),
    )
  where
    either : (z : follow.Seen) → Contains earlier z ⊎ Contains (s ∷ []) z → Contains all z
    either z (inl c) = before z c
    either z (inr c) = behind z (subst (Contains (s ∷ ss)) (one-contained s z c) (zero, omega arith, refl))

pub all_imports_are : (ss : List follow.Seen) → rules.are_imports [] ss ≡ true → AllByRecursion (SeenIsItem ss) ss
all_imports_are ss ok = import_items ss [] ss ok (λ x none. none-in x none) (λ x there. there)

pub exports_are_items : (all ss : List follow.Seen) → list_all (λ (s : follow.Seen). rules.is_item [] s.key s.shown) ss ≡ true → AllByRecursion (SeenIsItem all) ss
exports_are_items all ss h = all_of (SeenIsItem all) ss (λ s c. record { resources = []; is = all-contained _ _ s h c; from = λ r any. let wrong : false ≡ true = any in absurd cc })

-- the view of the instance is what an interface may have
abbrev pub InstanceObeys : Instance → Type 0
InstanceObeys x = rules.is_interface (instance_place x.interface) x.view ≡ true

instance_obeys : (all ss : List follow.Seen) → AllByRecursion (SeenIsItem all) ss → (x : Instance) → Contains (instances_in ss) x → InstanceObeys x
instance_obeys all ss items x c = let from = flat_cases (λ (s : follow.Seen). shown_instances.instance_of s.shown) ss x c in let item = all_at (SeenIsItem all) ss items from.0 from.1 in
    by from.0.shown item.resources from.0.key item.is from.2
  where
    by : (k : follow.Shown) (resources : List Text) (key : Text) → rules.is_item resources key k ≡ true → Contains (shown_instances.instance_of k) x → InstanceObeys x
    by (follow.Shown.instance key view) resources name is among = subst InstanceObeys (one-contained (record { interface = interface_of key; view = view }) x among) is
    by _ resources name is among = none-in x among

-- the type of a function that a place may have
pub signature_of : (place : Place) (resources : List Text) (name : Text) (f : Signature) → rules.is_function place resources name f ≡ true → rules.is_signature place f ≡ true
signature_of place resources name f h = first_true (rules.is_signature place f) (is_label name || list_any (rules.is_function_of place name f) resources) h

-- an instance is imported or exported
pub one_way : (seen : List (Direction × Instance)) (x : Instance) → Contains (map (λ (y : Direction × Instance). y.1) seen) x → Contains (going import_ seen) x ⊎ Contains (going export_ seen) x
one_way [] x c = none-in x c
one_way ((import_, y) ∷ seen) x (zero, low, e) = inl (0, omega arith, e)
one_way ((export_, y) ∷ seen) x (zero, low, e) = inr (0, omega arith, e)
one_way ((import_, y) ∷ seen) x (suc i, low, e) = elim (one_way seen x (i, omega (arith, low), e)) [ inl h ↦ inl (contains-later y (going import_ seen) x h) | inr h ↦ inr h ]
one_way ((export_, y) ∷ seen) x (suc i, low, e) = elim (one_way seen x (i, omega (arith, low), e)) [ inl h ↦ inl h | inr h ↦ inr (contains-later y (going export_ seen) x h) ]

pub record WorldObeys (scope : follow.Scope) : Type 0 where
  pub imports : rules.are_imports [] scope.imports ≡ true
  pub exports : list_all (λ (s : follow.Seen). rules.is_item [] s.key s.shown) scope.exports ≡ true

pub world_obeys : (scope : follow.Scope) → rules.is_world scope ≡ true → WorldObeys scope
world_obeys scope h = search std_rules

pub instances_obey : (scope : follow.Scope) → WorldStands scope → (x : Instance) → Contains scope.instances x → InstanceObeys x
instances_obey scope stands x c = elim (one_way stands.seen.seen x (subst (λ xs. Contains xs x) (sym stands.seen.all) c)) [
  | inl among ↦ instance_obeys scope.imports scope.imports (all_imports_are scope.imports (world_obeys scope stands.obeys).imports) x (subst (λ xs. Contains xs x) stands.seen.imported among)
  | inr among ↦ instance_obeys [] scope.exports (exports_are_items [] scope.exports (world_obeys scope stands.obeys).exports) x (subst (λ xs. Contains xs x) stands.seen.exported among)
]

module _ (t : Tables) (tables : AreTables t) where
  -- ---- views

  module _ (s : NumberedSight) (good : IsViewIn t s.place s.view) (obeys : ViewObeys t s) where
    abbrev place : follow.View
    place = view_of t s.view

    abbrev types_obey : Bool
    types_obey = list_all (λ (x : follow.ShownType). is_label x.name && rules.is_declared (place_at t s.place) x.meaning.declaration) (map (shown_type t) s.view.types)

    abbrev functions_obey : Bool
    functions_obey = list_all (λ (f : Text × FunctionMeaning). rules.is_function (place_at t s.place) (rules.resources_of place.types) f.0 f.1.signature) (map (shown_function t) s.view.functions)

    abbrev names_differ : Bool
    names_differ = distinct (map (λ (x : follow.ShownType). x.name) place.types ++ map (λ (f : Text × FunctionMeaning). f.0) place.functions)

    -- each function that is shown is one of the interface's
    pub function_obeys : (f : Text × NumberedFunction) → Contains s.view.functions f → rules.is_function (place_at t s.place) (rules.resources_of place.types) f.0 (signature_at t f.1.signature) ≡ true
    function_obeys f c = all-contained _ _ (shown_function t f) (second_true _ _ (first_true _ _ obeys)) (contains-map _ _ f c)

    view_type : (x : NumberedType) → Contains s.view.types x → TypeObeys t (showing_of x)
    view_type x c =
        let is = all_at (IsShownIn t s.place) s.view.types good.types x c in
        let both = all-contained (λ (y : follow.ShownType). is_label y.name && rules.is_declared (place_at t s.place) y.meaning.declaration) (map (shown_type t) s.view.types) (shown_type t x)
        (first_true types_obey functions_obey (first_true (types_obey && functions_obey) names_differ obeys)) (contains-map (shown_type t) s.view.types x c) in
        record {
          place = s.place;
          name = x.name;
          number = is.number;
          part = slot_number t x.slot is.number is.slot;
          is = is.name;
          label = first_true (is_label x.name) (rules.is_declared (place_at t s.place) (declaration_of t x.declared)) both;
          obeys = second_true (is_label x.name) (rules.is_declared (place_at t s.place) (declaration_of t x.declared)) both;
        }

    view_signature : (f : Text × NumberedFunction) → Contains s.view.functions f → SignatureObeys t f.1.signature
    view_signature f c = record {
      place = place_at t s.place;
      range = parts_weaker (IsMetFrom t s.place) (IsPart t) (λ i m. m.range) (function_at t f.1.signature) (all_at _ _ good.functions f c).parts;
      obeys = signature_of (place_at t s.place) (rules.resources_of place.types) f.0 (signature_at t f.1.signature) (function_obeys f c);
    }

  -- ---- a world

  module _ (h : Homes) (ms : List Member) (members : List reads.Member) (input : IsInput t h ms members) (w : Scope) (of : IsWorldIn t h ms members input w) where
    world_part_obeys : PartObeys t (parts.World w)
    world_part_obeys = search (std_rules, world_obeys)

    abbrev pub all_imports : List follow.Seen
    all_imports = map (seen_of t) (map numbered_seen w.imports.now)

    -- what it imports or exports is an item among what it imports
    abbrev pub ItemObeys : Seen → Type 0
    ItemObeys s = IsItemAmong all_imports s.key.now (shown_of t (numbered_shown s.shown))

    unnumbered : (cs : List Seen) → AllByRecursion (SeenIsItem all_imports) (map (seen_of t) (map numbered_seen cs)) → AllByRecursion ItemObeys cs
    unnumbered cs all = all_unmapped (λ (s : NumberedSeen). SeenIsItem all_imports (seen_of t s)) numbered_seen cs (all_unmapped (SeenIsItem all_imports) (seen_of t) (map numbered_seen cs) all)

    pub item_obeys : (s : Seen) → Side w s → ItemObeys s
    item_obeys s (inl c) = all_at ItemObeys w.imports.now (unnumbered w.imports.now (all_imports_are all_imports world_part_obeys.0)) s c
    item_obeys s (inr c) = all_at ItemObeys w.exports.now (unnumbered w.exports.now (exports_are_items all_imports (map (seen_of t) (map numbered_seen w.exports.now)) world_part_obeys.1)) s c

    world_views : (s : NumberedSight) → Contains (views_of_part (numbered_part (parts.World w))) s → ViewObeys t s
    world_views s c =
        let from = from_map whole_view (map numbered_instance w.instances.now) s c in
        subst (ViewObeys t) from.2 (instances_obey of.scope of.stands (instance_of t from.0) (subst (λ is. Contains is (instance_of t from.0)) (sym of.shows.instances) (contains-map _ _ _ from.1)))

    -- ---- what is imported and exported

    import_type : (s : Seen) → Contains w.imports.now s → (part : ℕ) (d : Option ℕ) → s.shown ≡ shown.Declares part d → (n : ℕ) × (part ≡ 14 + n) × IsNameOf t w.home s.key.now d n
        → TypeObeys t (imported_showing part d (given_text s.external_id))
    import_type s c part d e named =
        let item = subst (λ (x : Shown). IsItemAmong all_imports s.key.now (shown_of t (numbered_shown x))) e (item_obeys s (inl c)) in
        let declared = rules.is_declared Place.here (declaration_of t d) in
        record {
          place = w.home;
          name = s.key.now;
          number = named.0;
          part = named.1;
          is = named.2;
          label = first_true (is_label s.key.now) declared item.is;
          obeys = ap (λ place. rules.is_declared place (declaration_of t d)) (ap instance_place of.good.home) ∙ second_true (is_label s.key.now) declared item.is;
        }

    world_signature : (s : Seen) → Side w s → (f : ℕ) → s.shown ≡ shown.Function f → SignatureObeys t f
    world_signature s side f e =
        let item = subst (λ (x : Shown). IsItemAmong all_imports s.key.now (shown_of t (numbered_shown x))) e (item_obeys s side) in
        record {
          place = Place.here;
          range = parts_weaker (IsMetFrom t w.home) (IsPart t) (λ i m. m.range) (function_at t f) (side_good w t of.good s side (shown.Function f) e).parts;
          obeys = signature_of Place.here item.resources s.key.now (signature_at t f) item.is;
        }

  -- ---- all that is exported

  module _ (h : Homes) (ms : List Member) (members : List reads.Member) (input : IsInput t h ms members) (known : ℕ → Fact)
      (sights : AllByRecursion (IsKnownSight t known) (sights_of_members t (numbered_members ms))) (fine : are_interfaces t known (sights_of_members t (numbered_members ms)) ≡ true) where
    abbrev seen : List NumberedSight
    seen = sights_of_members t (numbered_members ms)

    sight_obeys : (s : NumberedSight) → Contains seen s → ViewObeys t s
    sight_obeys s c = interface_same t tables.shapes known s.place s.view (all_at _ _ sights s c).1 ∙ all-contained _ _ s fine c

    -- what holds of one part
    record PartFollows (a : Part) : Type 0 where
      views : (s : NumberedSight) → Contains (views_of_part (numbered_part a)) s → ViewObeys t s
      rule : PartObeys t a

    member_follows : (m : Member) → Contains ms m → PartFollows m.part
    member_follows m c = by m.part refl
      where
        by : (a : Part) → m.part ≡ a → PartFollows m.part
        by (parts.World w) is =
            let of = world_in t h ms members input m c w is in
            subst PartFollows (sym is) (record { views = world_views h ms members input w of; rule = world_part_obeys h ms members input w of })
        -- views of an interface at the top are among the sights
        by (parts.Interface p v imports) is = subst PartFollows (sym is) (record {
          views = λ s among. sight_obeys s (among_mapped (λ (x : NumberedMember). sights_of_part t x.part) numbered_member ms m s c
              (subst (λ a. Contains (sights_of_part t (numbered_part a)) s) (sym is) among));
          rule = tt;
        })

    module _ (m : Member) (c : Contains ms m) where
      good : (s : NumberedSight) → Contains (views_of_part (numbered_part m.part)) s → IsViewIn t s.place s.view
      good s there = view_in t m.part (part_at t ms input.numbers m c) s there

      type_obeys : (y : NumberedShowing) → sources.IsShownIn m.part y → TypeObeys t y
      type_obeys y (sources.in_view s there x among same) = subst (TypeObeys t) same (view_type s (good s there) ((member_follows m c).views s there) x among)
      type_obeys y (sources.of_world w is s there part d e same) =
          subst (TypeObeys t) same (import_type h ms members input w (world_in t h ms members input m c w is) s there part d e (import_named t tables h ms members input m c w is s there part d e))

      signature_obeys : (f : ℕ) → sources.IsSignedIn m.part f → SignatureObeys t f
      signature_obeys f (sources.by_whole s there whole g among same) = subst (SignatureObeys t) same (view_signature s (good s there) ((member_follows m c).views s there) g among)
      signature_obeys f (sources.by_world w is s side e) = world_signature h ms members input w (world_in t h ms members input m c w is) s side f e

    pub rules_obeyed : RulesAreObeyed t ms
    rules_obeyed = record {
      views = all_of (ViewObeys t) (views_of_members (numbered_members ms)) (λ s c.
          let m = mapped_cases (λ (x : NumberedMember). views_of_part x.part) numbered_member ms s c in
          (member_follows m.0 m.1).views s m.2);
      types = all_of (TypeObeys t) (showings_of_members ms) (λ y c. let from = origin t h ms members input y c in type_obeys from.0 from.1 y from.2);
      worlds = all_of (λ (m : Member). PartObeys t m.part) ms (λ m c. (member_follows m c).rule);
      signatures = all_of (SignatureObeys t) (signatures_of_members ms) (λ f c. let from = signed t h ms members input f c in signature_obeys from.0 from.1 f from.2);
    }

pub shown_obeys_rules : ShownObeysRules
shown_obeys_rules t h ms members input known sights fine = rules_obeyed t input.tables h ms members input known sights fine
