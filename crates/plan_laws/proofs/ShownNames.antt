-- Each name that the types of a plan use is shown in its own place.
use Rattle.std.proofs.Common.{rules as std_rules, ◌≡◌, refl, sym, ap, subst, ◌∙◌, ℕ, suc, zero, ◌+◌, ◌⊎◌, inl, inr, arith, Bool, true, false, if◌then◌else◌, List, [], ◌∷◌, length, map, Option, Some, None, slice_get, ◌&&◌, ◌==◌, ◌++◌}
use Rattle.std.proofs.lemmas.{Bool.eqb-true, List.append-nil, List.Elements.Contains-append_cases}
use Rattle.std.specs.List.{Contains, list_all, AllByRecursion, AllZip, flat_map}
use Rattle.wit_model.specs.{Text.Text, Tree.Place, Tree.TypeDeclaration, Meaning.FunctionMeaning, Names.is_label}
use Rattle.wit_model.proofs.Elements.{contains-get, none-in, contains-has}
use Rattle.comp_meaning.specs.Follow.{Instance, ShownType, instance_place}
use Rattle.comp_meaning.specs.{Rules.distinct, Rules.is_declared, Rules.is_function, Rules.declares_a_resource, Rules.resources_of, Reads.Part as MeantPart}
use Rattle.read_shown.specs.Scopes.{IsShownBefore, IsDeclared, IsImported, IsMetInScope, ScopeStands, a_resource, a_value, name_of_instance, own_name}
use Rattle.read_shown.specs.{Trees.DeclarationStands, Trees.SignatureStands, Parts.instances_of, Parts.named_instance}
use Rattle.read_shown.specs.Views.{IsMetInView, ShowsName, ViewStands, inside as met_inside, outside as met_outside}
use Rattle.plan_meaning.specs.FollowedNumbers.{IsCalledIn, IsMetFrom, IsNameOf, IsShownIn, IsSlotOf, IsViewIn, IsPartIn, IsScopeIn, IsSeenIn, AreMembersIn}
use Rattle.plan_meaning.specs.{Shapes.named_shape, NumberedMembers.Homes, NumberedMembers.HomesStand, NumberedMembers.IsMember, NumberedMembers.ShowsPart}
use Rattle.plan_meaning.specs.{GatheredPlan.functions_seen, NumberedWorlds.HasPath, NumberedWorlds.Shows, NumberedWorlds.seen_of, NumberedWorlds.shown_of}
use Rattle.plan_meaning.specs.NumberedViews.{AllOf, AreTables, FunctionShape, IsPart, NumberedFunction, NumberedSight, NumberedType, PartsOf, Tables, declaration_of, function_at, path_at, place_at, shown_function, shown_type, view_of, NumberedView, path_text, signature_at}
use Rattle.plan_meaning.specs.NumberedMembers.{NumberedMember}
use Rattle.plan_parts.specs.Interfaces.{slot_part}
use Rattle.plan_types.specs.Used.{declared_parts, signature_parts, function_parts, showing_parts, used_parts}
use Rattle.plan_types.specs.Showings.{NumberedShowing, showing_of, showings_of_members, signatures_of_members}
use Rattle.plan_type_laws.proofs.ShownRules.{numbered_shape, function_part}
use Rattle.plan_type_laws.proofs.PartPlaces.{parts_weaker, slot_number, exported_place}
use Rattle.plan_laws.specs.ShownNames.{ShowsNumber, DeclaresName, ImportsNumber, IsInput, IsShownByPart, UsedNamesAreShown, by_import, by_view}
use Rattle.plan_laws.specs.FirstViews.{told}
use Rattle.plan_laws.proofs.MetNames.{IsIn, inside, name_alone, name_in, name_same, in_declared, in_signature, flat_cases, used_inside}
use Rattle.plan_laws.proofs.Sources.{Side, at_mapped, imported_showing, side_good, view_in, import_sights, own_sight, IsSignedIn, IsWorldIn, mapped_cases, member_view_in, origin, signed, view_among, world_in}
use Rattle.base_lemmas.proofs.Elements.{all_at, get-contains, last_of as one-contained}
use Rattle.base_lemmas.proofs.{Lists.get_back as unmapped_get, Lists.mapped_get, Lists.append_of_map, Lists.map_of_map, Bools.left_of as first_true}
use Rattle.read_rules.specs.{Reached.numbered_import, Scopes.numbered_instance, Scopes.numbered_scope, Scopes.numbered_seen, Scopes.numbered_shown}
use Rattle.read_rules.specs.Tables.{given_text}
use Rattle.read_exports.specs.declared.members.{Part.Part, Member.Member}
use Rattle.plan_meaning.proofs.NumberedWorlds.{path_is}
use Rattle.read_rules.specs.declared.scopes.{Scope.Scope, Seen.Seen, Shown.Shown}
use Rattle.read_exports.specs.Members.{numbered_part, numbered_member, numbered_members}
use Rattle.plan_type_laws.specs.MembersStand.{all_instances}
use Rattle.plan_package.specs.Views.{types_alone, views_of_members, views_of_part, whole_view}
use Rattle.comp_meaning.specs.Rules as rules
use Rattle.read_shown.proofs.Agreement as agreement
use Rattle.comp_meaning.specs.Follow as follow
use Rattle.comp_meaning.specs.Reads as reads
use Rattle.read_shown.specs.Scopes as scopes
use Rattle.read_rules.specs.declared.scopes.Shown.TheVariants as shown
use Rattle.read_exports.specs.declared.members.Part.TheVariants as parts
use Rattle.plan_laws.proofs.Sources as sources

-- ---- What a place is read by obeys the rules on interfaces.

-- ---- A name that is met in a view was shown in its own place.

-- ---- parts

-- the parts of a function
pub part_of_function : (P : ℕ → Type 0) (f : FunctionShape) → PartsOf P f → (k : ℕ) → Contains (signature_parts f) k → P k
part_of_function P f all k c = function_part P f all k (contains-has (signature_parts f) k c)

-- what is declared where one of its parts is used
pub declared_inside : (t : Tables) (n : ℕ) (d : Option ℕ) (k : ℕ) → Contains (declared_parts t d) k → IsIn t.shapes k n → (j : ℕ) × (d ≡ Some j) × IsIn t.shapes j n
declared_inside t n x k c found = search (std_rules, none-in, IsIn, numbered_shape, inside, one-contained)

-- ---- places

abbrev pub text_of_place : Place → Option Text
text_of_place Place.here = None
text_of_place (Place.of_interface path) = Some path

pub path_back : (o : Option Text) → text_of_place (instance_place o) ≡ o
path_back x = search std_rules

module _ (t : Tables) (tables : AreTables t) where
  abbrev pub instance_tree : NumberedSight → Instance
  instance_tree s = record { interface = path_at t s.place; view = view_of t s.view }

  -- two numbers of one place with a path
  pub same_place : (a q : ℕ) → HasPath t q → place_at t a ≡ place_at t q → a ≡ q
  same_place a q path e = tables.paths a q path.0 (sym (path_back (path_at t a)) ∙ (ap text_of_place e ∙ (path_back (path_at t q) ∙ path.1))) path.1

  module _ (views : List NumberedSight) (good : (s : NumberedSight) → Contains views s → IsViewIn t s.place s.view) (n q : ℕ) (name : Text) (at : slice_get t.shapes n ≡ Some (named_shape q name)) where
    -- ---- views that show the name

    -- a type that is shown under the name, or under its number
    pub type_shows : (s : NumberedSight) → Contains views s → (x : NumberedType) → Contains s.view.types x → (is : IsShownIn t s.place x) → is.number ≡ n → s.place ≡ q → ShowsNumber t views q n
    type_shows s c x there is one same = record {
      sight = s;
      among = c;
      place = same;
      type_ = x;
      there = there;
      named = subst (λ p. IsNameOf t p x.name x.declared n) same (subst (IsNameOf t s.place x.name x.declared) one is.name);
      slot = subst (IsSlotOf t x.slot) one is.slot;
    }

    view_shows : (s : NumberedSight) → Contains views s → s.place ≡ q → (count : ℕ) (place : Place) (b : Bool) → ShowsName place (view_of t s.view) count name b → ShowsNumber t views q n
    view_shows s c same count place b shows =
        let from = unmapped_get (shown_type t) s.view.types shows.number shows.shown shows.at in
        let there = get-contains s.view.types shows.number from.0 from.1 in
        let is = all_at (IsShownIn t s.place) s.view.types (good s c).types from.0 there in
        type_shows s c from.0 there is (tables.shapes.apart is.number n (named_shape q name)
        (is.name.named ∙ (ap (λ p. Some (named_shape p from.0.name)) same ∙ ap (λ x. Some (named_shape q x)) (ap (λ (y : ShownType). y.name) from.2 ∙ shows.named))) at) same

    module _ (instances : List Instance) (trees : instances ≡ map instance_tree views) where
      pub outside_shows : (count : ℕ) (b : Bool) → IsShownBefore instances count (place_at t q) name b → ShowsNumber t views q n
      outside_shows count b before =
          let from = unmapped_get instance_tree views before.number before.shown (subst (λ is. slice_get is before.number ≡ Some before.shown) trees before.at) in
          view_shows from.0 (get-contains views before.number from.0 from.1) (tables.paths from.0.place q before.path (ap (λ (i : Instance). i.interface) from.2 ∙ before.of_path)
          (sym (path_back (path_at t q)) ∙ ap text_of_place before.stands)) (length (view_of t from.0.view).types) (place_at t q) b
          (subst (λ (i : Instance). ShowsName (place_at t q) i.view (length i.view.types) name b) (sym from.2) before.shows)

      module _ (s : NumberedSight) (k : ℕ) (there : slice_get views k ≡ Some s) (stands : ViewStands (IsShownBefore instances k) (place_at t s.place) (view_of t s.view)) where
        among : Contains views s
        among = get-contains views k s there

        met_shows : (count : ℕ) (b : Bool) → (q ≡ s.place) ⊎ HasPath t q → IsMetInView (IsShownBefore instances k) (place_at t s.place) (view_of t s.view) count (place_at t q) name b
            → ShowsNumber t views q n
        met_shows count b here (met_outside before) = outside_shows k b before
        met_shows count b (inl same) (met_inside own shows) = view_shows s among (sym same) count (place_at t s.place) b shows
        met_shows count b (inr path) (met_inside own shows) = view_shows s among (same_place s.place q path (sym own)) count (place_at t s.place) b shows

        -- what a type is declared as
        declared_shows : (i : ℕ) (x : NumberedType) → slice_get s.view.types i ≡ Some x → (k : ℕ) → x.declared ≡ Some k → IsIn t.shapes k n → ShowsNumber t views q n
        declared_shows i x e j some found =
            let met : IsMetFrom t s.place j = subst (AllOf (IsMetFrom t s.place)) some (all_at (IsShownIn t s.place) s.view.types (good s among).types x (get-contains s.view.types i x e)).name.met in
            let type_ = stands.types i (shown_type t x) (mapped_get (shown_type t) s.view.types i x e) in
            let name_met = in_declared t tables (IsMetInView (IsShownBefore instances k) (place_at t s.place) (view_of t s.view) i) n q name at j met.range found type_.is_resource
            (subst (λ d. DeclarationStands (IsMetInView (IsShownBefore instances k) (place_at t s.place) (view_of t s.view) i) (declaration_of t d) type_.is_resource) some type_.declared) in
            met_shows i name_met.0 (met.names q (name_in t.shapes tables.shapes j n q name found at)) name_met.1

        -- a part of a type that is shown
        pub part_shows : (x : NumberedType) → Contains s.view.types x → (j : ℕ) → Contains (slot_part x.slot ∷ declared_parts t x.declared) j → IsIn t.shapes j n → ShowsNumber t views q n
        part_shows x c j (zero, low, e) found =
            let is = all_at (IsShownIn t s.place) s.view.types (good s among).types x c in
            let one : n ≡ is.number = name_alone t.shapes tables.shapes j n is.number s.place x.name (sym e ∙ slot_number t x.slot is.number is.slot) is.name.named found in
            type_shows s among x c is (sym one) (name_same t.shapes s.place q x.name name is.number n is.name.named at (sym one)).0
        part_shows x c j (suc i, low, e) found =
            let there = contains-get s.view.types x c in
            let inner = declared_inside t n x.declared j (i, omega (arith, low), e) found in
            declared_shows there.0 x there.1 inner.0 inner.1 inner.2

        -- a part of a function that is shown
        pub function_shows : (f : Text × NumberedFunction) → Contains s.view.functions f → (j : ℕ) → Contains (signature_parts (function_at t f.1.signature)) j → IsIn t.shapes j n
            → ShowsNumber t views q n
        function_shows f c j part found =
            let there = contains-get s.view.functions f c in
            let called = all_at (λ (g : Text × NumberedFunction). IsCalledIn t s.place g.1.signature) s.view.functions (good s among).functions f c in
            let name_met = in_signature t tables (IsMetInView (IsShownBefore instances k) (place_at t s.place) (view_of t s.view) (length (view_of t s.view).types)) n q name at
            (function_at t f.1.signature) (parts_weaker (IsMetFrom t s.place) (IsPart t) (λ i m. m.range) (function_at t f.1.signature) called.parts)
            (stands.functions there.0 (shown_function t f) (mapped_get (shown_function t) s.view.functions there.0 f there.1)) j part found in
            met_shows (length (view_of t s.view).types) name_met.0 ((part_of_function (IsMetFrom t s.place) (function_at t f.1.signature) called.parts j part).names q
            (name_in t.shapes tables.shapes j n q name found at)) name_met.1

-- ---- the rules look at what is told alone

module _ (t : Tables) (place : Place) where
  same_resources : (xs ys : List NumberedType) → map told xs ≡ map told ys → resources_of (map (shown_type t) xs) ≡ resources_of (map (shown_type t) ys)
  same_resources [] [] e = refl
  same_resources (x ∷ xs) (y ∷ ys) e =
      let one : told x ≡ told y = cc in
      let later = same_resources xs ys cc in
      λ i. if declares_a_resource (declaration_of t ((ap (λ (z : Text × (Option ℕ × Option Text)). z.1.0) one) i)) then (ap (λ (z : Text × (Option ℕ × Option Text)). z.0) one) i ∷ later i else later i
  same_resources _ _ e = let wrong : ⊥ = cc in absurd wrong

  same_names : (xs ys : List NumberedType) → map told xs ≡ map told ys → map (λ (x : ShownType). x.name) (map (shown_type t) xs) ≡ map (λ (x : ShownType). x.name) (map (shown_type t) ys)
  same_names [] [] e = refl
  same_names (x ∷ xs) (y ∷ ys) e = search (std_rules, same_names xs ys cc)
  same_names _ _ e = let wrong : ⊥ = cc in absurd wrong

  abbrev types_pass : List ShownType → Bool
  types_pass ts = list_all (λ (x : ShownType). is_label x.name && is_declared place x.meaning.declaration) ts

  abbrev functions_pass : List ShownType → List (Text × FunctionMeaning) → Bool
  functions_pass ts fs = list_all (λ (f : Text × FunctionMeaning). is_function place (resources_of ts) f.0 f.1.signature) fs

  abbrev names_differ : List ShownType → List (Text × FunctionMeaning) → Bool
  names_differ ts fs = distinct (map (λ (x : ShownType). x.name) ts ++ map (λ (f : Text × FunctionMeaning). f.0) fs)

  third : (a b c : Bool) → (a && b && c) ≡ true → (a ≡ true) × (b ≡ true) × (c ≡ true)
  third x y c h = search std_rules

  three : (a b c : Bool) → a ≡ true → b ≡ true → c ≡ true → (a && b && c) ≡ true
  three x b c h k l = search std_rules

  abbrev obeys : List NumberedType → List (Text × NumberedFunction) → Bool
  obeys xs fs = rules.is_interface place (view_of t (record { types = xs; functions = fs }))

  -- the types of one view with the functions of another, which tells the same of types
  joined_obeys : (xs ys : List NumberedType) (gs fs : List (Text × NumberedFunction)) → map told xs ≡ map told ys → obeys xs gs ≡ true → obeys ys fs ≡ true → obeys xs fs ≡ true
  joined_obeys xs ys gs fs same first whole = search (std_rules, third, three, same_resources, same_names)

  -- the types of a view alone
  types_obey : (xs : List NumberedType) (gs : List (Text × NumberedFunction)) → obeys xs gs ≡ true → obeys xs [] ≡ true
  types_obey xs gs first =
      let ts = map (shown_type t) xs in
      three (types_pass ts) true (names_differ ts []) (third (types_pass ts) (functions_pass ts (map (shown_function t) gs)) (names_differ ts (map (shown_function t) gs)) first).0 refl
      (ap distinct (append-nil (map (λ (x : ShownType). x.name) ts)) ∙ agreement.names_differ place (view_of t (record { types = xs; functions = gs })) first)

-- ---- the functions that are seen

module _ (t : Tables) (q : ℕ) (xs : List NumberedType) (gs : List (Text × NumberedFunction)) (first : obeys t (place_at t q) xs gs ≡ true) where
  pub seen_obeys : (seen : List NumberedSight) → ((s : NumberedSight) → Contains seen s → s.place ≡ q → map told xs ≡ map told s.view.types)
      → ((s : NumberedSight) → Contains seen s → rules.is_interface (place_at t s.place) (view_of t s.view) ≡ true) → obeys t (place_at t q) xs (functions_seen q seen) ≡ true
  seen_obeys [] same obey = types_obey t (place_at t q) xs gs first
  seen_obeys (s ∷ rest) same obey = by (s.place == q && s.whole) refl (seen_obeys rest (λ u c e. same u (later u c) e) (λ u c. obey u (later u c)))
    where
      later : (u : NumberedSight) → Contains rest u → Contains (s ∷ rest) u
      later u (i, low, e) = (suc i, omega (arith, low), e)

      by : (b : Bool) → (s.place == q && s.whole) ≡ b → obeys t (place_at t q) xs (functions_seen q rest) ≡ true
          → obeys t (place_at t q) xs (if b then s.view.functions else functions_seen q rest) ≡ true
      by true here more =
          let place : s.place ≡ q = eqb-true s.place q (first_true (s.place == q) s.whole here) in
          joined_obeys t (place_at t q) xs s.view.types gs s.view.functions (same s (0, omega arith, refl) place) first
          (subst (λ p. rules.is_interface (place_at t p) (view_of t s.view) ≡ true) place (obey s (0, omega arith, refl)))
      by false none more = more

-- ---- A name that is used by what a part shows is shown by a view in its own place, or imported by the world.

-- ---- the instances of a part, as trees

module _ (t : Tables) (tables : AreTables t) (h : Homes) (stand : HomesStand t h) where
  path_given : (p : ℕ) → HasPath t p → Some (path_text t p) ≡ path_at t p
  path_given p path = ap Some (path_is t p path) ∙ sym path.1

  imports_same : (imports : List (ℕ × NumberedView)) → AllByRecursion (λ (i : ℕ × NumberedView). HasPath t i.0 × IsViewIn t i.0 i.1) imports
      → map named_instance (map (λ (i : ℕ × NumberedView). (path_text t i.0, view_of t i.1)) imports) ≡ map (instance_tree t tables) (map types_alone imports)
  imports_same [] all = refl
  imports_same (i ∷ imports) all = search (std_rules, path_given, imports_same imports all.1)

  pub trees_of_part : (m : Member) (x : reads.Member) → IsMember t h (numbered_member m) x → (a : Part) (b : MeantPart) → ShowsPart t h (numbered_member m) (numbered_part a) b
      → IsPartIn t (numbered_part a) → instances_of (record { label = x.label; package_ = x.package_; part = b }) ≡ map (instance_tree t tables) (views_of_part (numbered_part a))
  trees_of_part m x member (parts.World w) (MeantPart.world scope) is good = is.instances ∙ sym (map_of_map (instance_tree t tables) whole_view (map numbered_instance w.instances.now))
  trees_of_part m x member (parts.Interface p v imports) (MeantPart.interface view views) is good =
      (λ i. (ap (map named_instance) is.imported ∙ imports_same (map numbered_import imports.now) good.1) i
      ++ record { interface = (ap text_of_place (exported_place t h stand m x.package_ member.package_ x.label member.label p is.path is.home) ∙ path_back (path_at t p)) i; view = is.shown i } ∷ [])
      ∙ sym (append_of_map (instance_tree t tables) (import_sights p v imports) (own_sight p v imports ∷ []))
  trees_of_part m x member _ _ is good = absurd is

  -- the instances of all parts
  pub trees_of_all : (ms : List Member) (members : List reads.Member) → AllZip (IsMember t h) (numbered_members ms) members → AreMembersIn t (numbered_members ms)
      → all_instances members ≡ map (instance_tree t tables) (views_of_members (numbered_members ms))
  trees_of_all [] [] zip good = refl
  trees_of_all (m ∷ ms) (x ∷ members) zip good = (λ i. (trees_of_part m x zip.0 m.part x.part zip.0.part good.0) i ++ (trees_of_all ms members zip.1 good.1) i) ∙ sym (append_of_map _ _ _)
  trees_of_all _ _ zip good = absurd zip

  -- ---- some views

  module _ (n q : ℕ) (name : Text) (at : slice_get t.shapes n ≡ Some (named_shape q name)) (views : List NumberedSight) (instances : List Instance)
      (trees : instances ≡ map (instance_tree t tables) views) (all_good : (s : NumberedSight) → Contains views s → IsViewIn t s.place s.view)
      (stands : (k : ℕ) (s : NumberedSight) → slice_get views k ≡ Some s → ViewStands (IsShownBefore instances k) (place_at t s.place) (view_of t s.view)) where
    -- what a view shows
    pub view_showing : (s : NumberedSight) → Contains views s → (x : NumberedType) → Contains s.view.types x → (k : ℕ) → Contains (showing_parts t (showing_of x)) k → IsIn t.shapes k n
        → ShowsNumber t views q n
    view_showing s c x among k used found = let there = contains-get views s c in
        part_shows t tables views all_good n q name at instances trees s there.0 there.1 (stands there.0 s there.1) x among k used found

    pub view_signature : (s : NumberedSight) → Contains views s → (g : Text × NumberedFunction) → Contains s.view.functions g → (k : ℕ) → Contains (function_parts t g.1.signature) k
        → IsIn t.shapes k n → ShowsNumber t views q n
    view_signature s c g among k used found =
        let there = contains-get views s c in
        function_shows t tables views all_good n q name at instances trees s there.0 there.1 (stands there.0 s there.1) g among k used found

    -- ---- a world

    module _ (w : Scope) (within : (s : NumberedSight) → Contains (views_of_part (numbered_part (parts.World w))) s → Contains views s) (scope : follow.Scope)
        (shows : Shows t (numbered_scope w) scope) (good : IsScopeIn t (numbered_scope w)) (declares : AllByRecursion (DeclaresName t w.home) w.imports.now) (scope_stands : ScopeStands scope) where
      -- a view shows the type, or the world imports it
      abbrev Goal : Type 0
      Goal = ShowsNumber t views q n ⊎ ((q ≡ w.home) × ImportsNumber t w n)

      -- what a view of the world shows
      within_all : ShowsNumber t (map whole_view (map numbered_instance w.instances.now)) q n → ShowsNumber t views q n
      within_all s = record { sight = s.sight; among = within s.sight s.among; place = s.place; type_ = s.type_; there = s.there; named = s.named; slot = s.slot }

      -- an import, as it was followed
      import_tree : (c : Seen) → Contains w.imports.now c → (i : ℕ) × (slice_get w.imports.now i ≡ Some c) × (slice_get scope.imports i ≡ Some (seen_of t (numbered_seen c)))
      import_tree c among =
          let there = contains-get w.imports.now c among in (
            there.0,
            there.1,
            subst (λ ss. slice_get ss there.0 ≡ Some (seen_of t (numbered_seen c))) (sym shows.imports)
                (mapped_get (seen_of t) (map numbered_seen w.imports.now) there.0 (numbered_seen c) (mapped_get numbered_seen w.imports.now there.0 c there.1)),
          )

      -- the type that is declared under this number
      import_declares : (c : Seen) → Contains w.imports.now c → (part : ℕ) (d : Option ℕ) → c.shown ≡ shown.Declares part d → (m : ℕ) × (part ≡ 14 + m) × IsNameOf t w.home c.key.now d m
      import_declares c among part d e =
          let named = subst (λ (x : Shown). DeclaresName t w.home (record { key = c.key; shown = x; external_id = c.external_id })) e (all_at (DeclaresName t w.home) w.imports.now declares c among) in
          let is = subst (λ (x : Shown). IsSeenIn t w.home (record { key = c.key.now; shown = numbered_shown x; external_id = given_text c.external_id })) e
          (at_mapped (IsSeenIn t w.home) numbered_seen w.imports.now good.imports c among) in
          (named.0, named.1, subst (IsNameOf t w.home c.key.now d) (tables.shapes.apart is.0 named.0 (named_shape w.home c.key.now) is.1.named named.2) is.1)

      number_here : (m : ℕ) (key : Text) (d : Option ℕ) (k : ℕ) → IsNameOf t w.home key d m → k ≡ 14 + m → IsIn t.shapes k n → (m ≡ n) × (q ≡ w.home)
      number_here m key d k is part found = search (std_rules, name_alone, name_same)

      imports_it : (c : Seen) → Contains w.imports.now c → (d : Option ℕ) (m part : ℕ) → c.shown ≡ shown.Declares part d → part ≡ 14 + m → IsNameOf t w.home c.key.now d m → m ≡ n → q ≡ w.home → Goal
      imports_it c among d m part e is named one home = search (std_rules, among)

      -- ---- what is met

      imported : {count : ℕ} {x : Text} {b : Bool} → IsDeclared scope.instances scope.imports count x b → (m : ℕ) × (d : TypeDeclaration) × IsImported scope.imports m x d
      imported {count = count} (a_resource by) = (count, TypeDeclaration.resource, by)
      imported {count = count} (a_value tree none by) = (count, TypeDeclaration.type_ tree, by)
      imported {count = count} (own_name other by deeper) = (count, _, by)
      imported {count = count} (name_of_instance path other by before) = (count, _, by)

      declares_only : (x : Shown) (d : TypeDeclaration) → shown_of t (numbered_shown x) ≡ follow.Shown.declares d → (part : ℕ) × (o : Option ℕ) × (x ≡ shown.Declares part o)
      declares_only (shown.Declares part o) d e = (part, o, refl)
      declares_only _ d e = let wrong : ⊥ = cc in absurd wrong

      import_shows : (m : ℕ) (d : TypeDeclaration) → IsImported scope.imports m name d → q ≡ w.home → Goal
      import_shows m d by home =
          let outer = unmapped_get (seen_of t) (map numbered_seen w.imports.now) by.number by.seen (subst (λ ss. slice_get ss by.number ≡ Some by.seen) shows.imports by.at) in
          let from = unmapped_get numbered_seen w.imports.now by.number outer.0 outer.1 in
          let c = from.0 in
          let same : seen_of t (numbered_seen c) ≡ by.seen = ap (seen_of t) from.2 ∙ outer.2 in
          let among = get-contains w.imports.now by.number c from.1 in
          let declared = declares_only c.shown d (ap (λ (s : follow.Seen). s.shown) same ∙ by.shown) in
          let named = import_declares c among declared.0 declared.1 declared.2 in
          imports_it c among declared.1 named.0 declared.0 declared.2 named.1 named.2
          (tables.shapes.apart named.0 n (named_shape q name) (named.2.named
          ∙ (ap (λ x. Some (named_shape w.home x)) (ap (λ (s : follow.Seen). s.key) same ∙ by.key) ∙ ap (λ x. Some (named_shape x name)) (sym home))) at) home

      world_met : (count : ℕ) (b : Bool) → (q ≡ w.home) ⊎ HasPath t q → IsMetInScope scope.instances scope.imports count (place_at t q) name b → Goal
      world_met count b own (scopes.by_instance before) = inl (within_all (outside_shows t tables (map whole_view (map numbered_instance w.instances.now)) (view_in t (parts.World w) good) n q name at
          scope.instances (shows.instances ∙ sym (map_of_map (instance_tree t tables) whole_view (map numbered_instance w.instances.now))) (length scope.instances) b before))
      world_met count b (inl home) (scopes.by_import here declared) = let found = imported declared in import_shows found.0 found.1 found.2 home
      world_met count b (inr path) (scopes.by_import here declared) = absurd (let wrong : Place.of_interface path.0 ≡ Place.here = sym (ap instance_place path.1) ∙ here in cc)

      -- ---- what is shown

      -- a type that is declared, of which a part is used
      world_declared : (c : Seen) → Contains w.imports.now c → (part : ℕ) (d : Option ℕ) → c.shown ≡ shown.Declares part d → (k : ℕ) → Contains (part ∷ declared_parts t d) k → IsIn t.shapes k n → Goal
      world_declared c among part d e k (zero, low, same) found =
          let named = import_declares c among part d e in
          let here = number_here named.0 c.key.now d k named.2 (sym same ∙ named.1) found in
          imports_it c among d named.0 part e named.1 named.2 here.0 here.1
      world_declared c among part d e k (suc i, low, same) found =
          let inner = declared_inside t n d k (i, omega (arith, low), same) found in
          let met : IsMetFrom t w.home inner.0 = subst (AllOf (IsMetFrom t w.home)) inner.1 (import_declares c among part d e).2.met in
          let tree = import_tree c among in
          let shown_stands = subst (λ x. scopes.ShownStands scope.instances scope.imports tree.0 (shown_of t (numbered_shown x))) (e ∙ ap (shown.Declares part) inner.1)
          (scope_stands.imports tree.0 (seen_of t (numbered_seen c)) tree.2) in
          let name_met = in_declared t tables (IsMetInScope scope.instances scope.imports tree.0) n q name at inner.0 met.range inner.2 shown_stands.0 shown_stands.1 in
          world_met tree.0 name_met.0 (met.names q (name_in t.shapes tables.shapes inner.0 n q name inner.2 at)) name_met.1

      -- a function, of which a part is used
      called_shows : (f : ℕ) → IsCalledIn t w.home f → (count : ℕ) → SignatureStands (IsMetInScope scope.instances scope.imports count) (signature_at t f) → (k : ℕ) → Contains (function_parts t f) k
          → IsIn t.shapes k n → Goal
      called_shows f called count signature k used found =
          let name_met = in_signature t tables (IsMetInScope scope.instances scope.imports count) n q name at (function_at t f)
          (parts_weaker (IsMetFrom t w.home) (IsPart t) (λ i m. m.range) (function_at t f) called.parts) signature k used found in
          world_met count name_met.0 ((part_of_function (IsMetFrom t w.home) (function_at t f) called.parts k used).names q (name_in t.shapes tables.shapes k n q name found at)) name_met.1

      pub import_showing : (c : Seen) → Contains w.imports.now c → (part : ℕ) (d : Option ℕ) → c.shown ≡ shown.Declares part d → (y : NumberedShowing)
          → imported_showing part d (given_text c.external_id) ≡ y → (k : ℕ) → Contains (showing_parts t y) k → IsIn t.shapes k n → Goal
      import_showing c among part d e y same k used found = world_declared c among part d e k (subst (λ (z : NumberedShowing). Contains (showing_parts t z) k) (sym same) used) found

      pub world_signature : (c : Seen) → Side w c → (f : ℕ) → c.shown ≡ shown.Function f → (k : ℕ) → Contains (function_parts t f) k → IsIn t.shapes k n → Goal
      world_signature c side f e k used found = by side
        where
          called : IsCalledIn t w.home f
          called = side_good w t good c side (shown.Function f) e

          by : Side w c → Goal
          by (inl among) =
              let tree = import_tree c among in
              let stand = subst (λ x. scopes.ShownStands scope.instances scope.imports tree.0 (shown_of t (numbered_shown x))) e (scope_stands.imports tree.0 (seen_of t (numbered_seen c)) tree.2) in
              called_shows f called tree.0 stand k used found
          by (inr among) =
              let at_c = contains-get w.exports.now c among in
              called_shows f called (length scope.imports) (subst (λ x. scopes.ShownStands scope.instances scope.imports (length scope.imports) (shown_of t (numbered_shown x))) e
              (scope_stands.exports at_c.0 (seen_of t (numbered_seen c)) (subst (λ ss. slice_get ss at_c.0 ≡ Some (seen_of t (numbered_seen c))) (sym shows.exports)
              (mapped_get (seen_of t) (map numbered_seen w.exports.now) at_c.0 (numbered_seen c) (mapped_get numbered_seen w.exports.now at_c.0 c at_c.1))))) k used found

-- ---- what the page is for

module _ (t : Tables) (h : Homes) (ms : List Member) (members : List reads.Member) (input : IsInput t h ms members) (n q : ℕ) (name : Text)
    (at : slice_get t.shapes n ≡ Some (named_shape q name)) where
  -- what uses a part of the tables in a part
  data Uses (part : Part) (k : ℕ) : Type 0 where
    by_showing : (y : NumberedShowing) → sources.IsShownIn part y → Contains (showing_parts t y) k → Uses part k
    by_signature : (f : ℕ) → IsSignedIn part f → Contains (function_parts t f) k → Uses part k

  -- ---- all views

  abbrev views : List NumberedSight
  views = views_of_members (numbered_members ms)

  abbrev instances : List Instance
  instances = all_instances members

  trees : instances ≡ map (instance_tree t input.tables) views
  trees = trees_of_all t input.tables h input.homes ms members input.shown input.numbers

  all_good : (s : NumberedSight) → Contains views s → IsViewIn t s.place s.view
  all_good = member_view_in t ms input.numbers

  stands : (k : ℕ) (s : NumberedSight) → slice_get views k ≡ Some s → ViewStands (IsShownBefore instances k) (place_at t s.place) (view_of t s.view)
  stands k s there = input.stand.views k (instance_tree t input.tables s) (subst (λ is. slice_get is k ≡ Some (instance_tree t input.tables s)) (sym trees) (mapped_get _ views k s there))

  abbrev IsShown : Type 0
  IsShown = (m : Member) × Contains ms m × IsShownByPart t m.part q n

  -- a view is one of a part
  view_shown : ShowsNumber t views q n → IsShown
  view_shown s =
      let m = mapped_cases (λ (y : NumberedMember). views_of_part y.part) numbered_member ms s.sight s.among in
      (m.0, m.1, by_view (record { sight = s.sight; among = m.2; place = s.place; type_ = s.type_; there = s.there; named = s.named; slot = s.slot }))

  -- ---- one member

  module _ (m : Member) (c : Contains ms m) (k : ℕ) (found : IsIn t.shapes k n) where
    within : (s : NumberedSight) → Contains (views_of_part (numbered_part m.part)) s → Contains views s
    within s among = view_among ms m c s among

    -- by what a world imports and exports
    module _ (w : Scope) (is : m.part ≡ parts.World w) where
      abbrev Found : Type 0
      Found = ShowsNumber t views q n ⊎ ((q ≡ w.home) × ImportsNumber t w n)

      either : Found → IsShown
      either (inl shown) = view_shown shown
      either (inr imported) = (m, c, by_import w is imported.0 imported.1)

      of : IsWorldIn t h ms members input w
      of = world_in t h ms members input m c w is

      world_within : (s : NumberedSight) → Contains (views_of_part (numbered_part (parts.World w))) s → Contains views s
      world_within s among = within s (subst (λ a. Contains (views_of_part (numbered_part a)) s) (sym is) among)

    member_shows : Uses m.part k → IsShown
    member_shows (by_showing y (sources.in_view s there x among same) used) = view_shown
        (view_showing t input.tables h input.homes n q name at views instances trees all_good stands s (within s there) x
        among k (subst (λ (z : NumberedShowing). Contains (showing_parts t z) k) (sym same) used) found)
    member_shows (by_signature f (sources.by_whole s there whole g among same) used) = view_shown (view_signature t input.tables h input.homes n q name at views instances trees all_good stands s
        (within s there) g among k (subst (λ z. Contains (function_parts t z) k) (sym same) used) found)
    member_shows (by_showing y (sources.of_world w is s there part d e same) used) = let world = of w is in
        either w is (import_showing t input.tables h input.homes n q name at views instances trees all_good stands w (world_within w is) world.scope world.shows world.good world.declares
        world.stands.stands s there part d e y same k used found)
    member_shows (by_signature f (sources.by_world w is s side e) used) = let world = of w is in
        either w is (world_signature t input.tables h input.homes n q name at views instances trees all_good stands w (world_within w is) world.scope world.shows world.good world.declares
        world.stands.stands s side f e k used found)

  -- ---- all members

  used_shows : (k : ℕ) → Contains (used_parts t (showings_of_members ms) (signatures_of_members ms)) k → IsIn t.shapes k n → IsShown
  used_shows k c found = elim (Contains-append_cases (flat_map (showing_parts t) (showings_of_members ms)) (flat_map (function_parts t) (signatures_of_members ms)) k c) [
    | inl among ↦ (let showing = flat_cases (showing_parts t) (showings_of_members ms) k among in let from = origin t h ms members input showing.0 showing.1 in
        member_shows from.0 from.1 k found (by_showing showing.0 from.2 showing.2))
    | inr among ↦ (let signature = flat_cases (function_parts t) (signatures_of_members ms) k among in let from = signed t h ms members input signature.0 signature.1 in
        member_shows from.0 from.1 k found (by_signature signature.0 from.2 signature.2))
  ]

pub names_are_shown : UsedNamesAreShown
names_are_shown t h ms members input marks used n q name is at =
    search (std_rules, used_inside t (used_parts t (showings_of_members ms) (signatures_of_members ms)) marks used n ((used.marked n).0 is), used_shows t h ms members input n q name)
