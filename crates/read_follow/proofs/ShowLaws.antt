-- What the exports of an instance type show.
use Rattle.std.proofs.Common.{rules as std_rules, ◌≡◌, refl, sym, ap, ◌∙◌, subst, ℕ, ◌+◌, ◌<◌, ◌≤◌, arith, Bool, true, false, List, [], ◌∷◌, ◌++◌, map, length, Option, Some, None, IfSome, slice_get, unwrap_or}
use Rattle.std.proofs.lemmas.{List.map-append, Option.slice_get_within as found_below}
use Rattle.std.specs.List.{AllByRecursion}
use Rattle.wit_model.specs.{Meaning.FunctionMeaning, Meaning.Signature, Text.Text, Tree.Place, Tree.Tree}
use Rattle.comp_bytes.specs.declared.forms.ComponentTypeRef.{ComponentTypeRef}
use Rattle.comp_bytes.specs.{Raw.ExternName as RawName, Reading.◌>>=◌}
use Rattle.comp_meaning.specs.Follow.{InstanceScope as MeantScope, Slot as Meant, function_in, named_type, show_function, show_type}
use Rattle.read_follow.specs.declared.{names.ExternName.ExternName, refusal.Refusal.Refusal, views.ShownFunction.ShownFunction, views.ShownType.ShownType}
use Rattle.read_follow.specs.declared.{shows.NewName.NewName, slots.Slot.Slot}
use Rattle.read_follow.specs.{ExternNames.raw_name, Found.Refuses, Functions.functions_in}
use Rattle.read_follow.specs.Following.{scope_at, shown_function, shown_type, signatures_at, slots_at, trees_at, AreTables, Halts, IsShownFunctionIn, IsShownIn, IsSlotIn, IsState, IsTypeSlot, State, Steps}
use Rattle.read_follow.specs.{InstanceScopes.name_meant, InstanceScopes.name_slot, InstanceScopes.named_by, Numbering.slot_parts, Numbering.CountUp}
use Rattle.read_follow.specs.Placed.{apart, slot_part, DeclarationOver, MayMeet, SlotOver, ViewOver}
use Rattle.read_follow.specs.Slots.{no_signature, resource_slot, slot_in, slots_in, AreInRange, AreNames, IsName}
use Rattle.plan_meaning.specs.Shapes.{Shape, named_shape, part_tree, shape_trees, Adds, IsTable}
use Rattle.read_follow.proofs.DefiningLaws.{adds_grow, adds_one, adds_placed, all_at, longer, no_shapes, same_list}
use Rattle.read_follow.proofs.FollowingLaws.{declared_stays, functions_wider, name_part, names_of, ranges_of, shown_scope, shown_state}
use Rattle.read_follow.proofs.{NumberingLaws.adds_next, NumberingLaws.count_pushed, Refusing.refused, SlotLaws.at_slot, SlotLaws.name_at, SlotLaws.no_slot}
use Rattle.read_follow.proofs.OverLaws.{name_over, named_over}
use Rattle.read_follow.proofs.PlacedLaws.{function_over_more, own_met, same_types, type_more, type_over_more}
use Rattle.base_lemmas.proofs.Elements.{all_end}
use Rattle.wit_model.specs.Tree as tree
use Rattle.comp_bytes.specs.declared.forms.ComponentTypeRef.TheVariants as refs
use Rattle.comp_meaning.specs.Follow as follow
use Rattle.read_follow.specs.declared.slots.Slot.TheVariants as slots

-- ---- what an export of a type declares

abbrev pub by_slot : Place → Text → Option Meant → Option (tree.TypeDeclaration × Meant)
by_slot place name o = o >>= λ slot. follow.declared_by_slot slot >>= λ d. Some (d, follow.named_like slot place name)

named_by_resource : (place : Place) (name : Text) (t : Tree) → IsName t → by_slot place name (Some (resource_slot t)) ≡ Some (tree.TypeDeclaration.type_ t, follow.resource place name)
named_by_resource place name x h = search std_rules

module _ (ss : List Slot) (n : ℕ) (T : List Tree) (F : List Signature) (place : Place) (name : Text) where
  pub equal_to_value : (part : ℕ) → slice_get ss n ≡ Some (slots.Value part)
      → named_type (slots_in T F ss) place name (refs.TypeEq n) ≡ Some (tree.TypeDeclaration.type_ (part_tree T part), follow.value (Tree.named place name))
  equal_to_value part e = ap (by_slot place name) (at_slot ss n T F (slots.Value part) e)

  pub equal_to_resource : (part : ℕ) → slice_get ss n ≡ Some (slots.Resource part) → AreNames T ss
      → named_type (slots_in T F ss) place name (refs.TypeEq n) ≡ Some (tree.TypeDeclaration.type_ (part_tree T part), follow.resource place name)
  equal_to_resource part e named = ap (by_slot place name) (at_slot ss n T F (slots.Resource part) e) ∙ named_by_resource place name (part_tree T part) (name_at T ss n part e named)

  pub equal_to_none : (s : Slot) → slice_get ss n ≡ Some s → by_slot place name (Some (slot_in T F s)) ≡ None → named_type (slots_in T F ss) place name (refs.TypeEq n) ≡ None
  equal_to_none s e none = ap (by_slot place name) (at_slot ss n T F s e) ∙ none

  pub equal_to_nothing : slice_get ss n ≡ None → named_type (slots_in T F ss) place name (refs.TypeEq n) ≡ None
  equal_to_nothing e = ap (by_slot place name) (no_slot ss n T F e)

-- ---- a function more

module _ (marks : List Bool) (old : State) (st : IsState (length marks) old) (name : ExternName) where
  module _ (n : ℕ) where
    pub function_shown : (here k : ℕ) (fs : List ShownFunction) → slice_get old.slots n ≡ Some (slots.Function k)
        → ((T : List Tree) (F : List Signature) → function_in (slice_get (slots_in T F old.slots) n) ≡ Some (unwrap_or (slice_get F k) no_signature))
        → fs ≡ old.functions ++ record { name = name.text; function = k; external_id = name.external_id } ∷ []
        → Steps marks here 1 (λ place. show_function (raw_name name) n) old (record { shapes = old.shapes; signatures = old.signatures; slots = old.slots; types = old.types; functions = fs })
    function_shown here k fs at found last =
        let f : ShownFunction = record { name = name.text; function = k; external_id = name.external_id } in
        record {
          state = record {
            tables = st.tables;
            slots = st.slots;
            types = st.types;
            functions = subst (λ (xs : List ShownFunction). AllByRecursion (IsShownFunctionIn old.signatures) xs) (sym last)
                (all_end (IsShownFunctionIn old.signatures) old.functions f st.functions (all_at (IsSlotIn old.shapes old.signatures) old.slots n (slots.Function k) st.slots at));
          };
          shapes_grow = same_list old.shapes;
          signatures_grow = same_list old.signatures;
          count = omega arith;
          counted = λ from before. before;
          placed = λ before p.
              let P = MayMeet marks here in
              let T = trees_at apart old in
              let F = signatures_at apart old in
              same_types marks before here old (record { shapes = old.shapes; signatures = old.signatures; slots = old.slots; types = old.types; functions = fs }) p (same_list old.shapes) p.slots
              (subst (λ (gs : List (Text × FunctionMeaning)). ViewOver P (record { types = (scope_at apart old).shown.types; functions = gs }))
              (sym (ap (map (shown_function F)) last ∙ map-append (shown_function F) old.functions (f ∷ [])))
              (function_over_more P (scope_at apart old).shown p.shown (shown_function F f)
              (all_at (SlotOver P) (slots_at apart old old.slots) n (slot_in T F (slots.Function k)) p.slots (at_slot old.slots n T F (slots.Function k) at))))
              refl (no_shapes old.shapes);
          follows = λ place marked. ap (λ o. o >>= λ g. Some (record {
            slots = slots_at place old old.slots;
            shown = record {
              types = (scope_at place old).shown.types;
              functions = map (shown_function (signatures_at place old)) old.functions ++ (name.text.now, record { signature = g; external_id = (raw_name name).external_id }) ∷ [];
            };
          })) (found (trees_at place old) (signatures_at place old)) ∙ (λ i. Some (record {
            slots = slots_at place old old.slots;
            shown = record {
              types = (scope_at place old).shown.types;
              functions = sym (ap (map (shown_function (signatures_at place old))) last ∙ map-append (shown_function (signatures_at place old)) old.functions (f ∷ [])) i;
            };
          }));
        }

    pub function_absent : (e : Refusal) → ((T : List Tree) (F : List Signature) → Refuses e (function_in (slice_get (slots_in T F old.slots) n)))
        → Halts marks (λ place. show_function (raw_name name) n) old e
    function_absent e r place marked = refused e (function_in (slice_get (slots_at place old old.slots) n)) (show_function (raw_name name) n (scope_at place old))
        (λ none. ap (λ o. o >>= λ g. Some (record {
          slots = slots_at place old old.slots;
          shown = record {
            types = (scope_at place old).shown.types;
            functions = map (shown_function (signatures_at place old)) old.functions ++ (name.text.now, record { signature = g; external_id = (raw_name name).external_id }) ∷ [];
          };
        })) none) (r (trees_at place old) (signatures_at place old))

  -- ---- a type more

  module _ (here : ℕ) (kind : ComponentTypeRef) where
    abbrev with_named : MeantScope → Option (tree.TypeDeclaration × Meant) → Option MeantScope
    with_named scope o = o >>= λ found. Some (record {
      slots = scope.slots ++ found.1 ∷ [];
      shown = record {
        types = scope.shown.types ++ record { name = name.text.now; meaning = record { declaration = found.0; external_id = (raw_name name).external_id }; slot = found.1 } ∷ [];
        functions = scope.shown.functions;
      };
    })

    pub type_absent : (e : Refusal) → ((T : List Tree) (F : List Signature) (place : Place) (x : Text) → AreNames T old.slots → Refuses e (named_type (slots_in T F old.slots) place x kind))
        → Halts marks (λ place. show_type (place here) (raw_name name) kind) old e
    type_absent e r place marked = refused e (named_type (slots_at place old old.slots) (place here) name.text.now kind) (show_type (place here) (raw_name name) kind (scope_at place old))
        (λ none. ap (with_named (scope_at place old)) none)
        (r (trees_at place old) (signatures_at place old) (place here) name.text.now (names_of place old.shapes old.signatures old.slots st.tables.table st.slots))

    name_kind : (b : Bool) (part : ℕ) → IsTypeSlot (name_slot b part)
    name_kind true part = tt
    name_kind false part = tt

    pub name_in : (b : Bool) (more : List Shape) (number : ℕ) → slice_get more number ≡ Some (named_shape here name.text.now) → IsSlotIn more old.signatures (name_slot b (14 + number))
    name_in true more number at = record { number = number; place = here; name = name.text.now; is = refl; at = at }
    name_in false more number at = let inside = found_below more number (named_shape here name.text.now) at in omega (arith, inside)

    pub name_stands : (place : ℕ → Place) (b : Bool) (more : List Shape) (number : ℕ) → IsTable more → slice_get more number ≡ Some (named_shape here name.text.now)
        → slot_in (shape_trees place more) (functions_in (shape_trees place more) old.signatures) (name_slot b (14 + number)) ≡ name_meant b (place here) name.text.now
    name_stands place true more number table at = ap resource_slot (name_part place more (14 + number) table (record { number = number; place = here; name = name.text.now; is = refl; at = at }))
    name_stands place false more number table at = ap follow.value (name_part place more (14 + number) table (record { number = number; place = here; name = name.text.now; is = refl; at = at }))

    pub own_over : (b : Bool) → SlotOver (MayMeet marks here) (name_meant b (apart here) name.text.now)
    own_over true = own_met marks here
    own_over false = name_over (MayMeet marks here) (apart here) name.text.now (own_met marks here)

    part_of_name : (b : Bool) (part : ℕ) → slot_part (name_slot b part) ≡ part
    part_of_name true part = refl
    part_of_name false part = refl

    -- a name that comes into a table is the next part
    pub name_counted : (b : Bool) (more : List Shape) (number : ℕ) → slice_get more number ≡ Some (named_shape here name.text.now) → Adds old.shapes (named_shape here name.text.now) more
        → CountUp (length old.shapes) (slot_parts (name_slot b (14 + number))) (length more)
    name_counted true more number at adds = (length more, adds_next old.shapes more (named_shape here name.text.now) number adds at, refl)
    name_counted false more number at adds = (length more, adds_next old.shapes more (named_shape here name.text.now) number adds at, refl)

    pub declared_range : (o : Option ℕ) (more : List Shape) → length old.shapes ≤ length more → IfSome o (λ k. (n : ℕ) → AreInRange n old.slots → k < 14 + n) → IfSome o (λ k. k < 14 + length more)
    declared_range None more le h = tt
    declared_range (Some k) more le h = let b = h (length old.shapes) (ranges_of old.shapes old.signatures old.slots st.slots) in omega (arith, b, le)

    pub old_range : (o : Option ℕ) → IfSome o (λ k. (n : ℕ) → AreInRange n old.slots → k < 14 + n) → IfSome o (λ k. k < 14 + length old.shapes)
    old_range None h = tt
    old_range (Some k) h = h (length old.shapes) (ranges_of old.shapes old.signatures old.slots st.slots)

    pub type_shown : here < length marks → (made : NewName) → IfSome made.declared (λ k. (n : ℕ) → AreInRange n old.slots → k < 14 + n)
        → ((T : List Tree) (F : List Signature) (place : Place) (x : Text) → AreNames T old.slots → named_type (slots_in T F old.slots) place x kind ≡ Some (named_by T place x made))
        → (more : List Shape) (number : ℕ) → slice_get more number ≡ Some (named_shape here name.text.now) → Adds old.shapes (named_shape here name.text.now) more → IsTable more
        → (s : Slot) → s ≡ name_slot made.is_resource (14 + number) → (ss : List Slot) → ss ≡ old.slots ++ s ∷ [] → (ts : List ShownType)
        → ts ≡ old.types ++ record { name = name.text; slot = s; declared = made.declared; external_id = name.external_id } ∷ []
        → Steps marks here 1 (λ place. show_type (place here) (raw_name name) kind) old (record { shapes = more; signatures = old.signatures; slots = ss; types = ts; functions = old.functions })
    type_shown below made range found more number at adds table s is ss next ts last =
        let t : ShownType = record { name = name.text; slot = s; declared = made.declared; external_id = name.external_id } in
        let gs = adds_grow old.shapes more (named_shape here name.text.now) adds in
        let gf = same_list old.signatures in
        let le = longer old.shapes more gs in
        let tables : AreTables (length marks) more old.signatures = record {
          table = table;
          placed = adds_placed (length marks) old.shapes more (named_shape here name.text.now) adds st.tables.placed (λ _. below);
          signatures = functions_wider (length old.shapes) (length more) old.signatures le st.tables.signatures;
        } in
        let inside : IsSlotIn more old.signatures s = subst (λ (x : Slot). IsSlotIn more old.signatures x) (sym is) (name_in made.is_resource more number at) in
        let shown : IsShownIn more old.signatures t = record {
          slot = inside;
          declared = declared_range made.declared more le range;
          kind = subst (λ (x : Slot). IsTypeSlot x) (sym is) (name_kind made.is_resource (14 + number));
        } in
        record {
          state = shown_state (length marks) old st more old.signatures gs gf tables s inside ss next t shown ts last;
          shapes_grow = gs;
          signatures_grow = gf;
          count = adds_one old.shapes more (named_shape here name.text.now) adds;
          counted = count_pushed old.slots ss s (length old.shapes) (length more) next (subst (λ (x : Slot). CountUp (length old.shapes) (slot_parts x) (length more)) (sym is)
              (name_counted made.is_resource more number at adds));
          placed = λ before p.
              let P = MayMeet marks here in
              let U = shape_trees apart more in
              let G = functions_in U old.signatures in
              let meant = shown_scope (length marks) old st more old.signatures gs gf tables s inside ss next t shown ts last apart in
              type_more marks before here old (record { shapes = more; signatures = old.signatures; slots = ss; types = ts; functions = old.functions }) p gs
              (subst (λ (xs : List Meant). AllByRecursion (SlotOver P) xs) (sym (ap (λ (x : MeantScope). x.slots) meant))
              (all_end (SlotOver P) (scope_at apart old).slots (slot_in U G s) p.slots
              (subst (λ x. SlotOver P x) (sym (ap (slot_in U G) is ∙ name_stands apart made.is_resource more number table at)) (own_over made.is_resource))))
              t number (ap slot_part is ∙ part_of_name made.is_resource (14 + number)) at adds table (old_range made.declared range) last
              (subst (λ (v : follow.View). ViewOver P v) (sym (ap (λ (x : MeantScope). x.shown) meant))
              (type_over_more P (scope_at apart old).shown p.shown (shown_type U G t)
              (subst (λ d. DeclarationOver P d) (sym (declared_stays (length marks) old.shapes more old.signatures old.signatures st.tables gs gf apart made.declared (old_range made.declared range)))
              (named_over P (slots_at apart old old.slots) p.slots (apart here) name.text.now kind (named_by (trees_at apart old) (apart here) name.text.now made)
              (found (trees_at apart old) (signatures_at apart old) (apart here) name.text.now (names_of apart old.shapes old.signatures old.slots st.tables.table st.slots))))));
          follows = λ place marked.
              let U = shape_trees place more in
              ap (with_named (scope_at place old)) (found (trees_at place old) (signatures_at place old) (place here) name.text.now
              (names_of place old.shapes old.signatures old.slots st.tables.table st.slots)) ∙ ((λ i. with_named (scope_at place old) (Some (
                sym (declared_stays (length marks) old.shapes more old.signatures old.signatures st.tables gs gf place made.declared (old_range made.declared range)) i,
                sym (ap (slot_in U (functions_in U old.signatures)) is ∙ name_stands place made.is_resource more number table at) i,
              ))) ∙ ap Some (sym (shown_scope (length marks) old st more old.signatures gs gf tables s inside ss next t shown ts last place)));
        }

-- ---- either of them

-- an export that is no function shows a type
shows_type : (kind : ComponentTypeRef) → ((n : ℕ) → kind ≡ refs.Func n → ⊥) → (place : Place) (name : RawName) (scope : MeantScope)
    → follow.show place name kind scope ≡ show_type place name kind scope
shows_type x other place name scope = search std_rules

pub as_type : (kind other : ComponentTypeRef) → ((n : ℕ) → kind ≡ refs.Func n → ⊥) → kind ≡ other → (place : Place) (name : RawName) (scope : MeantScope) → follow.is_simple name ≡ true
    → follow.when (follow.is_simple name) (follow.show place name kind scope) ≡ show_type place name other scope
as_type kind other no_function is place name scope simple = search std_rules
