-- A scope of an instance type in tables that grow, and what each declaration does to it.
use Rattle.std.proofs.Common.{rules as std_rules, ◌≡◌, refl, sym, ap, ◌∙◌, subst, ℕ, ◌+◌, ◌<◌, ◌≤◌, arith, Bool, List, [], ◌∷◌, ◌++◌, map, length, Option, Some, None, option_map, IfSome, Result, IfErr, OnOk, slice_get, unwrap_or}
use Rattle.std.proofs.{Math.ListN.length-map, lemmas.List.map-append, lemmas.Option.slice_get_within as found_below}
use Rattle.std.specs.List.{AllByRecursion}
use Rattle.wit_model.specs.{Meaning.Signature, Text.Text, Tree.Place, Tree.Tree, Types.no_tree}
use Rattle.comp_bytes.specs.{Raw.Declaration, Raw.DefinedType, Raw.FunctionType, RawOf.text_of, Reading.◌>>=◌}
use Rattle.comp_meaning.specs.Follow.{InstanceScope as MeantScope, Slot as Meant, definition, function_signature, in_instance, instance_step}
use Rattle.read_follow.specs.declared.{refusal.Refusal.Refusal, slots.Slot.Slot, views.ShownFunction.ShownFunction, views.ShownType.ShownType}
use Rattle.read_follow.specs.{Defining.AddsForms, Defining.Grows, Defining.IsDefined, Defining.IsDefinedFunction, Defining.IsUndefined, Found.Refuses}
use Rattle.read_follow.specs.Following.{declared_in, scope_at, shown_function, shown_type, signatures_at, slots_at, trees_at, view_at, AreSlotsIn, AreTables, Halts, IsNamePart, IsPlacedState, IsShownFunctionIn, IsShownIn, IsSlotIn, IsState, State, Steps}
use Rattle.read_follow.specs.Functions.{functions_in, signature_in, AreFunctionsIn, FunctionShape, IsFunctionIn, Joins, stays, comes}
use Rattle.read_follow.specs.{Numbering.slot_parts, Numbering.CountUp, Placed.apart, Placed.MayMeet, Placed.SignatureOver, Placed.SlotOver, Placed.ViewOver}
use Rattle.read_follow.specs.Slots.{no_signature, resource_slot, slot_in, slots_in, AreInRange, AreNames, IsName}
use Rattle.plan_meaning.specs.Shapes.{Shape, named_shape, part_tree, shape_trees, IsTable}
use Rattle.plan_meaning.proofs.{ShapeLaws.name_tree, ShapeLaws.part_behind, ShapeLaws.tree_at_number, Lists.each_so}
use Rattle.read_follow.proofs.DefiningLaws.{functions_grown, longer, no_shapes, one_longer, part_grown, same_list, map_so}
use Rattle.read_follow.proofs.{NumberingLaws.count_pushed, OverLaws.definition_over, OverLaws.signature_over, PlacedLaws.same_types, Refusing.refused}
use Rattle.base_lemmas.proofs.{Elements.all_end, Lists.mapped_get, Lists.slice_front}
use Rattle.wit_model.specs.Tree as tree
use Rattle.comp_meaning.specs.Follow as follow
use Rattle.read_follow.specs.declared.slots.Slot.TheVariants as slots

-- ---- slots of well-formed tables

pub name_below : (shapes : List Shape) (part : ℕ) → IsNamePart shapes part → part < 14 + length shapes
name_below shapes part named = let inside = found_below shapes named.number (named_shape named.place named.name) named.at in omega (arith, named.is, inside)

-- a part that is a name stands for it
pub name_part : (place : ℕ → Place) (shapes : List Shape) (part : ℕ) → IsTable shapes → (named : IsNamePart shapes part)
    → part_tree (shape_trees place shapes) part ≡ Tree.named (place named.place) named.name
name_part place shapes part table named =
    let T = shape_trees place shapes in
    ap (part_tree T) named.is ∙ (part_behind T named.number
    ∙ (ap (λ o. unwrap_or o no_tree) (tree_at_number place shapes table named.number (named_shape named.place named.name) named.at) ∙ name_tree place T named.place named.name))

pub ranges_of : (shapes : List Shape) (fs : List FunctionShape) (ss : List Slot) → AreSlotsIn shapes fs ss → AreInRange (length shapes) ss
ranges_of shapes fs [] h = tt
ranges_of shapes fs (slots.Value part ∷ ss) h = (h.0, ranges_of shapes fs ss h.1)
ranges_of shapes fs (slots.Resource part ∷ ss) h = (name_below shapes part h.0, ranges_of shapes fs ss h.1)
ranges_of shapes fs (slots.Function n ∷ ss) h = ranges_of shapes fs ss h.1
ranges_of shapes fs (slots.Instance b n ∷ ss) h = ranges_of shapes fs ss h.1

pub names_of : (place : ℕ → Place) (shapes : List Shape) (fs : List FunctionShape) (ss : List Slot) → IsTable shapes → AreSlotsIn shapes fs ss → AreNames (shape_trees place shapes) ss
names_of place shapes fs [] table h = tt
names_of place shapes fs (slots.Value part ∷ ss) table h = names_of place shapes fs ss table h.1
names_of place shapes fs (slots.Resource part ∷ ss) table h = (subst IsName (sym (name_part place shapes part table h.0)) tt, names_of place shapes fs ss table h.1)
names_of place shapes fs (slots.Function n ∷ ss) table h = names_of place shapes fs ss table h.1
names_of place shapes fs (slots.Instance b n ∷ ss) table h = names_of place shapes fs ss table h.1

-- a slot over a table counts nothing more
pub slot_counted : (shapes : List Shape) (fs : List FunctionShape) (s : Slot) → IsSlotIn shapes fs s → CountUp (length shapes) (slot_parts s) (length shapes)
slot_counted shapes fs x h = search (std_rules, name_below)

-- ---- empty tables

-- ---- tables that grow

module _ (m : ℕ) (shapes more : List Shape) (fs more_fs : List FunctionShape) (tables : AreTables m shapes fs) (gs : Grows shapes more) (gf : Grows fs more_fs) where
  pub wider_part : (k : ℕ) → k < 14 + length shapes → k < 14 + length more
  wider_part k h = let long = longer shapes more gs in omega (arith, h, long)

  pub wider_number : (n : ℕ) → n < length fs → n < length more_fs
  wider_number n h = let long = longer fs more_fs gf in omega (arith, h, long)

  pub wider_slot : (s : Slot) → IsSlotIn shapes fs s → IsSlotIn more more_fs s
  wider_slot (slots.Value part) h = wider_part part h
  wider_slot (slots.Resource part) h = search (std_rules, slice_front, found_below)
  wider_slot (slots.Function n) h = wider_number n h
  wider_slot (slots.Instance b n) h = h

  pub wider_declared : (o : Option ℕ) → IfSome o (λ k. k < 14 + length shapes) → IfSome o (λ k. k < 14 + length more)
  wider_declared None h = tt
  wider_declared (Some k) h = wider_part k h

  pub wider_slots : (ss : List Slot) → AreSlotsIn shapes fs ss → AreSlotsIn more more_fs ss
  wider_slots ss h = each_so _ _ wider_slot ss h

  pub wider_types : (ts : List ShownType) → AllByRecursion (IsShownIn shapes fs) ts → AllByRecursion (IsShownIn more more_fs) ts
  wider_types [] h = tt
  wider_types (t ∷ ts) h = (record { slot = wider_slot t.slot h.0.slot; declared = wider_declared t.declared h.0.declared; kind = h.0.kind }, wider_types ts h.1)

  pub wider_functions : (ts : List ShownFunction) → AllByRecursion (IsShownFunctionIn fs) ts → AllByRecursion (IsShownFunctionIn more_fs) ts
  wider_functions ts h = each_so _ _ (λ (f : ShownFunction). wider_number f.function) ts h

  module _ (place : ℕ → Place) where
    abbrev T : List Tree
    T = shape_trees place shapes

    abbrev U : List Tree
    U = shape_trees place more

    part_stays : (k : ℕ) → k < 14 + length shapes → part_tree U k ≡ part_tree T k
    part_stays k h = part_grown place shapes more gs k h

    signatures_split : functions_in U more_fs ≡ functions_in T fs ++ functions_in U gf.more
    signatures_split = ap (functions_in U) gf.is ∙ (map-append (signature_in U) fs gf.more ∙ ap (λ xs. xs ++ functions_in U gf.more) (functions_grown place shapes more gs fs tables.signatures))

    pub signature_stays : (n : ℕ) → n < length fs → slice_get (functions_in U more_fs) n ≡ slice_get (functions_in T fs) n
    signature_stays n h = ap (λ xs. slice_get xs n) signatures_split ∙ slice_front (functions_in T fs) (functions_in U gf.more) n (omega (arith, h, length-map fs (signature_in T)))

    pub slot_stays : (s : Slot) → IsSlotIn shapes fs s → slot_in U (functions_in U more_fs) s ≡ slot_in T (functions_in T fs) s
    slot_stays (slots.Value part) h = ap follow.value (part_stays part h)
    slot_stays (slots.Resource part) h = ap resource_slot (part_stays part (name_below shapes part h))
    slot_stays (slots.Function n) h = ap (λ o. follow.function (unwrap_or o no_signature)) (signature_stays n h)
    slot_stays (slots.Instance b n) h = refl

    pub slots_stay : (ss : List Slot) → AreSlotsIn shapes fs ss → slots_in U (functions_in U more_fs) ss ≡ slots_in T (functions_in T fs) ss
    slots_stay ss h = map_so _ _ _ slot_stays ss h

    pub declared_stays : (o : Option ℕ) → IfSome o (λ k. k < 14 + length shapes) → declared_in U o ≡ declared_in T o
    declared_stays None h = refl
    declared_stays (Some k) h = ap tree.TypeDeclaration.type_ (part_stays k h)

    type_stays : (t : ShownType) → IsShownIn shapes fs t → shown_type U (functions_in U more_fs) t ≡ shown_type T (functions_in T fs) t
    type_stays t h = λ i. record {
      name = t.name.now;
      meaning = record { declaration = declared_stays t.declared h.declared i; external_id = option_map text_of t.external_id };
      slot = slot_stays t.slot h.slot i;
    }

    pub types_stay : (ts : List ShownType) → AllByRecursion (IsShownIn shapes fs) ts → map (shown_type U (functions_in U more_fs)) ts ≡ map (shown_type T (functions_in T fs)) ts
    types_stay ts h = map_so _ _ _ type_stays ts h

    pub functions_stay : (ts : List ShownFunction) → AllByRecursion (IsShownFunctionIn fs) ts → map (shown_function (functions_in U more_fs)) ts ≡ map (shown_function (functions_in T fs)) ts
    functions_stay [] h = refl
    functions_stay (f ∷ ts) h = λ i. (f.name.now, record { signature = unwrap_or (signature_stays f.function h.0 i) no_signature; external_id = option_map text_of f.external_id })
        ∷ functions_stay ts h.1 i

pub functions_wider : (n m : ℕ) (fs : List FunctionShape) → n ≤ m → AreFunctionsIn n fs → AreFunctionsIn m fs
functions_wider n m [] le h = tt
functions_wider n m (f ∷ fs) le h = (record { params = each_so _ _ (λ (q : Text × ℕ) b. omega (arith, b, le)) f.params h.0.params; outcome = search std_rules }, functions_wider n m fs le h.1)

pub joins_grow : {X : Type 0} (old new : List X) (x : X) → Joins old x new → Grows old new
joins_grow old new x stays = same_list old
joins_grow old new x (comes fresh) = one_longer old x

pub joins_all : {X : Type 0} (P : X → Type 0) (old new : List X) (x : X) → Joins old x new → AllByRecursion P old → P x → AllByRecursion P new
joins_all P old new x stays all one = all
joins_all P old new x (comes fresh) all one = all_end P old x all one

-- ---- a scope with something more

module _ (m : ℕ) (old : State) (st : IsState m old) (more : List Shape) (more_fs : List FunctionShape) (gs : Grows old.shapes more) (gf : Grows old.signatures more_fs) (tables : AreTables m more more_fs) where
  abbrev with_slots : List Slot → State
  with_slots ss = record { shapes = more; signatures = more_fs; slots = ss; types = old.types; functions = old.functions }

  scope_stays : (place : ℕ → Place) → scope_at place (with_slots old.slots) ≡ scope_at place old
  scope_stays place = λ i. record {
    slots = slots_stay m old.shapes more old.signatures more_fs st.tables gs gf place old.slots st.slots i;
    shown = record {
      types = types_stay m old.shapes more old.signatures more_fs st.tables gs gf place old.types st.types i;
      functions = functions_stay m old.shapes more old.signatures more_fs st.tables gs gf place old.functions st.functions i;
    };
  }

  module _ (s : Slot) (is : IsSlotIn more more_fs s) (ss : List Slot) (next : ss ≡ old.slots ++ s ∷ []) where
    slots_in_grown : AreSlotsIn more more_fs ss
    slots_in_grown = subst (λ (xs : List Slot). AreSlotsIn more more_fs xs) (sym next)
        (all_end (IsSlotIn more more_fs) old.slots s (wider_slots m old.shapes more old.signatures more_fs st.tables gs gf old.slots st.slots) is)

    slot_last : (place : ℕ → Place)
        → slots_at place (with_slots ss) ss ≡ slots_at place (with_slots ss) old.slots ++ slot_in (shape_trees place more) (functions_in (shape_trees place more) more_fs) s ∷ []
    slot_last place = ap (slots_at place (with_slots ss)) next ∙ map-append (slot_in (shape_trees place more) (functions_in (shape_trees place more) more_fs)) old.slots (s ∷ [])

    pub pushed_state : IsState m (with_slots ss)
    pushed_state = record {
      tables = tables;
      slots = slots_in_grown;
      types = wider_types m old.shapes more old.signatures more_fs st.tables gs gf old.types st.types;
      functions = wider_functions m old.shapes more old.signatures more_fs st.tables gs gf old.functions st.functions;
    }

    pub pushed_scope : (place : ℕ → Place) → scope_at place (with_slots ss) ≡ in_instance (slot_in (shape_trees place more) (functions_in (shape_trees place more) more_fs) s) (scope_at place old)
    pushed_scope place = (λ i. record { slots = slot_last place i; shown = view_at place (with_slots ss) old.types old.functions })
        ∙ ap (in_instance (slot_in (shape_trees place more) (functions_in (shape_trees place more) more_fs) s)) (scope_stays place)

    pub pushed_placed : (marks : List Bool) (before : List Shape) (here : ℕ) → IsPlacedState marks before here old
        → SlotOver (MayMeet marks here) (slot_in (shape_trees apart more) (functions_in (shape_trees apart more) more_fs) s)
        → AddsForms old.shapes more → IsPlacedState marks before here (with_slots ss)
    pushed_placed marks before here p one forms =
        let meant = pushed_scope apart in
        same_types marks before here old (with_slots ss) p gs (subst (λ (xs : List Meant). AllByRecursion (SlotOver (MayMeet marks here)) xs) (sym (ap (λ (x : MeantScope). x.slots) meant))
        (all_end (SlotOver (MayMeet marks here)) (scope_at apart old).slots (slot_in (shape_trees apart more) (functions_in (shape_trees apart more) more_fs) s) p.slots one))
        (subst (λ (v : follow.View). ViewOver (MayMeet marks here) v) (sym (ap (λ (x : MeantScope). x.shown) meant)) p.shown) refl forms

    -- a type that is shown with it
    module _ (t : ShownType) (shown : IsShownIn more more_fs t) (ts : List ShownType) (last : ts ≡ old.types ++ t ∷ []) where
      abbrev with_type : State
      with_type = record { shapes = more; signatures = more_fs; slots = ss; types = ts; functions = old.functions }

      pub shown_state : IsState m with_type
      shown_state = record {
        tables = tables;
        slots = slots_in_grown;
        types = subst (λ (xs : List ShownType). AllByRecursion (IsShownIn more more_fs) xs) (sym last)
            (all_end (IsShownIn more more_fs) old.types t (wider_types m old.shapes more old.signatures more_fs st.tables gs gf old.types st.types) shown);
        functions = wider_functions m old.shapes more old.signatures more_fs st.tables gs gf old.functions st.functions;
      }

      abbrev with_meant : Meant → follow.ShownType → MeantScope → MeantScope
      with_meant slot type scope = record { slots = scope.slots ++ slot ∷ []; shown = record { types = scope.shown.types ++ type ∷ []; functions = scope.shown.functions } }

      type_last : (place : ℕ → Place) → map (shown_type (shape_trees place more) (functions_in (shape_trees place more) more_fs)) ts
          ≡ map (shown_type (shape_trees place more) (functions_in (shape_trees place more) more_fs)) old.types ++ shown_type (shape_trees place more)
          (functions_in (shape_trees place more) more_fs) t ∷ []
      type_last place = ap (map (shown_type (shape_trees place more) (functions_in (shape_trees place more) more_fs))) last ∙ map-append
          (shown_type (shape_trees place more) (functions_in (shape_trees place more) more_fs)) old.types (t ∷ [])

      pub shown_scope : (place : ℕ → Place) → scope_at place with_type
          ≡ with_meant (slot_in (shape_trees place more) (functions_in (shape_trees place more) more_fs) s) (shown_type (shape_trees place more) (functions_in (shape_trees place more) more_fs) t)
          (scope_at place old)
      shown_scope place =
          (λ i. record { slots = slot_last place i; shown = record { types = type_last place i; functions = map (shown_function (functions_in (shape_trees place more) more_fs)) old.functions } })
          ∙ ap (with_meant (slot_in (shape_trees place more) (functions_in (shape_trees place more) more_fs) s) (shown_type (shape_trees place more) (functions_in (shape_trees place more) more_fs) t))
          (scope_stays place)

-- ---- definitions

module _ (marks : List Bool) (old : State) (st : IsState (length marks) old) (here : ℕ) (outer : (ℕ → Place) → List Meant) where
  abbrev step_of : Declaration → (ℕ → Place) → MeantScope → Option MeantScope
  step_of d place scope = instance_step (place here) (outer place) scope d

  pub defined_step : (d : DefinedType) (more : List Shape) (ss : List Slot) → IsTable more → IsDefined old.shapes old.slots d more ss
      → Steps marks here 1 (step_of (Declaration.defined d)) old (record { shapes = more; signatures = old.signatures; slots = ss; types = old.types; functions = old.functions })
  defined_step d more ss table is =
      let tables : AreTables (length marks) more old.signatures = record {
        table = table;
        placed = is.placed (length marks) st.tables.placed;
        signatures = functions_wider (length old.shapes) (length more) old.signatures (longer old.shapes more is.grown) st.tables.signatures;
      } in
      record {
        state = pushed_state (length marks) old st more old.signatures is.grown (same_list old.signatures) tables (slots.Value is.part) is.range ss is.next;
        shapes_grow = is.grown;
        signatures_grow = same_list old.signatures;
        count = is.count;
        counted = count_pushed old.slots ss (slots.Value is.part) (length old.shapes) (length more) is.next (length more, is.counted, refl);
        placed = λ before p. pushed_placed (length marks) old st more old.signatures is.grown (same_list old.signatures) tables (slots.Value is.part) is.range ss is.next marks before here p
            (definition_over (MayMeet marks here) (slots_at apart old old.slots) p.slots d (part_tree (shape_trees apart more) is.part)
            (is.found apart (signatures_at apart old) (names_of apart old.shapes old.signatures old.slots st.tables.table st.slots))) is.forms;
        follows = λ place marked. ap (λ o. o >>= λ t. Some (in_instance (follow.value t) (scope_at place old)))
            (is.found place (signatures_at place old) (names_of place old.shapes old.signatures old.slots st.tables.table st.slots))
            ∙ ap Some (sym (pushed_scope (length marks) old st more old.signatures is.grown (same_list old.signatures) tables (slots.Value is.part) is.range ss is.next place));
      }

  pub defined_halts : (d : DefinedType) (e : Refusal) → IsUndefined old.shapes old.slots d e → Halts marks (step_of (Declaration.defined d)) old e
  defined_halts d e r place marked = refused e (definition (scope_at place old).slots d) (step_of (Declaration.defined d) place (scope_at place old))
      (λ none. ap (λ o. o >>= λ t. Some (in_instance (follow.value t) (scope_at place old))) none)
      (r place (signatures_at place old) (names_of place old.shapes old.signatures old.slots st.tables.table st.slots))

  pub function_step : (f : FunctionType) (more_fs : List FunctionShape) (ss : List Slot) → IsDefinedFunction old.signatures old.slots f more_fs ss
      → Steps marks here 1 (step_of (Declaration.function f)) old (record { shapes = old.shapes; signatures = more_fs; slots = ss; types = old.types; functions = old.functions })
  function_step f more_fs ss is =
      let inside : is.number < length more_fs = found_below more_fs is.number is.shape is.at in
      let grows = joins_grow old.signatures more_fs is.shape is.joins in
      let tables : AreTables (length marks) old.shapes more_fs = record {
        table = st.tables.table;
        placed = st.tables.placed;
        signatures = joins_all (IsFunctionIn (length old.shapes)) old.signatures more_fs is.shape is.joins st.tables.signatures
            (is.ranges (length old.shapes) (ranges_of old.shapes old.signatures old.slots st.slots));
      } in
      record {
        state = pushed_state (length marks) old st old.shapes more_fs (same_list old.shapes) grows tables (slots.Function is.number) inside ss is.next;
        shapes_grow = same_list old.shapes;
        signatures_grow = grows;
        count = omega arith;
        counted = count_pushed old.slots ss (slots.Function is.number) (length old.shapes) (length old.shapes) is.next refl;
        placed = λ before p. pushed_placed (length marks) old st old.shapes more_fs (same_list old.shapes) grows tables (slots.Function is.number) inside ss is.next marks before here p
            (subst (λ (s : Signature). SignatureOver (MayMeet marks here) s) (sym
            (ap (λ o. unwrap_or o no_signature) (mapped_get (signature_in (trees_at apart old)) more_fs is.number is.shape is.at)))
            (signature_over (MayMeet marks here) (slots_at apart old old.slots) p.slots f (signature_in (trees_at apart old) is.shape) (is.found (trees_at apart old) (signatures_at apart old))))
            (no_shapes old.shapes);
        follows = λ place marked. ap (λ o. o >>= λ s. Some (in_instance (follow.function s) (scope_at place old))) (is.found (trees_at place old) (signatures_at place old))
            ∙ (ap (λ s. Some (in_instance (follow.function s) (scope_at place old)))
            (sym (ap (λ o. unwrap_or o no_signature) (mapped_get (signature_in (trees_at place old)) more_fs is.number is.shape is.at)))
            ∙ ap Some (sym (pushed_scope (length marks) old st old.shapes more_fs (same_list old.shapes) grows tables (slots.Function is.number) inside ss is.next place)));
      }

  pub function_halts : (f : FunctionType) (e : Refusal) → ((T : List Tree) (F : List Signature) → Refuses e (function_signature (slots_in T F old.slots) f))
      → Halts marks (step_of (Declaration.function f)) old e
  function_halts f e r place marked = refused e (function_signature (scope_at place old).slots f) (step_of (Declaration.function f) place (scope_at place old))
      (λ none. ap (λ o. o >>= λ s. Some (in_instance (follow.function s) (scope_at place old))) none) (r (trees_at place old) (signatures_at place old))

-- ---- the same step in other words

pub steps_as : (marks : List Bool) (here few : ℕ) (f g : (ℕ → Place) → MeantScope → Option MeantScope) (old new : State) → ((place : ℕ → Place) (scope : MeantScope) → g place scope ≡ f place scope)
    → Steps marks here few f old new → Steps marks here few g old new
steps_as marks here few f g old new same s = search std_rules

pub halts_as : (marks : List Bool) (f g : (ℕ → Place) → MeantScope → Option MeantScope) (old : State) (e : Refusal) → ((place : ℕ → Place) (scope : MeantScope) → g place scope ≡ f place scope)
    → Halts marks f old e → Halts marks g old e
halts_as marks f g old e same h place marked = refused e (f place (scope_at place old)) (g place (scope_at place old)) (λ none. same place (scope_at place old) ∙ none) (h place marked)

pub on_ok : {A : Type 0} (P Q : Type 0) (r : Result A Refusal) → (P → Q) → OnOk r P → OnOk r Q
on_ok x y z f h = search std_rules

pub if_err : {A : Type 0} (P Q : Refusal → Type 0) (r : Result A Refusal) → ((e : Refusal) → P e → Q e) → IfErr r P → IfErr r Q
if_err x y z f h = search std_rules
