-- One declaration of an instance type after the other.
use Rattle.std.proofs.Common.{rules as std_rules, ◌≡◌, refl, sym, ap, ◌∙◌, subst, ℕ, ◌+◌, ◌-◌, ◌<◌, arith, inl, inr, Bool, true, false, cond, List, length, Option, Some, None, slice_get, unwrap_or, suc, ◌≤◌, ◌&&◌, ◌==◌, [], ◌∷◌, ◌++◌, append_assoc}
use Rattle.std.proofs.lemmas.Bool.{lt-ltb, le-ltb, false≢true}
use Rattle.std.proofs.lemmas.Option.{none-some as not_some, same_Some as some_same, slice_get_within as found_below}
use Rattle.wit_model.specs.{Meaning.Signature, Tree.Place, Tree.Tree, Types.no_tree}
use Rattle.comp_meaning.specs.Follow.{is_foreign_name, InstanceScope as MeantScope, in_instance, instance_step, instance_steps, instance_view, new_instance, provided}
use Rattle.read_follow.specs.declared.{slots.Slot.Slot, bodies.Body.Body, views.View.View}
use Rattle.read_follow.specs.declared.{refusal.Refusal.Refusal, views.InstanceScope.InstanceScope, views.ShownFunction.ShownFunction, views.ShownType.ShownType}
use Rattle.read_follow.specs.{Defining.ArePlacedBelow, Defining.Grows, Numbering.held_trees, Numbering.parts_in}
use Rattle.read_follow.specs.{Functions.FunctionShape, Functions.functions_in, Slots.resource_slot, Slots.slot_in, Slots.slots_in, Found.Refuses}
use Rattle.read_follow.specs.{Placed.apart, Placed.MayMeet, Placed.SlotOver, Placed.TreeOver, Bodies.held_declaration_at, Bodies.items_in, Bodies.IsBody}
use Rattle.read_follow.specs.Following.{is_path, AreMarked, IsNamePart, IsSlotIn, scope_at, signatures_at, slots_at, trees_at, view_at, AreSlotsIn, AreTables, Halts, IsPlacedState, IsShownFunctionIn, IsShownIn, IsState, State, Steps}
use Rattle.read_follow.specs.InstanceScopes.{foreign_part, foreign_slot, is_marked, name_place, place_in, state_of, step_of, tables_of, taken_by, IsFollowed, IsViewOf, ShowsNothing}
use Rattle.plan_meaning.specs.Shapes.{Shape, form_code, named_shape, part_tree, primitives, shape_tree, shape_trees, IsShape, a_name, a_node, IsTable, node_shape}
use Rattle.plan_meaning.proofs.ShapeLaws.{name_tree, node_tree, part_behind, part_front, split_part, tree_at_number}
use Rattle.plan_meaning.proofs.NumberedRules.{no_name as no_sort}
use Rattle.read_follow.proofs.{DefiningLaws.all_at, DefiningLaws.no_shapes, DefiningLaws.same_list, NumberingLaws.count_pushed, NumberingLaws.slots_declare}
use Rattle.read_follow.proofs.FollowingLaws.{name_part, names_of, pushed_placed, pushed_scope, pushed_state, slot_counted, slots_stay, wider_slots}
use Rattle.read_follow.proofs.{OverLaws.name_over, Refusing.refused, ScopedLaws.parts_over, SlotLaws.at_slot, SlotLaws.no_slot}
use Rattle.base_lemmas.proofs.{Lists.mapped_get, Lists.within_there as slice_there, Numbers.less}
use Rattle.std.specs.List.{AllByRecursion}
use Rattle.comp_bytes.specs.{Raw.Alias, Raw.Declaration, Reading.◌>>=◌, Reading.Reader, Reading.sequence_at}
use Rattle.comp_meaning.specs.Follow as follow
use Rattle.read_follow.specs.declared.slots.Slot.TheVariants as slots

-- ---- Which slots are names of interfaces with a path.

-- the place of a primitive, and of a number of the table
place_front : (shapes : List Shape) (k : ℕ) → k < 14 → place_in shapes k ≡ None
place_front shapes k h = ap (λ b. cond b None (name_place (slice_get shapes (k - 14)))) (lt-ltb k 14 h)

place_behind : (shapes : List Shape) (n : ℕ) → place_in shapes (14 + n) ≡ name_place (slice_get shapes n)
place_behind shapes n = ap (λ b. cond b None (name_place (slice_get shapes (14 + n - 14)))) (le-ltb (14 + n) 14 (omega arith)) ∙ ap (λ m. name_place (slice_get shapes m)) (omega arith)

module _ (marks : List Bool) (place : ℕ → Place) (marked : AreMarked marks place) where
  mark_of : (p : ℕ) → p < length marks → is_marked marks (Some p) ≡ is_path (place p)
  mark_of p h = let found = slice_there marks p h in ap (λ o. unwrap_or o false) found.1 ∙ sym (marked p found.0 found.1)

  module _ (shapes : List Shape) (table : IsTable shapes) (placed : ArePlacedBelow (length marks) shapes) where
    abbrev T : List Tree
    T = shape_trees place shapes

    shaped : (n : ℕ) (s : Shape) → slice_get shapes n ≡ Some s → IsShape n s → is_marked marks (name_place (Some s)) ≡ is_foreign_name (follow.value (shape_tree place T s))
    shaped n s at (a_name p x is) = ap (λ (t : Shape). is_marked marks (name_place (Some t))) is
        ∙ (mark_of p (all_at (λ t. t.sort ≡ 0 → t.number < length marks) shapes n (named_shape p x) placed (at ∙ ap Some is) refl)
        ∙ (sym ((search std_rules)) ∙ ap (λ t. is_foreign_name (follow.value t)) (sym (name_tree place T p x) ∙ ap (shape_tree place T) (sym is))))
    shaped n s at (a_node f ks is below) = ap (λ (t : Shape). is_marked marks (name_place (Some t))) is
        ∙ (ap (λ b. is_marked marks (cond b (Some (form_code f).number) None)) (no_sort f)
        ∙ ap (λ t. is_foreign_name (follow.value t)) (sym (node_tree place T f ks) ∙ ap (shape_tree place T) (sym is)))

    value_foreign : (k : ℕ) → k < 14 + length shapes → foreign_part marks shapes k ≡ is_foreign_name (follow.value (part_tree T k))
    value_foreign k h = elim (split_part k) [
      | inl small ↦
          let found = slice_there primitives k small in
          ap (is_marked marks) (place_front shapes k small)
          ∙ sym (ap (λ t. is_foreign_name (follow.value t)) (part_front T k small ∙ ap (λ o. unwrap_or o no_tree) (mapped_get Tree.primitive primitives k found.0 found.1)))
      | inr n ↦
          let found = slice_there shapes n.0 (omega (arith, h, n.1)) in
          ap (foreign_part marks shapes) n.1 ∙ (ap (is_marked marks) (place_behind shapes n.0)
          ∙ (ap (λ o. is_marked marks (name_place o)) found.1 ∙ (shaped n.0 found.0 found.1 (table.each n.0 found.0 found.1)
          ∙ ap (λ t. is_foreign_name (follow.value t)) (sym (ap (part_tree T) n.1 ∙ (part_behind T n.0 ∙ ap (λ o. unwrap_or o no_tree) (tree_at_number place shapes table n.0 found.0 found.1)))))))
    ]

    resource_foreign : (k : ℕ) → (named : IsNamePart shapes k) → foreign_part marks shapes k ≡ is_foreign_name (resource_slot (part_tree T k))
    resource_foreign k named = ap (foreign_part marks shapes) named.is ∙ (ap (is_marked marks) (place_behind shapes named.number)
        ∙ (ap (λ o. is_marked marks (name_place o)) named.at ∙ (mark_of named.place (all_at _ _ named.number (named_shape named.place named.name) placed named.at refl)
        ∙ (sym ((search std_rules)) ∙ ap (λ t. is_foreign_name (resource_slot t)) (sym (name_part place shapes k table named))))))

    -- a slot is marked exactly where it is such a name
    pub slot_foreign : (fs : List FunctionShape) (F : List Signature) (s : Slot) → IsSlotIn shapes fs s → foreign_slot marks shapes s ≡ is_foreign_name (slot_in T F s)
    slot_foreign fs F (slots.Value k) h = value_foreign k h
    slot_foreign fs F (slots.Resource k) h = resource_foreign k h
    slot_foreign fs F (slots.Function n) h = refl
    slot_foreign fs F (slots.Instance b n) h = refl

-- ---- a slot that is marked is over a place that is

module _ (marks : List Bool) (here : ℕ) (shapes : List Shape) (table : IsTable shapes) where
  abbrev U : List Tree
  U = shape_trees apart shapes

  place_met : (p : ℕ) → is_marked marks (Some p) ≡ true → MayMeet marks here (apart p)
  place_met p e q same = let one : p ≡ q = cc in inr (subst (λ n. slice_get marks n ≡ Some true) one ((search std_rules)))

  value_met : (k : ℕ) → k < 14 + length shapes → foreign_part marks shapes k ≡ true → TreeOver (MayMeet marks here) (part_tree U k)
  value_met k h e = elim (split_part k) [
    | inl small ↦ absurd (false≢true (sym (ap (is_marked marks) (place_front shapes k small)) ∙ e))
    | inr n ↦
        let found = slice_there shapes n.0 (omega (arith, h, n.1)) in
        subst (λ t. TreeOver (MayMeet marks here) t) (sym (ap (part_tree U) n.1 ∙ (part_behind U n.0 ∙ ap (λ o. unwrap_or o no_tree) (tree_at_number apart shapes table n.0 found.0 found.1))))
        ((search (std_rules, name_tree, name_over, place_met, false≢true, no_sort)))
  ]

  resource_met : (k : ℕ) → IsNamePart shapes k → foreign_part marks shapes k ≡ true → SlotOver (MayMeet marks here) (resource_slot (part_tree U k))
  resource_met k named e = subst (λ t. SlotOver (MayMeet marks here) (resource_slot t)) (sym (name_part apart shapes k table named))
      (place_met named.place (sym (ap (foreign_part marks shapes) named.is ∙ (ap (is_marked marks) (place_behind shapes named.number) ∙ ap (λ o. is_marked marks (name_place o)) named.at)) ∙ e))

  pub foreign_over : (fs : List FunctionShape) (F : List Signature) (s : Slot) → IsSlotIn shapes fs s → foreign_slot marks shapes s ≡ true → SlotOver (MayMeet marks here) (slot_in U F s)
  foreign_over fs x y h e = search (std_rules, value_met, resource_met, false≢true)

-- ---- aliases

pub guarded : {A B : Type 0} (b : Bool) (x : A) (g : A → B) → provided b (g x) ≡ (provided b x >>= λ y. Some (g y))
guarded x y g = search std_rules

module _ (marks : List Bool) (old : State) (st : IsState (length marks) old) (here : ℕ) (outer : List Slot) (inside : AreSlotsIn old.shapes old.signatures outer) where
  alias_meant : (place : ℕ → Place) → AreMarked marks place → (a : Alias) (scope : MeantScope)
      → step_of here old.shapes old.signatures outer (Declaration.alias_of a) place scope
      ≡ (taken_by marks old.shapes outer a >>= λ s. Some (in_instance (slot_in (trees_at place old) (signatures_at place old) s) scope))
  alias_meant place marked (Alias.of_export m name) scope = refl
  alias_meant place marked (Alias.of_outer scopes n) scope = by (slice_get outer n) refl
    where
      T : List Tree
      T = shape_trees place old.shapes

      by : (o : Option Slot) → slice_get outer n ≡ o
          → (slice_get (slots_in T (functions_in T old.signatures) outer) n >>= λ slot. provided (scopes == 1 && is_foreign_name slot) (in_instance slot scope))
          ≡ ((o >>= λ s. provided (scopes == 1 && foreign_slot marks old.shapes s) s) >>= λ s. Some (in_instance (slot_in T (functions_in T old.signatures) s) scope))
      by None e = ap (λ p. p >>= λ slot. provided (scopes == 1 && is_foreign_name slot) (in_instance slot scope)) (no_slot outer n T (functions_in T old.signatures) e)
      by (Some s) e = ap (λ p. p >>= λ slot. provided (scopes == 1 && is_foreign_name slot) (in_instance slot scope)) (at_slot outer n T (functions_in T old.signatures) s e)
          ∙ (ap (λ b. provided (scopes == 1 && b) (in_instance (slot_in T (functions_in T old.signatures) s) scope))
          (sym (slot_foreign marks place marked old.shapes st.tables.table st.tables.placed old.signatures (functions_in T old.signatures) s (all_at _ _ n s inside e)))
          ∙ guarded (scopes == 1 && foreign_slot marks old.shapes s) s (λ x. in_instance (slot_in T (functions_in T old.signatures) x) scope))

  taken_in : (a : Alias) (s : Slot) → taken_by marks old.shapes outer a ≡ Some s → AreSlotsIn old.shapes old.signatures (s ∷ [])
  taken_in z s e = search (std_rules, all_at)

  -- and it is over a place that is marked
  taken_over : (a : Alias) (s : Slot) → taken_by marks old.shapes outer a ≡ Some s → SlotOver (MayMeet marks here) (slot_in (trees_at apart old) (signatures_at apart old) s)
  taken_over (Alias.of_export m name) s e = absurd cc
  taken_over (Alias.of_outer scopes n) s e = by (slice_get outer n) refl e
    where
      foreign : (b c : Bool) (x : Slot) → provided (b && c) x ≡ Some s → (x ≡ s) × (c ≡ true)
      foreign x y c h = search (std_rules, some_same)

      by : (o : Option Slot) → slice_get outer n ≡ o → (o >>= λ x. provided (scopes == 1 && foreign_slot marks old.shapes x) x) ≡ Some s
          → SlotOver (MayMeet marks here) (slot_in (trees_at apart old) (signatures_at apart old) s)
      by None at h = absurd cc
      by (Some x) at h =
          let f = foreign (scopes == 1) (foreign_slot marks old.shapes x) x h in
          subst (λ (y : Slot). SlotOver (MayMeet marks here) (slot_in (trees_at apart old) (signatures_at apart old) y)) f.0
          (foreign_over marks here old.shapes st.tables.table old.signatures (signatures_at apart old) x (all_at (IsSlotIn old.shapes old.signatures) outer n x inside at) f.1)

  pub alias_step : (a : Alias) (s : Slot) (ss : List Slot) → taken_by marks old.shapes outer a ≡ Some s → ss ≡ old.slots ++ s ∷ []
      → Steps marks here 1 (step_of here old.shapes old.signatures outer (Declaration.alias_of a)) old
      (record { shapes = old.shapes; signatures = old.signatures; slots = ss; types = old.types; functions = old.functions })
  alias_step a s ss taken next =
      let is = (taken_in a s taken).0 in
      record {
        state = pushed_state (length marks) old st old.shapes old.signatures (same_list old.shapes) (same_list old.signatures) st.tables s is ss next;
        shapes_grow = same_list old.shapes;
        signatures_grow = same_list old.signatures;
        count = omega arith;
        counted = count_pushed old.slots ss s (length old.shapes) (length old.shapes) next (slot_counted old.shapes old.signatures s is);
        placed = λ before p. pushed_placed (length marks) old st old.shapes old.signatures (same_list old.shapes) (same_list old.signatures) st.tables s is ss next marks before here p
            (taken_over a s taken) (no_shapes old.shapes);
        follows = λ place marked. alias_meant place marked a (scope_at place old)
            ∙ (ap (λ o. o >>= λ x. Some (in_instance (slot_in (trees_at place old) (signatures_at place old) x) (scope_at place old))) taken
            ∙ ap Some (sym (pushed_scope (length marks) old st old.shapes old.signatures (same_list old.shapes) (same_list old.signatures) st.tables s is ss next place)));
      }

  pub alias_halts : (a : Alias) (e : Refusal) → Refuses e (taken_by marks old.shapes outer a) → Halts marks (step_of here old.shapes old.signatures outer (Declaration.alias_of a)) old e
  alias_halts a e r place marked = refused e (taken_by marks old.shapes outer a) (step_of here old.shapes old.signatures outer (Declaration.alias_of a) place (scope_at place old))
      (λ none. alias_meant place marked a (scope_at place old) ∙ ap (λ o. o >>= λ x. Some (in_instance (slot_in (trees_at place old) (signatures_at place old) x) (scope_at place old))) none) r

pub grow_on : {X : Type 0} (a b c : List X) → Grows a b → Grows b c → Grows a c
grow_on a b c g h = record { more = g.more ++ h.more; is = h.is ∙ (ap (λ xs. xs ++ h.more) g.is ∙ append_assoc a g.more h.more) }

-- ---- a sequence, one by one

pub sequence_more : {A : Type 0} (reader : Reader A) (k : ℕ) (bytes : List ℕ) → sequence_at reader (suc k) bytes ≡ (reader bytes >>= λ x. sequence_at reader k x.1 >>= λ xs. Some (x.0 ∷ xs.0, xs.1))
unfolding sequence_at
sequence_more reader k bytes = refl

abbrev pub headed : {A : Type 0} → A → Option (List A × List ℕ) → Option (List A × List ℕ)
headed x found = found >>= λ xs. Some (x ∷ xs.0, xs.1)

abbrev pub after_first : {A : Type 0} → Reader A → ℕ → Option (A × List ℕ) → Option (List A × List ℕ)
after_first reader k o = o >>= λ x. headed x.0 (sequence_at reader k x.1)

pub headed_is : {A : Type 0} (xs : List A) (x : A) (o : Option (List A × List ℕ)) → headed x o ≡ Some (xs, []) → (ys : List A) × (o ≡ Some (ys, [])) × (xs ≡ x ∷ ys)
headed_is {A = A} xs x None h = absurd cc
headed_is {A = A} xs x (Some ys) h = search std_rules

-- the first of those that are left, and those behind it
pub peeled : {A : Type 0} (reader : Reader A) (k : ℕ) (bytes : List ℕ) (xs : List A) → sequence_at reader (suc k) bytes ≡ Some (xs, [])
    → (x : A) (behind : List ℕ) → reader bytes ≡ Some (x, behind) → (ys : List A) × (sequence_at reader k behind ≡ Some (ys, [])) × (xs ≡ x ∷ ys)
peeled reader k bytes xs all x behind at = headed_is xs x (sequence_at reader k behind) (ap (after_first reader k) (sym at) ∙ (sym (sequence_more reader k bytes) ∙ all))

pub unread : {A : Type 0} (reader : Reader A) (k : ℕ) (bytes : List ℕ) (xs : List A) → sequence_at reader (suc k) bytes ≡ Some (xs, []) → reader bytes ≡ None → ⊥
unread reader k bytes xs all none = not_some (xs, []) (ap (after_first reader k) (sym none) ∙ (sym (sequence_more reader k bytes) ∙ all))

pub none_less : (n : ℕ) → n - 0 ≡ n
none_less n = omega arith

pub ended : {A : Type 0} (reader : Reader A) (rest : List ℕ) (ds : List A) → sequence_at reader 0 rest ≡ Some (ds, []) → (ds ≡ []) × (rest ≡ [])
unfolding sequence_at
ended {A = A} reader rest ds e =
    let whole : ([], rest) ≡ (ds, []) = some_same ([], rest) (ds, []) e in
    (ap (λ (p : List A × List ℕ). p.0) (sym whole), ap (λ (p : List A × List ℕ). p.1) whole)

pub none_left : {A : Type 0} (reader : Reader A) (n : ℕ) (rest : List ℕ) (ds : List A) → n ≡ 0 → sequence_at reader n rest ≡ Some (ds, []) → (ds ≡ []) × (rest ≡ [])
none_left reader n rest ds none e = ended reader rest ds (ap (λ k. sequence_at reader k rest) (sym none) ∙ e)

-- ---- the declarations of a body

-- a view of what was followed
same_view : (marks : List Bool) (before : List Shape) (here : ℕ) (shapes : List Shape) (fs : List FunctionShape) (ss : List Slot) (ts us : List ShownType) → us ≡ ts → (gs hs : List ShownFunction)
    → hs ≡ gs → IsPlacedState marks before here (record { shapes = shapes; signatures = fs; slots = ss; types = ts; functions = gs })
    → IsPlacedState marks before here (record { shapes = shapes; signatures = fs; slots = []; types = us; functions = hs })
same_view marks before here shapes fs ss ts us et gs hs ef p = search std_rules

module _ (marks : List Bool) (here : ℕ) (start : State) (tables : AreTables (length marks) start.shapes start.signatures) (outer : List Slot) (inside : AreSlotsIn start.shapes start.signatures outer) (b : Body) where
  pub followed_none : (ss : List Slot) (ts : List ShownType) (fs : List ShownFunction) → ss ≡ [] → ts ≡ [] → fs ≡ [] → IsBody held_declaration_at b
      → IsFollowed marks here start outer b 0 b.bytes.now (record { shapes = start.shapes; signatures = start.signatures; slots = ss; types = ts; functions = fs })
  followed_none ss ts fs es et ef whole = subst (λ (now : State). IsFollowed marks here start outer b 0 b.bytes.now now)
      (λ i. record { shapes = start.shapes; signatures = start.signatures; slots = sym es i; types = sym et i; functions = sym ef i }) (record {
        state = record { tables = tables; slots = tt; types = tt; functions = tt };
        shapes_grow = same_list start.shapes;
        signatures_grow = same_list start.signatures;
        count = omega arith;
        counted = refl;
        placed = record {
          grows = same_list start.shapes;
          slots = tt;
          shown = record { types = tt; functions = tt };
          named = tt;
          names = λ n q name e. inl (found_below start.shapes n (named_shape q name) e);
          rise = λ none j t e. absurd cc;
          formed = λ n form parts e. inl (found_below start.shapes n (node_shape form parts) e);
        };
        ds = items_in held_declaration_at b;
        left = ap (λ n. sequence_at held_declaration_at n b.bytes.now) (none_less b.count) ∙ whole;
        follows = λ place marked. refl;
      })

  module _ (i : ℕ) (rest : List ℕ) (now : State) (f : IsFollowed marks here start outer b i rest now) where
    -- what stands around is what it was
    around_stays : (place : ℕ → Place) → slots_at place now outer ≡ slots_at place start outer
    around_stays place = slots_stay (length marks) start.shapes now.shapes start.signatures now.signatures tables f.shapes_grow f.signatures_grow place outer inside

    pub around_in : AreSlotsIn now.shapes now.signatures outer
    around_in = wider_slots (length marks) start.shapes now.shapes start.signatures now.signatures tables f.shapes_grow f.signatures_grow outer inside

    module _ (more : i < b.count) where
      left_here : sequence_at held_declaration_at (suc (b.count - (i + 1))) rest ≡ Some (f.ds, [])
      left_here = ap (λ k. sequence_at held_declaration_at k rest) (sym (less b.count i more)) ∙ f.left

      -- there is a declaration
      pub not_unread : (e : Refusal) → Refuses e (held_declaration_at rest) → ShowsNothing marks here start outer b e
      not_unread e r place marked = refused e (held_declaration_at rest) (instance_view (place here) (slots_at place start outer) (items_in held_declaration_at b))
          (λ none. absurd (unread held_declaration_at (b.count - (i + 1)) rest f.ds left_here none)) r

      module _ (d : Declaration) (behind : List ℕ) (at : held_declaration_at rest ≡ Some (d, behind)) where
        steps_on : (place : ℕ → Place) → AreMarked marks place → (o : Option MeantScope) → step_of here now.shapes now.signatures outer d place (scope_at place now) ≡ o
            → (ys : List Declaration) → f.ds ≡ d ∷ ys → instance_steps (place here) (slots_at place start outer) new_instance (items_in held_declaration_at b)
            ≡ (o >>= λ next. instance_steps (place here) (slots_at place start outer) next ys)
        steps_on place marked o e ys same = sym (f.follows place marked) ∙ (ap (instance_steps (place here) (slots_at place start outer) (scope_at place now)) same
            ∙ ap (λ p. p >>= λ next. instance_steps (place here) (slots_at place start outer) next ys) (ap (λ ss. instance_step (place here) ss (scope_at place now) d) (sym (around_stays place)) ∙ e))

        pub followed_more : (next : State) → Steps marks here 1 (step_of here now.shapes now.signatures outer d) now next → IsFollowed marks here start outer b (i + 1) behind next
        followed_more next s =
            let p = peeled held_declaration_at (b.count - (i + 1)) rest f.ds left_here d behind at in
            record {
              state = s.state;
              shapes_grow = grow_on start.shapes now.shapes next.shapes f.shapes_grow s.shapes_grow;
              signatures_grow = grow_on start.signatures now.signatures next.signatures f.signatures_grow s.signatures_grow;
              count = omega (arith, f.count, s.count);
              counted = s.counted (length start.shapes) f.counted;
              placed = s.placed start.shapes f.placed;
              ds = p.0;
              left = p.1;
              follows = λ place marked. sym (steps_on place marked (Some (scope_at place next)) (s.follows place marked) p.0 p.2);
            }

        pub nothing_shown : (e : Refusal) → Halts marks (step_of here now.shapes now.signatures outer d) now e → ShowsNothing marks here start outer b e
        nothing_shown e h place marked =
            let p = peeled held_declaration_at (b.count - (i + 1)) rest f.ds left_here d behind at in
            refused e (step_of here now.shapes now.signatures outer d place (scope_at place now)) (instance_view (place here) (slots_at place start outer) (items_in held_declaration_at b))
            (λ none. ap (λ o. o >>= λ scope. Some scope.shown) (steps_on place marked None none p.0 p.2)) (h place marked)

  pub followed_all : (i : ℕ) (rest : List ℕ) (now : State) → IsFollowed marks here start outer b i rest now → i ≤ b.count → b.count ≤ i → IsFollowed marks here start outer b b.count [] now
  followed_all i rest now f le ge = search (std_rules, none_left)

  pub viewed : (shapes : List Shape) (fs : List FunctionShape) (scope : InstanceScope) (v : View) → v.types.items ≡ scope.types.items → v.functions.items ≡ scope.functions.items
      → IsFollowed marks here start outer b b.count [] (state_of shapes fs scope) → IsViewOf marks here start outer b v (tables_of shapes fs)
  viewed shapes fs scope v et ef f =
      let now = state_of shapes fs scope in
      let none = none_left held_declaration_at (b.count - b.count) [] f.ds (omega arith) f.left in
      record {
        tables = f.state.tables;
        types = subst (λ (ts : List ShownType). AllByRecursion (IsShownIn shapes fs) ts) (sym et) f.state.types;
        functions = subst (λ (ts : List ShownFunction). AllByRecursion (IsShownFunctionIn fs) ts) (sym ef) f.state.functions;
        shapes_grow = f.shapes_grow;
        signatures_grow = f.signatures_grow;
        count = f.count;
        parts = parts_in scope.slots.items;
        counted = f.counted;
        trees = λ place marked. ap held_trees (sym (f.follows place marked) ∙ ap (instance_steps (place here) (slots_at place start outer) (scope_at place now)) none.0)
            ∙ slots_declare (trees_at place now) (signatures_at place now) scope.slots.items (names_of place shapes fs scope.slots.items f.state.tables.table f.state.slots);
        over = parts_over (MayMeet marks here) (trees_at apart now) (signatures_at apart now) scope.slots.items (names_of apart shapes fs scope.slots.items f.state.tables.table f.state.slots)
            f.placed.slots;
        placed = same_view marks start.shapes here shapes fs scope.slots.items scope.types.items v.types.items et scope.functions.items v.functions.items ef f.placed;
        shows = λ place marked. ap (λ o. o >>= λ s. Some s.shown) (sym (f.follows place marked) ∙ ap (instance_steps (place here) (slots_at place start outer) (scope_at place now)) none.0)
            ∙ (λ i. Some (view_at place now (sym et i) (sym ef i)));
      }
