-- Names stay in their places as a scope goes on.
use Rattle.std.proofs.Common.{rules as std_rules, ◌≡◌, ◌⊎◌, inl, inr, refl, sym, ap, ◌∙◌, subst, ℕ, zero, suc, ◌+◌, ◌<◌, ◌≤◌, arith, Bool, true, List, [], ◌∷◌, ◌++◌, map, length, Option, Some, None, IfSome, slice_get, append_assoc}
use Rattle.std.proofs.lemmas.{Bool.cases_lt, List.map-append, Option.slice_get_within as found_below}
use Rattle.wit_model.specs.{Tree.Form, Tree.Place, Text.Text, Meaning.FunctionMeaning}
use Rattle.std.specs.List.{AllByRecursion}
use Rattle.comp_meaning.specs.Follow.{ShownType as MeantType, View as MeantView}
use Rattle.read_follow.specs.declared.views.ShownType.{ShownType}
use Rattle.read_follow.specs.{Defining.AddsForms, Defining.Grows, Following.slots_at, Following.view_at, Following.IsPlacedState, Following.State}
use Rattle.read_follow.specs.Placed.{apart, slot_part, ComesBehind, FunctionOver, HasNoNames, IsNameAs, IsRepeated, IsShownAmong, IsTypeNamed, MayMeet, Rise, SlotOver, TypeOver, ViewOver}
use Rattle.read_follow.specs.Places.{has_path}
use Rattle.plan_meaning.specs.{PlanRules.is_form, Shapes.Shape, Shapes.first_label, Shapes.named_shape, Shapes.node_shape, Shapes.Adds, Shapes.IsTable}
use Rattle.read_follow.proofs.DefiningLaws.{adds_cases, adds_name, same_list}
use Rattle.base_lemmas.proofs.{Elements.all_end, Lists.at_last, Lists.last_or, Lists.slice_front}

-- ---- lists that grow

module _ {X : Type 0} (old new : List X) (g : Grows old new) where
  pub stands_on : (n : ℕ) (x : X) → slice_get old n ≡ Some x → slice_get new n ≡ Some x
  stands_on n x e = ap (λ xs. slice_get xs n) g.is ∙ (slice_front old g.more n (found_below old n x e) ∙ e)

  pub stood : (n : ℕ) (x : X) → n < length old → slice_get new n ≡ Some x → slice_get old n ≡ Some x
  stood n x below e = sym (slice_front old g.more n below) ∙ (sym (ap (λ xs. slice_get xs n) g.is) ∙ e)

-- a place that may be met stays so
pub met_wider : (paths more : List (Option Text)) → Grows paths more → (p : ℕ) (x : Place) → MayMeet (map has_path paths) p x → MayMeet (map has_path more) p x
met_wider paths more g p x h q same =
    let marks : Grows (map has_path paths) (map has_path more) = record { more = map has_path g.more; is = ap (map has_path) g.is ∙ map-append has_path paths g.more } in
    elim (h q same) [ inl own ↦ inl own | inr marked ↦ inr (stands_on (map has_path paths) (map has_path more) marks q true marked) ]

-- ---- names in tables that grow

module _ (shapes more : List Shape) (g : Grows shapes more) where
  pub name_wider : (place : ℕ) (name : Text) (part : ℕ) → IsNameAs shapes place name part → IsNameAs more place name part
  name_wider place name part h = record { number = h.number; is = h.is; at = stands_on shapes more g h.number (named_shape place name) h.at }

  pub types_named_wider : (place : ℕ) (ts : List ShownType) → AllByRecursion (IsTypeNamed shapes place) ts → AllByRecursion (IsTypeNamed more place) ts
  types_named_wider place [] h = tt
  types_named_wider place (t ∷ ts) h = (name_wider place t.name.now (slot_part t.slot) h.0, types_named_wider place ts h.1)

pub name_part_below : (shapes : List Shape) (place : ℕ) (name : Text) (part : ℕ) → IsNameAs shapes place name part → part < 14 + length shapes
name_part_below shapes place name part h = let inside = found_below shapes h.number (named_shape place name) h.at in let is = h.is in omega (arith, inside, is)

named_at : (shapes : List Shape) (place : ℕ) (ts : List ShownType) → AllByRecursion (IsTypeNamed shapes place) ts → (n : ℕ) (t : ShownType) → slice_get ts n ≡ Some t
    → slot_part t.slot < 14 + length shapes
named_at shapes place [] h n t e = absurd cc
named_at shapes place (u ∷ ts) h zero t e = search (std_rules, name_part_below shapes place u.name.now (slot_part u.slot) h.0)
named_at shapes place (u ∷ ts) h (suc n) t e = named_at shapes place ts h.1 n t e

-- ---- a scope that goes on

module _ (marks : List Bool) (before : List Shape) (here : ℕ) (old new : State) (p : IsPlacedState marks before here old) (g : Grows old.shapes new.shapes) where
  grown_on : Grows before new.shapes
  grown_on = record { more = p.grows.more ++ g.more; is = g.is ∙ (ap (λ xs. xs ++ g.more) p.grows.is ∙ append_assoc before p.grows.more g.more) }

  -- a name that stood in the table
  stood_before : (ts : List ShownType) → Grows old.types ts → (n q : ℕ) (name : Text) → n < length old.shapes → slice_get new.shapes n ≡ Some (named_shape q name) → (n < length before)
      ⊎ ((q ≡ here) × IsShownAmong ts name (14 + n))
  stood_before ts gt n q name below e = elim (p.names n q name (stood old.shapes new.shapes g n (named_shape q name) below e)) [
    | inl h ↦ inl h
    | inr h ↦ inr (h.0, (record { number = h.1.number; type = h.1.type; at = stands_on old.types ts gt h.1.number h.1.type h.1.at; named = h.1.named; is = h.1.is }))
  ]

  -- the forms, where each that came may be one
  still_formed : ((n : ℕ) (form : Form) (parts : List ℕ) → slice_get new.shapes n ≡ Some (node_shape form parts) → (n < length old.shapes) ⊎ (is_form form parts ≡ true))
      → (n : ℕ) (form : Form) (parts : List ℕ) → slice_get new.shapes n ≡ Some (node_shape form parts) → (n < length before) ⊎ (is_form form parts ≡ true)
  still_formed forms n form parts e = elim (forms n form parts e) [ inl below ↦ p.formed n form parts (stood old.shapes new.shapes g n (node_shape form parts) below e) | inr formed ↦ inr formed ]

  module _ (slots_over : AllByRecursion (SlotOver (MayMeet marks here)) (slots_at apart new new.slots)) where
    -- no type is shown, and no name comes into the table
    pub same_types : ViewOver (MayMeet marks here) (view_at apart new new.types new.functions) → new.types ≡ old.types → AddsForms old.shapes new.shapes → IsPlacedState marks before here new
    same_types shown same forms = record {
      grows = grown_on;
      slots = slots_over;
      shown = shown;
      named = subst (λ (ts : List ShownType). AllByRecursion (IsTypeNamed new.shapes here) ts) (sym same) (types_named_wider old.shapes new.shapes g here old.types p.named);
      names = λ n q name e. subst (λ (ts : List ShownType). (n < length before) ⊎ ((q ≡ here) × IsShownAmong ts name (14 + n))) (sym same)
          (stood_before old.types (same_list old.types) n q name (forms.names n q name e) e);
      rise = λ none. subst (λ (ts : List ShownType). Rise ts) (sym same) (p.rise none);
      formed = still_formed forms.formed;
    }

    -- a type is shown
    module _ (t : ShownType) (number : ℕ) (is : slot_part t.slot ≡ 14 + number) (at : slice_get new.shapes number ≡ Some (named_shape here t.name.now))
        (adds : Adds old.shapes (named_shape here t.name.now) new.shapes) (table : IsTable new.shapes) (declared : IfSome t.declared (λ k. k < 14 + length old.shapes))
        (last : new.types ≡ old.types ++ t ∷ []) where
      abbrev longer : List ShownType
      longer = old.types ++ t ∷ []

      types_grow : Grows old.types longer
      types_grow = record { more = t ∷ []; is = refl }

      new_names : (n q : ℕ) (name : Text) → slice_get new.shapes n ≡ Some (named_shape q name) → (n < length before) ⊎ ((q ≡ here) × IsShownAmong longer name (14 + n))
      new_names n q name e = elim (adds_cases old.shapes new.shapes (named_shape here t.name.now) adds) [
        | inl same ↦ stood_before longer types_grow n q name (found_below old.shapes n (named_shape q name) (ap (λ (ss : List Shape). slice_get ss n) (sym same) ∙ e)) e
        | inr came ↦ elim (last_or old.shapes (named_shape here t.name.now) n (named_shape q name) (ap (λ (ss : List Shape). slice_get ss n) (sym came) ∙ e)) [
          | inl h ↦ stood_before longer types_grow n q name h.0 e
          | inr h ↦
              let named : t.name.now ≡ name = ap (λ (s : Shape). first_label s.labels) h.1 in
              inr (
                ap (λ (s : Shape). s.number) (sym h.1),
                record { number = length old.types; type = t; at = at_last old.types t; named = named; is = is ∙ ap (λ m. 14 + m) (table.apart number n (named_shape q name) (at ∙ ap Some h.1) e) },
              )
        ]
      ]

      -- where the own place had no names before
      module _ (none : HasNoNames here before) where
        came_behind : (j : ℕ) (u : ShownType) → ComesBehind old.types j u → j < length old.types → ComesBehind longer j u
        came_behind j u h below = record { declared = h.declared; others = λ i v e less. h.others i v (stood old.types longer types_grow i v (omega (arith, less, below)) e) less }

        again : (j : ℕ) (u : ShownType) → IsRepeated old.types j u → IsRepeated longer j u
        again j u h = record { number = h.number; other = h.other; earlier = h.earlier; at = stands_on old.types longer types_grow h.number h.other h.at; same = h.same }

        repeated : number < length old.shapes → IsRepeated longer (length old.types) t
        repeated below = elim (p.names number here t.name.now (stood old.shapes new.shapes g number (named_shape here t.name.now) below at)) [
          | inl h ↦ absurd (none number t.name.now (stood before old.shapes p.grows number (named_shape here t.name.now) h
              (stood old.shapes new.shapes g number (named_shape here t.name.now) below at)))
          | inr h ↦ record {
            number = h.1.number;
            other = h.1.type;
            earlier = found_below old.types h.1.number h.1.type h.1.at;
            at = stands_on old.types longer types_grow h.1.number h.1.type h.1.at;
            same = h.1.named;
          }
        ]

        declared_below : (m : ℕ) → length old.shapes ≤ m → (o : Option ℕ) → IfSome o (λ k. k < 14 + length old.shapes) → IfSome o (λ k. k < 14 + m)
        declared_below m le None h = tt
        declared_below m le (Some k) h = omega (arith, h, le)

        behind : length old.shapes ≤ number → ComesBehind longer (length old.types) t
        behind le = record {
          declared = subst (λ k. IfSome t.declared (λ d. d < k)) (sym is) (declared_below number le t.declared declared);
          others = λ i v e less. omega (arith, named_at old.shapes here old.types p.named i v (stood old.types longer types_grow i v less e), is, le);
        }

        rises : Rise longer
        rises j u e = elim (last_or old.types t j u e) [
          | inl h ↦ elim (p.rise none j u h.1) [ inl r ↦ inl (again j u r) | inr b ↦ inr (came_behind j u b h.0) ]
          | inr h ↦ subst (λ (v : ShownType). IsRepeated longer j v ⊎ ComesBehind longer j v) h.1
              (subst (λ (m : ℕ). IsRepeated longer m t ⊎ ComesBehind longer m t) (sym h.0) (elim (cases_lt number (length old.shapes)) [ inl below ↦ inl (repeated below) | inr le ↦ inr (behind le) ]))
        ]

      pub type_more : ViewOver (MayMeet marks here) (view_at apart new new.types new.functions) → IsPlacedState marks before here new
      type_more shown = record {
        grows = grown_on;
        slots = slots_over;
        shown = shown;
        named = subst (λ (ts : List ShownType). AllByRecursion (IsTypeNamed new.shapes here) ts) (sym last)
            (all_end (IsTypeNamed new.shapes here) old.types t (types_named_wider old.shapes new.shapes g here old.types p.named) (record { number = number; is = is; at = at }));
        names = λ n q name e. subst (λ (ts : List ShownType). (n < length before) ⊎ ((q ≡ here) × IsShownAmong ts name (14 + n))) (sym last) (new_names n q name e);
        rise = λ none. subst (λ (ts : List ShownType). Rise ts) (sym last) (rises none);
        formed = still_formed (adds_name old.shapes new.shapes here t.name.now adds);
      }

-- ---- a view with something more

module _ (P : Place → Type 0) (v : MeantView) (h : ViewOver P v) where
  pub type_over_more : (t : MeantType) → TypeOver P t → ViewOver P (record { types = v.types ++ t ∷ []; functions = v.functions })
  type_over_more t one = record { types = all_end (TypeOver P) v.types t h.types one; functions = h.functions }

  pub function_over_more : (f : Text × FunctionMeaning) → FunctionOver P f → ViewOver P (record { types = v.types; functions = v.functions ++ f ∷ [] })
  function_over_more f one = record { types = h.types; functions = all_end (FunctionOver P) v.functions f h.functions one }

-- the own place may be met
pub own_met : (marks : List Bool) (here : ℕ) → MayMeet marks here (apart here)
own_met marks here q same = let one : q ≡ here = cc in inl one
