-- The declarations of a world or an interface, followed as entries, stand for the scope that they stand for as raw forms.
use Rattle.std.proofs.Common.{rules as std_rules, ◌≡◌, refl, ap, subst, ◌∙◌, ℕ, suc, Bool, true, false, ◌&&◌, eqb, List, [], ◌∷◌, length, map, Option, Some, None, option_map}
use Rattle.std.proofs.lemmas.{List.map-append, Option.slice_get-map}
use Rattle.std.specs.{Prelude.slice_get, List.list_any}
use Rattle.wit_model.specs.Tree.{Place}
use Rattle.comp_bytes.specs.{Raw.Declaration, Raw.Declarations, Raw.from_list, Reading.◌>>=◌, Levels.Entry, Levels.plain, Levels.holds, Levels.declarations_of}
use Rattle.comp_bytes.proofs.Readers.{bind_some}
use Rattle.comp_meaning.specs.Follow.{Slot, Scope, View, Seen, Shown, Direction, import_, export_, provided, new_scope, in_scope, see, used_view, component_step, component_steps, component_scope, flat, instance_types}
use Rattle.comp_meaning.specs.{Reads.steps, ByLevels.entry_step, ByLevels.entry_scope, ByLevels.all_used}
use Rattle.comp_meaning.proofs.Marks.{marks, all_taken, Counted, one_mark_more, one_number_more, exact}
use Rattle.comp_meaning.proofs.StepLaws.{StepOf, defines, signs, aliases, sees_function, sees_type, sees_instance, seen_under, seen_instance, with_instance, step_of}
use Rattle.base_lemmas.proofs.Options.{some_is}

-- two ways to go on that agree
pub bind_same : {A B : Type 0} (o : Option A) (f g : A → Option B) → ((x : A) → f x ≡ g x) → (o >>= f) ≡ (o >>= g)
bind_same y f g h = search std_rules

-- what each step keeps stays to the end
pub steps_keep : {S A : Type 0} (P : S → Type 0) (step : S → A → Option S) → ((s next : S) (x : A) → step s x ≡ Some next → P s → P next) → (xs : List A) (s end : S) → steps step s xs ≡ Some end
    → P s → P end
steps_keep P step h [] s end e k = subst P (some_is s end e) k
steps_keep P step h (x ∷ xs) s end e k =
    let b = bind_some (step s x) _ end e in
    steps_keep P step h xs b.0 end b.2 (h s b.0 x b.1 k)

-- ---- as many uses as instance types

abbrev is_instance : Slot → Bool
is_instance (Slot.instance ds n) = true
is_instance _ = false

abbrev self : ℕ → ℕ
self n = n

instances_marked : (slots : List Slot) → instance_types slots ≡ marks (map is_instance slots)
instances_marked [] = refl
instances_marked (Slot.instance ds n ∷ slots) = ap suc (instances_marked slots)
instances_marked (_ ∷ slots) = instances_marked slots

used_marked : (used : List ℕ) (n : ℕ) (slots : List Slot) → all_used used n slots ≡ all_taken self used n (map is_instance slots)
used_marked used n [] = refl
used_marked used n (Slot.instance ds around ∷ slots) = ap (λ b. list_any (λ m. eqb m n) used && b) (used_marked used (suc n) slots)
used_marked used n (_ ∷ slots) = used_marked used (suc n) slots

-- what has been used are instance types among the slots, none twice
abbrev IsKept : Scope → Type 0
IsKept scope = Counted self scope.used (map is_instance scope.slots)

kept_slot : (scope : Scope) (slot : Slot) → IsKept scope → IsKept (in_scope slot scope)
kept_slot scope slot k = search (std_rules, Counted, map-append, one_mark_more)

kept_seen : (direction : Direction) (seen : Seen) (scope : Scope) → IsKept scope → IsKept (see direction seen scope)
kept_seen import_ seen scope k = k
kept_seen export_ seen scope k = k

used_is : (slots : List Slot) (place : Place) (n : ℕ) (view : View) → used_view slots place (slice_get slots n) ≡ Some view → option_map is_instance (slice_get slots n) ≡ Some true
used_is slots place n view e = search std_rules

kept_along : (scope next : Scope) → StepOf scope next → IsKept scope → IsKept next
kept_along scope _ (defines d t e) k = kept_slot scope (Slot.value t) k
kept_along scope _ (signs f s e) k = kept_slot scope (Slot.function s) k
kept_along scope _ (aliases m name slot e) k = kept_slot scope slot k
kept_along scope _ (sees_function direction name n f e) k = kept_seen direction (seen_under name (Shown.function f)) scope k
kept_along scope _ (sees_type name described found e) k = kept_slot scope found.1 k
kept_along scope _ (sees_instance direction name n key view new e) k = search (std_rules, slice_get-map, used_is, kept_seen, seen_instance, with_instance, one_number_more)

kept_entry : (scope next : Scope) (x : Entry) → entry_step scope x ≡ Some next → IsKept scope → IsKept next
kept_entry scope next (plain d) e k = kept_along scope next (step_of scope next d e) k
kept_entry scope next (holds ds) e k = subst IsKept (some_is (in_scope (Slot.instance ds (length scope.slots)) scope) next e) (kept_slot scope (Slot.instance ds (length scope.slots)) k)

-- none is left unused exactly where there are as many uses as instance types
none_unused : (scope : Scope) → IsKept scope → eqb (length scope.used) (instance_types scope.slots) ≡ all_used scope.used 0 scope.slots
none_unused scope k = search (std_rules, instances_marked, exact, used_marked)

-- ---- entries are followed as declarations

pub flat_list : (ds : List Declaration) → flat (from_list ds) ≡ Some ds
flat_list [] = refl
flat_list (d ∷ ds) = ap (λ o. o >>= λ xs. Some (d ∷ xs)) (flat_list ds)

steps_are : (es : List Entry) (scope : Scope) → component_steps scope (declarations_of es) ≡ steps entry_step scope es
steps_are [] scope = refl
steps_are (plain d ∷ es) scope = bind_same (component_step scope d) (λ next. component_steps next (declarations_of es)) (λ next. steps entry_step next es) (steps_are es)
steps_are (holds ds ∷ es) scope = search (std_rules, flat_list, steps_are es (in_scope (Slot.instance ds (length scope.slots)) scope))

pub scope_is : (es : List Entry) → component_scope (declarations_of es) ≡ entry_scope es
scope_is es = ap (λ o. o >>= λ scope. provided (eqb (length scope.used) (instance_types scope.slots)) scope) (steps_are es new_scope) ∙ by (steps entry_step new_scope es) refl
  where
    by : (o : Option Scope) → steps entry_step new_scope es ≡ o
        → (o >>= λ scope. provided (eqb (length scope.used) (instance_types scope.slots)) scope) ≡ (o >>= λ scope. provided (all_used scope.used 0 scope.slots) scope)
    by None e = refl
    by (Some scope) e = ap (λ b. provided b scope) (none_unused scope (steps_keep IsKept entry_step kept_entry es new_scope scope e (record { below = λ n h. absurd cc; count = refl })))

-- ---- what is followed are entries

flat_only : (ds : Declarations) (xs : List Declaration) → flat ds ≡ Some xs → ds ≡ from_list xs
flat_only Declarations.no_more xs e = ap from_list (some_is [] xs e)
flat_only (Declarations.declares d rest) xs e =
    let b = bind_some (flat rest) _ xs e in
    ap (Declarations.declares d) (flat_only rest b.0 b.1) ∙ ap from_list (some_is (d ∷ b.0) xs b.2)
flat_only _ xs e = absurd cc

entries_only : (ds : Declarations) (scope next : Scope) → component_steps scope ds ≡ Some next → (es : List Entry) × (ds ≡ declarations_of es)
entries_only Declarations.no_more scope next e = ([], refl)
entries_only (Declarations.declares d rest) scope next e =
    let b = bind_some (component_step scope d) _ next e in
    let more = entries_only rest b.0 next b.2 in
    (plain d ∷ more.0, ap (Declarations.declares d) more.1)
entries_only (Declarations.component inner rest) scope next e = absurd cc
entries_only (Declarations.instance inner rest) scope next e =
    let b = bind_some (flat inner) _ next e in
    let more = entries_only rest (in_scope (Slot.instance b.0 (length scope.slots)) scope) next b.2 in
    (holds b.0 ∷ more.0, ap (λ ds. Declarations.instance ds rest) (flat_only inner b.0 b.1) ∙ ap (Declarations.instance (from_list b.0)) more.1)

pub followed_only : (ds : Declarations) (scope : Scope) → component_scope ds ≡ Some scope → (es : List Entry) × (ds ≡ declarations_of es)
followed_only ds scope e = search (std_rules, bind_some, entries_only)
