-- The slots in which value types are defined: which they are, and that each stands for a type without a name. The instance types of a
-- component type, as it grows.
use Rattle.std.proofs.Common.{rules as std_rules, ◌≡◌, refl, sym, ap, subst, ◌∙◌, ℕ, zero, suc, ◌+◌, Bool, true, false, cond, List, [], ◌∷◌, ◌++◌, inl, inr, append_assoc, append-nil, Option, Some, None, option_to_list, slice_get, length, length-append, count_by, arith}
use Rattle.std.proofs.lemmas.{List.Elements.Contains-append_cases, List.Sums.sum_by-append, Option.same_Some as some-same}
use Rattle.std.specs.{List.Contains, List.list_any, Option.option_map_or, Prelude.not, Prelude.◌==◌}
use Rattle.comp_bytes.specs.declared.forms.ComponentTypeRef.{ComponentTypeRef}
use Rattle.comp_bytes.specs.Raw.{Declaration, Declarations, DefinedType, Alias, ExternName, append, from_list}
use Rattle.comp_bytes.specs.{Held.declaration_slots, Held.type_slots, Held.type_slots_of, Reading.◌>>=◌}
use Rattle.wit_model.specs.{Tree.Place, Tree.Tree, Tree.primitive, Tree.named, Tree.node, Text.Text}
use Rattle.comp_meaning.specs.Follow.{Slot, InstanceScope, when, definition, function_in, instance_step, instance_steps, Scope, Direction, Seen, import_, export_, see, in_scope, key_of, interface_of, instance_place, used_view, see_instance, see_function, see_type, component_step, component_steps, flat}
use Rattle.encode_types.specs.Distinct.{is_value_type, target_of, targets_of, slots_from}
use Rattle.encode_types.proofs.{Marking.count-push, Lists.none-in}
use Rattle.wit_encode.specs.{Instance.count_declared, Worlds.instances_from, Worlds.instances_declared}
use Rattle.wit_encode.proofs.Steps.{unbind}
use Rattle.base_lemmas.proofs.{Elements.last_of as one-contained, Numbers.no-slot as add-nothing}
use Rattle.comp_bytes.proofs.HeldLaws.{from_list-push as list-push}
use Rattle.encode_names.proofs.WorldSteps.{slot-behind as get-end}
use Rattle.comp_meaning.proofs.FollowLemmas.{provided_is as unprovided}
use Rattle.comp_bytes.specs.declared.forms.ComponentTypeRef.TheVariants as refs
use Rattle.wit_encode.proofs.Steps as steps
use Rattle.wit_encode.proofs.Components as components

-- ---- which they are

pub slots-push : (test : Declaration → Bool) (n : ℕ) (ds : Declarations) (d : Declaration)
    → slots_from test n (append ds (Declarations.declares d Declarations.no_more)) ≡ slots_from test n ds ++ cond (test d) ((n + type_slots_of ds) ∷ []) []
slots-push test n Declarations.no_more d = append-nil (cond (test d) (n ∷ []) []) ∙ ap (λ (k : ℕ). cond (test d) (k ∷ []) []) (sym (add-nothing n))
slots-push test n (Declarations.declares e rest) d = search (std_rules, append_assoc, slots-push test (n + declaration_slots e) rest d)
slots-push test n (Declarations.component inner rest) d = search (std_rules, slots-push test (n + 1) rest d)
slots-push test n (Declarations.instance inner rest) d = search (std_rules, slots-push test (n + 1) rest d)

pub slots-instance : (test : Declaration → Bool) (n : ℕ) (ds inner : Declarations) → slots_from test n (append ds (Declarations.instance inner Declarations.no_more)) ≡ slots_from test n ds
slots-instance test n Declarations.no_more inner = refl
slots-instance test n (Declarations.declares e rest) inner = ap (λ xs. cond (test e) (n ∷ []) [] ++ xs) (slots-instance test (n + declaration_slots e) rest inner)
slots-instance test n (Declarations.component x rest) inner = slots-instance test (n + 1) rest inner
slots-instance test n (Declarations.instance x rest) inner = slots-instance test (n + 1) rest inner

-- how many there are
one-long : (b : Bool) (n : ℕ) → length (cond b (n ∷ []) []) ≡ cond b 1 0
one-long x n = search std_rules

pub slots-counted : (test : Declaration → Bool) (n : ℕ) (ds : List Declaration) → length (slots_from test n (from_list ds)) ≡ count_by test ds
slots-counted test n [] = refl
slots-counted test n (d ∷ ds) =
    let more = slots-counted test (n + declaration_slots d) ds in
    let both = length-append (cond (test d) (n ∷ []) []) (slots_from test (n + declaration_slots d) (from_list ds)) in
    let none : count_by test [] ≡ 0 = refl in
    omega (arith, more, both, one-long (test d) n, count-push test [] d, none, sum_by-append (λ x. cond (test x) 1 0) (d ∷ []) ds)

pub slots-declared : (test : Declaration → Bool) (n : ℕ) (ds : Declarations) → length (slots_from test n ds) ≡ count_declared test ds
slots-declared test n Declarations.no_more = refl
slots-declared test n (Declarations.declares d rest) = search (std_rules, length-append, one-long, count_by, count-push, slots-declared test (n + declaration_slots d) rest)
slots-declared test n (Declarations.component inner rest) = slots-declared test (n + 1) rest
slots-declared test n (Declarations.instance inner rest) = slots-declared test (n + 1) rest

pub targets-push : (ds : Declarations) (d : Declaration) → targets_of (append ds (Declarations.declares d Declarations.no_more)) ≡ targets_of ds ++ option_to_list (target_of d)
targets-push Declarations.no_more d = append-nil (option_to_list (target_of d))
targets-push (Declarations.declares e rest) d = search (std_rules, append_assoc, targets-push rest d)
targets-push (Declarations.component inner rest) d = targets-push rest d
targets-push (Declarations.instance inner rest) d = targets-push rest d

pub targets-instance : (ds inner : Declarations) → targets_of (append ds (Declarations.instance inner Declarations.no_more)) ≡ targets_of ds
targets-instance Declarations.no_more inner = refl
targets-instance (Declarations.declares e rest) inner = ap (λ xs. option_to_list (target_of e) ++ xs) (targets-instance rest inner)
targets-instance (Declarations.component x rest) inner = targets-instance rest inner
targets-instance (Declarations.instance x rest) inner = targets-instance rest inner

-- one declaration more
pub slots-next : (test : Declaration → Bool) (ds : Declarations) (d : Declaration)
    → slots_from test 0 (append ds (Declarations.declares d Declarations.no_more)) ≡ slots_from test 0 ds ++ cond (test d) (type_slots_of ds ∷ []) []
slots-next test ds d = slots-push test 0 ds d ∙ ap (λ (k : ℕ). slots_from test 0 ds ++ cond (test d) (k ∷ []) []) (let e : 0 + type_slots_of ds ≡ type_slots_of ds = omega arith in e)

-- where nothing is defined, and no type is named
pub slots-kept : (test : Declaration → Bool) (ds : Declarations) (d : Declaration) → test d ≡ false
    → slots_from test 0 (append ds (Declarations.declares d Declarations.no_more)) ≡ slots_from test 0 ds
slots-kept test ds d e = slots-push test 0 ds d ∙ ap (λ (b : Bool). slots_from test 0 ds ++ cond b ((0 + type_slots_of ds) ∷ []) []) e ∙ append-nil (slots_from test 0 ds)

pub targets-kept : (ds : Declarations) (d : Declaration) → target_of d ≡ None → targets_of (append ds (Declarations.declares d Declarations.no_more)) ≡ targets_of ds
targets-kept ds d e = targets-push ds d ∙ ap (λ (o : Option ℕ). targets_of ds ++ option_to_list o) e ∙ append-nil (targets_of ds)

-- of an instance type

pub list-slots : (ds : List Declaration) → 0 + type_slots_of (from_list ds) ≡ type_slots ds
list-slots [] = refl
list-slots (d ∷ ds) = omega (arith, list-slots ds)

pub slots-more : (test : Declaration → Bool) (ds : List Declaration) (d : Declaration)
    → slots_from test 0 (from_list (ds ++ d ∷ [])) ≡ slots_from test 0 (from_list ds) ++ cond (test d) (type_slots ds ∷ []) []
slots-more test ds d = ap (slots_from test 0) (list-push ds d) ∙ slots-push test 0 (from_list ds) d ∙ ap (λ (k : ℕ). slots_from test 0 (from_list ds) ++ cond (test d) (k ∷ []) []) (list-slots ds)

pub targets-more : (ds : List Declaration) (d : Declaration) → targets_of (from_list (ds ++ d ∷ [])) ≡ targets_of (from_list ds) ++ option_to_list (target_of d)
targets-more ds d = ap targets_of (list-push ds d) ∙ targets-push (from_list ds) d

-- ---- the instance types, each behind what has been declared before it

pub append-none : (ds : Declarations) → append ds Declarations.no_more ≡ ds
append-none Declarations.no_more = refl
append-none (Declarations.declares d rest) = ap (λ x. Declarations.declares d x) (append-none rest)
append-none (Declarations.component inner rest) = ap (λ x. Declarations.component inner x) (append-none rest)
append-none (Declarations.instance inner rest) = ap (λ x. Declarations.instance inner x) (append-none rest)

pub append-twice : (ds es fs : Declarations) → append (append ds es) fs ≡ append ds (append es fs)
append-twice Declarations.no_more es fs = refl
append-twice (Declarations.declares d rest) es fs = ap (λ x. Declarations.declares d x) (append-twice rest es fs)
append-twice (Declarations.component inner rest) es fs = ap (λ x. Declarations.component inner x) (append-twice rest es fs)
append-twice (Declarations.instance inner rest) es fs = ap (λ x. Declarations.instance inner x) (append-twice rest es fs)

instances-append : (before ds es : Declarations) → instances_from before (append ds es) ≡ instances_from before ds ++ instances_from (append before ds) es
instances-append before Declarations.no_more es = ap (λ (x : Declarations). instances_from x es) (sym (append-none before))
instances-append before (Declarations.declares d rest) es =
    let here = append before (Declarations.declares d Declarations.no_more) in
    instances-append here rest es ∙ ap (λ (x : Declarations). instances_from here rest ++ instances_from x es) (append-twice before (Declarations.declares d Declarations.no_more) rest)
instances-append before (Declarations.component inner rest) es =
    let here = append before (Declarations.component inner Declarations.no_more) in
    instances-append here rest es ∙ ap (λ (x : Declarations). instances_from here rest ++ instances_from x es) (append-twice before (Declarations.component inner Declarations.no_more) rest)
instances-append before (Declarations.instance inner rest) es =
    let here = append before (Declarations.instance inner Declarations.no_more) in
    ap (λ xs. (before, inner) ∷ xs) (instances-append here rest es ∙ ap (λ (x : Declarations). instances_from here rest ++ instances_from x es)
    (append-twice before (Declarations.instance inner Declarations.no_more) rest))

pub instances-kept : (ds : Declarations) (d : Declaration) → instances_declared (append ds (Declarations.declares d Declarations.no_more)) ≡ instances_declared ds
instances-kept ds d = instances-append Declarations.no_more ds (Declarations.declares d Declarations.no_more) ∙ append-nil (instances_declared ds)

pub instances-behind : (ds inner : Declarations) → instances_declared (append ds (Declarations.instance inner Declarations.no_more)) ≡ instances_declared ds ++ (ds, inner) ∷ []
instances-behind ds inner = instances-append Declarations.no_more ds (Declarations.instance inner Declarations.no_more)

-- ---- what they stand for

-- a type that is no name
abbrev pub IsPlain : Tree → Type 0
IsPlain t = (place : Place) (name : Text) → t ≡ named place name → ⊥

abbrev is_name : Tree → Bool
is_name (primitive p) = false
is_name (named place name) = true
is_name (node form ts) = false

plain-from : (t : Tree) → is_name t ≡ false → IsPlain t
plain-from t e place name h = cc (sym (ap is_name h) ∙ e)

abbrev are_plain : Option Tree → Type 0
are_plain o = option_map_or is_name o false ≡ false

bound : {A : Type 0} (o : Option A) (f : A → Option Tree) → ((x : A) → are_plain (f x)) → are_plain (o >>= f)
bound y f h = search std_rules

definition-plain : (slots : List Slot) (d : DefinedType) → are_plain (definition slots d)
definition-plain slots x = search std_rules

defined-plain : (slots : List Slot) (d : DefinedType) (t : Tree) → definition slots d ≡ Some t → IsPlain t
defined-plain slots d t e = plain-from t (ap (λ o. option_map_or is_name o false) (sym e) ∙ definition-plain slots d)

-- a slot of a type without a name
pub record HoldsPlain (slots : List Slot) (i : ℕ) : Type 0 where
  pub type_there : Tree
  pub there : slice_get slots i ≡ Some (Slot.value type_there)
  pub plain : IsPlain type_there

-- a value type that has just been defined
new-plain : (slots slots' : List Slot) (q : DefinedType) (t : Tree) (i : ℕ) → definition slots q ≡ Some t → slots ++ Slot.value t ∷ [] ≡ slots' → length slots ≡ i → HoldsPlain slots' i
new-plain slots slots' q t i is made at = record {
  type_there = t;
  there = sym (ap (λ zs. slice_get zs i) made) ∙ ap (slice_get (slots ++ Slot.value t ∷ [])) (sym at) ∙ get-end slots (Slot.value t);
  plain = defined-plain slots q t is;
}

-- ---- slots are added behind the others

abbrev Front : List Slot → List Slot → Type 0
Front xs ys = (more : List Slot) × (ys ≡ xs ++ more)

get-front : (xs more : List Slot) (i : ℕ) (x : Slot) → slice_get xs i ≡ Some x → slice_get (xs ++ more) i ≡ Some x
get-front [] more i x e = absurd cc
get-front (y ∷ xs) more zero x e = e
get-front (y ∷ xs) more (suc i) x e = get-front xs more i x e

holds-front : (xs ys : List Slot) (i : ℕ) → Front xs ys → HoldsPlain xs i → HoldsPlain ys i
holds-front xs ys i f h = record { type_there = h.type_there; there = ap (λ zs. slice_get zs i) f.1 ∙ get-front xs f.0 i (Slot.value h.type_there) h.there; plain = h.plain }

same-front : (xs ys : List Slot) → xs ≡ ys → Front xs ys
same-front xs ys e = ([], sym e ∙ sym (append-nil xs))

one-front : (xs ys : List Slot) (x : Slot) → xs ++ x ∷ [] ≡ ys → Front xs ys
one-front xs ys x e = (x ∷ [], sym e)

then-front : (xs ys zs : List Slot) → Front xs ys → Front ys zs → Front xs zs
then-front xs ys zs f g = (f.0 ++ g.0, g.1 ∙ ap (λ s. s ++ g.0) f.1 ∙ append_assoc xs f.0 g.0)

-- ---- in an instance type

inner-front : (place : Place) (outer : List Slot) (s s' : InstanceScope) (d : Declaration) → instance_step place outer s d ≡ Some s' → Front s.slots s'.slots
inner-front place outer s s' x e = search std_rules

inner-fronts : (place : Place) (outer : List Slot) (s s' : InstanceScope) (ds : List Declaration) → instance_steps place outer s ds ≡ Some s' → Front s.slots s'.slots
inner-fronts place outer s s' [] e = same-front s.slots s'.slots (ap (λ (z : InstanceScope). z.slots) (some-same s s' e))
inner-fronts place outer s s' (d ∷ ds) e =
    let b = unbind (instance_step place outer s d) _ s' e in then-front s.slots b.item.slots s'.slots (inner-front place outer s b.item d b.is) (inner-fronts place outer b.item s' ds b.then)

inner-new : (place : Place) (outer : List Slot) (s m : InstanceScope) (d : Declaration) (i : ℕ) → instance_step place outer s d ≡ Some m → Contains (cond (is_value_type d) (length s.slots ∷ []) []) i
    → HoldsPlain m.slots i
inner-new place outer s m (Declaration.defined q) i e c =
    let b = unbind (definition s.slots q) _ m e in new-plain s.slots m.slots q b.item i b.is (ap (λ (z : InstanceScope). z.slots) (some-same _ m b.then)) (one-contained (length s.slots) i c)
inner-new place outer s m (Declaration.function q) i e c = none-in i c
inner-new place outer s m _ i e c = none-in i c

pub inner-values : (place : Place) (outer : List Slot) (s s' : InstanceScope) (ds : List Declaration) (i : ℕ) → instance_steps place outer s ds ≡ Some s'
    → Contains (slots_from is_value_type (length s.slots) (from_list ds)) i → HoldsPlain s'.slots i
inner-values place outer s s' [] i e c = none-in i c
inner-values place outer s s' (d ∷ ds) i e c =
    let b = unbind (instance_step place outer s d) _ s' e in
    let count : length b.item.slots ≡ length s.slots + declaration_slots d = steps.step-count place outer s b.item d b.is in
    elim (Contains-append_cases (cond (is_value_type d) (length s.slots ∷ []) []) (slots_from is_value_type (length s.slots + declaration_slots d) (from_list ds)) i c) [
      | inl here ↦ holds-front b.item.slots s'.slots i (inner-fronts place outer b.item s' ds b.then) (inner-new place outer s b.item d i b.is here)
      | inr more ↦ inner-values place outer b.item s' ds i b.then (subst (λ (n : ℕ). Contains (slots_from is_value_type n (from_list ds)) i) (sym count) more)
    ]

-- ---- in a component type

seen-front : (direction : Direction) (seen : Seen) (s : Scope) (xs : List Slot) → xs ≡ s.slots → Front xs (see direction seen s).slots
seen-front import_ seen s xs e = same-front xs s.slots e
seen-front export_ seen s xs e = same-front xs s.slots e

front-to : (xs : List Slot) (s s' : Scope) → s ≡ s' → Front xs s.slots → Front xs s'.slots
front-to xs s s' e f = subst (λ (z : Scope). Front xs z.slots) e f

instance-front : (direction : Direction) (name : ExternName) (n : ℕ) (s s' : Scope) → see_instance direction name n s ≡ Some s' → Front s.slots s'.slots
instance-front direction name n s s' e =
    let a = unbind (key_of name) _ s' e in
    let b = unbind (when (not (list_any (λ m. m == n) s.used)) (used_view s.slots (instance_place (interface_of a.item)) (slice_get s.slots n))) _ s' a.then in
    front-to s.slots _ s' (some-same _ s' b.then) (seen-front direction _ _ s.slots refl)

function-front : (direction : Direction) (name : ExternName) (n : ℕ) (s s' : Scope) → see_function direction name n s ≡ Some s' → Front s.slots s'.slots
function-front direction name n s s' e = let a = unbind (function_in (slice_get s.slots n)) _ s' e in front-to s.slots _ s' (unprovided _ _ s' a.then) (seen-front direction _ s s.slots refl)

type-front : (name : ExternName) (described : ComponentTypeRef) (s s' : Scope) → see_type name described s ≡ Some s' → Front s.slots s'.slots
type-front name described s s' e = search std_rules

outer-front : (s s' : Scope) (d : Declaration) → component_step s d ≡ Some s' → Front s.slots s'.slots
outer-front s s' (Declaration.defined q) e = let b = unbind (definition s.slots q) _ s' e in one-front s.slots s'.slots (Slot.value b.item) (ap (λ (z : Scope). z.slots) (some-same _ s' b.then))
outer-front s s' (Declaration.function q) e = search std_rules
outer-front s s' (Declaration.alias_of (Alias.of_export m name)) e = search std_rules
outer-front s s' (Declaration.alias_of (Alias.of_outer scopes n)) e = absurd cc
outer-front s s' (Declaration.imported name (refs.Instance n)) e = instance-front import_ name n s s' e
outer-front s s' (Declaration.imported name (refs.Func n)) e = function-front import_ name n s s' e
outer-front s s' (Declaration.imported name (refs.TypeEq n)) e = type-front name (refs.TypeEq n) s s' e
outer-front s s' (Declaration.imported name refs.SubResource) e = type-front name refs.SubResource s s' e
outer-front s s' (Declaration.exported name (refs.Instance n)) e = instance-front export_ name n s s' e
outer-front s s' (Declaration.exported name (refs.Func n)) e = function-front export_ name n s s' e
outer-front s s' _ e = absurd cc

outer-fronts : (s s' : Scope) (ds : Declarations) → component_steps s ds ≡ Some s' → Front s.slots s'.slots
outer-fronts s s' Declarations.no_more e = same-front s.slots s'.slots (ap (λ (z : Scope). z.slots) (some-same s s' e))
outer-fronts s s' (Declarations.declares d rest) e =
    let b = unbind (component_step s d) _ s' e in then-front s.slots b.item.slots s'.slots (outer-front s b.item d b.is) (outer-fronts b.item s' rest b.then)
outer-fronts s s' (Declarations.component inner rest) e = absurd cc
outer-fronts s s' (Declarations.instance inner rest) e =
    let b = unbind (flat inner) _ s' e in let x = Slot.instance b.item (length s.slots) in then-front s.slots (s.slots ++ x ∷ []) s'.slots (x ∷ [], refl) (outer-fronts (in_scope x s) s' rest b.then)

outer-new : (s m : Scope) (d : Declaration) (i : ℕ) → component_step s d ≡ Some m → Contains (cond (is_value_type d) (length s.slots ∷ []) []) i → HoldsPlain m.slots i
outer-new s m (Declaration.defined q) i e c =
    let b = unbind (definition s.slots q) _ m e in new-plain s.slots m.slots q b.item i b.is (ap (λ (z : Scope). z.slots) (some-same _ m b.then)) (one-contained (length s.slots) i c)
outer-new s m (Declaration.function q) i e c = none-in i c
outer-new s m _ i e c = none-in i c

pub outer-values : (s s' : Scope) (ds : Declarations) (i : ℕ) → component_steps s ds ≡ Some s' → Contains (slots_from is_value_type (length s.slots) ds) i → HoldsPlain s'.slots i
outer-values s s' Declarations.no_more i e c = none-in i c
outer-values s s' (Declarations.declares d rest) i e c =
    let b = unbind (component_step s d) _ s' e in
    let count : length b.item.slots ≡ length s.slots + declaration_slots d = components.step-count s b.item d b.is in
    elim (Contains-append_cases (cond (is_value_type d) (length s.slots ∷ []) []) (slots_from is_value_type (length s.slots + declaration_slots d) rest) i c) [
      | inl here ↦ holds-front b.item.slots s'.slots i (outer-fronts b.item s' rest b.then) (outer-new s b.item d i b.is here)
      | inr more ↦ outer-values b.item s' rest i b.then (subst (λ (n : ℕ). Contains (slots_from is_value_type n rest) i) (sym count) more)
    ]
outer-values s s' (Declarations.component inner rest) i e c = absurd cc
outer-values s s' (Declarations.instance inner rest) i e c =
    let b = unbind (flat inner) _ s' e in
    let x = Slot.instance b.item (length s.slots) in
    outer-values (in_scope x s) s' rest i b.then (subst (λ (n : ℕ). Contains (slots_from is_value_type n rest) i) (sym (length-append s.slots (x ∷ []))) c)
