-- The declarations of a component type, followed one by one.
use Rattle.std.proofs.Common.{rules as std_rules, ◌≡◌, refl, sym, ap, ◌∙◌, ℕ, ◌+◌, Bool, cond, List, [], ◌∷◌, ◌++◌, count_by, Option, Some, length, length-append, arith}
use Rattle.std.proofs.lemmas.Option.{same_Some as some-same}
use Rattle.comp_bytes.specs.declared.forms.ComponentTypeRef.{ComponentTypeRef}
use Rattle.comp_bytes.specs.Raw.{Declaration, Declarations, ExternName, append, from_list}
use Rattle.comp_bytes.specs.{Held.declaration_slots, Held.type_slots_of, Reading.◌>>=◌}
use Rattle.encode_types.proofs.Marking.{count-push}
use Rattle.comp_meaning.specs.Follow.{View, Shown, Key, text_of_key, interface_of, Slot, Scope, Seen, Direction, import_, export_, see, see_instance, see_function, see_type, in_scope, component_step, component_steps, flat}
use Rattle.wit_encode.specs.Instance.{count_declared}
use Rattle.wit_encode.proofs.Steps.{unbind}
use Rattle.comp_meaning.proofs.{EntryLaws.flat_list as flat-list, FollowLemmas.provided_is as unprovided}

pub see-slots : (direction : Direction) (seen : Seen) (s : Scope) → (see direction seen s).slots ≡ s.slots
see-slots import_ seen s = refl
see-slots export_ seen s = refl

one-more : (s s' : Scope) (x : Slot) → s.slots ++ x ∷ [] ≡ s'.slots → length s'.slots ≡ length s.slots + 1
one-more s s' x e = ap length (sym e) ∙ length-append s.slots (x ∷ [])

none-more : (s s' : Scope) → s.slots ≡ s'.slots → length s'.slots ≡ length s.slots + 0
none-more s s' e = ap length (sym e) ∙ (let y : length s.slots ≡ length s.slots + 0 = omega arith in y)

seen-as : (direction : Direction) (name : ExternName) (n : ℕ) (s s' : Scope) (key : Key) (o : Option View)
    → (o >>= λ view. Some (see direction (record { key = text_of_key key; shown = Shown.instance key view; external_id = name.external_id })
    (record s { instances = s.instances ++ record { interface = interface_of key; view = view } ∷ []; used = s.used ++ n ∷ [] }))) ≡ Some s' → length s'.slots ≡ length s.slots + 0
seen-as direction name n s s' key x e = search std_rules

instance-seen : (direction : Direction) (name : ExternName) (n : ℕ) (s s' : Scope) → see_instance direction name n s ≡ Some s' → length s'.slots ≡ length s.slots + 0
instance-seen direction name n s s' e = search (std_rules, unbind, seen-as)

function-seen : (direction : Direction) (name : ExternName) (n : ℕ) (s s' : Scope) → see_function direction name n s ≡ Some s' → length s'.slots ≡ length s.slots + 0
function-seen direction name n s s' e = search std_rules

type-seen : (name : ExternName) (described : ComponentTypeRef) (s s' : Scope) → see_type name described s ≡ Some s' → length s'.slots ≡ length s.slots + 1
type-seen name described s s' e = search (std_rules, unbind, one-more, unprovided)

pub step-count : (s s' : Scope) (d : Declaration) → component_step s d ≡ Some s' → length s'.slots ≡ length s.slots + declaration_slots d
step-count s s' x e = search (std_rules, unbind, one-more, some-same, instance-seen, function-seen, type-seen)

pub steps-count : (s s' : Scope) (ds : Declarations) → component_steps s ds ≡ Some s' → length s'.slots ≡ length s.slots + type_slots_of ds
steps-count s s' Declarations.no_more e = none-more s s' (ap (λ (z : Scope). z.slots) (some-same s s' e))
steps-count s s' (Declarations.declares d rest) e =
    let b = unbind (component_step s d) _ s' e in
    omega (arith, step-count s b.item d b.is, steps-count b.item s' rest b.then)
steps-count s s' (Declarations.component inner rest) e = absurd cc
steps-count s s' (Declarations.instance inner rest) e =
    let b = unbind (flat inner) _ s' e in
    let x = Slot.instance b.item (length s.slots) in
    omega (arith, length-append s.slots (x ∷ []), steps-count (in_scope x s) s' rest b.then)

-- ---- one declaration more

-- what stands behind is followed from where the declarations have led
steps-behind : (s m : Scope) (ds more : Declarations) → component_steps s ds ≡ Some m → component_steps s (append ds more) ≡ component_steps m more
steps-behind s m Declarations.no_more more e = ap (λ (z : Scope). component_steps z more) (some-same s m e)
steps-behind s m (Declarations.declares x rest) more e =
    let b = unbind (component_step s x) _ m e in
    ap (λ o. o >>= λ next. component_steps next (append rest more)) b.is ∙ steps-behind b.item m rest more b.then
steps-behind s m (Declarations.component inner rest) more e = absurd cc
steps-behind s m (Declarations.instance inner rest) more e =
    let b = unbind (flat inner) _ m e in
    ap (λ o. o >>= λ ds. component_steps (in_scope (Slot.instance ds (length s.slots)) s) (append rest more)) b.is
    ∙ steps-behind (in_scope (Slot.instance b.item (length s.slots)) s) m rest more b.then

pub steps-more : (s m n : Scope) (ds : Declarations) (d : Declaration) → component_steps s ds ≡ Some m → component_step m d ≡ Some n
    → component_steps s (append ds (Declarations.declares d Declarations.no_more)) ≡ Some n
steps-more s m n ds d e f = steps-behind s m ds (Declarations.declares d Declarations.no_more) e ∙ ap (λ o. o >>= λ next. component_steps next Declarations.no_more) f

-- an instance type more
pub steps-instance : (s m : Scope) (ds : Declarations) (es : List Declaration) → component_steps s ds ≡ Some m
    → component_steps s (append ds (Declarations.instance (from_list es) Declarations.no_more)) ≡ Some (in_scope (Slot.instance es (length m.slots)) m)
steps-instance s m ds es e = steps-behind s m ds (Declarations.instance (from_list es) Declarations.no_more) e
    ∙ ap (λ o. o >>= λ xs. component_steps (in_scope (Slot.instance xs (length m.slots)) m) Declarations.no_more) (flat-list es)

-- ---- how many are such

pub count-more : (test : Declaration → Bool) (ds : Declarations) (d : Declaration)
    → count_declared test (append ds (Declarations.declares d Declarations.no_more)) ≡ count_declared test ds + cond (test d) 1 0
count-more test Declarations.no_more d = let e : count_by test (d ∷ []) ≡ count_by test [] + cond (test d) 1 0 = count-push test [] d in let z : count_by test [] ≡ 0 = refl in omega arith
count-more test (Declarations.declares x rest) d = let more = count-more test rest d in omega arith
count-more test (Declarations.component inner rest) d = count-more test rest d
count-more test (Declarations.instance inner rest) d = count-more test rest d

pub count-instance : (test : Declaration → Bool) (ds : Declarations) (inner : Declarations)
    → count_declared test (append ds (Declarations.instance inner Declarations.no_more)) ≡ count_declared test ds
count-instance test Declarations.no_more inner = refl
count-instance test (Declarations.declares x rest) inner = ap (λ n. count_by test (x ∷ []) + n) (count-instance test rest inner)
count-instance test (Declarations.component i rest) inner = count-instance test rest inner
count-instance test (Declarations.instance i rest) inner = count-instance test rest inner
