-- The declarations of an instance type, followed one by one.
use Rattle.std.proofs.Common.{rules as std_rules, ◌≡◌, sym, ap, ◌∙◌, ◌+◌, Bool, List, [], ◌∷◌, ◌++◌, Option, Some, slice_get, length, length-append, arith}
use Rattle.comp_bytes.specs.declared.forms.ComponentTypeRef.{ComponentTypeRef}
use Rattle.comp_bytes.specs.{Raw.Declaration, Raw.Alias, Raw.ExternName, Held.declaration_slots, Held.type_slots, Reading.◌>>=◌}
use Rattle.wit_model.specs.Tree.{Place}
use Rattle.comp_meaning.specs.Follow.{Slot, InstanceScope, when, is_simple, definition, function_signature, named_type, show_type, instance_step, instance_steps}
use Rattle.comp_meaning.proofs.FollowLemmas.{provided_is as unprovided}
use Rattle.base_lemmas.proofs.Options.{some_is}
use Rattle.comp_bytes.specs.declared.forms.ComponentTypeRef.TheVariants as refs

-- ---- a way back through a step

pub record Bound {A B : Type 0} (o : Option A) (f : A → Option B) (y : B) : Type 0 where
  pub item : A
  pub is : o ≡ Some item
  pub then : f item ≡ Some y

pub unbind : {A B : Type 0} (o : Option A) (f : A → Option B) (y : B) → (o >>= f) ≡ Some y → Bound o f y
unbind y f u e = search std_rules

pub unwhen : {A : Type 0} (b : Bool) (o : Option A) (y : A) → when b o ≡ Some y → o ≡ Some y
unwhen x o y e = search std_rules

-- ---- how many slots there are

more-slots : (s s' : InstanceScope) (x : Slot) → s.slots ++ x ∷ [] ≡ s'.slots → length s'.slots ≡ length s.slots + 1
more-slots s s' x e = ap length (sym e) ∙ length-append s.slots (x ∷ [])

shown-count : (place : Place) (name : ExternName) (described : ComponentTypeRef) (s s' : InstanceScope) → show_type place name described s ≡ Some s' → length s'.slots ≡ length s.slots + 1
shown-count place name described s s' e = let b = unbind (named_type s.slots place name.text described) _ s' e in more-slots s s' b.item.1 (ap (λ (s : InstanceScope). s.slots) (some_is _ s' b.then))

pub step-count : (place : Place) (outer : List Slot) (s s' : InstanceScope) (d : Declaration) → instance_step place outer s d ≡ Some s' → length s'.slots ≡ length s.slots + declaration_slots d
step-count place outer s s' (Declaration.defined q) e = let b = unbind (definition s.slots q) _ s' e in more-slots s s' (Slot.value b.item) (ap (λ (s : InstanceScope). s.slots) (some_is _ s' b.then))
step-count place outer s s' (Declaration.function q) e =
    let b = unbind (function_signature s.slots q) _ s' e in more-slots s s' (Slot.function b.item) (ap (λ (s : InstanceScope). s.slots) (some_is _ s' b.then))
step-count place outer s s' (Declaration.alias_of (Alias.of_outer scopes n)) e =
    let b = unbind (slice_get outer n) _ s' e in more-slots s s' b.item (ap (λ (s : InstanceScope). s.slots) (unprovided _ _ s' b.then))
step-count place outer s s' (Declaration.alias_of (Alias.of_export m n)) e = absurd cc
step-count place outer s s' (Declaration.imported name described) e = absurd cc
step-count place outer s s' (Declaration.exported name (refs.Func n)) e = search std_rules
step-count place outer s s' (Declaration.exported name (refs.TypeEq n)) e = shown-count place name (refs.TypeEq n) s s' (unwhen (is_simple name) (show_type place name (refs.TypeEq n) s) s' e)
step-count place outer s s' (Declaration.exported name refs.SubResource) e = shown-count place name refs.SubResource s s' (unwhen (is_simple name) (show_type place name refs.SubResource s) s' e)
step-count place outer s s' (Declaration.exported name (refs.Component n)) e = absurd (let q = unwhen (is_simple name) (show_type place name (refs.Component n) s) s' e in cc)
step-count place outer s s' (Declaration.exported name (refs.Instance n)) e = absurd (let q = unwhen (is_simple name) (show_type place name (refs.Instance n) s) s' e in cc)

pub steps-count : (place : Place) (outer : List Slot) (s s' : InstanceScope) (ds : List Declaration) → instance_steps place outer s ds ≡ Some s' → length s'.slots ≡ length s.slots + type_slots ds
steps-count place outer s s' [] e = let z : s ≡ s' = cc in ap (λ (s : InstanceScope). length s.slots) (sym z) ∙ (let y : length s.slots ≡ length s.slots + 0 = omega arith in y)
steps-count place outer s s' (d ∷ ds) e = let b = unbind (instance_step place outer s d) _ s' e in omega (arith, step-count place outer s b.item d b.is, steps-count place outer b.item s' ds b.then)

-- ---- one declaration more

pub steps-more : (place : Place) (outer : List Slot) (s m n : InstanceScope) (ds : List Declaration) (d : Declaration) → instance_steps place outer s ds ≡ Some m
    → instance_step place outer m d ≡ Some n → instance_steps place outer s (ds ++ d ∷ []) ≡ Some n
steps-more place outer s m n [] d e f = let z : s ≡ m = cc in ap (λ (x : InstanceScope). instance_step place outer x d >>= λ next. Some next) z ∙ ap (λ o. o >>= λ next. Some next) f
steps-more place outer s m n (x ∷ ds) d e f =
    let b = unbind (instance_step place outer s x) _ m e in ap (λ o. o >>= λ next. instance_steps place outer next (ds ++ d ∷ [])) b.is ∙ steps-more place outer b.item m n ds d b.then f
