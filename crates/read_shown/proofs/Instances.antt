-- The instances of a scope are its imports and its exports that are instances.
use Rattle.std.proofs.Common.{rules as std_rules, ◌≡◌, refl, sym, ap, ◌∙◌, ℕ, List, [], ◌∷◌, ◌++◌, Some}
use Rattle.std.proofs.lemmas.{Grind.flat_map-append, List.append-nil, List.map-append}
use Rattle.comp_bytes.specs.Raw.{Declarations}
use Rattle.comp_meaning.specs.Follow.{Slot, Instance, Seen, Shown, Scope, Direction, import_, export_, component_scope, in_scope, see}
use Rattle.comp_meaning.proofs.StepLaws.{StepOf, defines, signs, aliases, sees_function, sees_type, sees_instance, seen_under, seen_instance, step_of}
use Rattle.read_shown.specs.Instances.{instance_of, instances_in, going, InstancesAreSeen}
use Rattle.read_shown.proofs.Scopes.{scope_keeps}

-- those that go one way, and one more
going_more : (way : Direction) (xs : List (Direction × Instance)) (last : Direction × Instance) → going way (xs ++ last ∷ []) ≡ going way xs ++ going way (last ∷ [])
going_more way [] last = refl
going_more import_ ((import_, x) ∷ xs) last = ap (λ ys. x ∷ ys) (going_more import_ xs last)
going_more import_ ((export_, x) ∷ xs) last = going_more import_ xs last
going_more export_ ((import_, x) ∷ xs) last = going_more export_ xs last
going_more export_ ((export_, x) ∷ xs) last = ap (λ ys. x ∷ ys) (going_more export_ xs last)

one_more : (seen : List Seen) (s : Seen) → instances_in (seen ++ s ∷ []) ≡ instances_in seen ++ instance_of s.shown
one_more seen s = flat_map-append (λ (x : Seen). instance_of x.shown) seen (s ∷ []) ∙ ap (λ xs. instances_in seen ++ xs) (append-nil (instance_of s.shown))

in_slot : (scope : Scope) (slot : Slot) → InstancesAreSeen scope → InstancesAreSeen (in_scope slot scope)
in_slot scope slot h = record { seen = h.seen; all = h.all; imported = h.imported; exported = h.exported }

-- what is no instance adds none
plain_seen : (direction : Direction) (s : Seen) (scope : Scope) → instance_of s.shown ≡ [] → InstancesAreSeen scope → InstancesAreSeen (see direction s scope)
plain_seen import_ s scope none h = search (std_rules, one_more, append-nil)
plain_seen export_ s scope none h = search (std_rules, one_more, append-nil)

-- an instance is one more
one_seen : (direction : Direction) (s : Seen) (x : Instance) (used : List ℕ) (scope : Scope) → instance_of s.shown ≡ x ∷ [] → InstancesAreSeen scope
    → InstancesAreSeen (see direction s (record scope { instances = scope.instances ++ x ∷ []; used = used }))
one_seen import_ s x used scope is h = record {
  seen = h.seen ++ (import_, x) ∷ [];
  all = map-append (λ (y : Direction × Instance). y.1) h.seen ((import_, x) ∷ []) ∙ ap (λ xs. xs ++ x ∷ []) h.all;
  imported = going_more import_ h.seen (import_, x) ∙ (ap (λ xs. xs ++ x ∷ []) h.imported ∙ sym (one_more scope.imports s ∙ ap (λ xs. instances_in scope.imports ++ xs) is));
  exported = going_more export_ h.seen (import_, x) ∙ (append-nil (going export_ h.seen) ∙ h.exported);
}
one_seen export_ s x used scope is h = record {
  seen = h.seen ++ (export_, x) ∷ [];
  all = map-append (λ (y : Direction × Instance). y.1) h.seen ((export_, x) ∷ []) ∙ ap (λ xs. xs ++ x ∷ []) h.all;
  imported = going_more import_ h.seen (export_, x) ∙ (append-nil (going import_ h.seen) ∙ h.imported);
  exported = going_more export_ h.seen (export_, x) ∙ (ap (λ xs. xs ++ x ∷ []) h.exported ∙ sym (one_more scope.exports s ∙ ap (λ xs. instances_in scope.exports ++ xs) is));
}

step_seen : (scope next : Scope) → StepOf scope next → InstancesAreSeen scope → InstancesAreSeen next
step_seen scope _ (defines d t e) h = in_slot scope (Slot.value t) h
step_seen scope _ (signs f s e) h = in_slot scope (Slot.function s) h
step_seen scope _ (aliases m name slot e) h = in_slot scope slot h
step_seen scope _ (sees_function direction name n f e) h = plain_seen direction (seen_under name (Shown.function f)) scope refl h
step_seen scope _ (sees_type name described found e) h = plain_seen import_ (seen_under name (Shown.declares found.0)) (in_scope found.1 scope) refl (in_slot scope found.1 h)
step_seen scope _ (sees_instance direction name n key view new e) h = search (std_rules, one_seen, seen_instance)

pub instances_seen : (ds : Declarations) (scope : Scope) → component_scope ds ≡ Some scope → InstancesAreSeen scope
instances_seen ds scope e = scope_keeps InstancesAreSeen (λ s next d e h. step_seen s next (step_of s next d e) h) (λ s inner n h. in_slot s (Slot.instance inner n) h)
    (record { seen = []; all = refl; imported = refl; exported = refl }) ds scope e
