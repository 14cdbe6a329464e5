-- One alias more in a component type: what it shows, and what an instance type in it reads.
use Rattle.std.proofs.Common.{◌≡◌, refl, sym, ap, ◌∙◌, ◌+◌, List, [], ◌∷◌, ◌++◌, Option, Some, None, slice_get, length, true, arith}
use Rattle.std.proofs.lemmas.Option.{same_Some as some-same}
use Rattle.std.specs.Option.{option_map_or, is_some}
use Rattle.wit_model.specs.Tree.{Place}
use Rattle.comp_bytes.specs.{Raw.Alias, Raw.Declaration, Held.type_slots_of}
use Rattle.comp_meaning.specs.Follow.{Slot, Instance, InstanceScope, new_instance, new_scope, provided, in_scope, find_type, exported_slot, component_step, instance_step, instance_steps}
use Rattle.encode_types.specs.Known.{Around, Aliased, alias_declared, with_alias}
use Rattle.wit_encode.specs.Instance.{no_view, outer_scope, outer_slots, outer_instances, inner_scope, inner_contents}
use Rattle.wit_encode.proofs.{Strict.bind, Steps.unbind, Components.steps-count, Components.steps-more, Calls.inner-at}
use Rattle.base_lemmas.proofs.Lists.{at_last as get-last, front_more as get-left}
use Rattle.comp_meaning.specs.Follow as follow

-- ---- an instance type, with one slot more around

step-wider : (place : Place) (outer : List Slot) (x : Slot) (s m : InstanceScope) (d : Declaration) → instance_step place outer s d ≡ Some m → instance_step place (outer ++ x ∷ []) s d ≡ Some m
step-wider place outer x s m (Declaration.defined q) e = e
step-wider place outer x s m (Declaration.function q) e = e
step-wider place outer x s m (Declaration.alias_of (Alias.of_outer scopes n)) e =
    let b = unbind (slice_get outer n) _ m e in bind (slice_get (outer ++ x ∷ []) n) b.item _ (get-left outer x n b.item b.is) ∙ b.then
step-wider place outer x s m (Declaration.alias_of (Alias.of_export k name)) e = e
step-wider place outer x s m _ e = e

steps-wider : (place : Place) (outer : List Slot) (x : Slot) (s m : InstanceScope) (ds : List Declaration) → instance_steps place outer s ds ≡ Some m
    → instance_steps place (outer ++ x ∷ []) s ds ≡ Some m
steps-wider place outer x s m [] e = e
steps-wider place outer x s m (d ∷ ds) e =
    let b = unbind (instance_step place outer s d) _ m e in
    bind (instance_step place (outer ++ x ∷ []) s d) b.item _ (step-wider place outer x s b.item d b.is) ∙ steps-wider place outer x b.item m ds b.then

-- ---- a component type, with one alias more

pub record Widened (a : Around) (al : Aliased) (x : Slot) : Type 0 where
  pub scope : (s : follow.Scope) → outer_scope a.declared ≡ Some s → outer_scope (with_alias a al).declared ≡ Some (in_scope x s)
  pub slots : outer_slots (with_alias a al).declared ≡ outer_slots a.declared ++ x ∷ []
  pub instances : outer_instances (with_alias a al).declared ≡ outer_instances a.declared
  pub number : type_slots_of a.declared ≡ length (outer_slots a.declared)
  pub new : slice_get (outer_slots (with_alias a al).declared) (type_slots_of a.declared) ≡ Some x

-- the alias takes the slot that the instance shows
pub alias-step : (s : follow.Scope) (al : Aliased) (x : Slot) (instance : Instance) → slice_get s.instances al.instance ≡ Some instance → is_some instance.interface ≡ true
    → find_type al.name instance.view.types ≡ Some x → component_step s (alias_declared al) ≡ Some (in_scope x s)
alias-step s al x instance at path found =
    let shown : exported_slot al.name (Some instance) ≡ Some x = bind (find_type al.name instance.view.types) x _ found ∙ ap (λ b. provided b x) path in
    bind (exported_slot al.name (slice_get s.instances al.instance)) x (λ slot. Some (in_scope slot s)) (ap (exported_slot al.name) at ∙ shown)

pub widened : (a : Around) (al : Aliased) (x : Slot) (instance : Instance) → slice_get (outer_instances a.declared) al.instance ≡ Some instance → is_some instance.interface ≡ true
    → find_type al.name instance.view.types ≡ Some x → Widened a al x
widened a al x instance at path found = go (outer_scope a.declared) refl
  where
    slots_of : Option follow.Scope → List Slot
    slots_of o = option_map_or (λ s. s.slots) o []

    instances_of : Option follow.Scope → List Instance
    instances_of o = option_map_or (λ s. s.instances) o []

    go : (o : Option follow.Scope) → outer_scope a.declared ≡ o → Widened a al x
    go None q = let nothing : slice_get [] al.instance ≡ Some instance = sym (ap (λ o. slice_get (instances_of o) al.instance) q) ∙ at in absurd cc
    go (Some s) q =
        let step = alias-step s al x instance (sym (ap (λ o. slice_get (instances_of o) al.instance) q) ∙ at) path found in
        let next : outer_scope (with_alias a al).declared ≡ Some (in_scope x s) = steps-more new_scope s (in_scope x s) a.declared (alias_declared al) q step in
        let slots : outer_slots (with_alias a al).declared ≡ outer_slots a.declared ++ x ∷ [] = ap slots_of next ∙ ap (λ xs. xs ++ x ∷ []) (sym (ap slots_of q)) in
        let count : length s.slots ≡ length new_scope.slots + type_slots_of a.declared = steps-count new_scope s a.declared q in
        let same : length (outer_slots a.declared) ≡ length s.slots = ap (λ o. length (slots_of o)) q in
        let number : type_slots_of a.declared ≡ length (outer_slots a.declared) = omega arith in
        record {
          scope = λ t p. next ∙ ap (λ z. Some (in_scope x z)) (some-same s t (sym q ∙ p));
          slots = slots;
          instances = ap instances_of next ∙ sym (ap instances_of q);
          number = number;
          new = (λ j. slice_get (slots j) (number j)) ∙ get-last (outer_slots a.declared) x;
        }

-- what has been declared in an instance type is read as before
pub contents-wider : (place : Place) (a : Around) (al : Aliased) (x : Slot) (ds : List Declaration) → Widened a al x → (inner_contents place a.declared ds).is_followed ≡ true
    → inner_contents place (with_alias a al).declared ds ≡ inner_contents place a.declared ds
unfolding inner_contents
contents-wider place a al x ds w followed =
    let at = inner-at place a.declared ds followed in
    let wider : inner_scope place (with_alias a al).declared ds ≡ inner_scope place a.declared ds =
    ap (λ slots. instance_steps place slots new_instance ds) w.slots ∙ steps-wider place (outer_slots a.declared) x new_instance at.scope ds at.is ∙ sym at.is in
    λ j. record {
      slots = option_map_or (λ s. s.slots) (wider j) [];
      shown = option_map_or (λ s. s.shown) (wider j) no_view;
      is_followed = is_some (wider j);
      types = (inner_contents place a.declared ds).types;
      exported = (inner_contents place a.declared ds).exported;
      functions = (inner_contents place a.declared ds).functions;
    }
