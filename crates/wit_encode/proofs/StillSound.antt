-- A component type whose declarations can be followed, each resource in a slot of its kind, stays so behind aliases and an instance type.
use Rattle.std.proofs.Common.{◌≡◌, refl, sym, subst, ap, ◌∙◌, ℕ, true, ◌&&◌, List, [], ◌∷◌, ◌++◌, Result, Ok, Err, IfOk, OnErr, Option, Some, None, length}
use Rattle.std.proofs.lemmas.{List.Folds.list_all-append, Bool.and_from as both}
use Rattle.std.specs.{List.list_all, Option.option_map_or, Option.is_some}
use Rattle.wit_model.specs.declared.model.Resolve.{Resolve}
use Rattle.comp_bytes.specs.{Raw.Declaration, Raw.Declarations, Raw.append, Raw.from_list, Held.type_slots_of}
use Rattle.comp_meaning.specs.Follow.{Slot, in_scope, is_foreign_name, new_scope}
use Rattle.encode_types.specs.Known.{Around, Aliased, AreAliases, GrowsAround, IsAlias, with_alias, with_aliases}
use Rattle.encode_types.specs.Resources.{named_resources}
use Rattle.wit_encode.specs.declared.interface.{Foreign.Foreign, OpenInterface.OpenInterface}
use Rattle.wit_encode.specs.Instance.{around_at, encoder_scope, is_slot_of, is_sound_in, outer_contents, outer_scope, outer_slots, resources_in}
use Rattle.wit_encode.proofs.{Components.steps-instance, Importing.stands, Importing.wide, Outside.OuterAt, Outside.outer-at}
use Rattle.base_lemmas.proofs.{Bools.left_of as first_true, Bools.right_of as second_true, Options.some_is}
use Rattle.comp_meaning.specs.Follow as follow

-- what is sound, in parts
abbrev pub IsSound : Resolve → Declarations → Type 0
IsSound r outer = is_sound_in r None (outer_contents outer) ≡ true

-- where no interface is being encoded, it is what the scope says
pub sound-closed : (r r' : Resolve) (outer : Declarations) (inner : Option OpenInterface) → r' ≡ r → inner ≡ None → (encoder_scope r' outer inner).is_sound ≡ is_sound_in r None (outer_contents outer)
sound-closed r r' outer inner e f = λ i. (encoder_scope (e i) outer (f i)).is_sound

module _ (r : Resolve) (outer outer' : Declarations) (x : Slot) where
  -- one slot more of a right kind
  slot-sound : IsSound r outer → is_slot_of (named_resources r) x ≡ true → ((s : follow.Scope) → outer_scope outer ≡ Some s → outer_scope outer' ≡ Some (in_scope x s)) → IsSound r outer'
  unfolding outer_contents
  slot-sound h fits next =
      let test = is_slot_of (resources_in r None) in
      let a : OuterAt outer = outer-at outer (first_true (is_some (outer_scope outer)) (list_all test (outer_slots outer)) h) in
      let followed = next a.scope a.is in
      let slots : outer_slots outer' ≡ outer_slots outer ++ x ∷ [] = ap (λ o. option_map_or (λ s. s.slots) o []) followed ∙ ap (λ xs. xs ++ x ∷ [])
      (sym (ap (λ o. option_map_or (λ s. s.slots) o []) a.is)) in
      both (is_some (outer_scope outer')) (list_all test (outer_slots outer')) (ap is_some followed)
      (ap (list_all test) slots ∙ list_all-append test (outer_slots outer) (x ∷ []) ∙ both (list_all test (outer_slots outer)) (test x && true)
      (second_true (is_some (outer_scope outer)) (list_all test (outer_slots outer)) h) (both (test x) true fits refl))

alias-sound : (r : Resolve) (a : Around) (x : Aliased) → IsAlias r a x → IsSound r a.declared → IsSound r (with_alias a x).declared
alias-sound r a x is h =
    let s = stands r a x is in
    slot-sound r a.declared (with_alias a x).declared s.slot h (first_true (is_slot_of (named_resources r) s.slot) _ (second_true (is_foreign_name s.slot) _ s.fits)) (wide r a x is).scope

aliases-sound : (r : Resolve) (a : Around) (made : List Aliased) → AreAliases r a made → IsSound r a.declared → IsSound r (with_aliases a made).declared
aliases-sound r a [] are h = h
aliases-sound r a (x ∷ made) are h = aliases-sound r (with_alias a x) made are.1 (alias-sound r a x are.0 h)

-- behind aliases
pub grown-sound : (r : Resolve) (a a' : Around) → GrowsAround r a a' → IsSound r a.declared → IsSound r a'.declared
grown-sound r a a' g h = subst (λ (z : Around). IsSound r z.declared) (sym g.is) (aliases-sound r a g.made g.are h)

instance-sound : (r : Resolve) (outer : Declarations) (es : List Declaration) → IsSound r outer → IsSound r (append outer (Declarations.instance (from_list es) Declarations.no_more))
unfolding outer_contents
instance-sound r outer es h =
    let a : OuterAt outer = outer-at outer (first_true (is_some (outer_scope outer)) (list_all (is_slot_of (resources_in r None)) (outer_slots outer)) h) in
    slot-sound r outer (append outer (Declarations.instance (from_list es) Declarations.no_more)) (Slot.instance es (length a.scope.slots)) h refl
    (λ s e. steps-instance new_scope s outer es e ∙ ap (λ (z : follow.Scope). Some (in_scope (Slot.instance es (length z.slots)) s)) (some_is s a.scope (sym e ∙ a.is)))

-- behind aliases, and an instance type
pub closed-sound : {E : Type 0} (res : Result ℕ E) (r : Resolve) (a : Around) (outer outer' : Declarations) (foreign : Foreign) (es : List Declaration) → GrowsAround r a (around_at outer foreign)
    → IfOk res (λ k. (k ≡ type_slots_of outer) × (outer' ≡ append outer (Declarations.instance (from_list es) Declarations.no_more))) → OnErr res (outer' ≡ outer) → IsSound r a.declared
    → IsSound r outer'
closed-sound (Ok k) r a outer outer' foreign es g ok err h = subst (IsSound r) (sym ok.1) (instance-sound r outer es (grown-sound r a (around_at outer foreign) g h))
closed-sound (Err x) r a outer outer' foreign es g ok err h = subst (IsSound r) (sym err) (grown-sound r a (around_at outer foreign) g h)
