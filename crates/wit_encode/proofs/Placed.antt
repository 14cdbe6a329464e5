-- An instance type that is declared in a component type behind aliases, and imported or exported there: how much is declared by then, and what of it
-- defines types.
use Rattle.std.proofs.Common.{rules as std_rules, ◌≡◌, refl, sym, ap, subst, ◌∙◌, ℕ, ◌+◌, ◌⊎◌, inl, inr, Bool, true, false, not, cond, List, [], ◌∷◌, ◌++◌, append-nil, append_assoc, Option, Some, None, slice_get, length, length-append, Result, Ok, Err, IfOk, OnErr, IsSome, arith, zero, suc, ◌≤◌, nat_cmp, ◌&&◌, is_some}
use Rattle.std.proofs.lemmas.{Bool.eq-eqb, Bool.cases_Bool, Bool.cond-true, Bool.cond-false, Bool.and_from as both, List.Folds.list_all-append}
use Rattle.std.proofs.lemmas.Option.{slice_get_within}
use Rattle.std.specs.{List.list_all, List.Contains, List.filter, Option.option_map_or, Cmp.Derive.both_true, BTreeMap.insert_entry, BTreeMap.is_at}
use Rattle.base_lemmas.proofs.{Bools.left_of, Bools.left_of as first_true, Bools.right_of as second_true, Elements.all_weaker, Lists.length_of_map, Options.some_is}
use Rattle.wit_model.specs.{Tree.Place, Lookup.place_of, Lookup.type_at, Uses.owner_interface}
use Rattle.wit_model.specs.declared.model.{Resolve.Resolve, TypeDef.TypeDef, TypeOwner.TypeOwner}
use Rattle.comp_bytes.specs.declared.forms.ComponentTypeRef.{ComponentTypeRef}
use Rattle.comp_bytes.specs.Raw.{Alias, Declaration, Declarations, ExternName, from_list, append, declaration_count}
use Rattle.comp_bytes.specs.Held.{type_slots, type_slots_of}
use Rattle.comp_bytes.proofs.HeldLaws.{from_list-push}
use Rattle.comp_meaning.specs.Follow.{Slot, InstanceScope, is_simple, definition, function_signature, function_in, named_type, show_type, show_function, new_instance, instance_step, instance_steps}
use Rattle.comp_meaning.proofs.FollowLemmas.{provided_is as unprovided}
use Rattle.encode_types.specs.{Distinct.function_slots, Distinct.target_of, Distinct.targets_of, Distinct.slots_from, View.Told}
use Rattle.encode_types.specs.Known.{Aliased, AreAliases, Around, GrowsAround, IsAlias, alias_declared, below, known_instance, known_slot, with_alias, with_aliases}
use Rattle.wit_encode.specs.declared.interface.OpenInterface.{OpenInterface}
use Rattle.wit_encode.specs.Encoders.{DeclaresInside, declared_inside, KeepsInside, declared_after}
use Rattle.wit_encode.specs.Instance.{inner_contents, is_slot_of, resources_in, contents_of, defined_in, encoder_scope, exports_in, own_of, no_view, outer_slots, slots_in, count_declared}
use Rattle.wit_encode.specs.Places.{describes, is_function, is_type, are_beside, takes_index, GrowsBy, StandInOrder}
use Rattle.wit_encode.specs.Worlds.{brought_numbers, instances_declared, is_brought, is_of_listed}
use Rattle.wit_encode.proofs.{Calls.InnerAt, Calls.inner-at, Calls.inner-index, Refusing.one-appended, LatestInstances.found-new, LatestInstances.found-other, Steps.unbind, Steps.unwhen, Imported.at-same, WorldHolding.counts-declared, WorldHolding.brought-kept, WorldHolding.filters-more, Components.count-instance, ImportsStand.below-there, Importing.new-slot}
use Rattle.wit_encode.proofs.ValueSlots.{list-slots, instances-behind, instances-kept, targets-instance, targets-kept, slots-instance, slots-kept}
use Rattle.wit_encode.proofs.Places.{DefinesAtLast, function-beside, grows-more, grows-none, list-both, one-list, types-beside}
use Rattle.encode_types.proofs.Lists.{none-in}
use Rattle.wit_model.specs.declared.model.TypeOwner.TheVariants as owner
use Rattle.comp_bytes.specs.declared.forms.ComponentTypeRef.TheVariants as refs

-- ---- The declarations of an instance type stand in order: after its types, and after each function.

-- ---- what a call leaves behind what had been declared

-- one declaration more, which takes a type index
pub inside-called : {E : Type 0} (res : Result ℕ E) (inner : Option OpenInterface) (current after : OpenInterface) (d : Declaration) → inner ≡ Some current → takes_index d ≡ true
    → IfOk res (DeclaresInside current.declared after.declared d) → OnErr res (after.declared ≡ current.declared) → (told : Told) → KeepsInside inner told → KeepsInside (Some after) told
inside-called res inner current after d is one ok err (Told.numbers ns) k = tt
inside-called (Ok i) inner current after d is one ok err (Told.declared ds) k =
    grows-more ds (from_list current.declared) (from_list after.declared) d (ap from_list ok.1 ∙ from_list-push current.declared d) one
    (subst (λ (o : Option OpenInterface). GrowsBy ds (from_list (declared_inside o))) is k)
inside-called (Err e) inner current after d is one ok err (Told.declared ds) k =
    subst (λ (zs : List Declaration). GrowsBy ds (from_list zs)) (sym err) (subst (λ (o : Option OpenInterface). GrowsBy ds (from_list (declared_inside o))) is k)

-- ---- how many types are exported

types_in : List Declaration → ℕ
types_in [] = 0
types_in (d ∷ ds) = cond (describes is_type d) 1 0 + types_in ds

types-both : (xs ys : List Declaration) → types_in (xs ++ ys) ≡ types_in xs + types_in ys
unfolding types_in
types-both [] ys = omega arith
types-both (x ∷ xs) ys = omega (arith, types-both xs ys)

no-types : (ds : List Declaration) → types_in ds ≡ 0 → list_all (λ d. not (describes is_type d)) ds ≡ true
unfolding types_in
no-types [] e = refl
no-types (d ∷ ds) e = elim (cases_Bool (describes is_type d)) [
  | inl is ↦ absurd (omega (arith, ap {B = ℕ} (λ (b : Bool). cond b 1 0) is, e))
  | inr is ↦ both_true (ap not is) (no-types ds (omega (arith, ap {B = ℕ} (λ (b : Bool). cond b 1 0) is, e)))
]

-- an export of a type is shown, and nothing else
same-types : (a b : InstanceScope) → a ≡ b → length b.shown.types ≡ length a.shown.types + 0
same-types a b e = ap (λ (s : InstanceScope). length s.shown.types) (sym e) ∙ (let y : length a.shown.types ≡ length a.shown.types + 0 = omega arith in y)

type-shown : (place : Place) (name : ExternName) (described : ComponentTypeRef) (s s' : InstanceScope) → show_type place name described s ≡ Some s' → length s'.shown.types ≡ length s.shown.types + 1
type-shown place name described s s' e =
    let b = unbind (named_type s.slots place name.text described) _ s' e in ap (λ (z : InstanceScope). length z.shown.types) (sym (some_is _ s' b.then)) ∙ length-append s.shown.types _

step-types : (place : Place) (outer : List Slot) (s s' : InstanceScope) (d : Declaration) → instance_step place outer s d ≡ Some s'
    → length s'.shown.types ≡ length s.shown.types + cond (describes is_type d) 1 0
step-types place outer s s' (Declaration.defined q) e = let b = unbind (definition s.slots q) _ s' e in same-types _ s' (some_is _ s' b.then)
step-types place outer s s' (Declaration.function q) e = let b = unbind (function_signature s.slots q) _ s' e in same-types _ s' (some_is _ s' b.then)
step-types place outer s s' (Declaration.alias_of (Alias.of_outer scopes n)) e = let b = unbind (slice_get outer n) _ s' e in same-types _ s' (unprovided _ _ s' b.then)
step-types place outer s s' (Declaration.alias_of (Alias.of_export m n)) e = absurd cc
step-types place outer s s' (Declaration.imported name described) e = absurd cc
step-types place outer s s' (Declaration.exported name (refs.Func n)) e =
    let b = unbind (function_in (slice_get s.slots n)) _ s' (unwhen (is_simple name) (show_function name n s) s' e) in
    ap (λ (z : InstanceScope). length z.shown.types) (sym (some_is _ s' b.then)) ∙ (let y : length s.shown.types ≡ length s.shown.types + 0 = omega arith in y)
step-types place outer s s' (Declaration.exported name (refs.TypeEq n)) e = type-shown place name (refs.TypeEq n) s s' (unwhen (is_simple name) (show_type place name (refs.TypeEq n) s) s' e)
step-types place outer s s' (Declaration.exported name refs.SubResource) e = type-shown place name refs.SubResource s s' (unwhen (is_simple name) (show_type place name refs.SubResource s) s' e)
step-types place outer s s' (Declaration.exported name (refs.Component n)) e = absurd (let q = unwhen (is_simple name) (show_type place name (refs.Component n) s) s' e in cc)
step-types place outer s s' (Declaration.exported name (refs.Instance n)) e = absurd (let q = unwhen (is_simple name) (show_type place name (refs.Instance n) s) s' e in cc)

steps-types : (place : Place) (outer : List Slot) (s s' : InstanceScope) (ds : List Declaration) → instance_steps place outer s ds ≡ Some s'
    → length s'.shown.types ≡ length s.shown.types + types_in ds
unfolding types_in
steps-types place outer s s' [] e = same-types s s' (some_is s s' e)
steps-types place outer s s' (d ∷ ds) e = let b = unbind (instance_step place outer s d) _ s' e in omega (arith, step-types place outer s b.item d b.is, steps-types place outer b.item s' ds b.then)

-- ---- an instance type that is open

module _ (r : Resolve) (outer : Declarations) (inner : Option OpenInterface) (sound : (encoder_scope r outer inner).is_sound ≡ true) where
  followed : (contents_of r outer inner).is_followed ≡ true
  followed = left_of (contents_of r outer inner).is_followed (list_all (is_slot_of (resources_in r (own_of inner))) (contents_of r outer inner).slots) sound

types-inside : (r : Resolve) (outer : Declarations) (inner : Option OpenInterface) → IsSome inner → (encoder_scope r outer inner).is_sound ≡ true
    → length (exports_in r outer inner) ≡ types_in (declared_inside inner)
unfolding inner_contents
types-inside r outer None some sound = absurd cc
types-inside r outer (Some current) some sound =
    let place : Place = place_of r (owner.Interface current.interface) in
    let a : InnerAt place outer current.declared = inner-at place outer current.declared (followed r outer (Some current) sound) in
    let shown : length (contents_of r outer (Some current)).shown.types ≡ length a.scope.shown.types =
    ap (λ (o : Option InstanceScope). length (option_map_or (λ (s : InstanceScope). s.shown) o no_view).types) a.is in
    length_of_map _ (contents_of r outer (Some current)).shown.types ∙ shown ∙ steps-types place (outer_slots outer) new_instance a.scope current.declared a.is
    ∙ (let y : 0 + types_in current.declared ≡ types_in current.declared = omega arith in y)

slots-inside : (r : Resolve) (outer : Declarations) (inner : Option OpenInterface) → IsSome inner → (encoder_scope r outer inner).is_sound ≡ true
    → type_slots (declared_inside inner) ≡ slots_in r outer inner
slots-inside r outer None some sound = absurd cc
slots-inside r outer (Some current) some sound =
    let place : Place = place_of r (owner.Interface current.interface) in inner-index place outer current.declared (inner-at place outer current.declared (followed r outer (Some current) sound))

functions-inside : (r : Resolve) (outer : Declarations) (inner : Option OpenInterface) → IsSome inner → (defined_in r outer inner).functions ≡ function_slots (from_list (declared_inside inner))
unfolding inner_contents
functions-inside r outer x some = search std_rules

-- one that is open is open still
pub open-still : (inner inner' : Option OpenInterface) → own_of inner' ≡ own_of inner → IsSome inner → IsSome inner'
open-still x inner' e some = search std_rules

-- ---- after the types

taken-no-function : (d : Declaration) → takes_index d ≡ true → not (describes is_function d) ≡ true
taken-no-function x e = search std_rules

pub types-in-order : (r r' : Resolve) (outer outer' : Declarations) (inner inner' : Option OpenInterface) → IsSome inner → IsSome inner' → declared_inside inner ≡ []
    → ((told : Told) → KeepsInside inner told → KeepsInside inner' told) → (defined_in r' outer' inner').functions ≡ (defined_in r outer inner).functions → StandInOrder (declared_inside inner')
types-in-order r r' outer outer' inner inner' some some' none keeps same =
    let ds : List Declaration = declared_inside inner' in
    let g : GrowsBy Declarations.no_more (from_list ds) =
    keeps (Told.declared Declarations.no_more) (subst (λ (zs : List Declaration). GrowsBy Declarations.no_more (from_list zs)) (sym none) (grows-none Declarations.no_more)) in
    let unused : function_slots (from_list ds) ≡ [] =
    sym (functions-inside r' outer' inner' some') ∙ same ∙ functions-inside r outer inner some ∙ ap (λ (zs : List Declaration). function_slots (from_list zs)) none in
    record {
      types = ds;
      functions = [];
      are = sym (append-nil ds);
      no_function = subst (λ (zs : List Declaration). list_all (λ d. not (describes is_function d)) zs ≡ true) (sym (one-list ds g.more g.are))
          (all_weaker takes_index (λ d. not (describes is_function d)) taken-no-function g.more g.indexes);
      no_type = refl;
      beside = types-beside Declarations.no_more (from_list ds) g unused refl;
    }

-- ---- after a function

module _ (r r₀ r₁ : Resolve) (o₀ o₁ o₂ : Declarations) (i₀ i₁ i₂ : Option OpenInterface) (some₀ : IsSome i₀) (some₁ : IsSome i₁) (some₂ : IsSome i₂)
    (sound₀ : (encoder_scope r o₀ i₀).is_sound ≡ true) (sound₁ : (encoder_scope r₁ o₁ i₁).is_sound ≡ true) (sound₂ : (encoder_scope r o₂ i₂).is_sound ≡ true) where
  pub function-in-order : (index : ℕ) (name : ExternName) → ((told : Told) → KeepsInside i₀ told → KeepsInside i₁ told) → ((defined_in r₁ o₁ i₁).functions ≡ (defined_in r₀ o₀ i₀).functions)
      ⊎ (((defined_in r₁ o₁ i₁).functions ≡ (defined_in r₀ o₀ i₀).functions ++ index ∷ []) × (slots_in r₁ o₁ i₁ ≡ index + 1))
      → declared_inside i₂ ≡ declared_inside i₁ ++ Declaration.exported name (refs.Func index) ∷ [] → exports_in r o₂ i₂ ≡ exports_in r o₀ i₀ → StandInOrder (declared_inside i₀)
      → StandInOrder (declared_inside i₂)
  function-in-order index name keeps defines shown same s =
      let d : Declaration = Declaration.exported name (refs.Func index) in
      let ds : List Declaration = declared_inside i₀ in
      let behind : List Declaration = declared_inside i₁ in
      let g : GrowsBy (from_list ds) (from_list behind) = keeps (Told.declared (from_list ds)) (grows-none (from_list ds)) in
      let all : behind ≡ ds ++ g.more = one-list behind (ds ++ g.more) (g.are ∙ sym (list-both ds g.more)) in
      let last : DefinesAtLast (from_list ds) (from_list behind) index = elim defines [
        | inl e ↦ inl (sym (functions-inside r₁ o₁ i₁ some₁) ∙ e ∙ functions-inside r₀ o₀ i₀ some₀)
        | inr n ↦ inr (
          sym (functions-inside r₁ o₁ i₁ some₁) ∙ n.0 ∙ ap (λ (xs : List ℕ). xs ++ index ∷ []) (functions-inside r₀ o₀ i₀ some₀),
          (omega (arith, list-slots behind, slots-inside r₁ o₁ i₁ some₁ sound₁, n.1)),
        )
      ] in
      let count : types_in (declared_inside i₂) ≡ types_in ds = sym (types-inside r o₂ i₂ some₂ sound₂) ∙ ap length same ∙ types-inside r o₀ i₀ some₀ sound₀ in
      let whole : declared_inside i₂ ≡ ds ++ (g.more ++ d ∷ []) = shown ∙ ap (λ (zs : List Declaration). zs ++ d ∷ []) all ∙ append_assoc ds g.more (d ∷ []) in
      let added : types_in (g.more ++ d ∷ []) ≡ 0 = (omega (arith, ap types_in (sym whole) ∙ count, types-both ds (g.more ++ d ∷ []))) in
      record {
        types = s.types;
        functions = s.functions ++ (g.more ++ d ∷ []);
        are = whole ∙ ap (λ (zs : List Declaration). zs ++ (g.more ++ d ∷ [])) s.are ∙ append_assoc s.types s.functions (g.more ++ d ∷ []);
        no_function = s.no_function;
        no_type = list_all-append (λ z. not (describes is_type z)) s.functions (g.more ++ d ∷ []) ∙ both_true s.no_type (no-types (g.more ++ d ∷ []) added);
        beside = subst (λ (z : Declarations). are_beside 0 z ≡ true) (sym (ap from_list shown ∙ from_list-push behind d))
            (function-beside (from_list ds) (from_list behind) index d g last (eq-eqb index index refl) refl s.beside);
      }

-- ---- aliases

-- what passes one test passes the other, and one more does
filters-one : {X : Type 0} (p q : X → Bool) → ((x : X) → p x ≡ true → q x ≡ true) → (xs : List X) (z : X) → Contains xs z → p z ≡ false → q z ≡ true → length (filter p xs) + 1 ≤ length (filter q xs)
filters-one p q h [] z c absent present = none-in z c
filters-one p q h (x ∷ xs) z (zero, l, same) absent present =
    let a = ap length (cond-false (p x) (x ∷ filter p xs) (filter p xs) (ap p same ∙ absent)) in
    omega (arith, a, ap length (cond-true (q x) (x ∷ filter q xs) (filter q xs) (ap q same ∙ present)), filters-more p q h xs)
filters-one p q h (x ∷ xs) z (suc k, l, same) absent present = by (p x) refl (filters-one p q h xs z (k, omega (arith, l), same) absent present)
  where
    by : (b : Bool) → p x ≡ b → length (filter p xs) + 1 ≤ length (filter q xs) → length (filter p (x ∷ xs)) + 1 ≤ length (filter q (x ∷ xs))
    by true e more = let a = ap length (cond-true (p x) (x ∷ filter p xs) (filter p xs) e) in omega (arith, a, ap length (cond-true (q x) (x ∷ filter q xs) (filter q xs) (h x e)), more)
    by false e more = elim (cases_Bool (q x)) [
      | inl f ↦ (let a = ap length (cond-false (p x) (x ∷ filter p xs) (filter p xs) e) in let b = ap length (cond-true (q x) (x ∷ filter q xs) (filter q xs) f) in omega (arith, a, b, more))
      | inr f ↦ (let a = ap length (cond-false (p x) (x ∷ filter p xs) (filter p xs) e) in let b = ap length (cond-false (q x) (x ∷ filter q xs) (filter q xs) f) in omega (arith, a, b, more))
    ]

-- a type with a new alias had none
new-brought : (r : Resolve) (a : Around) (x : Aliased) → IsAlias r a x → is_brought r (with_alias a x) x.number.0 ≡ true
new-brought r a x is = both (is_some (known_slot (with_alias a x).known x.number.0)) (option_map_or (is_of_listed a.instances) (type_at r x.number.0) false)
    (ap is_some (new-slot x.number.0 (type_slots_of a.declared) a.known is.first))
    (ap (λ o. option_map_or (is_of_listed a.instances) o false) is.there ∙ both (is_some is.def.name) (option_map_or (λ i. is_some (known_instance a.instances i)) (owner_interface is.def.owner) false)
    (ap is_some is.named_) (ap (λ (o : TypeOwner). option_map_or (λ i. is_some (known_instance a.instances i)) (owner_interface o) false) is.owned ∙ ap is_some is.instance))

old-brought : (r : Resolve) (a : Around) (x : Aliased) → IsAlias r a x → is_brought r a x.number.0 ≡ false
old-brought r a x is = ap (λ o. is_some o && option_map_or (is_of_listed a.instances) (type_at r x.number.0) false) is.first

alias-few : (r : Resolve) (a : Around) (x : Aliased) → IsAlias r a x → length (brought_numbers r a) + 1 ≤ length (brought_numbers r (with_alias a x))
alias-few r a x is = filters-one (is_brought r a) (is_brought r (with_alias a x)) (brought-kept r a x is) (below (length r.types.items)) x.number.0
    (below-there (length r.types.items) x.number.0 (slice_get_within r.types.items x.number.0 is.def is.there)) (old-brought r a x is) (new-brought r a x is)

-- for each alias there is one type more that has one
aliases-few : (r : Resolve) (a : Around) (made : List Aliased) → AreAliases r a made
    → declaration_count (with_aliases a made).declared + length (brought_numbers r a) ≤ declaration_count a.declared + length (brought_numbers r (with_aliases a made))
aliases-few r a [] are = omega arith
aliases-few r a (x ∷ made) are = omega (arith, alias-few r a x are.0, one-appended a.declared (alias_declared x), aliases-few r (with_alias a x) made are.1)

aliases-keep : {X : Type 0} (f : Around → X) → ((a : Around) (x : Aliased) → f (with_alias a x) ≡ f a) → (a : Around) (made : List Aliased) → f (with_aliases a made) ≡ f a
aliases-keep f step a [] = refl
aliases-keep f step a (x ∷ made) = aliases-keep f step (with_alias a x) made ∙ step a x

one-instance : (ds inner : Declarations) → declaration_count (append ds (Declarations.instance inner Declarations.no_more)) ≡ declaration_count ds + 1
one-instance Declarations.no_more inner = omega arith
one-instance (Declarations.declares d rest) inner = omega (arith, one-instance rest inner)
one-instance (Declarations.component i rest) inner = omega (arith, one-instance rest inner)
one-instance (Declarations.instance i rest) inner = omega (arith, one-instance rest inner)

-- ---- what is listed

module _ (i number : ℕ) (es : List (ℕ × ℕ)) where
  -- who is listed is the new one or was listed
  pub listed-cases : (m : ℕ) → is_some (known_instance (insert_entry nat_cmp es i number) m) ≡ true → (m ≡ i) ⊎ (is_some (known_instance es m) ≡ true)
  listed-cases m h = elim (cases_Bool (is_at (nat_cmp m) i)) [ inl e ↦ inl (at-same m i e) | inr e ↦ inr (ap is_some (sym (found-other i number m es e)) ∙ h) ]

  still-listed : (m : ℕ) → is_some (known_instance es m) ≡ true → is_some (known_instance (insert_entry nat_cmp es i number) m) ≡ true
  still-listed m h = elim (cases_Bool (is_at (nat_cmp m) i)) [
    | inl e ↦ subst (λ (k : ℕ). is_some (known_instance (insert_entry nat_cmp es i number) k) ≡ true) (sym (at-same m i e)) (ap is_some (found-new i number es))
    | inr e ↦ ap is_some (found-other i number m es e) ∙ h
  ]

-- more interfaces are listed, so no fewer types are counted
listed-brought : (r : Resolve) (a : Around) (listed : List (ℕ × ℕ)) (outer : Declarations) → ((m : ℕ) → is_some (known_instance a.instances m) ≡ true → is_some (known_instance listed m) ≡ true)
    → length (brought_numbers r a) ≤ length (brought_numbers r (record { declared = outer; instances = listed; known = a.known }))
listed-brought r a listed outer more = filters-more (is_brought r a) (is_brought r (record { declared = outer; instances = listed; known = a.known })) one (below (length r.types.items))
  where
    owned : (o : Option ℕ) → option_map_or (λ i. is_some (known_instance a.instances i)) o false ≡ true → option_map_or (λ i. is_some (known_instance listed i)) o false ≡ true
    owned None h = h
    owned (Some i) h = more i h

    of-listed : (t : Option TypeDef) → option_map_or (is_of_listed a.instances) t false ≡ true → option_map_or (is_of_listed listed) t false ≡ true
    of-listed None h = h
    of-listed (Some d) h = both (is_some d.name) _ (first_true (is_some d.name) _ h) (owned (owner_interface d.owner) (second_true (is_some d.name) _ h))

    one : (n : ℕ) → is_brought r a n ≡ true → is_brought r (record { declared = outer; instances = listed; known = a.known }) n ≡ true
    one n h = both (is_some (known_slot a.known n)) _ (first_true (is_some (known_slot a.known n)) _ h) (of-listed (type_at r n) (second_true (is_some (known_slot a.known n)) _ h))

-- ---- behind aliases

-- what an alias keeps
grown-keep : {X : Type 0} (r : Resolve) (a b : Around) → GrowsAround r a b → (f : Around → X) → ((a : Around) (x : Aliased) → f (with_alias a x) ≡ f a) → f b ≡ f a
grown-keep r a b g f step = ap f g.is ∙ aliases-keep f step a g.made

pub grown-listed : (r : Resolve) (a b : Around) → GrowsAround r a b → b.instances ≡ a.instances
grown-listed r a b g = grown-keep r a b g (λ z. z.instances) (λ a x. refl)

pub grown-few : (r : Resolve) (a b : Around) → GrowsAround r a b → declaration_count b.declared + length (brought_numbers r a) ≤ declaration_count a.declared + length (brought_numbers r b)
grown-few r a b g = omega (arith, aliases-few r a g.made g.are, ap (λ (z : Around). declaration_count z.declared) g.is, ap (λ z. length (brought_numbers r z)) g.is)

-- the instance type, and the declaration that uses it
module _ (r : Resolve) (a before : Around) (g : GrowsAround r a before) (inner : Declarations) (d : Declaration) (outer : Declarations)
    (made : outer ≡ declared_after (append before.declared (Declarations.instance inner Declarations.no_more)) d) where
  abbrev behind : Declarations
  behind = append before.declared (Declarations.instance inner Declarations.no_more)

  pub placed-instances : instances_declared outer ≡ instances_declared a.declared ++ (before.declared, inner) ∷ []
  placed-instances = ap instances_declared made ∙ instances-kept behind d ∙ instances-behind before.declared inner
      ∙ ap (λ (ds : List (Declarations × Declarations)). ds ++ (before.declared, inner) ∷ [])
      (grown-keep r a before g (λ z. instances_declared z.declared) (λ a x. instances-kept a.declared (alias_declared x)))

  -- nothing is defined beside it, and no type is imported
  pub placed-slots : (test : Declaration → Bool) → ((x : Aliased) → test (alias_declared x) ≡ false) → test d ≡ false → slots_from test 0 outer ≡ slots_from test 0 a.declared
  placed-slots test none other = ap (slots_from test 0) made ∙ slots-kept test behind d other ∙ slots-instance test 0 before.declared inner
      ∙ grown-keep r a before g (λ z. slots_from test 0 z.declared) (λ a x. slots-kept test a.declared (alias_declared x) (none x))

  pub placed-targets : target_of d ≡ None → targets_of outer ≡ targets_of a.declared
  placed-targets other = ap targets_of made ∙ targets-kept behind d other ∙ targets-instance before.declared inner
      ∙ grown-keep r a before g (λ z. targets_of z.declared) (λ a x. targets-kept a.declared (alias_declared x) refl)

  pub placed-counted : (test : Declaration → Bool) → ((x : Aliased) → test (alias_declared x) ≡ false) → test d ≡ false → count_declared test outer ≡ count_declared test a.declared
  placed-counted test none other = ap (count_declared test) made ∙ counts-declared test behind d other ∙ count-instance test before.declared inner
      ∙ grown-keep r a before g (λ z. count_declared test z.declared) (λ a x. counts-declared test a.declared (alias_declared x) (none x))

  -- from then on the instance is listed
  pub placed-few : (i number : ℕ) (listed known : List (ℕ × ℕ)) → listed ≡ insert_entry nat_cmp a.instances i number → known ≡ before.known
      → declaration_count outer + length (brought_numbers r a) ≤ declaration_count a.declared + (length (brought_numbers r (record { declared = outer; instances = listed; known = known })) + 2)
  placed-few i number listed known listed-is known-is = omega (arith, grown-few r a before g, ap declaration_count made, one-appended behind d, one-instance before.declared inner, more)
    where
      more : length (brought_numbers r before) ≤ length (brought_numbers r (record { declared = outer; instances = listed; known = known }))
      more =
          let h = listed-brought r before listed outer (λ m f. ap (λ xs. is_some (known_instance xs m)) listed-is
          ∙ still-listed i number a.instances m (ap (λ xs. is_some (known_instance xs m)) (sym (grown-listed r a before g)) ∙ f)) in
          subst (λ (ks : List (ℕ × ℕ)). length (brought_numbers r before) ≤ length (brought_numbers r (record { declared = outer; instances = listed; known = ks }))) (sym known-is) h

-- behind an instance type, one declaration more than there were with aliases
pub one-behind : (before : Around) (inner outer : Declarations) → outer ≡ append before.declared (Declarations.instance inner Declarations.no_more)
    → declaration_count outer ≤ declaration_count before.declared + 1
one-behind before inner outer is = omega (arith, ap declaration_count is, one-instance before.declared inner)
