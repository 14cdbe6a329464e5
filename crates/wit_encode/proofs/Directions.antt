-- Imports and exports of a component type, in order: what declarations add to them, and that no import stands behind an export.
use Rattle.std.proofs.Common.{rules as std_rules, ◌≡◌, refl, sym, subst, ap, ◌∙◌, append-nil, append_assoc, ℕ, zero, suc, ◌+◌, ◌*◌, ◌⊎◌, inl, inr, List, [], ◌∷◌, ◌++◌, map, Option, Some, None, slice_get, length, length-append, arith}
use Rattle.std.proofs.lemmas.{List.map-append, Option.same_Some as some-same, List.Elements.Contains-append_left, List.Elements.Contains-append_right}
use Rattle.std.proofs.lemmas.List.Sums.{sum_by-append, sum_by-cons}
use Rattle.std.specs.{Prelude.not, Prelude.◌==◌, List.list_any, List.Contains, List.sum_by}
use Rattle.wit_model.specs.Tree.{Place}
use Rattle.wit_model.specs.declared.model.{Resolve.Resolve, World.World}
use Rattle.comp_bytes.specs.declared.forms.ComponentTypeRef.{ComponentTypeRef}
use Rattle.comp_bytes.specs.{Raw.Alias, Raw.Declaration, Raw.Declarations, Raw.ExternName, Raw.append, Reading.◌>>=◌}
use Rattle.comp_meaning.specs.Follow.{Direction, import_, export_, Key, Scope, Seen, Shown, Slot, View, component_step, component_steps, definition, exported_slot, flat, function_in, function_signature, in_scope, interface_of, key_of, text_of_key, named_type, instance_place, see, see_function, see_instance, see_type, used_view, when}
use Rattle.comp_meaning.proofs.FollowLemmas.{provided_is as unprovided}
use Rattle.encode_types.specs.{Known.Around, View.Told}
use Rattle.encode_names.specs.WorldSteps.{Entry, Entries, declared_towards, with_entry}
use Rattle.wit_encode.specs.{Encoders.declared_after, WholeWorlds.direction_of, WholeWorlds.directions_of, WholeWorlds.imports_first, WorldAliases.KeepsListed}
use Rattle.wit_encode.specs.{Places.GrowsBy, WorldItems.IsNext, WorldItems.all_done, WorldRoom.entries_in, Worlds.BeginsWith, Worlds.KeepsTold, Worlds.direction_at}
use Rattle.wit_encode.proofs.Steps.{unbind}
use Rattle.base_lemmas.proofs.Lists.{map_of_map}
use Rattle.comp_bytes.specs.declared.forms.ComponentTypeRef.TheVariants as refs

-- ---- one declaration more

pub directions-more : (ds : Declarations) (d : Declaration) → directions_of (declared_after ds d) ≡ directions_of ds ++ direction_of d
directions-more Declarations.no_more d = append-nil (direction_of d)
directions-more (Declarations.declares e rest) d = search (std_rules, append_assoc, directions-more rest d)
directions-more (Declarations.component inner rest) d = directions-more rest d
directions-more (Declarations.instance inner rest) d = directions-more rest d

pub directions-around : (ds inner : Declarations) → directions_of (append ds (Declarations.instance inner Declarations.no_more)) ≡ directions_of ds
directions-around Declarations.no_more inner = refl
directions-around (Declarations.declares e rest) inner = ap (λ (xs : List Direction). direction_of e ++ xs) (directions-around rest inner)
directions-around (Declarations.component i rest) inner = directions-around rest inner
directions-around (Declarations.instance i rest) inner = directions-around rest inner

towards-direction : (direction : Direction) (name : ExternName) (described : ComponentTypeRef) → direction_of (declared_towards direction name described) ≡ direction ∷ []
towards-direction import_ name described = refl
towards-direction export_ name described = refl

-- the next import or export
pub order-next : (r : Resolve) (w : World) (direction : Direction) (done : Entries) (x : Entry) → IsNext r w direction done x → (outer outer' : Declarations) (name : ExternName)
    (described : ComponentTypeRef) → directions_of outer' ≡ directions_of (declared_after outer (declared_towards direction name described)) → directions_of outer ≡ imports_first done.0 done.1
    → directions_of outer' ≡ imports_first (with_entry direction done x).0 (with_entry direction done x).1
order-next r w direction done x n outer outer' name described is before = search (std_rules, directions-more, towards-direction, append-nil, map-append, append_assoc)

-- ---- what an encoder of a world keeps

begins-more : (ns : List ℕ) (outer outer' : Declarations) (more : List Direction) → directions_of outer' ≡ directions_of outer ++ more → BeginsWith ns outer → BeginsWith ns outer'
begins-more ns outer outer' more is b = record { more = b.more ++ more; are = is ∙ ap (λ (xs : List Direction). xs ++ more) b.are ∙ append_assoc (map direction_at ns) b.more more }

pub keeps-both : {r : Resolve} {count count' : ℕ} {a a' : Around} (more : List Direction) → ((ns : List ℕ) → KeepsListed r count a ns → KeepsListed r count' a' ns)
    → directions_of a'.declared ≡ directions_of a.declared ++ more → ((ds : Declarations) → GrowsBy ds a.declared → GrowsBy ds a'.declared)
    → (told : Told) → KeepsTold r count a told → KeepsTold r count' a' told
keeps-both more keeps is grows (Told.numbers []) k = tt
keeps-both more keeps is grows (Told.numbers (zero ∷ ns)) k = keeps ns k
keeps-both {a = a} {a' = a'} more keeps is grows (Told.numbers (suc n ∷ ns)) k = begins-more ns a.declared a'.declared more is k
keeps-both more keeps is grows (Told.declared ds) k = grows ds k

-- these imports and exports, by numbers
abbrev pub numbers_of : List Entry → List Entry → List ℕ
numbers_of imports exports = map (λ e. zero) imports ++ map (λ e. suc zero) exports

numbers-told : (imports exports : List Entry) → map direction_at (numbers_of imports exports) ≡ imports_first imports exports
numbers-told imports exports = search (std_rules, map-append, map_of_map)

-- what stands there now is what begins it
pub begins-here : (imports exports : List Entry) (outer : Declarations) → directions_of outer ≡ imports_first imports exports → BeginsWith (numbers_of imports exports) outer
begins-here imports exports outer is = record { more = []; are = is ∙ sym (numbers-told imports exports) ∙ sym (append-nil (map direction_at (numbers_of imports exports))) }

-- ---- how many imports and exports are seen

abbrev as_import : Direction → ℕ
as_import import_ = 1
as_import export_ = 0

abbrev as_export : Direction → ℕ
as_export import_ = 0
as_export export_ = 1

-- from one scope to another so many imports and exports have been seen
abbrev Sees : Scope → Scope → List Direction → Type 0
Sees s s' ds = (length s'.imports ≡ length s.imports + sum_by as_import ds) × (length s'.exports ≡ length s.exports + sum_by as_export ds)

sees : (direction : Direction) (seen : Seen) (s : Scope) → Sees s (see direction seen s) (direction ∷ [])
sees import_ seen s = (length-append s.imports (seen ∷ []), omega arith)
sees export_ seen s = (omega arith, length-append s.exports (seen ∷ []))

-- the same imports and exports
sees-left : (s t s' : Scope) → t ≡ s' → s.imports ≡ t.imports → s.exports ≡ t.exports → Sees s s' []
sees-left s t s' same i e = (omega (arith, ap (λ (z : Scope). length z.imports) same, ap length i), omega (arith, ap (λ (z : Scope). length z.exports) same, ap length e))

view-seen : (direction : Direction) (name : ExternName) (n : ℕ) (s s' : Scope) (key : Key) (o : Option View)
    → (o >>= λ view. Some (see direction (record { key = text_of_key key; shown = Shown.instance key view; external_id = name.external_id })
    (record s { instances = s.instances ++ record { interface = interface_of key; view = view } ∷ []; used = s.used ++ n ∷ [] }))) ≡ Some s' → Sees s s' (direction ∷ [])
view-seen direction name n s s' key None e = absurd cc
view-seen direction name n s s' key (Some view) e =
    let t : Scope = record s { instances = s.instances ++ record { interface = interface_of key; view = view } ∷ []; used = s.used ++ n ∷ [] } in
    let seen : Seen = record { key = text_of_key key; shown = Shown.instance key view; external_id = name.external_id } in
    subst (λ (z : Scope). Sees s z (direction ∷ [])) (some-same (see direction seen t) s' e) (sees direction seen t)

instance-seen : (direction : Direction) (name : ExternName) (n : ℕ) (s s' : Scope) → see_instance direction name n s ≡ Some s' → Sees s s' (direction ∷ [])
instance-seen direction name n s s' e =
    let a = unbind (key_of name) _ s' e in
    view-seen direction name n s s' a.item (when (not (list_any (λ m. m == n) s.used)) (used_view s.slots (instance_place (interface_of a.item)) (slice_get s.slots n))) a.then

function-seen : (direction : Direction) (name : ExternName) (n : ℕ) (s s' : Scope) → see_function direction name n s ≡ Some s' → Sees s s' (direction ∷ [])
function-seen direction name n s s' e = subst (λ (z : Scope). Sees s z (direction ∷ [])) (unprovided _ _ s' (unbind (function_in (slice_get s.slots n)) _ s' e).then) (sees direction _ s)

type-seen : (name : ExternName) (described : ComponentTypeRef) (s s' : Scope) → see_type name described s ≡ Some s' → Sees s s' (import_ ∷ [])
type-seen name described s s' e =
    let a = unbind (named_type s.slots Place.here name.text described) _ s' e in
    subst (λ (z : Scope). Sees s z (import_ ∷ [])) (unprovided _ _ s' a.then) (sees import_ _ (in_scope a.item.1 s))

step-seen : (s s' : Scope) (d : Declaration) → component_step s d ≡ Some s' → Sees s s' (direction_of d)
step-seen s s' (Declaration.defined q) e = sees-left s _ s' (some-same _ s' (unbind (definition s.slots q) _ s' e).then) refl refl
step-seen s s' (Declaration.function q) e = sees-left s _ s' (some-same _ s' (unbind (function_signature s.slots q) _ s' e).then) refl refl
step-seen s s' (Declaration.alias_of (Alias.of_export m name)) e = sees-left s _ s' (some-same _ s' (unbind (exported_slot name (slice_get s.instances m)) _ s' e).then) refl refl
step-seen s s' (Declaration.alias_of (Alias.of_outer scopes n)) e = absurd cc
step-seen s s' (Declaration.imported name (refs.Instance n)) e = instance-seen import_ name n s s' e
step-seen s s' (Declaration.imported name (refs.Func n)) e = function-seen import_ name n s s' e
step-seen s s' (Declaration.imported name (refs.TypeEq n)) e = type-seen name (refs.TypeEq n) s s' e
step-seen s s' (Declaration.imported name refs.SubResource) e = type-seen name refs.SubResource s s' e
step-seen s s' (Declaration.exported name (refs.Instance n)) e = instance-seen export_ name n s s' e
step-seen s s' (Declaration.exported name (refs.Func n)) e = function-seen export_ name n s s' e
step-seen s s' _ e = absurd cc

-- one after the other
steps-seen : (s s' : Scope) (ds : Declarations) → component_steps s ds ≡ Some s' → Sees s s' (directions_of ds)
steps-seen s s' Declarations.no_more e = sees-left s s s' (some-same s s' e) refl refl
steps-seen s s' (Declarations.declares d rest) e =
    let b = unbind (component_step s d) _ s' e in
    let one = step-seen s b.item d b.is in
    let more = steps-seen b.item s' rest b.then in
    (omega (arith, one.0, more.0, sum_by-append as_import (direction_of d) (directions_of rest)), omega (arith, one.1, more.1, sum_by-append as_export (direction_of d) (directions_of rest)))
steps-seen s s' (Declarations.component inner rest) e = absurd cc
steps-seen s s' (Declarations.instance inner rest) e =
    let b = unbind (flat inner) _ s' e in
    steps-seen (in_scope (Slot.instance b.item (length s.slots)) s) s' rest b.then

-- ---- no import behind an export

all-imports : (ds : List Direction) (more : List Entry) → sum_by as_import ds ≡ length more → sum_by as_export ds ≡ 0 → ds ≡ map (λ (e : Entry). import_) more
all-imports [] [] i e = refl
all-imports [] (x ∷ more) i e = absurd (omega (arith, i))
all-imports (import_ ∷ ds) [] i e = absurd (omega (arith, i, sum_by-cons as_import import_ ds))
all-imports (import_ ∷ ds) (x ∷ more) i e =
    ap (λ (xs : List Direction). import_ ∷ xs) (all-imports ds more (omega (arith, i, sum_by-cons as_import import_ ds)) (omega (arith, e, sum_by-cons as_export import_ ds)))
all-imports (export_ ∷ ds) more i e = absurd (omega (arith, e, sum_by-cons as_export export_ ds))

alike : (f : Direction → ℕ) (d : Direction) (es : List Entry) → sum_by f (map (λ (e : Entry). d) es) ≡ f d * length es
alike f d [] = omega arith
alike f d (x ∷ es) = omega (arith, alike f d es, sum_by-cons f d (map (λ (e : Entry). d) es))

-- Behind imports and then exports, with so many imports more: these come last, where there was no export or there are none.
pub order-then : (s s' : Scope) (outer : Declarations) (imports exports more : List Entry) → component_steps s outer ≡ Some s' → s.imports ≡ [] → s.exports ≡ []
    → BeginsWith (numbers_of imports exports) outer → length (imports ++ more) ≡ length s'.imports → length exports ≡ length s'.exports → (exports ≡ []) ⊎ (more ≡ [])
    → directions_of outer ≡ imports_first (imports ++ more) exports
order-then s s' outer imports exports more followed no_imports no_exports begins i e last = is ∙ ap (λ (xs : List Direction). imports_first imports exports ++ xs) others ∙ by last
  where
    is : directions_of outer ≡ imports_first imports exports ++ begins.more
    is = begins.are ∙ ap (λ (xs : List Direction). xs ++ begins.more) (numbers-told imports exports)

    counts : (f : Direction → ℕ) → sum_by f (directions_of outer) ≡ (f import_ * length imports + f export_ * length exports) + sum_by f begins.more
    counts f = omega (
      arith,
      ap (sum_by f) is,
      sum_by-append f (imports_first imports exports) begins.more,
      sum_by-append f (map (λ (e : Entry). import_) imports) (map (λ (e : Entry). export_) exports),
      alike f import_ imports,
      alike f export_ exports,
    )

    others : begins.more ≡ map (λ (e : Entry). import_) more
    others =
        let seen = steps-seen s s' outer followed in
        all-imports begins.more more (omega (arith, seen.0, ap length no_imports, counts as_import, length-append imports more, i)) (omega (arith, seen.1, ap length no_exports, counts as_export, e))

    by : (exports ≡ []) ⊎ (more ≡ []) → imports_first imports exports ++ map (λ (e : Entry). import_) more ≡ imports_first (imports ++ more) exports
    by (inl none) = simp (none, append-nil, map-append)
    by (inr none) = simp (none, append-nil)

-- ---- the entries of a world

-- they are those that have been encoded, the next one, and others
pub next-among : (r : Resolve) (w : World) (direction : Direction) (done : Entries) (x : Entry) → IsNext r w direction done x → (rest : List Entry) × (entries_in w ≡ all_done done ++ x ∷ rest)
next-among r w import_ done x n =
    let same : done.0 ≡ all_done done = sym (append-nil done.0) ∙ ap (λ es. done.0 ++ es) (sym n.begun) in
    (n.rest ++ w.exports.entries, ap (λ es. es ++ w.exports.entries) n.next ∙ (append_assoc done.0 (x ∷ n.rest) w.exports.entries ∙ ap (λ es. es ++ (x ∷ (n.rest ++ w.exports.entries))) same))
next-among r w export_ done x n =
    let same : w.imports.entries ++ done.1 ≡ all_done done = ap (λ es. es ++ done.1) (sym n.begun) in
    (n.rest, ap (λ es. w.imports.entries ++ es) n.next ∙ (sym (append_assoc w.imports.entries done.1 (x ∷ n.rest)) ∙ ap (λ es. es ++ (x ∷ n.rest)) same))

-- with the next one they are one more
pub done-next : (r : Resolve) (w : World) (direction : Direction) (done : Entries) (x : Entry) → IsNext r w direction done x → all_done (with_entry direction done x) ≡ all_done done ++ x ∷ []
done-next r w import_ done x n = let none : done.1 ≡ [] = n.begun in simp (none, append-nil)
done-next r w export_ done x n = sym (append_assoc done.0 done.1 (x ∷ []))

module _ (r : Resolve) (w : World) (direction : Direction) (done : Entries) (x : Entry) (n : IsNext r w direction done x) where
  pub next-entry : Contains (entries_in w) x
  next-entry = let m = next-among r w direction done x n in subst (λ (es : List Entry). Contains es x) (sym m.1) (Contains-append_right (all_done done) (x ∷ m.0) x (zero, omega arith, refl))

  pub done-entry : (y : Entry) → Contains (all_done done) y → Contains (entries_in w) y
  done-entry y c = let m = next-among r w direction done x n in subst (λ (es : List Entry). Contains es y) (sym m.1) (Contains-append_left (all_done done) (x ∷ m.0) y c)
