-- Which types of listed interfaces have an alias in a component type, and how much it holds beside them.
use Rattle.std.proofs.Common.{rules as std_rules, ◌≡◌, refl, sym, subst, ap, ◌∙◌, ℕ, ◌+◌, inl, inr, Bool, true, false, ◌⊎◌, List, [], ◌∷◌, ◌++◌, map, flat_map, append-nil, append_assoc, length, None, is_some, slice_get, arith, zero, suc, ◌*◌, ◌≤◌, ◌&&◌, length-append, Some}
use Rattle.std.proofs.lemmas.{List.map-append, List.length-map, Bool.and_from as both}
use Rattle.std.proofs.lemmas.List.{Concat.flat_map-append, Kept.AllPairs-filter, Sums.length-filter, Sums.sum_by-le-sum_by}
use Rattle.std.proofs.lemmas.List.Elements.{Contains-append_left, Contains-append_right, Contains-append_cases, filter_map-append, All-contains, filter_passes}
use Rattle.std.specs.{Prelude.nat_eq, Prelude.cond, Prelude.AllPairs, List.AllZip, List.Contains, List.filter}
use Rattle.std.specs.{Set.is_member, Set.distinct_count, Option.option_map_or}
use Rattle.wit_model.specs.{Parts.function_types, Valid.IsValid, Lookup.type_at, Text.text_of, Meant.signature_of, Meant.type_meaning, Valid.item_function}
use Rattle.wit_model.specs.{Tree.Tree, Lookup.interface_at}
use Rattle.wit_model.specs.declared.model.{Resolve.Resolve, World.World, TypeId.TypeId, TypeDef.TypeDef, InterfaceId.InterfaceId, Interface.Interface}
use Rattle.wit_model.specs.declared.model.{WorldKey.WorldKey, WorldItem.WorldItem, Function.Function, «Type».«Type» as ValueType}
use Rattle.comp_bytes.specs.Raw.{Declaration, Declarations, ExternName, declaration_count, from_list}
use Rattle.comp_bytes.specs.{Held.declaration_slots, Held.fits_added, Held.type_slots_of, Fits.fits_declaration, Fits.fits_name, Held.described_slots}
use Rattle.comp_bytes.specs.declared.forms.ComponentTypeRef.{ComponentTypeRef}
use Rattle.comp_meaning.specs.Follow.{Direction, import_, export_, new_scope}
use Rattle.encode_types.specs.{Slots.tree, Key.IsKeyOf}
use Rattle.encode_types.specs.{Aliases.NumbersMet, Maps.IsKnown, Maps.IsOnce, MetKinds.LearnsFrom, MetKinds.LearnsMet, MetKinds.ReachedFrom, Kinds.kind_tree}
use Rattle.encode_types.specs.Known.{Around, known_slot, below, known_instance, Aliased, IsAlias, ReachesAround, as_before, aliased, with_alias}
use Rattle.encode_types.specs.{Scope.Scope, Scope.exported_name, Counts.AddsTypes, Counts.AddsFunction, Counts.names_defined, Counts.Definitions, Codes.ListKey}
use Rattle.encode_types.specs.Distinct.{key_of, are_same, is_value_type, is_function_type, described_slot, target_of, targets_of, value_slots, function_slots, StandForKeys, defined_under_names, AddsFunctions}
use Rattle.encode_types.specs.Room.{Request, IsUnfit, LacksPart, its_definition, its_name, its_import, LacksOne, a_type, a_request, FindsNoRoom, HoldsFor, LacksRoomBehind, value_type, export_name, import_of, function_type, limit}
use Rattle.encode_types.specs.declared.{key.FunctionKey.FunctionKey, maps.TypeEncodingMaps.TypeEncodingMaps}
use Rattle.encode_types.proofs.Rooms.{only-more, only-reached, pairs-both, holds-few, are-different, counts-few}
use Rattle.encode_types.proofs.{Defining.lists-longer, Lists.none-in, Pairs.pairs-map}
use Rattle.encode_names.specs.{WorldSteps.Entry, WorldSteps.Entries, WorldSteps.declared_towards, WorldSteps.interfaces_among, WorldNames.name_of_item}
use Rattle.wit_encode.specs.{Places.are_beside, Instance.EncodesInterface, WorldHolds.LacksDeclaration, WorldRoom.entries_in}
use Rattle.wit_encode.specs.{Encoders.declared_after, WorldItems.HasShown, WorldItems.all_done, WorldItems.types_among, WorldItems.IsNext, WorldHolds.HoldsFew}
use Rattle.wit_encode.specs.WorldRoom.{functions_among, referred_among, type_ids_among, IsMetAmong, IsNamedTypeOf, IsTypeAmong, AreSome, count_among, WorldLacksRoom, a_name, a_type as a_met_type, a_function, too_many}
use Rattle.wit_encode.specs.{Instance.count_declared, Instance.SlotsStand, Instance.outer_slots, Instance.standing_at, DependencyAliases.alias_in}
use Rattle.wit_encode.specs.WorldAliases.{KeepsAliases, KeepsBehind, KeepsListed, PlacedAlias, place_and_number}
use Rattle.wit_encode.specs.WorldCounts.{DefinesInterface, DefinesOnce, HasDefined, IsAskedBehind, IsAskedBy, no_interface, nothing_defined}
use Rattle.wit_encode.specs.Worlds.{WorldEncoder, instances_declared, world_around, world_definitions, world_view_of, brought_numbers, held_beside, is_brought, is_of_listed}
use Rattle.wit_encode.proofs.Aliases.{alias-new, aliases-in-end, keeps-nothing, keeps-plain, keeps-told, none-since, slot-there, there-slot}
use Rattle.wit_encode.proofs.{WrittenNames.no-function-name, HeldKeys.Keyed, HeldKeys.keyed, HeldKeys.knows-none, HeldKeys.stand-for-keys, HeldKeys.slots-many}
use Rattle.wit_encode.proofs.{Components.count-more, WorldShown.sound-outside, WorldCalls.reached-held, Directions.next-among, HeldKeys.learnt-all}
use Rattle.wit_encode.proofs.{DefinedTypes.HeldKinds, DefinedTypes.defines-types, Refusing.counts-refused, Refusing.outer-pushed, Refusing.outer-slots-few}
use Rattle.wit_encode.proofs.ValueSlots.{IsPlain, slots-kept, slots-declared, targets-kept, instances-kept, outer-values}
use Rattle.wit_encode.proofs.{Referring.from-met, Referring.from-none, Referring.from-then, Referring.interface-kinds, DependencyAliases.known-kept}
use Rattle.wit_encode.proofs.Counting.{slots-once, adds-alike, adds-function, adds-nothing, adds-trans, adds-types, exact-names}
use Rattle.wit_encode.proofs.Directions.{next-entry}
use Rattle.wit_model.proofs.Elements.{contains-filter_map}
use Rattle.base_lemmas.proofs.Bools.{both_ways as both-ways, left_of as first_true, right_of as second_true}
use Rattle.base_lemmas.proofs.Elements.{contains-map, map_from as from-map, last_of as one-contained, contains-one}
use Rattle.wit_model.specs.declared.model.WorldItem.TheVariants as item
use Rattle.wit_model.specs.declared.model.«Type».TheVariants as ty
use Rattle.comp_bytes.specs.declared.forms.ComponentTypeRef.TheVariants as refs

-- ---- How much the component type of a world defines after each item.

-- ---- entries

functions-more : (es fs : List Entry) → functions_among (es ++ fs) ≡ functions_among es ++ functions_among fs
functions-more es fs = filter_map-append _ es fs

pub interfaces-more : (es fs : List Entry) → interfaces_among (es ++ fs) ≡ interfaces_among es ++ interfaces_among fs
interfaces-more es fs = flat_map-append _ es fs

types-more : (es fs : List Entry) → type_ids_among (es ++ fs) ≡ type_ids_among es ++ type_ids_among fs
types-more es fs = ap (map _) (filter_map-append _ es fs) ∙ map-append _ (types_among es) (types_among fs)

mixed : {X : Type 0} (xs ys us vs : List X) (t : X) → Contains (xs ++ ys) t ⊎ Contains (us ++ vs) t → Contains ((xs ++ us) ++ (ys ++ vs)) t
mixed xs ys us vs t (inl c) = elim (Contains-append_cases xs ys t c) [
  | inl a ↦ Contains-append_left (xs ++ us) (ys ++ vs) t (Contains-append_left xs us t a)
  | inr b ↦ Contains-append_right (xs ++ us) (ys ++ vs) t (Contains-append_left ys vs t b)
]
mixed xs ys us vs t (inr c) = elim (Contains-append_cases us vs t c) [
  | inl a ↦ Contains-append_left (xs ++ us) (ys ++ vs) t (Contains-append_right xs us t a)
  | inr b ↦ Contains-append_right (xs ++ us) (ys ++ vs) t (Contains-append_right ys vs t b)
]

-- what some of them refer to
referred-both : (es fs : List Entry) (t : ValueType) → Contains (referred_among es) t ⊎ Contains (referred_among fs) t → Contains (referred_among (es ++ fs)) t
referred-both es fs t c = subst (λ xs. Contains xs t) (λ i. sym (ap (map (λ x. ty.Id x)) (types-more es fs) ∙ map-append (λ x. ty.Id x) (type_ids_among es) (type_ids_among fs)) i
    ++ sym (ap (flat_map function_types) (functions-more es fs) ∙ flat_map-append function_types (functions_among es) (functions_among fs)) i)
    (mixed (map (λ x. ty.Id x) (type_ids_among es)) (flat_map function_types (functions_among es)) (map (λ x. ty.Id x) (type_ids_among fs)) (flat_map function_types (functions_among fs)) t c)

pub function-referred : (k : WorldKey) (f : Function) (t : ValueType) → Contains (function_types f) t → Contains (referred_among ((k, item.Function f) ∷ [])) t
function-referred k f t c = Contains-append_left (function_types f) [] t c

pub type-referred : (k : WorldKey) (id : TypeId) (t : ValueType) → Contains (ty.Id id ∷ []) t → Contains (referred_among ((k, item.Type_ id) ∷ [])) t
type-referred k id t c = c

-- what some of them ask for, where they do
asked-front : (r : Resolve) (es fs : List Entry) (n t : ℕ) → IsAskedBehind r es n t → IsAskedBehind r (es ++ fs) n t
asked-front r es fs n t a =
    let are = ap (λ (xs : List Entry). xs ++ fs) a.are ∙ append_assoc a.before (a.entry ∷ a.behind) fs in
    record { before = a.before; entry = a.entry; behind = a.behind ++ fs; are = are; place = a.place; asked = a.asked }

-- the aliases behind one entry more: the new ones are of types that it asks for
asked-more : {r : Resolve} {count count' : ℕ} {a a' : Around} {ms : List ℕ} (es : List Entry) (x : Entry) (k : KeepsAliases r count a (interfaces_among es))
    (b : KeepsBehind r count' a' ms (map place_and_number k.has.made) (length (interfaces_among es))) → ((y : PlacedAlias) → Contains k.has.made y → IsAskedBehind r es y.0 y.1.number.0)
    → ((t : ℕ) → is_some (known_slot a'.known t) ≡ true → (is_some (known_slot a.known t) ≡ true) ⊎ IsAskedBy r x t) → (y : PlacedAlias) → Contains b.keeps.has.made y
    → IsAskedBehind r (es ++ x ∷ []) y.0 y.1.number.0
asked-more {r} {a = a} {a' = a'} es x k b old new y c = elim (Contains-append_cases (map place_and_number k.has.made) b.more (place_and_number y)
    (subst (λ (zs : List (ℕ × ℕ)). Contains zs (place_and_number y)) b.are (contains-map place_and_number b.keeps.has.made y c))) [
      | inl front ↦ (let z = from-map place_and_number k.has.made (place_and_number y) front in
          subst (λ (p : ℕ × ℕ). IsAskedBehind r (es ++ x ∷ []) p.0 p.1) z.2 (asked-front r es (x ∷ []) z.0.0 z.0.1.number.0 (old z.0 z.1)))
      | inr back ↦ elim (new y.1.number.0 (slot-there (known_slot a'.known y.1.number.0) (b.keeps.has.asked y c))) [
        | inl known ↦ absurd (alias-new k b (place_and_number y) back (there-slot (known_slot a.known y.1.number.0) known))
        | inr asked ↦ record { before = es; entry = x; behind = []; are = refl; place = sym (b.placed (place_and_number y) back); asked = asked }
      ]
    ]

from-wider : {r : Resolve} {ts us : List ValueType} {m m' : TypeEncodingMaps} → ((t : ValueType) → Contains ts t → Contains us t) → LearnsFrom r None ts m m' → LearnsFrom r None us m m'
from-wider h l = record { only = only-more (λ n x. (x.0, h x.0 x.1, x.2)) l.only; learns = l.learns }

-- ---- one item more

module _ (r : Resolve) (e e' : WorldEncoder) (es : List Entry) (h : HasDefined r e es) (x : Entry) (fs : List Function) (ts : List ValueType)
    (brings : functions_among (x ∷ []) ≡ fs) (refers : (t : ValueType) → Contains ts t → Contains (referred_among (x ∷ [])) t) where
  learns-more : LearnsFrom r None ts e.maps e'.maps → LearnsFrom r None (referred_among (es ++ x ∷ [])) h.began e'.maps
  learns-more l = from-wider (λ t c. elim (Contains-append_cases (referred_among es) ts t c) [ inl a ↦ referred-both es (x ∷ []) t (inl a) | inr b ↦ referred-both es (x ∷ []) t (inr (refers t b)) ])
      (from-then refl h.learns l)

  -- an item, with the instance type of its interface, if it is one
  pub defines-behind : AddsFunctions r (no_interface r) e.maps e'.maps (world_definitions e.outer) (world_definitions e'.outer) fs → LearnsFrom r None ts e.maps e'.maps
      → AllZip (DefinesInterface r) (interfaces_among (es ++ x ∷ [])) (instances_declared e'.outer)
      → KeepsBehind r e'.instances (world_around e') (interfaces_among (es ++ x ∷ [])) (map place_and_number h.keeps.has.made) (length (interfaces_among es))
      → ((t : ℕ) → is_some (known_slot e'.foreign.known.entries t) ≡ true → (is_some (known_slot e.foreign.known.entries t) ≡ true) ⊎ IsAskedBy r x t) → HasDefined r e' (es ++ x ∷ [])
  defines-behind a l inside keeps new = record {
    began = h.began;
    no_numbers = h.no_numbers;
    no_kinds = h.no_kinds;
    no_keys = h.no_keys;
    adds = subst (AddsFunctions r (no_interface r) h.began e'.maps nothing_defined (world_definitions e'.outer)) (sym (functions-more es (x ∷ []) ∙ ap (λ gs. functions_among es ++ gs) brings))
        (adds-trans (functions_among es) fs refl h.adds a);
    learns = learns-more l;
    inside = inside;
    keeps = keeps.keeps;
    asked = asked-more es x h.keeps keeps h.asked new;
  }

  -- the aliases of an item without an interface
  asks-more : NumbersMet r None ts (λ n. is_some (known_slot e.foreign.known.entries n)) (λ n. is_some (known_slot e'.foreign.known.entries n)) → (t : ℕ)
      → is_some (known_slot e'.foreign.known.entries t) ≡ true → (is_some (known_slot e.foreign.known.entries t) ≡ true) ⊎ IsAskedBy r x t
  asks-more m t known = search std_rules

  -- an item without an interface
  pub defines-more : AddsFunctions r (no_interface r) e.maps e'.maps (world_definitions e.outer) (world_definitions e'.outer) fs → LearnsFrom r None ts e.maps e'.maps
      → interfaces_among (x ∷ []) ≡ [] → instances_declared e'.outer ≡ instances_declared e.outer
      → KeepsBehind r e'.instances (world_around e') (interfaces_among es) (map place_and_number h.keeps.has.made) (length (interfaces_among es))
      → NumbersMet r None ts (λ n. is_some (known_slot e.foreign.known.entries n)) (λ n. is_some (known_slot e'.foreign.known.entries n)) → HasDefined r e' (es ++ x ∷ [])
  defines-more a l none stays keeps met =
      let same : interfaces_among (es ++ x ∷ []) ≡ interfaces_among es = interfaces-more es (x ∷ []) ∙ (ap (λ is. interfaces_among es ++ is) none ∙ append-nil (interfaces_among es)) in
      defines-behind a l
      (subst (λ (is : List ℕ). AllZip (DefinesInterface r) is (instances_declared e'.outer)) (sym same) (subst (AllZip (DefinesInterface r) (interfaces_among es)) (sym stays) h.inside))
      (subst (λ (is : List ℕ). KeepsBehind r e'.instances (world_around e') is (map place_and_number h.keeps.has.made) (length (interfaces_among es))) (sym same) keeps) (asks-more met)

-- an import or an export of an item is no definition and no alias
pub towards-plain : (direction : Direction) (name : ExternName) (described : ComponentTypeRef)
    → (is_value_type (declared_towards direction name described) ≡ false) × (alias_in (declared_towards direction name described) ≡ [])
towards-plain import_ name described = (refl, refl)
towards-plain export_ name described = (refl, refl)

pub towards-target : (direction : Direction) (name : ExternName) (described : ComponentTypeRef) → described_slot described ≡ None → target_of (declared_towards direction name described) ≡ None
towards-target import_ name described e = e
towards-target export_ name described e = e

pub towards-function : (direction : Direction) (name : ExternName) (described : ComponentTypeRef) → is_function_type (declared_towards direction name described) ≡ false
towards-function import_ name described = refl
towards-function export_ name described = refl

pub counts-declared : (test : Declaration → Bool) (outer : Declarations) (d : Declaration) → test d ≡ false → count_declared test (declared_after outer d) ≡ count_declared test outer
counts-declared test outer d e = count-more test outer d ∙ none (count_declared test outer) (test d) e
  where
    none : (n : ℕ) (b : Bool) → b ≡ false → n + cond b 1 0 ≡ n
    none n false q = omega arith
    none n true q = absurd cc

-- where it has no room its name doesn't fit, or there are too many declarations
pub by-name : {Q : Type 0} (direction : Direction) (name : ExternName) (described : ComponentTypeRef) (outer : Declarations) → described_slots described ≡ 0 → (fits_name name ≡ false → Q)
    → (limit ≤ declaration_count outer → Q) → LacksDeclaration outer (declared_towards direction name described) → Q
by-name {Q} direction name described outer none unfit over refused = go (fits_name name) refl (towards direction refused)
  where
    towards : (direction : Direction) → LacksDeclaration outer (declared_towards direction name described) → (fits_name name && fits_added outer (described_slots described)) ≡ false
    towards import_ g = g
    towards export_ g = g

    go : (b : Bool) → fits_name name ≡ b → (b && fits_added outer (described_slots described)) ≡ false → Q
    go false u g = unfit u
    go true u g = over (counts-refused (declaration_count outer) (type_slots_of outer + described_slots described) (omega (arith, outer-slots-few outer, none)) g)

-- what an instance type of an interface defines
pub defines-own : (r : Resolve) (a a' : Around) (i : InterfaceId) (def : Interface) (k : ℕ) → interface_at r i.0 ≡ Some def → (encodes : EncodesInterface r a a' i def k)
    → DefinesInterface r i.0 (encodes.part.before.declared, from_list encodes.part.declared)
defines-own r a a' i def k there encodes =
    let p = encodes.part in
    record { def = def; there = there; declarations = p.declared; is = refl; ordered = p.is_instance; function_types = p.function_types; value_types = p.value_types; few = p.few; places = p.places }

-- ---- the calls

-- what a call of the generic functions leaves of aliases: the packages are these, what is kept of aliases is kept, and new ones are of types that are met
pub record GoesOnMet (r : Resolve) (e e' : WorldEncoder) (ts : List ValueType) : Type 0 where
  pub packages_ : e.resolve.now ≡ r
  pub packages_stay : e'.resolve.now ≡ e.resolve.now
  pub keeps : (ns : List ℕ) → KeepsListed e.resolve.now e.instances (world_around e) ns → KeepsListed e'.resolve.now e'.instances (world_around e') ns
  pub imports : NumbersMet r None ts (λ n. is_some (known_slot e.foreign.known.entries n)) (λ n. is_some (known_slot e'.foreign.known.entries n))

keeps-on : (r : Resolve) (e e' : WorldEncoder) (ts : List ValueType) → GoesOnMet r e e' ts → (ns : List ℕ) (k : KeepsAliases r e.instances (world_around e) ns)
    → KeepsBehind r e'.instances (world_around e') ns (map place_and_number k.has.made) (length ns)
keeps-on r e e' ts g ns k = keeps-told listed ns (map place_and_number k.has.made) (none-since k)
  where
    listed : (xs : List ℕ) → KeepsListed r e.instances (world_around e) xs → KeepsListed r e'.instances (world_around e') xs
    listed xs l = subst (λ (q : Resolve). KeepsListed q e'.instances (world_around e') xs) (g.packages_stay ∙ g.packages_)
        (g.keeps xs (subst (λ (q : Resolve). KeepsListed q e.instances (world_around e) xs) (sym g.packages_) l))

-- a function: its type, and then its import or export
pub function-defined : (r : Resolve) (e e' : WorldEncoder) (es : List Entry) (scope : Scope) → scope.own_interface ≡ None → (k : WorldKey) (i : WorldItem) (f : Function) → i ≡ item.Function f
    → (key : FunctionKey) (n : ℕ) → (direction : Direction) (name : ExternName) (outer : Declarations) → HasDefined r e es → IsOnce e.maps → IsKeyOf key f
    → AddsFunction r scope e.maps e'.maps (world_definitions e.outer) (world_definitions e'.outer) key n → LearnsMet r None (function_types f) e.maps e'.maps
    → instances_declared e'.outer ≡ instances_declared e.outer → outer ≡ declared_after e'.outer (declared_towards direction name (refs.Func n)) → GoesOnMet r e e' (function_types f)
    → HasDefined r (record e' { outer = outer }) (es ++ (k, i) ∷ [])
function-defined r e e' es scope own k i f is key n direction name outer h once is_key a learns stays made goes =
    let x : Entry = (k, item.Function f) in
    let next : WorldEncoder = record e' { outer = outer } in
    let d = declared_towards direction name (refs.Func n) in
    let values_ : value_slots outer ≡ value_slots e'.outer = ap value_slots made ∙ slots-kept is_value_type e'.outer d (towards-plain direction name (refs.Func n)).0 in
    let targets_ : targets_of outer ≡ targets_of e'.outer = ap targets_of made ∙ targets-kept e'.outer d (towards-target direction name (refs.Func n) refl) in
    let functions_ : function_slots outer ≡ function_slots e'.outer = ap function_slots made ∙ slots-kept is_function_type e'.outer d (towards-function direction name (refs.Func n)) in
    subst (λ (j : WorldItem). HasDefined r next (es ++ (k, j) ∷ [])) (sym is)
    (defines-more r e next es h x (f ∷ []) (function_types f) refl (function-referred k f) (adds-alike (sym own) refl refl refl refl values_ targets_ functions_ (adds-function key n f is_key once a))
    (from-met r None (function_types f) e.maps e'.maps learns) refl (ap instances_declared made ∙ (instances-kept e'.outer d ∙ stays))
    (keeps-plain r e'.instances (interfaces_among es) (map place_and_number h.keeps.has.made) (world_around e') outer d made (towards-plain direction name (refs.Func n)).1
    (no-function-name direction name n) (keeps-on r e e' (function_types f) goes (interfaces_among es) h.keeps)) goes.imports)

-- a type
pub type-defined : (r : Resolve) (e e' : WorldEncoder) (es : List Entry) (scope : Scope) → scope.own_interface ≡ None → (k : WorldKey) (i : WorldItem) (id : TypeId) → i ≡ item.Type_ id
    → HasDefined r e es → AddsTypes r scope e.maps e'.maps (world_definitions e.outer) (world_definitions e'.outer) → LearnsMet r None (ty.Id id ∷ []) e.maps e'.maps
    → instances_declared e'.outer ≡ instances_declared e.outer → GoesOnMet r e e' (ty.Id id ∷ []) → HasDefined r e' (es ++ (k, i) ∷ [])
type-defined r e e' es scope own k i id is h a learns stays goes = subst (λ (j : WorldItem). HasDefined r e' (es ++ (k, j) ∷ [])) (sym is)
    (defines-more r e e' es h (k, item.Type_ id) [] (ty.Id id ∷ []) refl (type-referred k id) (adds-alike (sym own) refl refl refl refl refl refl refl (adds-types a))
    (from-met r None (ty.Id id ∷ []) e.maps e'.maps learns) refl stays (keeps-on r e e' (ty.Id id ∷ []) goes (interfaces_among es) h.keeps) goes.imports)

-- nothing has been defined by a new encoder
pub none-defined : (r : Resolve) (e : WorldEncoder) → e.outer ≡ Declarations.no_more → e.maps.id_to_index.entries ≡ [] → e.maps.def_to_index.entries ≡ [] → e.maps.func_type_map.entries ≡ []
    → e.instances ≡ 0 → e.foreign.instances.entries ≡ [] → e.foreign.known.entries ≡ [] → HasDefined r e []
none-defined r e o a b c count unlisted unknown =
    let k : KeepsAliases r e.instances (world_around e) [] = keeps-nothing r e.instances (world_around e) o unlisted unknown count in
    record {
      began = e.maps;
      no_numbers = a;
      no_kinds = b;
      no_keys = c;
      adds = adds-alike refl refl refl refl refl (ap value_slots o) (ap targets_of o) (ap function_slots o) (adds-nothing r (no_interface r) e.maps nothing_defined);
      learns = from-none r None [] e.maps;
      inside = subst (λ (z : Declarations). AllZip (DefinesInterface r) [] (instances_declared z)) (sym o) tt;
      keeps = k;
      asked = λ x there. absurd (k.has.asked x there (ap (λ ks. known_slot ks x.1.number.0) unknown));
    }

-- ---- what has been defined in the end

pub defines-once : (r : Resolve) → IsValid r → (w : World) (e : WorldEncoder) (done : Entries) → HasShown r w e done → HasDefined r e (all_done done)
    → are_beside 0 e.outer ≡ true → DefinesOnce r e.outer (all_done done)
defines-once r v w e done s h places = record {
  keys = k.keys;
  function_types = omega (arith, slots-declared is_function_type 0 e.outer, slots-many r (SlotsStand (outer_slots e.outer)) e.maps k e.outer slots);
  different = k.different;
  same = λ q. both-ways (is_member are_same k.keys q) (is_member are_same (map key_of (functions_among es)) q)
      (λ m. elim (h.adds.known q (k.known q m)) [ inl c ↦ absurd (knows-none h.began q h.no_keys c) | inr c ↦ c ]) (λ m. k.all q (h.adds.learnt q m));
  slots = slots;
  value_types = defines-types r v None (no_interface r) (SlotsStand (outer_slots e.outer)) h.began e.maps nothing_defined (world_definitions e.outer) (type_ids_among es) (functions_among es) e.outer
      h.adds.slots s.agree (slots-once (outer_slots e.outer)) plain h.adds.slots.types h.adds.slots.exported h.no_numbers h.no_kinds held names;
  inside = h.inside;
  aliases = aliases-in-end r e.instances (world_around e) (interfaces_among es) (IsAskedBehind r es) h.keeps h.asked;
  places = places;
}
  where
    es : List Entry
    es = all_done done

    once : IsOnce e.maps
    once = s.agree.once

    k : Keyed e.maps
    k = keyed e.maps once

    slots : StandForKeys r (SlotsStand (outer_slots e.outer)) k.keys e.outer
    slots = stand-for-keys r (SlotsStand (outer_slots e.outer)) h.began e.maps k e.outer s.agree h.no_keys h.adds.types_added h.adds.functions_ h.adds.keys_

    number : ℕ → TypeId
    number n = record { 0 = n }

    known : (t : TypeId) → Contains (type_ids_among es) t → IsKnown e.maps t.0
    known t c = let x = from-map number (types_among es) t c in subst (λ (m : ℕ). IsKnown e.maps m) (ap (λ (t : TypeId). t.0) x.2) (s.known x.0 x.1)

    held : HeldKinds r None (referred_among es) e.maps
    held = interface-kinds r (no_interface r) None h.began e.maps nothing_defined (world_definitions e.outer) (type_ids_among es) (functions_among es)
        (record { numbers = h.no_numbers; kinds = h.no_kinds; keys = h.no_keys }) h.adds h.learns known once v

    names : names_defined r (no_interface r) e.maps ≡ distinct_count nat_eq (defined_under_names r None (type_ids_among es))
    names = exact-names r (world_view_of r e).scope e.maps (type_ids_among es) once known
        (λ t i c. elim (s.alone t.0 (i, c)) [ inl none ↦ inl none | inr there ↦ inr (contains-map number (types_among es) t.0 there) ])

    -- where a value type is defined stands a type without a name
    plain : (i : ℕ) → Contains (value_slots e.outer) i → (t : Tree) × SlotsStand (outer_slots e.outer) i (tree t) × IsPlain t
    plain i c =
        let there = sound-outside r e.world (world_around e) s.sound in
        let p = outer-values new_scope there.scope e.outer i there.followed c in
        (p.type_there, ap (λ o. standing_at (slice_get (option_map_or (λ z. z.slots) o []) i)) there.followed ∙ ap standing_at p.there, p.plain)

-- ---- How much an encoder of a world holds after each item, and why a call has no room.

-- ---- how many entries

pub count-both : (es fs : List Entry) → count_among (es ++ fs) ≡ count_among es + count_among fs
count-both es fs =
    let a : length (functions_among (es ++ fs)) ≡ length (functions_among es) + length (functions_among fs) =
    ap length (filter_map-append _ es fs) ∙ length-append (functions_among es) (functions_among fs) in
    omega (arith, a, ap length (flat_map-append _ es fs) ∙ length-append (interfaces_among es) (interfaces_among fs))

-- ---- numbers, each once

below-apart : (n m : ℕ) → n ≤ m → (k : ℕ) → Contains (below n) k → nat_eq m k ≡ false
below-apart zero m l k c = none-in k c
below-apart (suc n) m l k (zero, b, e) = search std_rules
below-apart (suc n) m l k (suc i, b, e) = below-apart n m (omega (arith, l)) k (i, omega (arith, b), e)

below-once : (n : ℕ) → AllPairs (λ x y. nat_eq x y ≡ false) (below n)
below-once zero = λ i j d l m. absurd (omega (arith, m))
below-once (suc n) = pairs-both (λ x y. nat_eq x y ≡ false) (n ∷ []) (below n) (λ i j d l m. absurd (omega (arith, l, m))) (below-once n)
    (λ x y c b. subst (λ (z : ℕ). nat_eq z y ≡ false) (one-contained n x c) (below-apart n n (omega arith) y b))

module _ (m : TypeEncodingMaps) where
  abbrev pub known-numbers : List ℕ
  known-numbers = map (λ (e : ℕ × ℕ). e.0) m.id_to_index.entries

  pub known-number : (n : ℕ) → Contains known-numbers n → IsKnown m n
  known-number n c =
      let x = from-map (λ (e : ℕ × ℕ). e.0) m.id_to_index.entries n c in
      (x.0.1, subst (λ (k : ℕ). Contains m.id_to_index.entries (k, x.0.1)) x.2 x.1)

  pub known-once : IsOnce m → AllPairs (λ x y. nat_eq x y ≡ false) known-numbers
  known-once once = pairs-map (λ (e : ℕ × ℕ). e.0) (λ x y. nat_eq x y ≡ false) m.id_to_index.entries once.numbers

  unknown-apart : (x y : ℕ) → IsKnown m x → (IsKnown m y → ⊥) → nat_eq x y ≡ false
  unknown-apart x y known unknown = search std_rules

-- ---- types of interfaces that are listed

module _ (r : Resolve) (a : Around) (interfaces : List ℕ) (listed : (i : ℕ) → is_some (known_instance a.instances i) ≡ true → Contains interfaces i) where
  brought-type : (n : ℕ) → is_brought r a n ≡ true → IsNamedTypeOf r interfaces n
  brought-type n h = search std_rules

  pub brought-some : AreSome (IsNamedTypeOf r interfaces) (brought_numbers r a)
  brought-some = record {
    different = AllPairs-filter (λ x y. nat_eq x y ≡ false) (is_brought r a) (below (length r.types.items)) (below-once (length r.types.items));
    all = λ n c. brought-type n (All-contains (λ m. is_brought r a m ≡ true) (brought_numbers r a) n (filter_passes (is_brought r a) (below (length r.types.items))) c);
  }

-- ---- what is met

met-front : (r : Resolve) (es fs : List Entry) (n : ℕ) → IsMetAmong r es n → IsMetAmong r (es ++ fs) n
met-front r es fs n m = (m.0, referred-both es fs m.0 (inl m.1), m.2)

type-front : (r : Resolve) (es fs : List Entry) (n : ℕ) → IsTypeAmong r es n → IsTypeAmong r (es ++ fs) n
type-front r es fs n t = record {
  interface = t.interface;
  among = subst (λ is. Contains is t.interface.0) (sym (flat_map-append _ es fs)) (Contains-append_left (interfaces_among es) (interfaces_among fs) t.interface.0 t.among);
  def = t.def;
  there = t.there;
  named_ = t.named_;
  owned = t.owned;
}

-- what is known of a world so far has been met
known-met : (r : Resolve) (e : WorldEncoder) (es : List Entry) → HasDefined r e es → (n : ℕ) → IsKnown e.maps n → IsMetAmong r es n
known-met r e es h n known = learnt-all (IsMetAmong r es) h.began e.maps h.no_numbers h.learns.only n known

-- ---- one item more

-- a call leaves the interfaces that are listed
listed-on : (e e' : WorldEncoder) (es fs : List Entry) → e'.foreign.instances.entries ≡ e.foreign.instances.entries
    → ((i : ℕ) → is_some (known_instance e.foreign.instances.entries i) ≡ true → Contains (interfaces_among es) i)
    → (i : ℕ) → is_some (known_instance e'.foreign.instances.entries i) ≡ true → Contains (interfaces_among (es ++ fs)) i
listed-on e e' es fs same listed i h =
    subst (λ is. Contains is i) (sym (interfaces-more es fs)) (Contains-append_left (interfaces_among es) (interfaces_among fs) i (listed i (ap (λ xs. is_some (known_instance xs i)) (sym same) ∙ h)))

-- how much a call leaves, beside the aliases that there are
held-after : (r p p' : Resolve) (e e' : WorldEncoder) (es : List Entry) (n : ℕ) → p ≡ r → p' ≡ r → HoldsFew r e es → length e'.maps.func_type_map.entries ≤ length e.maps.func_type_map.entries + n
    → HoldsFor r None e.maps e'.maps (held_beside p (world_around e)) (held_beside p' (world_around e')) 0
    → declaration_count e'.outer ≤ 2 * length e'.maps.id_to_index.entries + (length (brought_numbers r (world_around e')) + (2 * count_among es + n))
held-after r p p' e e' es n q q' h keys f = omega (arith, ap (λ z. held_beside z (world_around e)) q, ap (λ z. held_beside z (world_around e')) q', h.held, holds-few n keys f)

-- the type of a function brings one key at most
pub one-key : {r : Resolve} {scope : Scope} {m m' : TypeEncodingMaps} {d d' : Definitions} {key : FunctionKey} {i : ℕ} → AddsFunction r scope m m' d d' key i
    → length m'.func_type_map.entries ≤ length m.func_type_map.entries + 1
one-key {r} {scope} {m} {m'} a = elim a.keys [
  | inl same ↦ omega (arith, ap length same.1.lists)
  | inr more ↦ omega (arith, lists-longer (λ (v : ListKey). v.0.items) m.func_type_map.entries m'.func_type_map.entries (more.1.list, _) more.1.more)
]

-- a function: its type, and then its import or export
pub function-few : (r p p' : Resolve) (e e' : WorldEncoder) (es : List Entry) (k : WorldKey) (i : WorldItem) (f : Function) (direction : Direction) (name : ExternName) (described : ComponentTypeRef)
    (outer : Declarations) → i ≡ item.Function f → p ≡ r → p' ≡ r → e'.foreign.instances.entries ≡ e.foreign.instances.entries → HoldsFew r e es
    → length e'.maps.func_type_map.entries ≤ length e.maps.func_type_map.entries + 1 → HoldsFor r None e.maps e'.maps (held_beside p (world_around e)) (held_beside p' (world_around e')) 0
    → outer ≡ declared_after e'.outer (declared_towards direction name described) → HoldsFew r (record e' { outer = outer }) (es ++ (k, i) ∷ [])
function-few r p p' e e' es k i f direction name described outer is q q' same h keys held made =
    subst (λ (j : WorldItem). HoldsFew r (record e' { outer = outer }) (es ++ (k, j) ∷ [])) (sym is) (record {
      listed = listed-on e e' es ((k, item.Function f) ∷ []) same h.listed;
      held = omega (arith, held-after r p p' e e' es 1 q q' h keys held, outer-pushed e'.outer outer (declared_towards direction name described) made, count-both es ((k, item.Function f) ∷ []));
    })

-- a type
pub type-few : (r p p' : Resolve) (e e' : WorldEncoder) (es : List Entry) (k : WorldKey) (i : WorldItem) (id : TypeId) → i ≡ item.Type_ id → p ≡ r → p' ≡ r
    → e'.foreign.instances.entries ≡ e.foreign.instances.entries → HoldsFew r e es → e'.maps.func_type_map.entries ≡ e.maps.func_type_map.entries
    → HoldsFor r None e.maps e'.maps (held_beside p (world_around e)) (held_beside p' (world_around e')) 0 → HoldsFew r e' (es ++ (k, i) ∷ [])
type-few r p p' e e' es k i id is q q' same h keys held = subst (λ (j : WorldItem). HoldsFew r e' (es ++ (k, j) ∷ [])) (sym is) (record {
  listed = listed-on e e' es ((k, item.Type_ id) ∷ []) same h.listed;
  held = omega (arith, held-after r p p' e e' es 0 q q' h (omega (arith, ap length keys)) held, count-both es ((k, item.Type_ id) ∷ []));
})

-- nothing is held by a new encoder
pub none-held : (r : Resolve) (e : WorldEncoder) → e.outer ≡ Declarations.no_more → e.foreign.instances.entries ≡ [] → HoldsFew r e []
none-held r e o none = search std_rules

-- ---- a call that has no room

module _ (r : Resolve) (w : World) (e : WorldEncoder) (done : Entries) (direction : Direction) (x : Entry) (n : IsNext r w direction done x) (d : HasDefined r e (all_done done)) (h : HoldsFew r e (all_done done)) where
  abbrev es : List Entry
  es = all_done done

  abbrev all : List Entry
  all = entries_in w

  among : (rest : List Entry) × (all ≡ es ++ x ∷ rest)
  among = next-among r w direction done x n

  pub met-before : (m : ℕ) → IsKnown e.maps m → IsMetAmong r all m
  met-before m known = subst (λ (ys : List Entry). IsMetAmong r ys m) (sym among.1) (met-front r es (x ∷ among.0) m (known-met r e es d m known))

  met-here : (ts : List ValueType) → ((t : ValueType) → Contains ts t → Contains (referred_among (x ∷ [])) t) → (m : ℕ) → ReachedFrom r None ts m → IsMetAmong r all m
  met-here ts refers m reached = subst (λ (ys : List Entry). IsMetAmong r ys m) (sym among.1)
      (reached.0, referred-both es (x ∷ among.0) reached.0 (inr (referred-both (x ∷ []) among.0 reached.0 (inl (refers reached.0 reached.1)))), reached.2)

  brought-all : (a : Around) → a.instances ≡ e.foreign.instances.entries → AreSome (IsTypeAmong r all) (brought_numbers r a)
  brought-all a same =
      let b = brought-some r a (interfaces_among es) (λ i f. h.listed i (ap (λ xs. is_some (known_instance xs i)) (sym same) ∙ f)) in
      record { different = b.different; all = λ m c. subst (λ (ys : List Entry). IsTypeAmong r ys m) (sym among.1) (type-front r es (x ∷ among.0) m (b.all m c)) }

  counted : count_among es + count_among (x ∷ []) ≤ count_among all
  counted = omega (arith, ap count_among among.1, count-both es (x ∷ among.0), count-both (x ∷ []) among.0)

  -- the component type is full
  pub full : (a : Around) → a.instances ≡ e.foreign.instances.entries → (met : List ℕ) → AllPairs (λ x y. nat_eq x y ≡ false) met → ((m : ℕ) → Contains met m → IsMetAmong r all m)
      → declaration_count a.declared ≤ 2 * length met + (length (brought_numbers r a) + 2 * (count_among es + count_among (x ∷ []))) → limit ≤ declaration_count a.declared → WorldLacksRoom r w
  full a same met apart are held over = too_many (
      let brought = brought_numbers r a in
      record { met = met; brought = brought; are_met = record { different = apart; all = are }; are_brought = brought-all a same; many = omega (arith, held, over, counted) })

  module _ (e' : WorldEncoder) (same : e'.foreign.instances.entries ≡ e.foreign.instances.entries) where
    -- what is asked for doesn't fit, or the component type is full
    module _ (once : IsOnce e.maps) (p p' : Resolve) (q : p ≡ r) (q' : p' ≡ r) (ts : List ValueType) (refers : (t : ValueType) → Contains ts t → Contains (referred_among (x ∷ [])) t)
        (requests : List Request) (j : ℕ) (fits : j ≤ 2 * count_among (x ∷ [])) (unfit : (a : Request) → Contains requests a → IsUnfit r a → WorldLacksRoom r w) where
      pub call-lacks : FindsNoRoom r None ts requests j e.maps (held_beside p (world_around e)) (held_beside p' (world_around e')) (LacksRoomBehind p' (declaration_count e'.outer))
          → WorldLacksRoom r w
      call-lacks f = by f.lacks
        where
          overfull : limit ≤ declaration_count e'.outer → WorldLacksRoom r w
          overfull over = full (world_around e') same (known-numbers e.maps ++ f.numbers)
              (pairs-both (λ x y. nat_eq x y ≡ false) (known-numbers e.maps) f.numbers (known-once e.maps once) (are-different r None f.numbers f.new.apart)
              (λ a b c g. unknown-apart e.maps a b (known-number e.maps a c) (f.new.unknown b g)))
              (λ m c. elim (Contains-append_cases (known-numbers e.maps) f.numbers m c) [ inl a ↦ met-before m (known-number e.maps m a) | inr b ↦ met-here ts refers m (f.met m b) ])
              (let before : held_beside p (world_around e) ≡ held_beside r (world_around e) = ap (λ z. held_beside z (world_around e)) q in
              let after : held_beside p' (world_around e') ≡ held_beside r (world_around e') = ap (λ z. held_beside z (world_around e')) q' in
              let a = length-append (known-numbers e.maps) f.numbers in
              omega (arith, before, after, h.held, f.held, counts-few r None f.numbers, a, length-map e.maps.id_to_index.entries (λ (y : ℕ × ℕ). y.0), fits))
              over

          either : (a : Request) → (IsUnfit r a → WorldLacksRoom r w) → LacksRoomBehind p' (declaration_count e'.outer) a → WorldLacksRoom r w
          either a g (inl u) = g (subst (λ (z : Resolve). IsUnfit z a) q' u)
          either a g (inr over) = overfull over

          part : (m : ℕ) (def : TypeDef) → IsMetAmong r all m → type_at r m ≡ Some def → LacksPart r None (LacksRoomBehind p' (declaration_count e'.outer)) m def → WorldLacksRoom r w
          part m def met at (its_definition own l) = either (value_type (kind_tree r def.kind)) (λ u. a_met_type m def met at (its_definition own u)) l
          part m def met at (its_name own name named l) = either (export_name (exported_name (text_of name, type_meaning r def))) (λ u. a_met_type m def met at (its_name own name named u)) l
          part m def met at (its_import i foreign l) = either (import_of m) (λ u. a_met_type m def met at (its_import i foreign u)) l

          by : LacksOne r None (LacksRoomBehind p' (declaration_count e'.outer)) f.numbers requests → WorldLacksRoom r w
          by (a_type m def c at l) = part m def (met-here ts refers m (f.met m c)) at l
          by (a_request a c l) = either a (unfit a c) l

-- ---- the calls

pub function-lacks : (r p p' : Resolve) (w : World) (e e' : WorldEncoder) (done : Entries) (direction : Direction) (k : WorldKey) (i : WorldItem) (f : Function) → i ≡ item.Function f
    → IsNext r w direction done (k, i) → HasDefined r e (all_done done) → HoldsFew r e (all_done done) → e'.foreign.instances.entries ≡ e.foreign.instances.entries → IsOnce e.maps → p ≡ r → p' ≡ r
    → FindsNoRoom r None (function_types f) (function_type (signature_of r f) ∷ []) 1 e.maps (held_beside p (world_around e)) (held_beside p' (world_around e'))
    (LacksRoomBehind p' (declaration_count e'.outer)) → WorldLacksRoom r w
function-lacks r p p' w e e' done direction k i f is n d h same once q q' lacks =
    let m : IsNext r w direction done (k, item.Function f) = subst (λ (j : WorldItem). IsNext r w direction done (k, j)) is n in
    call-lacks r w e done direction (k, item.Function f) m d h e' same once p p' q q' (function_types f) (function-referred k f) (function_type (signature_of r f) ∷ []) 1 (omega arith)
    (λ a c u. a_function f (contains-filter_map (λ (e : Entry). item_function e.1) (entries_in w) (k, item.Function f) f (next-entry r w direction done (k, item.Function f) m) (contains-one f))
    (subst (IsUnfit r) (sym (one-contained (function_type (signature_of r f)) a c)) u)) lacks

pub function-name-lacks : (r p p' : Resolve) (w : World) (e e' : WorldEncoder) (done : Entries) (direction : Direction) (canonical : Bool) (k : WorldKey) (i : WorldItem) (f : Function)
    (name : ExternName) (index : ℕ) → i ≡ item.Function f → IsNext r w direction done (k, i) → HasDefined r e (all_done done) → HoldsFew r e (all_done done)
    → e'.foreign.instances.entries ≡ e.foreign.instances.entries → IsOnce e'.maps → p ≡ r → p' ≡ r → length e'.maps.func_type_map.entries ≤ length e.maps.func_type_map.entries + 1
    → LearnsMet r None (function_types f) e.maps e'.maps → HoldsFor r None e.maps e'.maps (held_beside p (world_around e)) (held_beside p' (world_around e')) 0 → name ≡ name_of_item r canonical (k, i)
    → (fits_declaration (declared_towards direction name (refs.Func index)) && fits_added e'.outer (declaration_slots (declared_towards direction name (refs.Func index)))) ≡ false → WorldLacksRoom r w
function-name-lacks r p p' w e e' done direction canonical k i f name index is n d h same once q q' keys learns held named refused = by-name direction name (refs.Func index) e'.outer refl
    (λ u. a_name canonical (k, item.Function f) (next-entry r w direction done (k, item.Function f) next) refl
    (ap fits_name (sym (named ∙ ap (λ (j : WorldItem). name_of_item r canonical (k, j)) is)) ∙ u))
    (full r w e done direction (k, item.Function f) next d h (world_around e') same (known-numbers e'.maps) (known-once e'.maps once) (λ m c. met-after m (known-number e'.maps m c))
    (omega (arith, held-after r p p' e e' (all_done done) 1 q q' h keys held, length-map e'.maps.id_to_index.entries (λ (y : ℕ × ℕ). y.0)))) refused
  where
    next : IsNext r w direction done (k, item.Function f)
    next = subst (λ (j : WorldItem). IsNext r w direction done (k, j)) is n

    met-after : (m : ℕ) → IsKnown e'.maps m → IsMetAmong r (entries_in w) m
    met-after m known = elim ((only-reached r None (function_types f) learns.only).each m known.0 known.1) [
      | inl c ↦ met-before r w e done direction (k, item.Function f) next d h m (known.0, c)
      | inr reached ↦ met-here r w e done direction (k, item.Function f) next d h (function_types f) (function-referred k f) m reached
    ]

pub type-lacks : (r p p' : Resolve) (w : World) (e e' : WorldEncoder) (done : Entries) (direction : Direction) (k : WorldKey) (i : WorldItem) (id : TypeId) → i ≡ item.Type_ id
    → IsNext r w direction done (k, i) → HasDefined r e (all_done done) → HoldsFew r e (all_done done) → e'.foreign.instances.entries ≡ e.foreign.instances.entries → IsOnce e.maps → p ≡ r → p' ≡ r
    → FindsNoRoom r None (ty.Id id ∷ []) [] 0 e.maps (held_beside p (world_around e)) (held_beside p' (world_around e')) (LacksRoomBehind p' (declaration_count e'.outer)) → WorldLacksRoom r w
type-lacks r p p' w e e' done direction k i id is n d h same once q q' lacks =
    let m : IsNext r w direction done (k, item.Type_ id) = subst (λ (j : WorldItem). IsNext r w direction done (k, j)) is n in
    call-lacks r w e done direction (k, item.Type_ id) m d h e' same once p p' q q' (ty.Id id ∷ []) (type-referred k id) [] 0 (omega arith) (λ a c u. none-in a c) lacks

-- ---- which types of listed interfaces have an alias in a component type, and how much it holds beside them

-- what passes one test passes the other
pub filters-more : {X : Type 0} (p q : X → Bool) → ((x : X) → p x ≡ true → q x ≡ true) → (xs : List X) → length (filter p xs) ≤ length (filter q xs)
filters-more p q h xs = omega (arith, length-filter p xs, length-filter q xs, sum_by-le-sum_by (λ x. cond (p x) 1 0) (λ x. cond (q x) 1 0) xs (λ x. each (p x) (q x) (h x)))
  where
    each : (b c : Bool) → (b ≡ true → c ≡ true) → cond b 1 0 ≤ cond c 1 0
    each false c h = omega arith
    each true true h = omega arith
    each true false h = cc (h refl)

pub brought-kept : (r : Resolve) (a : Around) (x : Aliased) → IsAlias r a x → (m : ℕ) → is_brought r a m ≡ true → is_brought r (with_alias a x) m ≡ true
brought-kept r a x is m h = both (is_some (known_slot (with_alias a x).known m)) (option_map_or (is_of_listed a.instances) (type_at r m) false)
    (slot-there (known_slot (with_alias a x).known m) (known-kept x.number.0 (type_slots_of a.declared) m a.known
    (there-slot (known_slot a.known m) (first_true (is_some (known_slot a.known m)) _ h)))) (second_true (is_some (known_slot a.known m)) _ h)

-- a call that makes one alias at most
pub reached-beside : {r : Resolve} {id : TypeId} {a a' : Around} → ReachesAround r id a a' → held_beside r a' ≤ held_beside r a + 1
reached-beside {r} {id} {a} {a'} (as_before e) = omega (arith, ap (held_beside r) e)
reached-beside {r} {id} {a} {a'} (aliased x is n e) =
    let more : length (brought_numbers r a) ≤ length (brought_numbers r (with_alias a x)) =
    filters-more (is_brought r a) (is_brought r (with_alias a x)) (brought-kept r a x is) (below (length r.types.items)) in
    omega (arith, reached-held (aliased x is n e), more, ap (λ z. length (brought_numbers r z)) e)

-- one declaration more at most, and the same aliases
-- what a call leaves that has declared nothing
pub reached-kept : (r : Resolve) (a a' : Around) → a' ≡ a → held_beside r a' ≤ held_beside r a
reached-kept r a a' e = omega (arith, ap (held_beside r) e)

pub beside-kept : (r : Resolve) (a : Around) (outer : Declarations) → outer ≡ a.declared → held_beside r (record a { declared = outer }) ≤ held_beside r a
beside-kept r a outer e = omega (arith, ap (λ (o : Declarations). held_beside r (record a { declared = o })) e)

pub beside-more : (r : Resolve) (a : Around) (outer : Declarations) → declaration_count outer ≤ declaration_count a.declared + 1 → held_beside r (record a { declared = outer }) ≤ held_beside r a + 1
beside-more r a outer h = omega (arith, h)
