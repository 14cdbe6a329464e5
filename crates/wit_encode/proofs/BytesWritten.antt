-- How many bytes have been declared, call after call.
use Rattle.std.proofs.Common.{rules as std_rules, ◌≡◌, refl, sym, subst, ap, ◌∙◌, ℕ, ◌+◌, ◌≤◌, ◌<◌, Bool, true, false, nat_eq, is_some, List, [], ◌∷◌, ◌++◌, map, length, length-append, take, get_or, Option, Some, None, String, Result, OnOk, IfOk, arith}
use Rattle.std.proofs.lemmas.{List.map-append, List.take_all, List.take_more, List.Sums.sum_by-append, List.Sums.sum_by-cons}
use Rattle.std.proofs.lemmas.Option.{same_Some as some-same}
use Rattle.std.specs.{Prelude.sum_by, List.Contains}
use Rattle.std.specs.declared.alloc.Global.{Global}
use Rattle.indexmap.specs.IndexMap.{values}
use Rattle.wit_model.specs.{Text.Text, Text.optional_text, Lookup.interface_at, Lookup.interface_path, Lookup.type_at, Lookup.world_at, Uses.item_interface}
use Rattle.wit_model.specs.{Meant.signature_of, Weight.interface_weight, Weight.whole_instance_weight, Weight.world_weight, Valid.IsValid}
use Rattle.wit_model.specs.declared.model.{Resolve.Resolve, TypeDef.TypeDef, World.World, WorldId.WorldId, WorldKey.WorldKey, TypeId.TypeId}
use Rattle.wit_model.specs.declared.model.{Interface.Interface, InterfaceId.InterfaceId, Function.Function, WorldItem.WorldItem, «Type».«Type» as ValueType}
use Rattle.comp_bytes.specs.Raw.{Alias, ExternName, Declaration, Declarations, append, declaration_count, from_list}
use Rattle.comp_bytes.specs.Writing.{u32_bytes, declaration_bytes, declarations_bytes}
use Rattle.encode_types.specs.declared.maps.TypeEncodingMaps.{TypeEncodingMaps}
use Rattle.encode_types.specs.Extents.{function_extent, given_length, import_extent, known_extent, name_extent, number_extent, signature_extent}
use Rattle.encode_types.specs.{Known.Around, Known.ReachesAround, Known.alias_declared, Known.as_before, Known.aliased, MetKinds.ReachedFrom, MetKinds.referred}
use Rattle.encode_types.specs.Maps.{IsOnce, LearnsOnly}
use Rattle.encode_types.proofs.{Pairs.pairs-map}
use Rattle.wit_encode.specs.declared.interface.OpenInterface.{OpenInterface}
use Rattle.wit_encode.specs.{Encoders.declared_after, Order.functions_in_order, WorldRoom.IsMetAmong, WorldRoom.entries_in}
use Rattle.wit_encode.specs.{Instance.declared_extent, Instance.extent_in, Instance.placed_function, Extents.instance_extent}
use Rattle.wit_encode.specs.WrittenBytes.{AddsBytes, AddsLearnt, TakesFew, imports_extent, items_extent, types_extent, whole_extent}
use Rattle.encode_shown.specs.Views.{AreReached}
use Rattle.encode_names.specs.{WorldNames.name_of_interface, WorldNames.name_of_item}
use Rattle.wit_encode.proofs.{ComponentExtents.components-light, ComponentExtents.import-extent, ComponentExtents.worlds-light, ImportLoop.numbers-next}
use Rattle.wit_encode.proofs.{Extents.bytes-few, ExtentWeighing.dependencies-light, ExtentWeighing.instances-light, Lengths.u32-short, Opening.Placed}
use Rattle.wit_encode.proofs.HeldKeys.{learnt-all}
use Rattle.base_lemmas.proofs.{Elements.map_from, Lists.map_of_map as map-twice}
use Rattle.wit_model.specs.declared.model.WorldItem.TheVariants as item

-- ---- answers

pub when-ok : {A E : Type 0} (x : Result A E) (P : A → Type 0) (Q : Type 0) → ((a : A) → P a → Q) → IfOk x P → OnOk x Q
when-ok x y z f p = search std_rules

-- ---- declarations

nothing-taken : declared_extent Declarations.no_more ≡ 0
unfolding declared_extent
nothing-taken = refl

one-taken : (d : Declaration) (rest : Declarations) → declared_extent (Declarations.declares d rest) ≡ length (declaration_bytes d) + declared_extent rest
unfolding declared_extent
one-taken d rest = length-append (declaration_bytes d) (declarations_bytes rest)

component-taken : (inner rest : Declarations)
    → declared_extent (Declarations.component inner rest) ≡ (2 + (length (u32_bytes (declaration_count inner)) + declared_extent inner)) + declared_extent rest
unfolding declared_extent
component-taken inner rest =
    let a = length-append (u32_bytes (declaration_count inner)) (declarations_bytes inner) in
    omega (arith, length-append (1 ∷ 0x41 ∷ (u32_bytes (declaration_count inner) ++ declarations_bytes inner)) (declarations_bytes rest))

instance-taken : (inner rest : Declarations) → declared_extent (Declarations.instance inner rest) ≡ (2 + (length (u32_bytes (declaration_count inner)) + declared_extent inner)) + declared_extent rest
unfolding declared_extent
instance-taken inner rest =
    let a = length-append (u32_bytes (declaration_count inner)) (declarations_bytes inner) in
    omega (arith, length-append (1 ∷ 0x42 ∷ (u32_bytes (declaration_count inner) ++ declarations_bytes inner)) (declarations_bytes rest))

both-taken : (ds es : Declarations) → declared_extent (append ds es) ≡ declared_extent ds + declared_extent es
both-taken Declarations.no_more es = omega (arith, nothing-taken)
both-taken (Declarations.declares d rest) es = let h = both-taken rest es in let a = one-taken d (append rest es) in let b = one-taken d rest in omega (arith, h, a, b)
both-taken (Declarations.component inner rest) es = let h = both-taken rest es in let a = component-taken inner (append rest es) in let b = component-taken inner rest in omega (arith, h, a, b)
both-taken (Declarations.instance inner rest) es = let h = both-taken rest es in let a = instance-taken inner (append rest es) in let b = instance-taken inner rest in omega (arith, h, a, b)

-- one declaration more
pub one-more : (outer outer' : Declarations) (d : Declaration) (n : ℕ) → outer' ≡ declared_after outer d → length (declaration_bytes d) ≤ n → declared_extent outer' ≤ declared_extent outer + n
one-more outer outer' d n e l = omega (arith, ap declared_extent e, both-taken outer (Declarations.declares d Declarations.no_more), one-taken d Declarations.no_more, nothing-taken, l)

-- one instance type more
pub instance-more : (outer outer' inner : Declarations) → outer' ≡ append outer (Declarations.instance inner Declarations.no_more)
    → declared_extent outer' ≤ declared_extent outer + (8 + declared_extent inner)
instance-more outer outer' inner e =
    let both = both-taken outer (Declarations.instance inner Declarations.no_more) in
    omega (arith, ap declared_extent e, both, instance-taken inner Declarations.no_more, u32-short (declaration_count inner), nothing-taken)

listed-more : (ds : List Declaration) (d : Declaration) → declared_extent (from_list (ds ++ d ∷ [])) ≡ declared_extent (from_list ds) + length (declaration_bytes d)
listed-more [] d = omega (arith, one-taken d Declarations.no_more, nothing-taken)
listed-more (e ∷ ds) d = omega (arith, listed-more ds d, one-taken e (from_list (ds ++ d ∷ [])), one-taken e (from_list ds))

-- one declaration more in the instance type that is open, or in the component type
pub inside-more : (outer : Declarations) (inner : Option OpenInterface) (current : OpenInterface) (ds : List Declaration) (d : Declaration) (n : ℕ) → inner ≡ Some current
    → ds ≡ current.declared ++ d ∷ [] → length (declaration_bytes d) ≤ n → declared_extent outer + declared_extent (from_list ds) ≤ extent_in outer inner + n
inside-more outer inner current ds d n is e l = omega (arith, ap (extent_in outer) is, ap (λ (xs : List Declaration). declared_extent (from_list xs)) e, listed-more current.declared d, l)

pub outside-more : (outer outer' : Declarations) (inner : Option OpenInterface) (d : Declaration) (n : ℕ) → inner ≡ None → outer' ≡ declared_after outer d → length (declaration_bytes d) ≤ n
    → extent_in outer' inner ≤ extent_in outer inner + n
outside-more outer outer' inner d n none e l = omega (arith, ap (extent_in outer) none, ap (extent_in outer') none, one-more outer outer' d n e l)

-- ---- aliases

-- the alias of a type, if one is made
pub reached-more : {r : Resolve} {id : TypeId} {a a' : Around} → ReachesAround r id a a' → (def : TypeDef) → type_at r id.0 ≡ Some def
    → declared_extent a'.declared ≤ declared_extent a.declared + (16 + given_length (optional_text def.name))
reached-more {r} {id} {a} {a'} (as_before e) def at = let same = ap (λ (z : Around). declared_extent z.declared) e in omega (arith, same)
reached-more {r} {id} {a} {a'} (aliased x is n e) def at =
    let same : is.def ≡ def = some-same is.def def (sym is.there ∙ ap (λ (t : TypeId). type_at r t.0) n ∙ at) in
    let name : length x.name ≡ given_length (optional_text def.name) =
    ap length is.text ∙ sym (ap (λ (o : Option (String Global)). given_length (optional_text o)) (ap (λ (d : TypeDef). d.name) (sym same) ∙ is.named_)) in
    let one = one-more a.declared a'.declared (alias_declared x) (16 + length x.name) (ap (λ (z : Around). z.declared) e) (bytes-few.aliases x.instance x.name) in
    omega (arith, name, one)

-- with the outer alias that stands for it in the instance type
pub imported-more : {r : Resolve} {id : TypeId} (a a' : Around) (inner : Option OpenInterface) (current : OpenInterface) (ds : List Declaration) (k : ℕ) (def : TypeDef) → ReachesAround r id a a'
    → type_at r id.0 ≡ Some def → inner ≡ Some current
    → ds ≡ current.declared ++ Declaration.alias_of (Alias.of_outer 1 k) ∷ [] → declared_extent a'.declared + declared_extent (from_list ds) ≤ extent_in a.declared inner + import_extent def
imported-more a a' inner current ds k def reaches at is e =
    omega (arith, reached-more reaches def at, inside-more a.declared inner current ds _ 16 is e (bytes-few.outer_aliases 1 k), ap (extent_in a.declared) is)

-- ---- functions

pub functions-next : {X : Type 0} (f : Text × Function → ℕ) (view : X → Text × Function) (xs : List X) (i : ℕ) (x : X) → i < length xs → x ≡ get_or xs i x
    → sum_by f (map view (take (i + 1) xs)) ≡ sum_by f (map view (take i xs)) + f (view x)
functions-next f view xs i x l is =
    let both = ap (sum_by f) (map-append view (take i xs) (get_or xs i x ∷ [])) ∙ sum_by-append f (map view (take i xs)) (view (get_or xs i x) ∷ []) in
    omega (arith, ap (λ ys. sum_by f (map view ys)) (take_more xs i x l), both, sum_by-cons f (view (get_or xs i x)) [], ap (λ y. f (view y)) is)

pub functions-whole : {X : Type 0} (f : Text × Function → ℕ) (view : X → Text × Function) (xs : List X) (i : ℕ) → length xs ≤ i → sum_by f (map view (take i xs)) ≡ sum_by f (map view xs)
functions-whole f view xs i l = ap (λ ys. sum_by f (map view ys)) (take_all i xs l)

-- ---- an instance type

sums-mapped : {X Y : Type 0} (g : Y → ℕ) (f : X → Y) (xs : List X) → sum_by g (map f xs) ≡ sum_by (λ x. g (f x)) xs
sums-mapped g f [] = refl
sums-mapped g f (x ∷ xs) = omega (arith, sums-mapped g f xs, sum_by-cons g (f x) (map f xs), sum_by-cons (λ x. g (f x)) x xs)

with-index : (es : List (ℕ × ℕ)) (n : ℕ) → Contains (map (λ e. e.0) es) n → (i : ℕ) × Contains es (n, i)
with-index es n c = let x = map_from (λ (e : ℕ × ℕ). e.0) es n c in (x.0.1, subst (λ (k : ℕ). Contains es (k, x.0.1)) x.2 x.1)

-- what maps that were empty have learnt by the end, and functions
pub taken : (r : Resolve) (i : InterfaceId) (types : List ValueType) (fs : List (Text × Function)) (m m' : TypeEncodingMaps) (outer outer' : Declarations) (inner : Option OpenInterface)
    (ds : List Declaration) (current : OpenInterface) → m.id_to_index.entries ≡ [] → ds ≡ [] → inner ≡ Some current → IsOnce m' → LearnsOnly (ReachedFrom r (Some i) types) m m'
    → extent_in outer' inner + known_extent r (Some i) m ≤ (declared_extent outer + declared_extent (from_list ds)) + (known_extent r (Some i) m' + sum_by (function_extent r) fs)
    → TakesFew r i types fs (declared_extent outer) (declared_extent outer' + declared_extent (from_list current.declared))
taken r i types fs m m' outer outer' inner ds current empty none is once only l = record {
  numbers = map (λ (e : ℕ × ℕ). e.0) m'.id_to_index.entries;
  different = pairs-map (λ (e : ℕ × ℕ). e.0) (λ x y. nat_eq x y ≡ false) m'.id_to_index.entries once.numbers;
  met = λ n c. learnt-all (ReachedFrom r (Some i) types) m m' empty only n (with-index m'.id_to_index.entries n c);
  few =
      let nothing = ap (λ (xs : List Declaration). declared_extent (from_list xs)) none ∙ nothing-taken in
      omega (arith, ap (extent_in outer') is, nothing, sums-mapped (number_extent r (Some i)) (λ (e : ℕ × ℕ). e.0) m'.id_to_index.entries, l);
}

-- closed, in a component type
pub taken-closed : {r : Resolve} {i : InterfaceId} {types : List ValueType} {fs : List (Text × Function)} {before : ℕ} (outer outer' inner : Declarations)
    → outer' ≡ append outer (Declarations.instance inner Declarations.no_more)
    → TakesFew r i types fs before (declared_extent outer + declared_extent inner) → TakesFew r i types fs (before + 8) (declared_extent outer')
taken-closed outer outer' inner e t = record { numbers = t.numbers; different = t.different; met = t.met; few = omega (arith, instance-more outer outer' inner e, t.few) }

pub types-few : (r : Resolve) → IsValid r → (i : InterfaceId) (def : Interface) → interface_at r i.0 ≡ Some def → (types : List TypeId) → types ≡ values def.types → (outer outer' : Declarations)
    → TakesFew r i (referred types []) [] (declared_extent outer + 8) (declared_extent outer') → AddsBytes (types_extent r i.0) outer outer'
types-few r v i def at types e outer outer' t =
    let light = dependencies-light r i def t.numbers v at t.different (λ n c. subst (λ (ts : List TypeId). ReachedFrom r (Some i) (referred ts []) n) e (t.met n c)) in
    let few = t.few in
    record { few = omega (arith, light, few) }

pub whole-few : (r : Resolve) → IsValid r → (i : InterfaceId) (def : Interface) → interface_at r i.0 ≡ Some def → (types : List TypeId) → types ≡ values def.types → (fs : List Placed)
    → map placed_function fs ≡ functions_in_order def → (outer outer' : Declarations)
    → TakesFew r i (referred types (map (λ f. f.2.now) fs)) (map placed_function fs) (declared_extent outer + 8) (declared_extent outer') → AddsBytes (whole_extent r i.0) outer outer'
whole-few r v i def at types e fs order outer outer' t =
    let own : map (λ f. f.2.now) fs ≡ map (λ (g : Text × Function). g.1) (functions_in_order def) =
    sym (map-twice (λ (g : Text × Function). g.1) placed_function fs) ∙ ap (map (λ (g : Text × Function). g.1)) order in
    let met : (n : ℕ) → Contains t.numbers n → ReachedFrom r (Some i) (referred (values def.types) (map (λ (g : Text × Function). g.1) (functions_in_order def))) n =
    λ n c. subst (λ (gs : List Function). ReachedFrom r (Some i) (referred (values def.types) gs) n) own
    (subst (λ (ts : List TypeId). ReachedFrom r (Some i) (referred ts (map (λ f. f.2.now) fs)) n) e (t.met n c)) in
    let few = t.few in
    record { few = omega (arith, instances-light r i def t.numbers v at t.different met, ap (sum_by (function_extent r)) order, few) }

-- ---- a component type

pub adds-nothing : (outer : Declarations) → AddsBytes 0 outer outer
adds-nothing outer = record { few = omega arith }

-- an instance type of so much, and the import or the export that uses it
pub adds-described : (n : ℕ) (outer between outer' : Declarations) (d : Declaration) (named name : ExternName) → AddsBytes (8 + n) outer between → outer' ≡ declared_after between d
    → length (declaration_bytes d) ≤ name_extent named → named ≡ name → AddsBytes (instance_extent name n) outer outer'
adds-described n outer between outer' d named name one e l same =
    record { few = omega (arith, one.few, one-more between outer' d (name_extent named) e l, ap name_extent same) }

-- one import more
pub imports-next : (r q : Resolve) (canonical : Bool) (xs : List InterfaceId) (k : ℕ) (outer between outer' : Declarations) → q ≡ r → k < length xs
    → AddsBytes (imports_extent r canonical (take k (map (λ id. id.0) xs))) outer between
    → AddsBytes (import-extent q canonical (get_or xs k (record { 0 = 0 })).0) between outer' → AddsBytes (imports_extent r canonical (take (k + 1) (map (λ id. id.0) xs))) outer outer'
imports-next r q canonical xs k outer between outer' e l before more =
    let next = ap (sum_by (import-extent r canonical)) (sym (numbers-next xs k l)) ∙ sum_by-append (import-extent r canonical) (take k (map (λ (id : InterfaceId). id.0) xs))
    ((get_or xs k (record { 0 = 0 })).0 ∷ []) in
    let one = sum_by-cons (import-extent r canonical) (get_or xs k (record { 0 = 0 })).0 [] in
    record { few = omega (arith, next, one, ap (λ (z : Resolve). import-extent z canonical (get_or xs k (record { 0 = 0 })).0) e, before.few, more.few) }

-- all imports, and the interface itself
pub component-few : (r q : Resolve) (v : IsValid r) (i : InterfaceId) (reached : List ℕ) (canonical : Bool) → q ≡ r → is_some (interface_path r i.0) ≡ true → AreReached r i.0 reached
    → (empty outer outer' : Declarations) → empty ≡ Declarations.no_more → AddsBytes (imports_extent q canonical reached) empty outer
    → AddsBytes (instance_extent (name_of_interface r canonical i.0) (whole_instance_weight q i.0)) outer outer' → declared_extent outer' ≤ interface_weight r i.0
component-few r q v i reached canonical e named reaches empty outer outer' none imports own =
    let light = components-light r i reached canonical v named reaches in
    let first = ap (λ (z : Resolve). imports_extent z canonical reached) e in
    omega (arith, light, first, ap (λ (z : Resolve). whole_instance_weight z i.0) e, ap declared_extent none ∙ nothing-taken, imports.few, own.few)

-- ---- a world

pub learnt-then : {r : Resolve} {k n : ℕ} {a b c : TypeEncodingMaps} {x y z : Declarations} → AddsLearnt r k a b x y → AddsLearnt r n b c y z → AddsLearnt r (k + n) a c x z
learnt-then p q = record { few = (omega (arith, p.few, q.few)) }

pub learnt-nothing : (r : Resolve) (m : TypeEncodingMaps) (x : Declarations) → AddsLearnt r 0 m m x x
learnt-nothing r m x = record { few = omega arith }

pub learnt-most : {r : Resolve} {k n : ℕ} {a b : TypeEncodingMaps} {x y : Declarations} → k ≤ n → AddsLearnt r k a b x y → AddsLearnt r n a b x y
learnt-most l p = record { few = (omega (arith, p.few, l)) }

-- the maps have learnt nothing
pub learnt-beside : {r : Resolve} {n : ℕ} (m : TypeEncodingMaps) (x y : Declarations) → AddsBytes n x y → AddsLearnt r n m m x y
learnt-beside m x y p = record { few = (omega (arith, p.few)) }

-- one declaration behind what has been learnt
pub learnt-more : {r : Resolve} {k : ℕ} {a b : TypeEncodingMaps} {x : Declarations} (n : ℕ) (y z : Declarations) (d : Declaration) → AddsLearnt r k a b x y → z ≡ declared_after y d
    → length (declaration_bytes d) ≤ n → AddsLearnt r (k + n) a b x z
learnt-more n y z d p e l = record { few = (omega (arith, p.few, one-more y z d n e l)) }

pub function-item : (r : Resolve) (canonical : Bool) (k : WorldKey) (i : WorldItem) (f : Function) → i ≡ item.Function f
    → items_extent r canonical ((k, i) ∷ []) ≡ signature_extent (signature_of r f) + name_extent (name_of_item r canonical (k, i))
function-item r canonical k i f e = search std_rules

pub interface-item : (r : Resolve) (canonical : Bool) (k : WorldKey) (i : WorldItem) (n : ℕ) → item_interface i ≡ Some n
    → items_extent r canonical ((k, i) ∷ []) ≡ instance_extent (name_of_item r canonical (k, i)) (whole_instance_weight r n)
interface-item r canonical k x n e = search std_rules

-- all items of a world
pub world-few : (r : Resolve) → IsValid r → (w : WorldId) (def : World) → world_at r w.0 ≡ Some def → (canonical : Bool) (began m m' : TypeEncodingMaps) (outer outer' : Declarations) → IsOnce m'
    → began.id_to_index.entries ≡ [] → LearnsOnly (IsMetAmong r (entries_in def)) began m' → outer ≡ Declarations.no_more
    → AddsLearnt r (items_extent r canonical (entries_in def)) m m' outer outer' → declared_extent outer' ≤ world_weight r w.0
world-few r v w def at canonical began m m' outer outer' once empty only none adds =
    let light = worlds-light r w def (map (λ (e : ℕ × ℕ). e.0) m'.id_to_index.entries) canonical v at
    (pairs-map (λ (e : ℕ × ℕ). e.0) (λ x y. nat_eq x y ≡ false) m'.id_to_index.entries once.numbers)
    (λ n c. learnt-all (IsMetAmong r (entries_in def)) began m' empty only n (with-index m'.id_to_index.entries n c)) in
    omega (arith, light, sums-mapped (number_extent r None) (λ (e : ℕ × ℕ). e.0) m'.id_to_index.entries, ap declared_extent none ∙ nothing-taken, adds.few)
