-- What has no room in an encoder of interfaces, where a call has refused it.
use Rattle.std.proofs.Common.{rules as std_rules, ◌≡◌, refl, sym, subst, ap, ◌∙◌, ◌&&◌, ℕ, ◌+◌, ◌≤◌, ◌^◌, ◌⊎◌, inl, inr, Bool, false, nat_lt, arith, List, [], ◌∷◌, ◌++◌, map, length, length-append, Result, Ok, Err, OnOk, OnErr, IfErr, Option, Some, None, String}
use Rattle.std.specs.{List.AllZip, List.flat_map, Set.distinct_count, Borrow.Bor}
use Rattle.std.specs.declared.alloc.Global.{Global}
use Rattle.wit_model.specs.{Text.Text, Text.optional_text, Text.text_of as text_at, Tree.Tree, Meaning.Signature, Meant.type_meaning}
use Rattle.wit_model.specs.declared.error.Error.{Error}
use Rattle.wit_model.specs.declared.model.{Resolve.Resolve, Function.Function, InterfaceId.InterfaceId, «Type».«Type» as ValueType, TypeId.TypeId}
use Rattle.comp_bytes.specs.declared.forms.{ComponentDefinedType.ComponentDefinedType, ComponentFuncType.ComponentFuncType, ComponentTypeRef.ComponentTypeRef}
use Rattle.comp_bytes.specs.Raw.{Alias, Declaration, Declarations, ExternName, Labeled, append, declaration_count}
use Rattle.comp_bytes.specs.RawOf.{raw_defined, raw_function, labeled}
use Rattle.comp_bytes.specs.Held.{declaration_slots, type_slots, type_slots_of, fits_counts, fits_next, fits_added}
use Rattle.comp_bytes.specs.Fits.{fits_length, fits_labels, fits_names, fits_defined, fits_declaration}
use Rattle.wit_encode.specs.declared.interface.OpenInterface.{OpenInterface}
use Rattle.encode_types.specs.declared.maps.TypeEncodingMaps.{TypeEncodingMaps}
use Rattle.encode_types.specs.Slots.{Pairs, NamedStands, Follows, FollowsFunction}
use Rattle.encode_types.specs.Room.{Request, IsUnfit, LacksRoomBehind, its_definition, its_name, its_import, LacksOne, a_type, a_request, HasNoRoom, fits_tree, fits_type_name, limit, value_type, function_type, export_name, import_of, function_name, function_requests}
use Rattle.encode_types.specs.{Scope.exported_name, Kinds.kind_tree, MetKinds.referred, Distinct.are_same, Distinct.key_of}
use Rattle.wit_encode.specs.{FunctionRoom.LacksFunctions, Instance.defined_in, Instance.held_in, Instance.lacks_room_in, Instance.placed_function}
use Rattle.wit_encode.proofs.{FunctionRoom.keys-few, HeldKeys.knows-none}
use Rattle.base_lemmas.proofs.{Elements.zip_long as zip-length, Lists.map_of_map as map-twice}
use Rattle.std.proofs.lemmas.List.{Folds.list_all-map, length-map}
use Rattle.wit_model.proofs.TreeLemmas.{child_list_of_children as listed}
use Rattle.wit_model.specs.declared.error.Error.TheVariants as errors

pub on-size : {A : Type 0} (res : Result A Error) (P : Type 0) → OnErr res P → res ≡ Err errors.Size → P
on-size x y p h = search std_rules

pub never-size : {A Q : Type 0} (res : Result A Error) → IfErr res (λ e. e ≡ errors.Memory) → res ≡ Err errors.Size → Q
never-size x h refused = search std_rules

-- ---- what doesn't fit, or isn't the last

slots-one : (d : Declaration) → declaration_slots d ≤ 1
slots-one x = search std_rules

slots-few : (ds : List Declaration) → type_slots ds ≤ length ds
slots-few [] = omega arith
slots-few (d ∷ ds) = omega (arith, slots-one d, slots-few ds)

pub outer-slots-few : (ds : Declarations) → type_slots_of ds ≤ declaration_count ds
outer-slots-few Declarations.no_more = omega arith
outer-slots-few (Declarations.declares d rest) = let a = slots-one d in let b = outer-slots-few rest in omega arith
outer-slots-few (Declarations.component inner rest) = let b = outer-slots-few rest in omega arith
outer-slots-few (Declarations.instance inner rest) = omega (arith, outer-slots-few rest)

pub counts-refused : (held slots : ℕ) → slots ≤ held + 1 → fits_counts (held + 1) slots ≡ false → limit ≤ held
counts-refused held slots few e = search std_rules

refused-by : (r : Resolve) (fits : Bool) (held slots : ℕ) (request : Request) → slots ≤ held + 1 → (fits ≡ false → IsUnfit r request) → (fits && fits_counts (held + 1) slots) ≡ false
    → LacksRoomBehind r held request
refused-by r x held slots request few unfit e = search std_rules

-- behind the declarations of an instance type
pub behind : (r : Resolve) (ds : List Declaration) (d : Declaration) (request : Request) → (fits_declaration d ≡ false → IsUnfit r request) → fits_next ds d ≡ false
    → LacksRoomBehind r (length ds) request
behind r ds d request unfit e = refused-by r (fits_declaration d) (length ds) (type_slots ds + declaration_slots d) request (let a = slots-few ds in let b = slots-one d in omega arith) unfit e

-- behind those of a component type
pub behind-outer : (r : Resolve) (outer : Declarations) (d : Declaration) (request : Request) → (fits_declaration d ≡ false → IsUnfit r request) → (fits_declaration d && fits_added outer 1) ≡ false
    → LacksRoomBehind r (declaration_count outer) request
behind-outer r outer d request unfit e = refused-by r (fits_declaration d) (declaration_count outer) (type_slots_of outer + 1) request (let a = outer-slots-few outer in omega arith) unfit e

-- ---- forms and trees have the same labels

-- labels that are the same texts
labels-fit : {T B : Type 0} (R : Bor Text × T → B → Type 0) (label : B → Text) → ((x : Bor Text × T) (y : B) → R x y → x.0.now ≡ label y) → (xs : List (Bor Text × T)) (ys : List B) → AllZip R xs ys
    → fits_labels (map labeled xs) ≡ fits_names (map label ys)
labels-fit {T} {B} R label same xs ys z = fits-by (map labeled xs) ∙ ap fits_names (labels-same xs ys z)
  where
    labels-same : (xs : List (Bor Text × T)) (ys : List B) → AllZip R xs ys → map (λ (x : Labeled T). x.label) (map labeled xs) ≡ map label ys
    labels-same [] [] h = refl
    labels-same [] (y ∷ ys) h = absurd h
    labels-same (x ∷ xs) [] h = absurd h
    labels-same (x ∷ xs) (y ∷ ys) h = λ i. same x y h.0 i ∷ labels-same xs ys h.1 i

    fits-by : (ls : List (Labeled T)) → fits_labels ls ≡ fits_names (map (λ (x : Labeled T). x.label) ls)
    fits-by ls = λ i. nat_lt (sym (length-map ls (λ (x : Labeled T). x.label)) i) (2 ^ 32) && sym (list_all-map fits_length (λ (x : Labeled T). x.label) ls) i

-- a definition fits exactly where the tree does
pub tree-fits : (S : Pairs) (d : ComponentDefinedType) (t : Tree) → Follows S d t → fits_defined (raw_defined d) ≡ fits_tree t
tree-fits y z t h = search (std_rules, labels-fit, map-twice, zip-length, listed)

pub signature-fits : (S : Pairs) (f : ComponentFuncType) (s : Signature) → FollowsFunction S f s → fits_labels (raw_function f).parameters ≡ fits_names (map (λ p. p.0) s.params)
signature-fits S f s h = labels-fit (NamedStands S) (λ p. p.0) (λ x p w. w.0) f.params.items s.params h.params

-- ---- calls, by whether an interface is open

module _ (r : Resolve) (res : Result ℕ Error) (refused : res ≡ Err errors.Size) where
  pub value-inside : (S : Pairs) (ds : List Declaration) (d : ComponentDefinedType) → (res ≡ Err errors.Size → fits_next ds (Declaration.defined (raw_defined d)) ≡ false) → (t : Tree) → Follows S d t
      → LacksRoomBehind r (length ds) (value_type t)
  value-inside S ds d size t f = behind r ds (Declaration.defined (raw_defined d)) (value_type t) (λ e. sym (tree-fits S d t f) ∙ e) (size refused)

  pub function-inside : (S : Pairs) (ds : List Declaration) (d : ComponentFuncType) → (res ≡ Err errors.Size → fits_next ds (Declaration.function (raw_function d)) ≡ false) → (s : Signature)
      → FollowsFunction S d s → LacksRoomBehind r (length ds) (function_type s)
  function-inside S ds d size s f = behind r ds (Declaration.function (raw_function d)) (function_type s) (λ e. sym (signature-fits S d s f) ∙ e) (size refused)

  module _ (outer : Declarations) (inner : Option OpenInterface) (is : inner ≡ None) where
    pub value-outside : (S : Pairs) (d : ComponentDefinedType) → (res ≡ Err errors.Size → (fits_declaration (Declaration.defined (raw_defined d)) && fits_added outer 1) ≡ false) → (t : Tree)
        → Follows S d t → LacksRoomBehind r (held_in outer inner) (value_type t)
    value-outside S d size t f = subst (λ (o : Option OpenInterface). LacksRoomBehind r (held_in outer o) (value_type t)) (sym is)
        (behind-outer r outer (Declaration.defined (raw_defined d)) (value_type t) (λ e. sym (tree-fits S d t f) ∙ e) (size refused))

    pub function-outside : (S : Pairs) (d : ComponentFuncType) → (res ≡ Err errors.Size → (fits_declaration (Declaration.function (raw_function d)) && fits_added outer 1) ≡ false) → (s : Signature)
        → FollowsFunction S d s → LacksRoomBehind r (held_in outer inner) (function_type s)
    function-outside S d size s f = subst (λ (o : Option OpenInterface). LacksRoomBehind r (held_in outer o) (function_type s)) (sym is)
        (behind-outer r outer (Declaration.function (raw_function d)) (function_type s) (λ e. sym (signature-fits S d s f) ∙ e) (size refused))

-- an outer alias fits, and so does an alias around but for its name
pub alias-inside : (r : Resolve) (ds : List Declaration) (n slot : ℕ) → fits_next ds (Declaration.alias_of (Alias.of_outer 1 slot)) ≡ false → LacksRoomBehind r (length ds) (import_of n)
alias-inside r ds n slot e = behind r ds (Declaration.alias_of (Alias.of_outer 1 slot)) (import_of n) (λ h. absurd cc) e

pub alias-behind : (r : Resolve) (outer : Declarations) (n : ℕ) → (fits_type_name r n && fits_added outer 1) ≡ false → LacksRoomBehind r (declaration_count outer) (import_of n)
alias-behind r outer n e = refused-by r (fits_type_name r n) (declaration_count outer) (type_slots_of outer + 1) (import_of n) (let a = outer-slots-few outer in omega arith) (λ h. h) e

pub alias-outside : (r : Resolve) (outer : Declarations) (inner : Option OpenInterface) (n : ℕ) → (fits_type_name r n && fits_added outer 1) ≡ false → lacks_room_in r outer inner (import_of n)
alias-outside r outer inner n e = search std_rules

pub name-inside : (r : Resolve) (ds : List Declaration) (name : ExternName) (described : ComponentTypeRef) → fits_next ds (Declaration.exported name described) ≡ false
    → LacksRoomBehind r (length ds) (export_name name)
name-inside r ds name described e = behind r ds (Declaration.exported name described) (export_name name) (λ h. h) e

pub name-outside : (r : Resolve) (outer : Declarations) (name : ExternName) (described : ComponentTypeRef) → (fits_declaration (Declaration.imported name described) && fits_added outer 1) ≡ false
    → LacksRoomBehind r (declaration_count outer) (export_name name)
name-outside r outer name described e = behind-outer r outer (Declaration.imported name described) (export_name name) (λ h. h) e

-- how much is held after a call in an open interface
pub held-inside : (outer : Declarations) (inner : Option OpenInterface) (current : OpenInterface) (ds : List Declaration) → inner ≡ Some current → length ds ≤ length current.declared + 1
    → length ds ≤ held_in outer inner + 1
held-inside outer inner current ds is l = subst (λ (o : Option OpenInterface). length ds ≤ held_in outer o + 1) (sym is) l

pub held-outside : (outer outer' : Declarations) (inner : Option OpenInterface) → inner ≡ None → declaration_count outer' ≤ declaration_count outer + 1 → held_in outer' inner ≤ held_in outer inner + 1
held-outside outer outer' inner is l = subst (λ (o : Option OpenInterface). held_in outer' o ≤ held_in outer o + 1) (sym is) l

-- what is held after a call that has declared nothing
pub kept-inside : (outer : Declarations) (inner : Option OpenInterface) (current : OpenInterface) (ds : List Declaration) → inner ≡ Some current → ds ≡ current.declared
    → length ds ≤ held_in outer inner
kept-inside outer inner current ds is e = search std_rules

pub kept-outside : (outer outer' : Declarations) (inner : Option OpenInterface) → inner ≡ None → outer' ≡ outer → held_in outer' inner ≤ held_in outer inner
kept-outside outer outer' inner is e = omega (arith, ap (λ (o : Declarations). held_in o inner) e)

-- the name of a function
pub function-named : (name : ExternName) (f : Text × Function) → name.text ≡ f.0 → name.implements ≡ None → name.version_suffix ≡ None → name.external_id ≡ optional_text f.1.external_id
    → name ≡ function_name f
function-named name f text implements suffix external_id = λ i. record { text = text i; implements = implements i; version_suffix = suffix i; external_id = external_id i }

-- ---- an interface as a whole

-- what doesn't fit by itself, or all where there is no room for one more, or no room around
module _ (r : Resolve) (own : Option InterfaceId) (ns : List ℕ) (qs : List Request) (outer : Declarations) (inner : Option OpenInterface) where
  abbrev Parted : Type 0
  Parted = (LacksOne r own (IsUnfit r) ns qs ⊎ (limit ≤ held_in outer inner)) ⊎ (fits_added outer 1 ≡ false)

  by-part : (q : Request) → (IsUnfit r q → LacksOne r own (IsUnfit r) ns qs) → lacks_room_in r outer inner q → Parted
  by-part q f (inl (inl u)) = inl (inl (f u))
  by-part q f (inl (inr l)) = inl (inr l)
  by-part (import_of n) f (inr full) = inr full
  by-part _ f (inr z) = absurd z

  parted : LacksOne r own (lacks_room_in r outer inner) ns qs → Parted
  parted (a_type n def c at (its_definition f h)) = by-part (value_type (kind_tree r def.kind)) (λ u. a_type n def c at (its_definition f u)) h
  parted (a_type n def c at (its_name f name is h)) = by-part (export_name (exported_name (text_at name, type_meaning r def))) (λ u. a_type n def c at (its_name f name is u)) h
  parted (a_type n def c at (its_import i f h)) = by-part (import_of n) (λ u. a_type n def c at (its_import i f u)) h
  parted (a_request q c h) = by-part q (λ u. a_request q c u) h

pub no-room : {r r' : Resolve} {own own' : Option InterfaceId} {ts : List ValueType} {fs : List (Text × Function)} {m : TypeEncodingMaps} {before : ℕ} {Q : Type 0} (outer : Declarations)
    (inner : Option OpenInterface) → own' ≡ own → before ≡ 0 → m.func_type_map.entries ≡ [] → r' ≡ r → (fits_added outer 1 ≡ false → Q)
    → LacksFunctions r own' ts fs m before (held_in outer inner) (lacks_room_in r' outer inner) → HasNoRoom r own ts fs ⊎ Q
no-room {r} {r'} {own} {own'} {ts} {fs} {m} {before} {Q} outer inner e none fresh packages around p' =
    let p : LacksFunctions r own ts fs m before (held_in outer inner) (lacks_room_in r outer inner) =
    subst (λ (o : Option InterfaceId). LacksFunctions r o ts fs m before (held_in outer inner) (lacks_room_in r outer inner)) e
    (subst (λ (x : Resolve). LacksFunctions r own' ts fs m before (held_in outer inner) (lacks_room_in x outer inner)) packages p') in
    let few : length p.keys ≤ distinct_count are_same (map (λ f. key_of f.1) fs) =
    keys-few p.keys (map (λ f. key_of f.1) fs) p.different (λ key among. elim (p.from key among) [ inl known ↦ absurd (knows-none m key fresh known) | inr there ↦ there ]) in
    elim (parted r own p.room.numbers (flat_map (function_requests r) fs) outer inner p.room.lacks) [
      | inl h ↦ inl (record { numbers = p.room.numbers; apart = p.room.new.apart; met = p.room.met; lacks = elim h [ inl u ↦ inl u | inr l ↦ inr (omega (arith, l, p.room.held, none, few)) ] })
      | inr full ↦ inr (around full)
    ]

-- what is read of what a refused call leaves is the same
pub undone : {T E X Y : Type 0} (f : X → Y) (x x' : X) (res : Result T E) → OnErr res (x' ≡ x) → OnErr res (f x' ≡ f x)
undone f x x' (Ok v) h = tt
undone f x x' (Err e) h = ap f h

pub undone-inside : {T E : Type 0} (r : Resolve) (outer : Declarations) (inner : Option OpenInterface) (current : OpenInterface) (ds : List Declaration) (res : Result T E) → inner ≡ Some current
    → OnErr res (ds ≡ current.declared) → OnErr res (defined_in r outer (Some (record current { declared = ds })) ≡ defined_in r outer inner)
undone-inside r outer inner current ds (Ok v) is h = tt
undone-inside r outer inner current ds (Err e) is h = ap (defined_in r outer) ((λ i. Some (record current { declared = h i })) ∙ sym is)

-- one declaration more, or none
pub one-pushed : {A E : Type 0} (res : Result A E) (ds ds' : List Declaration) (d : Declaration) → OnOk res (ds' ≡ ds ++ d ∷ []) → OnErr res (ds' ≡ ds) → length ds' ≤ length ds + 1
one-pushed x ds ds' d ok err = search (std_rules, length-append)

pub one-appended : (ds : Declarations) (d : Declaration) → declaration_count (append ds (Declarations.declares d Declarations.no_more)) ≡ declaration_count ds + 1
one-appended Declarations.no_more d = omega arith
one-appended (Declarations.declares e rest) d = let h = one-appended rest d in omega arith
one-appended (Declarations.component inner rest) d = let h = one-appended rest d in omega arith
one-appended (Declarations.instance inner rest) d = omega (arith, one-appended rest d)

pub outer-pushed : (outer outer' : Declarations) (d : Declaration) → outer' ≡ append outer (Declarations.declares d Declarations.no_more) → declaration_count outer' ≤ declaration_count outer + 1
outer-pushed outer outer' d e = search (std_rules, one-appended)

abbrev Placed : Type 0
Placed = ℕ × Bor (String Global) × Bor Function

-- the same of the interface's own lists
pub room-listed : (r : Resolve) (i : InterfaceId) (ts ts' : List TypeId) (fs : List Placed) (gs : List (Text × Function)) → ts ≡ ts' → map placed_function fs ≡ gs
    → HasNoRoom r (Some i) (referred ts (map (λ f. f.2.now) fs)) (map placed_function fs) → HasNoRoom r (Some i) (referred ts' (map (λ g. g.1) gs)) gs
room-listed r i ts ts' fs gs e same h = search (std_rules, map-twice)
