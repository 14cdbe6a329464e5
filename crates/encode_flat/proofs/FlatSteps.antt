-- What one more addition says of the slots of a flat encoder.
use Rattle.std.proofs.Common.{rules as std_rules, ◌≡◌, sym, ◌∙◌, refl, ap, ℕ, Bool, true, false, cond, List, [], ◌∷◌, ◌++◌, inl, inr, Result, Ok, Err, IfOk, OnErr, OnOk, Option, Some, None, nat_eq, is_some, ◌⊎◌, option_to_list, find}
use Rattle.std.proofs.lemmas.{Bool.eqb-true, List.reverse-append, Option.none-some as not-none, Option.same_Some as some-is}
use Rattle.std.specs.{Prelude.reverse, List.Contains}
use Rattle.wit_model.specs.{Text.Text, Tree.Place, Tree.named, Types.number_tree, Meaning.TypeMeaning}
use Rattle.wit_model.specs.declared.model.Resolve.{Resolve}
use Rattle.comp_bytes.specs.declared.forms.{ComponentDefinedType.ComponentDefinedType, ComponentExternName.ComponentExternName}
use Rattle.comp_bytes.specs.declared.forms.ComponentFuncType.{ComponentFuncType}
use Rattle.comp_bytes.specs.RawOf.{raw_name}
use Rattle.encode_types.specs.declared.maps.TypeEncodingMaps.{TypeEncodingMaps}
use Rattle.encode_types.specs.{Scope.Scope, Scope.exported_name, Counts.Definitions, Counts.ExportsOne, Counts.one_type_more, Counts.one_function_more}
use Rattle.encode_types.specs.Slots.{Adds, SlotAdded, NameAdded, Standing, tree}
use Rattle.encode_flat.specs.declared.{forms.Form.Form, marks.Mark.Mark, encoder.FlatEncoderOf.FlatEncoderOf}
use Rattle.encode_flat.specs.Marked.{Imports, import_slot, slot_count}
use Rattle.encode_flat.specs.Flat.{FlatReads, ImportsOnce, ReadsAs, exports_more, flat_definitions, flat-in_range, is_name_of}
use Rattle.encode_flat.proofs.Exported.{found-in, name-passes}
use Rattle.base_lemmas.proofs.Numbers.{no-slot}
use Rattle.encode_flat.specs.declared.forms.Form.TheVariants as form
use Rattle.encode_flat.specs.declared.marks.Mark.TheVariants as mark

-- one form more, the latest first
reversed : (old new : List Form) (x : Form) → new ≡ old ++ x ∷ [] → reverse new ≡ x ∷ reverse old
reversed old new x e = ap reverse e ∙ reverse-append old (x ∷ [])

-- what a call adds: a slot of this form
abbrev pub AddsForm : List Mark → List Form → Form → List Mark → List Form → ℕ → Type 0
AddsForm ks old x ks' new i = (i ≡ slot_count ks) × (ks' ≡ mark.Form ∷ ks) × (new ≡ old ++ x ∷ [])

module _ (r : Resolve) (place : Place) (ks : List Mark) (xs : List Form) (x : Form) where
  form-adds : Adds (FlatReads r place ks xs) (FlatReads r place (mark.Form ∷ ks) (x ∷ xs)) (slot_count ks) (ReadsAs place (FlatReads r place ks xs) x)
  form-adds = search std_rules

module _ (r : Resolve) (place : Place) (ks : List Mark) (old : List Form) (x : Form) where
  pub form-ok : {E : Type 0} (res : Result ℕ E) (ks' : List Mark) (new : List Form) → IfOk res (AddsForm ks old x ks' new)
      → IfOk res (λ i. SlotAdded (FlatReads r place ks (reverse old)) (FlatReads r place ks' (reverse new)) (slot_count ks) (slot_count ks') i (ReadsAs place (FlatReads r place ks (reverse old)) x))
  form-ok y ks' new h = search (std_rules, reversed, form-adds)

pub definition-added : {E : Type 0} (res : Result ℕ E) (declarations : List (Text × TypeMeaning)) (ks ks' : List Mark) (old new : List Form) (def : ComponentDefinedType)
    → IfOk res (AddsForm ks old (form.Definition def) ks' new) → IfOk res (λ i. flat_definitions declarations ks' (reverse new) ≡ one_type_more i (flat_definitions declarations ks (reverse old)))
definition-added x declarations ks ks' old new def h = search (std_rules, reversed)

pub function-added : {E : Type 0} (res : Result ℕ E) (declarations : List (Text × TypeMeaning)) (ks ks' : List Mark) (old new : List Form) (def : ComponentFuncType)
    → IfOk res (AddsForm ks old (form.Function def) ks' new) → IfOk res (λ i. flat_definitions declarations ks' (reverse new) ≡ one_function_more i (flat_definitions declarations ks (reverse old)))
function-added x declarations ks ks' old new def h = search (std_rules, reversed)

-- a call that is refused defines nothing
pub nothing-added : {T E : Type 0} (res : Result T E) (declarations : List (Text × TypeMeaning)) (ks ks' : List Mark) (old new : List Form) → OnErr res (ks' ≡ ks) → OnErr res (new ≡ old)
    → OnErr res (flat_definitions declarations ks' (reverse new) ≡ flat_definitions declarations ks (reverse old))
nothing-added (Ok v) declarations ks ks' old new h g = tt
nothing-added (Err e) declarations ks ks' old new h g = λ i. flat_definitions declarations (h i) (reverse (g i))

-- ---- names

-- a slot that stands gets one more name
pub name-added : (r : Resolve) (place : Place) (ks ks' : List Mark) (old new : List Form) (i : ℕ) (name : ComponentExternName) (m : Standing) → FlatReads r place ks (reverse old) i m
    → ks' ≡ mark.Name i ∷ ks → new ≡ old ++ form.Export i name ∷ []
    → NameAdded (FlatReads r place ks (reverse old)) (FlatReads r place ks' (reverse new)) (slot_count ks) (slot_count ks') i (named place (raw_name name).text) None
name-added r place ks ks' old new i name m h e f =
    let l = flat-in_range r place ks (reverse old) i m h in
    rw e (rw (reversed old new (form.Export i name) f) (
      no-slot (slot_count ks),
      record { kept = λ j m q. inl q; new = λ m p. inr (refl, l, p); only = λ j m q. elim q [ inl a ↦ inl a | inr b ↦ inr (b.0, b.2) ] },
    ))

-- what is exported is one declaration more
exports-one : (scope : Scope) (before : Definitions) (slot : Option ℕ) (name : ComponentExternName) (d : Text × TypeMeaning) → Contains scope.declarations d → raw_name name ≡ exported_name d
    → ExportsOne scope before (exports_more slot (option_to_list (find (is_name_of (raw_name name)) scope.declarations)) before) slot (raw_name name)
exports-one scope before slot name d c e = search (std_rules, found-in (is_name_of (raw_name name)) scope.declarations d c (name-passes (raw_name name) d e), name-passes (raw_name name) d e)

pub name-exported : (scope : Scope) (ks ks' : List Mark) (old new : List Form) (i : ℕ) (name : ComponentExternName) (d : Text × TypeMeaning) → Contains scope.declarations d
    → raw_name name ≡ exported_name d → ks' ≡ mark.Name i ∷ ks → new ≡ old ++ form.Export i name ∷ []
    → ExportsOne scope (flat_definitions scope.declarations ks (reverse old)) (flat_definitions scope.declarations ks' (reverse new)) (Some i) (raw_name name)
name-exported scope ks ks' old new i name d c e h f = rw h (rw (reversed old new (form.Export i name) f) (exports-one scope (flat_definitions scope.declarations ks (reverse old)) (Some i) name d c e))

pub resource-exported : {E : Type 0} (res : Result ℕ E) (scope : Scope) (ks ks' : List Mark) (old new : List Form) (name : ComponentExternName) (d : Text × TypeMeaning) → Contains scope.declarations d
    → raw_name name ≡ exported_name d → IfOk res (AddsForm ks old (form.Resource name) ks' new)
    → OnOk res (ExportsOne scope (flat_definitions scope.declarations ks (reverse old)) (flat_definitions scope.declarations ks' (reverse new)) None (raw_name name))
resource-exported (Ok i) scope ks ks' old new name d c e h = rw h.1 (rw (reversed old new (form.Resource name) h.2)
    (exports-one scope (flat_definitions scope.declarations ks (reverse old)) None name d c e))
resource-exported (Err y) scope ks ks' old new name d c e h = h

-- ---- types of other interfaces

pub import-reads : (r : Resolve) (place : Place) (ks : List Mark) (xs : List Form) (n i : ℕ) → import_slot ks n ≡ Some i → FlatReads r place ks xs i (tree (number_tree r n))
import-reads r place [] xs n i e = absurd (not-none i e)
import-reads r place (mark.Form ∷ ks) [] n i e = import-reads r place ks [] n i e
import-reads r place (mark.Form ∷ ks) (x ∷ xs) n i e = inl (import-reads r place ks xs n i e)
import-reads r place (mark.Name j ∷ ks) [] n i e = import-reads r place ks [] n i e
import-reads r place (mark.Name j ∷ ks) (x ∷ xs) n i e = inl (import-reads r place ks xs n i e)
import-reads r place (mark.Import k ∷ ks) xs n i e = go (import-reads r place ks xs n i) (nat_eq n k) refl e
  where
    go : (import_slot ks n ≡ Some i → FlatReads r place ks xs i (tree (number_tree r n))) → (b : Bool) → nat_eq n k ≡ b → cond b (Some (slot_count ks)) (import_slot ks n) ≡ Some i
        → FlatReads r place (mark.Import k ∷ ks) xs i (tree (number_tree r n))
    go more true q e = inr (sym (some-is (slot_count ks) i e), ap (λ (m : ℕ). tree (number_tree r m)) (eqb-true n k q))
    go more false q e = inl (more e)

pub import-ok : {E : Type 0} (res : Result ℕ E) (r : Resolve) (place : Place) (ks : List Mark) (xs : List Form) (n : ℕ) → IfOk res (λ i. import_slot ks n ≡ Some i)
    → IfOk res (λ i. FlatReads r place ks xs i (tree (number_tree r n)))
import-ok x r place ks xs n h = search (std_rules, import-reads)

-- a type that has a slot keeps it, and another one gets the next
pub imports-once : {E : Type 0} (res : Result ℕ E) (e : FlatEncoderOf TypeEncodingMaps) (ks : List Mark) (n : ℕ) → IfOk res (λ i. import_slot ks n ≡ Some i) → OnOk res (Imports e.marks n ks)
    → IfOk res (λ i. ImportsOnce n i e (record e { marks = ks }))
imports-once x e ks n is once = search std_rules

-- for which of them there is a slot
abbrev pub import_known : List Mark → ℕ → Bool
import_known ks = λ n. is_some (import_slot ks n)

-- a form changes nothing of it, and nor does a name
pub form-imports : {E : Type 0} (res : Result ℕ E) (ks ks' : List Mark) (old new : List Form) (x : Form) → IfOk res (AddsForm ks old x ks' new) → OnErr res (ks' ≡ ks)
    → import_known ks' ≡ import_known ks
form-imports x ks ks' old new y h g = search std_rules

pub name-imports : {T E : Type 0} (res : Result T E) (ks ks' : List Mark) (i : ℕ) → OnOk res (ks' ≡ mark.Name i ∷ ks) → OnErr res (ks' ≡ ks) → import_known ks' ≡ import_known ks
name-imports x ks ks' i h g = search std_rules

-- an import adds this one at most
pub import-alone : {E : Type 0} (res : Result ℕ E) (ks ks' : List Mark) (n : ℕ) → OnOk res (Imports ks n ks') → OnErr res (ks' ≡ ks) → (k : ℕ) → import_known ks' k ≡ true
    → (import_known ks k ≡ true) ⊎ (k ≡ n)
import-alone x ks ks' n h g k there = search std_rules
