-- What the slots of a flat encoder stand for: each is read with what was added before it.
use Rattle.std.specs.Prelude.{ℕ, ◌^◌, ◌+◌, ◌<◌, ◌≡◌, ◌⊎◌, ◌&&◌, ◌||◌, Bool, true, false, nat_eq, nat_lt, List, [], ◌∷◌, ◌++◌, reverse, Option, Some, None, option_to_list, is_some}
use Rattle.std.specs.{List.find, Option.option_eq}
use Rattle.std.proofs.Common.{inl, inr, arith}
use Rattle.wit_model.specs.{Text.Text, Text.text_eq, Tree.Place, Tree.named, Types.number_tree, Meaning.TypeMeaning, Lookup.place_of}
use Rattle.wit_model.specs.declared.model.Resolve.{Resolve}
use Rattle.comp_bytes.specs.{Raw.ExternName, RawOf.raw_name}
use Rattle.encode_types.specs.declared.maps.TypeEncodingMaps.{TypeEncodingMaps}
use Rattle.encode_types.specs.{Slots.Defines, Slots.DefinesFunction, Slots.Pairs, Slots.Standing, Slots.tree, Table.table_scope, View.AddsSlot, View.View}
use Rattle.encode_types.specs.{Counts.Definitions, Counts.one_type_more, Counts.one_function_more, Known.no_around}
use Rattle.encode_flat.specs.declared.{encoder.FlatEncoderOf.FlatEncoderOf, forms.Form.Form, marks.Mark.Mark}
use Rattle.encode_flat.specs.Marked.{import_slot, mark_count, slot_count}
use Rattle.encode_flat.specs.declared.forms.Form.TheVariants as form
use Rattle.encode_flat.specs.declared.marks.Mark.TheVariants as mark

-- what a form stands for, after the slots that say S
abbrev pub ReadsAs : Place → Pairs → Form → Standing → Type 0
ReadsAs place S (form.Definition d) m = Defines S d m
ReadsAs place S (form.Function f) m = DefinesFunction S f m
ReadsAs place S (form.Export i name) m = m ≡ tree (named place (raw_name name).text)
ReadsAs place S (form.Resource name) m = m ≡ tree (named place (raw_name name).text)

-- What the slots stand for, by what was added and its forms, the latest first. A name is one more name of a slot that stands, and a type of another
-- interface has no form.
abbrev pub FlatReads : Resolve → Place → List Mark → List Form → Pairs
FlatReads r place [] xs i m = ⊥
FlatReads r place (mark.Import n ∷ ks) xs i m = FlatReads r place ks xs i m ⊎ ((i ≡ slot_count ks) × (m ≡ tree (number_tree r n)))
FlatReads r place (mark.Form ∷ ks) [] i m = FlatReads r place ks [] i m
FlatReads r place (mark.Form ∷ ks) (x ∷ xs) i m = FlatReads r place ks xs i m ⊎ ((i ≡ slot_count ks) × ReadsAs place (FlatReads r place ks xs) x m)
FlatReads r place (mark.Name j ∷ ks) [] i m = FlatReads r place ks [] i m
FlatReads r place (mark.Name j ∷ ks) (x ∷ xs) i m = FlatReads r place ks xs i m ⊎ ((i ≡ j) × (j < slot_count ks) × ReadsAs place (FlatReads r place ks xs) x m)

-- ---- what has been defined and exported

-- whether a name declares this: the same text and the same external id
abbrev pub is_name_of : ExternName → Text × TypeMeaning → Bool
is_name_of name d = text_eq name.text d.0 && option_eq text_eq name.external_id d.1.external_id

-- the declaration that a form exports
abbrev pub exported_by : List (Text × TypeMeaning) → Form → List (Text × TypeMeaning)
exported_by declarations (form.Export i name) = option_to_list (find (is_name_of (raw_name name)) declarations)
exported_by declarations (form.Resource name) = option_to_list (find (is_name_of (raw_name name)) declarations)
exported_by declarations _ = []

-- the slot whose type a form exports, if it exports one
abbrev pub exported_slot : Form → Option ℕ
exported_slot (form.Export i name) = Some i
exported_slot _ = None

-- one declaration more, from this slot or from none
abbrev pub exports_more : Option ℕ → List (Text × TypeMeaning) → Definitions → Definitions
exports_more slot more before = record {
  types = before.types;
  exported = before.exported ++ option_to_list slot;
  functions = before.functions;
  exports =
      before.exports ++ more;
}

-- what a form defines, in this slot, or exports
abbrev pub defined_by : List (Text × TypeMeaning) → ℕ → Form → Definitions → Definitions
defined_by declarations k (form.Definition d) before = one_type_more k before
defined_by declarations k (form.Function f) before = one_function_more k before
defined_by declarations k x before = exports_more (exported_slot x) (exported_by declarations x) before

-- what has been defined and exported, by what was added and its forms
abbrev pub flat_definitions : List (Text × TypeMeaning) → List Mark → List Form → Definitions
flat_definitions declarations [] xs = record { types = []; exported = []; functions = []; exports = [] }
flat_definitions declarations (mark.Import n ∷ ks) xs = flat_definitions declarations ks xs
flat_definitions declarations (mark.Form ∷ ks) [] = flat_definitions declarations ks []
flat_definitions declarations (mark.Form ∷ ks) (x ∷ xs) = defined_by declarations (slot_count ks) x (flat_definitions declarations ks xs)
flat_definitions declarations (mark.Name j ∷ ks) [] = flat_definitions declarations ks []
flat_definitions declarations (mark.Name j ∷ ks) (x ∷ xs) = defined_by declarations j x (flat_definitions declarations ks xs)

-- the forms, the latest first
abbrev pub forms_of : FlatEncoderOf TypeEncodingMaps → List Form
forms_of e = reverse e.forms.items

-- whether a type of another interface has a slot
abbrev pub has_import : FlatEncoderOf TypeEncodingMaps → ℕ → Bool
has_import e n = is_some (import_slot e.marks n)

-- what a flat encoder holds, as its user sees it
abbrev pub flat_view : FlatEncoderOf TypeEncodingMaps → View
flat_view e = record {
  scope = table_scope e.resolve.now e.owner;
  around = no_around;
  imports = has_import e;
  slot_count = slot_count e.marks;
  stands = FlatReads e.resolve.now (place_of e.resolve.now e.owner) e.marks (forms_of e);
  definitions = flat_definitions (table_scope e.resolve.now e.owner).declarations e.marks (forms_of e);
  maps = e.maps;
  held = mark_count e.marks;
  extent = 0;
  lacks_room = λ request. nat_lt (slot_count e.marks + 1) (2 ^ 32) ≡ false;
  own = λ ns. Unit {0};
}

-- A type of another interface that has a slot keeps it, and the encoder is as it was. Another one gets the next slot, which is answered and stands for
-- the type. No other type gets one.
pub record ImportsOnce (n i : ℕ) (e e' : FlatEncoderOf TypeEncodingMaps) : Type 0 where
  pub again : has_import e n ≡ true → e' ≡ e
  pub first : has_import e n ≡ false → AddsSlot (flat_view e) (flat_view e') i (λ m. m ≡ tree (number_tree e.resolve.now n))
  pub others : (k : ℕ) → has_import e' k ≡ (nat_eq k n || has_import e k)

pub flat-in_range : (r : Resolve) (place : Place) (ks : List Mark) (xs : List Form) (i : ℕ) (m : Standing) → FlatReads r place ks xs i m → i < slot_count ks
flat-in_range r place [] xs i m h = absurd h
flat-in_range r place (mark.Import n ∷ ks) xs i m (inl h) = let l = flat-in_range r place ks xs i m h in omega arith
flat-in_range r place (mark.Import n ∷ ks) xs i m (inr h) = let e = h.0 in omega arith
flat-in_range r place (mark.Form ∷ ks) [] i m h = let l = flat-in_range r place ks [] i m h in omega arith
flat-in_range r place (mark.Form ∷ ks) (x ∷ xs) i m (inl h) = let l = flat-in_range r place ks xs i m h in omega arith
flat-in_range r place (mark.Form ∷ ks) (x ∷ xs) i m (inr h) = let e = h.0 in omega arith
flat-in_range r place (mark.Name j ∷ ks) [] i m h = let l = flat-in_range r place ks [] i m h in omega arith
flat-in_range r place (mark.Name j ∷ ks) (x ∷ xs) i m (inl h) = let l = flat-in_range r place ks xs i m h in omega arith
flat-in_range r place (mark.Name j ∷ ks) (x ∷ xs) i m (inr h) = let e = h.0 in let l = h.1 in omega arith
