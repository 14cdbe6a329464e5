-- How long a component under construction is, at least: what doesn't fit makes it too long.
use Rattle.std.proofs.Common.{rules as std_rules, ◌≡◌, ℕ, ◌+◌, ◌^◌, ◌≤◌, Bool, false, List, [], ◌∷◌, ◌++◌, length, map, Result, Ok, Err, IsErrAnd, refl, ap, ◌∙◌, arith, length-append}
use Rattle.std.proofs.lemmas.{Bool.le-ltb, Bool.ltb-false as not_below, List.append-nil, List.Concat.flat_map-append}
use Rattle.std.specs.{Prelude.nat_lt, List.flat_map}
use Rattle.wit_model.specs.declared.error.Error.{Error}
use Rattle.comp_bytes.specs.{Raw.TopType, Raw.TopExport, Raw.Section, Fits.fits_length}
use Rattle.comp_bytes.specs.Writing.{u32_bytes, name_bytes, vector_bytes, extern_name_bytes, top_type_bytes, top_export_bytes, framed, section_bytes, component_bytes}
use Rattle.comp_bytes.specs.Parts.{Part, plain_export, sections_of_parts, top_slots, parts_in, parts_of, fits_component}
use Rattle.comp_bytes.specs.Built.{Group, begun, section_id, closed_bytes, kept_parts, IsBuilt, Builds}
use Rattle.comp_bytes.proofs.PartsLaws.{alone, put_behind, parts_of-sections_of_parts, sections_behind, top_slots-append, top_slots-push}
use Rattle.comp_bytes.proofs.BuiltLaws.{all_sections, closed_begins, group_closed, StandsApart, custom_apart}
use Rattle.wit_model.specs.declared.error.Error.TheVariants as errors

-- a size that is passed on
pub size_passed : {X Y : Type 0} (r : Result X Error) (e : Error) → IsErrAnd r (λ given. given ≡ e) → r ≡ Err errors.Size → ◌≡◌ {A = Result Y Error} (Err e) (Err errors.Size)
size_passed (Ok x) e h is = absurd h
size_passed {X} {Y} (Err given) e h is = search std_rules

-- a component that is too long doesn't fit
too_long : (ps : List Part) → 2 ^ 32 ≤ length (component_bytes (sections_of_parts ps)) → fits_component ps ≡ false
unfolding fits_component
too_long ps le = le-ltb (length (component_bytes (sections_of_parts ps))) (2 ^ 32) le

long_sections : (ps : List Part) (sections : List Section) → sections_of_parts ps ≡ sections → 2 ^ 32 ≤ length (flat_map section_bytes sections) → fits_component ps ≡ false
long_sections ps sections e le = search (std_rules, length-append, too_long)

-- ---- each item has a byte

type_filled : (t : TopType) → 1 ≤ length (top_type_bytes t)
type_filled x = search std_rules

export_filled : (e : TopExport) → 1 ≤ length (top_export_bytes e)
export_filled e = omega (arith, length-append (extern_name_bytes e.exported_as) (3 ∷ (u32_bytes e.type_index ++ 0 ∷ [])))

items_filled : {A : Type 0} (bytes_of : A → List ℕ) → ((x : A) → 1 ≤ length (bytes_of x)) → (xs : List A) → length xs ≤ length (flat_map bytes_of xs)
items_filled bytes_of filled [] = omega arith
items_filled bytes_of filled (x ∷ xs) = omega (arith, filled x, items_filled bytes_of filled xs, length-append (bytes_of x) (flat_map bytes_of xs))

-- a section is longer than its contents
pub framed_longer : (id : ℕ) (contents : List ℕ) → length contents ≤ length (framed id contents)
framed_longer id contents = omega (arith, length-append (u32_bytes (length contents)) contents)

pub vector_longer : {A : Type 0} (bytes_of : A → List ℕ) (xs : List A) → length (flat_map bytes_of xs) ≤ length (vector_bytes bytes_of xs)
vector_longer bytes_of xs = omega (arith, length-append (u32_bytes (length xs)) (flat_map bytes_of xs))

slots-types : (ts : List TopType) → top_slots (map Part.top_type ts) ≡ length ts
slots-types [] = refl
slots-types (t ∷ ts) = omega (arith, slots-types ts)

slots-exports : (es : List TopExport) → top_slots (map Part.top_export es) ≡ length es
slots-exports [] = refl
slots-exports (e ∷ es) = omega (arith, slots-exports es)

section_slots : (s : Section) → top_slots (parts_in s) ≤ length (section_bytes s)
section_slots (Section.types ts) = omega (arith, slots-types ts, items_filled top_type_bytes type_filled ts, vector_longer top_type_bytes ts, framed_longer 7 (vector_bytes top_type_bytes ts))
section_slots (Section.exports es) =
    omega (arith, slots-exports es, items_filled top_export_bytes export_filled es, vector_longer top_export_bytes es, framed_longer 0x0b (vector_bytes top_export_bytes es))
section_slots (Section.custom name contents) = omega arith

all_slots : (sections : List Section) → top_slots (parts_of sections) ≤ length (flat_map section_bytes sections)
all_slots [] = omega arith
all_slots (s ∷ rest) = omega (arith, section_slots s, all_slots rest, top_slots-append (parts_in s) (parts_of rest), length-append (section_bytes s) (flat_map section_bytes rest))

-- too many type indexes
slots_refused : (ps : List Part) → 2 ^ 32 ≤ top_slots ps → fits_component ps ≡ false
slots_refused ps le = long_sections ps (sections_of_parts ps) refl (omega (arith, all_slots (sections_of_parts ps), ap top_slots (parts_of-sections_of_parts ps)))

-- the items of the open section take type indexes
group_slots : (sections : List Section) (g : Group) (done items : List ℕ) (count : ℕ) (exports : Bool) (types : ℕ) → IsBuilt sections g done items count exports types → count ≤ types
group_slots sections x done items count exports types h = search (std_rules, flat_map-append, top_slots-append, append-nil, slots-types, slots-exports)

-- ---- a name that is too long

name_longer : (name : List ℕ) (index : ℕ) → length name ≤ length (top_export_bytes (plain_export name index))
name_longer name index = search (std_rules, length-append)

one_longer : {A : Type 0} (bytes_of : A → List ℕ) (xs : List A) (x : A) → length (bytes_of x) ≤ length (flat_map bytes_of (xs ++ x ∷ []))
one_longer bytes_of [] x = omega (arith, length-append (bytes_of x) [])
one_longer bytes_of (y ∷ xs) x = omega (arith, one_longer bytes_of xs x, length-append (bytes_of y) (flat_map bytes_of (xs ++ x ∷ [])))

exports_longer : (es : List TopExport) (e : TopExport) (rest : List Section) → length (top_export_bytes e) ≤ length (flat_map section_bytes (Section.exports (es ++ e ∷ []) ∷ rest))
exports_longer es e rest = search (std_rules, one_longer, vector_longer, framed_longer, length-append)

export_longer : (sections : List Section) (e : TopExport) → length (top_export_bytes e) ≤ length (flat_map section_bytes (put_behind sections (Part.top_export e)))
export_longer [] e = exports_longer [] e []
export_longer (Section.types ts ∷ []) e = omega (arith, exports_longer [] e [], length-append (section_bytes (Section.types ts)) (flat_map section_bytes (Section.exports (e ∷ []) ∷ [])))
export_longer (Section.exports es ∷ []) e = exports_longer es e []
export_longer (Section.custom name contents ∷ []) e =
    omega (arith, exports_longer [] e [], length-append (section_bytes (Section.custom name contents)) (flat_map section_bytes (Section.exports (e ∷ []) ∷ [])))
export_longer (s ∷ t ∷ rest) e = omega (arith, export_longer (t ∷ rest) e, length-append (section_bytes s) (flat_map section_bytes (put_behind (t ∷ rest) (Part.top_export e))))

-- ---- what is kept, and what it refuses

module _ (done items : List ℕ) (count : ℕ) (exports : Bool) (types : ℕ) (h : Builds done items count exports types) where
  abbrev ps : List Part
  ps = kept_parts done items count exports

  -- too many type indexes with one part more
  pub types_refused : (p : Part) → top_slots (p ∷ []) ≡ 1 → nat_lt (types + 1) (2 ^ 32) ≡ false → fits_component (ps ++ p ∷ []) ≡ false
  types_refused p one e = search (std_rules, not_below, slots_refused, top_slots-push)

  -- too many items with one part more
  pub count_refused : (p : Part) → top_slots (p ∷ []) ≡ 1 → nat_lt (count + 1) (2 ^ 32) ≡ false → fits_component (ps ++ p ∷ []) ≡ false
  count_refused p one e = search (std_rules, not_below, slots_refused, group_slots, top_slots-push)

  -- a name that is too long
  pub name_refused : (name : List ℕ) (index : ℕ) → fits_length name ≡ false → fits_component (ps ++ Part.top_export (plain_export name index) ∷ []) ≡ false
  name_refused name index e = search (std_rules, all_sections, not_below, long_sections, put_behind, sections_behind, name_longer, export_longer)

  -- the open section is too long
  closed_longer : length (closed_bytes (section_id exports) count items) ≤ length (flat_map section_bytes (all_sections done items count exports types h))
  closed_longer = search (std_rules, group_closed, flat_map-append, length-append)

  pub close_refused : 2 ^ 32 ≤ length (closed_bytes (section_id exports) count items) → fits_component ps ≡ false
  close_refused le = long_sections ps (all_sections done items count exports types h) h.grouped (omega (arith, closed_longer))

  -- behind it stands a part of its own
  apart_longer : (p : Part) → StandsApart done items count exports types h p → sections_of_parts (ps ++ p ∷ []) ≡ all_sections done items count exports types h ++ alone p ∷ []
  apart_longer p apart = sections_behind (all_sections done items count exports types h) p h.grouped ∙ apart

  both_longer : (p : Part)
      → length (closed_bytes (section_id exports) count items) + length (section_bytes (alone p)) ≤ length (flat_map section_bytes (all_sections done items count exports types h ++ alone p ∷ []))
  both_longer p = search (std_rules, closed_longer, flat_map-append, all_sections, alone, length-append)

  pub start_refused : (p : Part) → StandsApart done items count exports types h p → 2 ^ 32 ≤ length (closed_bytes (section_id exports) count items) → fits_component (ps ++ p ∷ []) ≡ false
  start_refused p apart le = long_sections (ps ++ p ∷ []) (all_sections done items count exports types h ++ alone p ∷ []) (apart_longer p apart) (omega (arith, both_longer p))

  pub custom_refused : (name contents : List ℕ) → 2 ^ 32 ≤ length (closed_bytes (section_id exports) count items ++ framed 0 (name_bytes name ++ contents))
      → fits_component (ps ++ Part.custom name contents ∷ []) ≡ false
  custom_refused name contents le = long_sections (ps ++ Part.custom name contents ∷ []) (all_sections done items count exports types h ++ Section.custom name contents ∷ [])
      (apart_longer (Part.custom name contents) (custom_apart done items count exports types h name contents))
      (omega (arith, both_longer (Part.custom name contents), length-append (closed_bytes (section_id exports) count items) (framed 0 (name_bytes name ++ contents))))

  -- the whole component is too long
  pub length_refused : (bytes : List ℕ) → bytes ≡ begun done ++ closed_bytes (section_id exports) count items → 2 ^ 32 ≤ length bytes → fits_component ps ≡ false
  length_refused bytes is le = too_long ps (rw h.grouped (rw (is ∙ closed_begins done items count exports types h) at le))
