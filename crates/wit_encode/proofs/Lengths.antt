-- How long the bytes of parts of a component are at most.
use Rattle.std.proofs.Common.{rules as std_rules, ◌≡◌, ℕ, ◌+◌, ◌<◌, ◌≤◌, true, false, ◌&&◌, List, [], ◌∷◌, ◌++◌, length, arith, length-append, append-nil}
use Rattle.std.proofs.lemmas.{List.Sums.sum_by-cons, List.Sums.sum_by-append, Bool.lt-ltb, Bool.ltb-true, Bool.ltb-false, Bool.true≢false}
use Rattle.std.specs.List.{flat_map}
use Rattle.comp_bytes.specs.{Raw.Section, Parts.Part, Parts.with_part, Parts.sections_of_parts, Parts.fits_component}
use Rattle.comp_bytes.specs.Writing.{u32_bytes, name_bytes, vector_bytes, top_type_bytes, top_export_bytes, framed, section_bytes}
use Rattle.encode_types.specs.Room.{limit}
use Rattle.wit_encode.specs.PackageRoom.{part_extent, parts_extent}
use Rattle.base_lemmas.proofs.Numbers.{same_number as same}
use Rattle.comp_bytes.proofs.{BuiltSizes.framed_longer as framed-long, BuiltSizes.vector_longer as vector-long, Writes.length_within as unsigned-short}

-- ---- numbers and names

pub u32-short : (n : ℕ) → length (u32_bytes n) ≤ 5
unfolding u32_bytes
u32-short n = unsigned-short 5 n

pub name-short : (t : List ℕ) → length (name_bytes t) ≤ 5 + length t
name-short t = omega (arith, u32-short (length t), length-append (u32_bytes (length t)) t)

-- ---- sections

framed-short : (id : ℕ) (contents : List ℕ) → length (framed id contents) ≤ 6 + length contents
framed-short id contents = omega (arith, u32-short (length contents), length-append (u32_bytes (length contents)) contents)

pub vector-short : {A : Type 0} (bytes : A → List ℕ) (xs : List A) → length (vector_bytes bytes xs) ≤ 5 + length (flat_map bytes xs)
vector-short bytes xs = omega (arith, u32-short (length xs), length-append (u32_bytes (length xs)) (flat_map bytes xs))

-- a section of items with one more in front
one-more_item : {A : Type 0} (id : ℕ) (bytes : A → List ℕ) (x : A) (xs : List A)
    → length (framed id (vector_bytes bytes (x ∷ xs))) ≤ (11 + length (bytes x)) + length (framed id (vector_bytes bytes xs))
one-more_item id bytes x xs =
    let new = framed-short id (vector_bytes bytes (x ∷ xs)) in
    omega (arith, vector-short bytes (x ∷ xs), length-append (bytes x) (flat_map bytes xs), vector-long bytes xs, framed-long id (vector_bytes bytes xs))

-- a section of one item
first-item : {A : Type 0} (id : ℕ) (bytes : A → List ℕ) (x : A) → length (framed id (vector_bytes bytes (x ∷ []))) ≤ 11 + length (bytes x)
first-item id bytes x = search (std_rules, framed-short id (vector_bytes bytes (x ∷ [])), vector-short bytes (x ∷ []), append-nil (bytes x))

custom-short : (name contents : List ℕ) → length (framed 0 (name_bytes name ++ contents)) ≤ 11 + (length name + length contents)
custom-short name contents = let h = framed-short 0 (name_bytes name ++ contents) in let n = name-short name in let e = length-append (name_bytes name) contents in omega arith

behind : (xs ys : List ℕ) (n m : ℕ) → length xs ≤ n → length ys ≤ m → length (xs ++ ys) ≤ n + m
behind xs ys n m h k = omega (arith, length-append xs ys)

in-place : (new old rest : List ℕ) (n : ℕ) → length new ≤ n + length old → length (new ++ rest) ≤ n + length (old ++ rest)
in-place new old rest n h = omega (arith, length-append new rest, length-append old rest)

part-short : (p : Part) (ss : List Section) → length (flat_map section_bytes (with_part p ss)) ≤ part_extent p + length (flat_map section_bytes ss)
part-short (Part.top_type t) [] = behind (section_bytes (Section.types (t ∷ []))) [] _ 0 (first-item 7 top_type_bytes t) (same 0)
part-short (Part.top_type t) (Section.types ts ∷ rest) = in-place (section_bytes (Section.types (t ∷ ts))) (section_bytes (Section.types ts)) (flat_map section_bytes rest) _
    (one-more_item 7 top_type_bytes t ts)
part-short (Part.top_type t) (Section.exports es ∷ rest) = behind (section_bytes (Section.types (t ∷ []))) (flat_map section_bytes (Section.exports es ∷ rest)) _ _
    (first-item 7 top_type_bytes t) (same _)
part-short (Part.top_type t) (Section.custom name contents ∷ rest) = behind (section_bytes (Section.types (t ∷ []))) (flat_map section_bytes (Section.custom name contents ∷ rest)) _ _
    (first-item 7 top_type_bytes t) (same _)
part-short (Part.top_export e) [] = behind (section_bytes (Section.exports (e ∷ []))) [] _ 0 (first-item 0x0b top_export_bytes e) (same 0)
part-short (Part.top_export e) (Section.types ts ∷ rest) = behind (section_bytes (Section.exports (e ∷ []))) (flat_map section_bytes (Section.types ts ∷ rest)) _ _
    (first-item 0x0b top_export_bytes e) (same _)
part-short (Part.top_export e) (Section.exports es ∷ rest) = in-place (section_bytes (Section.exports (e ∷ es))) (section_bytes (Section.exports es)) (flat_map section_bytes rest) _
    (one-more_item 0x0b top_export_bytes e es)
part-short (Part.top_export e) (Section.custom name contents ∷ rest) =
    behind (section_bytes (Section.exports (e ∷ []))) (flat_map section_bytes (Section.custom name contents ∷ rest)) _ _ (first-item 0x0b top_export_bytes e) (same _)
part-short (Part.custom name contents) ss = behind (section_bytes (Section.custom name contents)) (flat_map section_bytes ss) _ _ (custom-short name contents) (same _)

parts-short : (parts : List Part) → length (flat_map section_bytes (sections_of_parts parts)) ≤ parts_extent parts
parts-short [] = same 0
parts-short (p ∷ parts) = search (std_rules, part-short, sum_by-cons, parts-short parts)

-- ---- components

-- parts that take no more than the limit fit
parts-fit : (parts : List Part) → 8 + parts_extent parts ≤ limit → fits_component parts ≡ true
unfolding fits_component
parts-fit parts h = search (std_rules, parts-short, lt-ltb)

-- parts that don't fit are long, and so are they with others behind them
pub long-parts : (parts more : List Part) → (fits_component parts && fits_component (parts ++ more)) ≡ false → limit < 8 + parts_extent (parts ++ more)
long-parts parts more e = search (std_rules, sum_by-append, parts-fit, true≢false, ltb-true, ltb-false)

pub long-component : (parts : List Part) → fits_component parts ≡ false → limit < 8 + parts_extent parts
long-component parts e = search (std_rules, append-nil parts, long-parts parts)
