-- Worked examples: what modules bind, or are refused for, and what the data of a section says of its encoding.
use Rattle.std.proofs.Common.{rules as std_rules, ◌≡◌, refl, sym, ap, ℕ, List, [], ◌∷◌, ◌++◌, append-nil, length, Ok, Err}
use mathlib.Core.Logic.{inl}
use Rattle.std.specs.{Prelude.Result, Prelude.codes, Str.is_utf8, Str.chars}
use lib.Utf8.{encode}
use Rattle.wit_model.specs.declared.{error.Cause.TheVariants.Truncated, error.Error.Error, model.StringEncoding.StringEncoding}
use Rattle.comp_bytes.specs.{Frames.IsCustom, Frames.IsFrame, Laws.Taken, Raw.Section, Spelling.preamble}
use Rattle.comp_bytes.specs.Reading.{byte_at, counted_at, frame_at, name_at, pair_at, u32_at, unsigned_at}
use Rattle.comp_bytes.proofs.{ComponentLaws.frame_law, PartLaws.name_law}
use Rattle.bind_meaning.specs.Roots.{root_binding}
use Rattle.wit_metadata.specs.{Carried.contents_under, Carried.last_of, Encodings.section_name, Modules.IsFrontless, Modules.module_preamble, Said.said_by}
use Rattle.bind_sections.specs.{SectionBindings.RefusesSection, Bound.CarryData, Bound.IsBound, Bound.IsRefused}
use Rattle.wit_model.specs.declared.error.Error.TheVariants as errors
use Rattle.wit_model.specs.declared.model.StringEncoding.TheVariants as encodings

-- how many bytes there are
abbrev count : List ℕ → ℕ
count bytes = length bytes

-- what worked examples unfold
unfoldable frames : ℕ
unfolding frame_at name_at counted_at u32_at unsigned_at pair_at byte_at is_utf8 chars encode
frames = 0

nothing-in-front : IsFrontless []
unfolding frames
nothing-in-front f rest h = search std_rules

-- ---- modules without a section that carries a world

-- a preamble alone binds the empty root world
preamble_alone : IsBound module_preamble root_binding
preamble_alone = record { sections = []; stand = record { front = []; parts = refl; sections = (refl, tt); ends = nothing-in-front }; data_ = []; carry = CarryData.none; binds = refl }

-- bytes that begin no module: none, and those of a component
no_bytes : IsRefused [] errors.NotAModule
no_bytes = IsRefused.no_module (λ rest is. let wrong : count [] ≡ count (module_preamble ++ rest) = ap count is in let no : ⊥ = cc in no) refl

component_bytes : (rest : List ℕ) → IsRefused (preamble ++ rest) errors.NotAModule
component_bytes more = search std_rules

-- a byte behind the preamble that begins no section
one_byte : IsFrontless (0 ∷ [])
unfolding frames
one_byte f rest h = search (std_rules, frame_law.again f h.front rest h.framed_)

left_over : IsRefused (module_preamble ++ 0 ∷ []) (errors.BadModule 8)
left_over = IsRefused.first [] (0 ∷ []) [] (record { front = []; parts = refl; sections = (refl, tt); ends = one_byte }) CarryData.none
    ((λ is. let wrong : count (0 ∷ []) ≡ count [] = ap count is in let no : ⊥ = cc in no), refl)

-- ---- a section in the format of before there were versions

abbrev old_contents : List ℕ
old_contents = (0x0e ∷ codes "component-type") ++ 3 ∷ []

abbrev old_section : List ℕ
old_section = 0x00 ∷ 0x10 ∷ old_contents

old_frame : Taken IsFrame old_section (0, old_contents) []
unfolding frames
old_frame = frame_law.takes old_section (0, old_contents) [] refl

old_custom : IsCustom (codes "component-type", 3 ∷ []) old_contents
unfolding frames
old_custom = let name = name_law.takes old_contents (codes "component-type") (3 ∷ []) refl in (name.front, 3 ∷ [], name.parts, name.spelled, refl)

historical : IsRefused (module_preamble ++ old_section) errors.Historical
historical = IsRefused.first ((0, old_contents) ∷ []) [] ((3 ∷ []) ∷ []) (record {
  front = old_section;
  parts = ap (λ (t : List ℕ). module_preamble ++ t) (sym (append-nil old_section));
  sections = ((old_frame.front, [], old_frame.parts, old_frame.spelled, refl), ((λ is. ((codes "component-type", 3 ∷ []), old_custom)), tt));
  ends = nothing-in-front;
}) (CarryData.carrying (0, old_contents) [] (codes "component-type", 3 ∷ []) [] refl old_custom refl CarryData.none) (inl (RefusesSection.historical [] refl refl))

-- ---- a section without data

abbrev empty_contents : List ℕ
empty_contents = 0x0e ∷ codes "component-type"

abbrev empty_section : List ℕ
empty_section = 0x00 ∷ 0x0f ∷ empty_contents

empty_frame : Taken IsFrame empty_section (0, empty_contents) []
unfolding frames
empty_frame = frame_law.takes empty_section (0, empty_contents) [] refl

empty_custom : IsCustom (codes "component-type", []) empty_contents
unfolding frames
empty_custom = let name = name_law.takes empty_contents (codes "component-type") [] refl in (name.front, [], name.parts, name.spelled, refl)

no_data : IsRefused (module_preamble ++ empty_section) (errors.NoReading Truncated 0)
no_data = IsRefused.first ((0, empty_contents) ∷ []) [] ([] ∷ []) (record {
  front = empty_section;
  parts = ap (λ (t : List ℕ). module_preamble ++ t) (sym (append-nil empty_section));
  sections = ((empty_frame.front, [], empty_frame.parts, empty_frame.spelled, refl), ((λ is. ((codes "component-type", []), empty_custom)), tt));
  ends = nothing-in-front;
}) (CarryData.carrying (0, empty_contents) [] (codes "component-type", []) [] refl empty_custom refl CarryData.none) (inl (RefusesSection.empty refl refl))

-- ---- what is said of the encoding

abbrev says : List ℕ → Section
says contents = Section.custom section_name contents

abbrev Answer : Type 0
Answer = Result StringEncoding Error

answer : List Section → Answer
answer sections = said_by (last_of (contents_under section_name sections))

missing : answer [] ≡ Err errors.EncodingMissing
unfolding answer
missing = refl

empty : answer (says [] ∷ []) ≡ Err errors.EncodingUnknownFormat
unfolding answer
empty = refl

one_byte_said : answer (says (4 ∷ []) ∷ []) ≡ Err (errors.EncodingVersion 4)
unfolding answer
one_byte_said = refl

three_bytes : answer (says (4 ∷ 0 ∷ 0 ∷ []) ∷ []) ≡ Err (errors.EncodingVersion 4)
unfolding answer
three_bytes = refl

bad_encoding : answer (says (4 ∷ 3 ∷ []) ∷ []) ≡ Err (errors.BadStringEncoding 3)
unfolding answer
bad_encoding = refl

-- of two the last counts
last_counts : answer (says (4 ∷ 0 ∷ []) ∷ says (4 ∷ 1 ∷ []) ∷ []) ≡ Ok encodings.UTF16
unfolding answer
last_counts = refl
