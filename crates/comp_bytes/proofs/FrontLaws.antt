-- The bytes in front tell which entry, and which type at the top, is read.
use Rattle.std.proofs.Common.{rules as std_rules, ◌≡◌, refl, ℕ, true, cond, eqb, List, [], ◌∷◌, drop, Option, Some, None}
use Rattle.std.proofs.lemmas.Bool.{eqb-true}
use Rattle.std.specs.{Prelude.nat_eq, List.starts_with}
use Rattle.comp_bytes.specs.Raw.{ExternName}
use Rattle.comp_bytes.specs.Reading.{Reader, ◌>>=◌, as_at, pair_at, choose, tagged_at, tag_at, sequence_at, vector_at, declaration_at}
use Rattle.comp_bytes.specs.Levels.{Entry, PartType, wraps, shows, entry_at, world_export_at, wrapper_at, part_behind_at, EntriesByFront, PartTypesByFront}

-- the byte of a component type, or of an instance type, begins no other type
no_component : (bytes : List ℕ) → declaration_at (1 ∷ 0x41 ∷ bytes) ≡ None
unfolding declaration_at tagged_at choose
no_component bytes = refl

no_instance : (bytes : List ℕ) → declaration_at (1 ∷ 0x42 ∷ bytes) ≡ None
unfolding declaration_at tagged_at choose
no_instance bytes = refl

-- two bytes in front of a form
tagged_twice : {A : Type 0} (tag : ℕ) (reader : Reader A) (bytes : List ℕ) → tag_at 1 (tag_at tag reader) bytes ≡ cond (starts_with nat_eq bytes (1 ∷ tag ∷ [])) (reader (drop 2 bytes)) None
unfolding tag_at tagged_at choose
tagged_twice tag reader x = search std_rules

-- bytes that begin with two bytes
begun_with : (tag : ℕ) (bytes : List ℕ) → starts_with nat_eq bytes (1 ∷ tag ∷ []) ≡ true → bytes ≡ 1 ∷ tag ∷ drop 2 bytes
begun_with tag y e = search std_rules

pub entries_by_front : EntriesByFront
unfolding entry_at as_at
entries_by_front bytes = search (std_rules, tagged_twice, no_instance, begun_with)

-- a component type is no entry, so none are read there
no_entry : (n : ℕ) (bytes : List ℕ) → starts_with nat_eq bytes (1 ∷ 0x41 ∷ []) ≡ true → eqb n 2 ≡ true → sequence_at entry_at n bytes ≡ None
unfolding sequence_at as_at
no_entry n bytes begins two = search (std_rules, eqb-true, begun_with, entries_by_front, no_component)

-- what was found, as a type at the top
abbrev as_wrapper : Option ((List Entry × ExternName) × List ℕ) → Option (PartType × List ℕ)
as_wrapper found = found >>= λ w. Some (wraps w.0.0 w.0.1, w.1)

abbrev as_shown : Option (List Entry × List ℕ) → Option (PartType × List ℕ)
as_shown found = found >>= λ es. Some (shows es.0, es.1)

abbrev behind_count : ℕ → List ℕ → Option ((List Entry × ExternName) × List ℕ)
behind_count n text = cond (eqb n 2) (pair_at (tag_at 1 (tag_at 0x41 (vector_at entry_at))) world_export_at text) None

pub part_types_by_front : PartTypesByFront
unfolding part_behind_at wrapper_at vector_at as_at pair_at
part_types_by_front bytes = search (std_rules, tagged_twice, no_entry)
