-- Bodies: declarations that are kept as a part of the input and read again where they are followed.
use Rattle.std.specs.Prelude.{◌≡◌, Bool, true, false, ℕ, List, [], Option, Some, None, if◌then◌else◌, IfSome}
use Rattle.std.specs.Borrow.{Bor}
use Rattle.comp_bytes.specs.Raw.{Declaration}
use Rattle.comp_bytes.specs.{Levels.Entry as RawEntry, Levels.plain, Levels.holds, Levels.entry_at, Reading.Reader, Reading.◌>>=◌, Reading.sequence_at, Reading.declaration_at}
use Rattle.read_follow.specs.declared.bodies.{Body.Body, Entries.Entries, Entry.Entry}
use Rattle.read_follow.specs.Declares.{raw_declared}
use Rattle.read_follow.specs.declared.bodies.Entry.TheVariants as entries

abbrev pub is_import : Declaration → Bool
is_import (Declaration.imported _ _) = true
is_import _ = false

-- a declaration of an instance type, which imports nothing
unfoldable pub held_declaration_at : Reader Declaration
held_declaration_at bytes = do
  d ← declaration_at bytes
  if is_import d.0 then None else Some d

-- the bytes behind what was found
abbrev pub behind : {A : Type 0} → Option (A × List ℕ) → Option (List ℕ)
behind None = None
behind (Some x) = Some x.1

-- the items that were found, none where nothing was found
abbrev pub items_of : {A : Type 0} → Option (List A × List ℕ) → List A
items_of None = []
items_of (Some x) = x.0

-- the items of a body
abbrev pub items_in : {A : Type 0} → Reader A → Body → List A
items_in reader b = items_of (sequence_at reader b.count b.bytes.now)

-- The bytes of a body are so many items, and nothing else.
abbrev pub IsBody : {A : Type 0} → Reader A → Body → Type 0
IsBody reader b = sequence_at reader b.count b.bytes.now ≡ Some (items_in reader b, [])

abbrev pub raw_entry : Entry → RawEntry
raw_entry (entries.Plain d) = plain (raw_declared d)
raw_entry (entries.Holds b) = holds (items_in held_declaration_at b)

-- if the entry is an instance type, then its bytes are its declarations
abbrev pub IsWhole : Entry → Type 0
IsWhole (entries.Plain d) = Unit {0}
IsWhole (entries.Holds b) = IsBody held_declaration_at b

-- the instance type stands in front of the bytes, and these others behind it
abbrev pub IsInFront : Body × Bor (List ℕ) → List ℕ → Type 0
IsInFront first bytes = IsBody held_declaration_at first.0 × (entry_at bytes ≡ Some (holds (items_in held_declaration_at first.0), first.1.now))

-- the bytes of the body are its entries, and if a first one is kept, it stands in front of them
pub record AreEntries (es : Entries) : Type 0 where
  pub whole : IsBody entry_at es.body
  pub first : IfSome es.first (λ first. IsInFront first es.body.bytes.now)
