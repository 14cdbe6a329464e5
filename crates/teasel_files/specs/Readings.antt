-- What a reader gives, as it is read.
use Rattle.std.specs.Prelude.{◌≡◌, ℕ, Bool, false, ◌||◌, List, [], ◌∷◌, ◌++◌, nat_eq, Option}
use Rattle.std.specs.{Io.KnownBytes.Consumes, Io.KnownBytes.IsAtEnd, List.starts_with}
use Rattle.teasel_files.specs.declared.input.Reading.{Reading}
use Rattle.teasel_files.specs.declared.input.Reading.TheVariants as readings
use Rattle.teasel_messages.specs.Looks.{begins_as_wasm}

-- whether bytes, as many as there are, may be the beginning of WebAssembly
abbrev pub may_begin : List ℕ → Bool
may_begin bytes = starts_with nat_eq (0 ∷ 97 ∷ 115 ∷ 109 ∷ []) bytes || begins_as_wasm bytes

-- The bytes are all that the reader had left, and nothing is left.
pub record ReadsWhole (left rest : Option (List ℕ)) (bytes : List ℕ) : Type 0 where
  pub consumed : Consumes left rest bytes
  pub ended : IsAtEnd rest

-- what is known after a call: nothing more, or that nothing is left, or that these bytes don't begin as WebAssembly does
abbrev pub Knows : Option (List ℕ) → List ℕ → Reading → Type 0
Knows rest bytes readings.More = Unit {0}
Knows rest bytes readings.Ended = IsAtEnd rest
Knows rest bytes readings.Foreign = may_begin bytes ≡ false

-- The new bytes have behind the old ones what the reader gave, and this is known of them.
pub record IsReading (left rest : Option (List ℕ)) (old new : List ℕ) (r : Reading) : Type 0 where
  pub part : List ℕ
  pub consumed : Consumes left rest part
  pub appended : new ≡ old ++ part
  pub known : Knows rest new r
