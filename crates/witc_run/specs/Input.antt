-- What a reader gives up to its end.
use Rattle.std.specs.{Prelude.◌≡◌, Prelude.ℕ, Prelude.List, Prelude.◌++◌, Prelude.Option, Io.KnownBytes.Consumes, Io.KnownBytes.IsAtEnd}
use Rattle.wit_model.specs.declared.error.Error.TheVariants.{Memory}
use Rattle.witc_run.specs.declared.refusal.Refusal.{Refusal}
use Rattle.witc_run.specs.declared.refusal.Refusal.TheVariants as refusals

-- the new bytes have behind the old ones what the reader gave
pub record ReadsPart (left rest : Option (List ℕ)) (old new : List ℕ) : Type 0 where
  pub part : List ℕ
  pub consumed : Consumes left rest part
  pub appended : new ≡ old ++ part

-- the bytes are all that the reader had left, and nothing is left
pub record ReadsWhole (left rest : Option (List ℕ)) (bytes : List ℕ) : Type 0 where
  pub consumed : Consumes left rest bytes
  pub ended : IsAtEnd rest

-- a read failed, or the reader didn't end, or memory was wanting
abbrev pub IsUnread : Refusal → Type 0
IsUnread (refusals.Error error) = error ≡ Memory
IsUnread refusals.Unread = Unit {0}
IsUnread refusals.Invalid = ⊥
