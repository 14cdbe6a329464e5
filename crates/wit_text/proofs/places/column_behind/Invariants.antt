use Rattle.std.proofs.Common.{◌≡◌, ◌≤◌, ℕ, List, take}
use Rattle.std.specs.List.{fold}
use Rattle.wit_text.specs.Places.{since_line_feed}
use Rattle.wit_text.proofs.places.column_behind.Given as goal

-- the characters so far, at most one for each byte
pub record IsCounted (bytes : List ℕ) (i count : ℕ) : Type 0 where
  pub is : count ≡ fold since_line_feed 0 (take i bytes)
  pub small : count ≤ i

abbrev pub invariant-loop-byte : goal.invariant-loop-byte
invariant-loop-byte l = IsCounted l.before l.byte-index l.count
