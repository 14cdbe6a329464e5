-- A slot that stands for something is one of those that there are.
use Rattle.std.specs.Prelude.{ℕ, ◌<◌, List, [], ◌∷◌, length}
use Prim.Native.Nat.{zero, suc}
use Rattle.std.proofs.Common.{arith}
use Rattle.comp_meaning.specs.Follow.{Slot}
use Rattle.encode_types.specs.Slots.{Standing}
use Rattle.wit_encode.specs.Instance.{SlotsStand}

pub slots-in_range : (xs : List Slot) (i : ℕ) (m : Standing) → SlotsStand xs i m → i < length xs
slots-in_range [] i m h = absurd (let z : ⊥ = cc in z)
slots-in_range (y ∷ ys) zero m h = omega arith
slots-in_range (y ∷ ys) (suc i) m h = let l = slots-in_range ys i m h in omega arith
