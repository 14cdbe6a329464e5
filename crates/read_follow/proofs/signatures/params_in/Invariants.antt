use Rattle.std.proofs.Common.{◌≡◌, ℕ, ◌+◌, ◌-◌, ◌<◌, List, map}
use Rattle.std.specs.List.{AllByRecursion}
use Rattle.wit_model.specs.{Meaning.Signature, Tree.Tree}
use Rattle.comp_bytes.specs.Reading.{field_at, sequence_at}
use Rattle.comp_bytes.proofs.SequenceSteps.{with_front}
use Rattle.comp_meaning.specs.Follow.{field_type}
use Rattle.read_follow.specs.{Functions.param_of, ReadKeys.made_at, ReadKeys.param_meant, Slots.slots_in, Slots.AreInRange}
use Rattle.read_follow.proofs.signatures.params_in.Given as goal

abbrev pub invariant-loop : goal.invariant-loop
invariant-loop l = record {
  ranges : (n : ℕ) → AreInRange n l.slots → AllByRecursion (λ p. p.1 < 14 + n) (map param_of l.params.items);
  so_far : (T : List Tree) (F : List Signature)
      → with_front (map (param_meant T) l.params.items) (sequence_at (made_at (field_type (slots_in T F l.slots)) field_at) (l.fn.count - l.counter) l.rest)
      ≡ sequence_at (made_at (field_type (slots_in T F l.slots)) field_at) l.fn.count l.fn.bytes;
}
