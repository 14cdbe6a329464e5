use Rattle.std.proofs.Common.{ℕ, ◌+◌, ◌<◌, map}
use Rattle.std.specs.List.{AllByRecursion}
use Rattle.read_follow.specs.{Functions.param_of, Slots.AreInRange}
use Rattle.read_follow.proofs.FunctionKeyLaws.{ParamsSoFar}
use Rattle.read_follow.proofs.signatures.params_of.Given as goal

abbrev pub invariant-loop-param : goal.invariant-loop-param
invariant-loop-param l = record {
  ranges : (n : ℕ) → AreInRange n l.slots → AllByRecursion (λ p. p.1 < 14 + n) (map param_of l.parts.items);
  so_far : ParamsSoFar l.slots l.params l.param-index l.parts.items;
}
