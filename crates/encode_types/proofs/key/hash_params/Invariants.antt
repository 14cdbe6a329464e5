use Rattle.std.proofs.Common.{◌≡◌, ◌≤◌, length, take}
use Rattle.std.specs.List.{flat_map, fold}
use Rattle.encode_types.specs.Key.{param_writes}
use Rattle.encode_types.proofs.key.hash_params.Given as goal

abbrev pub invariant-loop-i : goal.invariant-loop-i
invariant-loop-i g l = (l.i ≤ length l.params) × (l.state ≡ fold g.H.Hasher.write l.initial.state (flat_map param_writes (take l.i l.params)))
