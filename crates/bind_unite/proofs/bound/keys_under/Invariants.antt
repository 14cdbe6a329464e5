use Rattle.std.proofs.Common.{◌≡◌, true, length}
use Rattle.bind_carry.specs.Shown.{are_keys_below}
use Rattle.bind_carry.proofs.KeysGained.{KeysSoFar}
use Rattle.bind_unite.proofs.bound.keys_under.Given as goal

-- the keys in front of those that are left are in the set
abbrev pub invariant-loop-key : goal.invariant-loop-key
invariant-loop-key l = (are_keys_below (length l.interfaces) l.key-iterator ≡ true) × KeysSoFar l.interfaces l.items.entries l.key-iterator l.keys.keys
