use Rattle.std.proofs.Common.{◌≡◌, ◌+◌, drop, length}
use Rattle.bind_carry.specs.Numbers.{copied_count}
use Rattle.bind_carry.proofs.whole.interface_places.Given as goal

-- with those that are left there are as many places as flags are set
abbrev pub invariant-loop-is_carried : goal.invariant-loop-is_carried
invariant-loop-is_carried l = length l.places.items + copied_count (drop l.is_carried-index l.carried) ≡ copied_count l.carried
