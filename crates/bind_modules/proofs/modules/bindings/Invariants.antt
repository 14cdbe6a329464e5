use Rattle.std.proofs.Common.{◌+◌, ◌≤◌, length}
use Rattle.bind_names.specs.Named.{AreNamed}
use Rattle.bind_modules.specs.BoundTo.{IsBoundTo}
use Rattle.bind_modules.proofs.modules.bindings.Given as goal

-- The sections in front have been bound, and those counted that carry worlds, which have a byte each at least; and the packages of what is bound are known by
-- their names.
abbrev pub invariant-loop-rest : goal.invariant-loop-rest
invariant-loop-rest l = IsBoundTo l.fn.bytes l.bound l.count l.rest × AreNamed l.bound.resolve.packages.items l.named × (l.count + length l.rest ≤ length l.fn.bytes)

abbrev pub decreases-loop-rest : goal.decreases-loop-rest
decreases-loop-rest l = length l.rest
