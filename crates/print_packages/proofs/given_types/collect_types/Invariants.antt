-- What is listed is what the iterator gave.
use Rattle.std.proofs.Common.{◌≡◌}
use Rattle.print_packages.proofs.given_types.collect_types.Given as goal

abbrev pub invariant-loop-entry : goal.invariant-loop-entry
invariant-loop-entry g l = l.listed.items ≡ l.yielded
