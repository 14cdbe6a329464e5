-- It is the same of those that are left.
use Rattle.std.proofs.Common.{◌≡◌}
use Rattle.print_uses.specs.Printable.{imports_interfaces}
use Rattle.print_packages.proofs.items.has_interfaces.Given as goal

abbrev pub invariant-loop-key : goal.invariant-loop-key
invariant-loop-key l = imports_interfaces l.key-iterator ≡ imports_interfaces l.items.entries
