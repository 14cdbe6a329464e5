use Rattle.std.proofs.Common.{◌≡◌, ℕ, ◌<◌, length}
use Rattle.wit_model.specs.{Checks.flags, Parts.is_resource}
use Rattle.check_rules.proofs.resources.resource_table.Given as goal

abbrev pub invariant-loop-def : goal.invariant-loop-def
invariant-loop-def l = record { made : length l.table.items ≡ l.def-index; right : (n : ℕ) → n < l.def-index → flags l.table.items n ≡ is_resource l.resolve n }
