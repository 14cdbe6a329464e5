-- The full name of an interface that has a path.
use Rattle.std.proofs.Common.{rules as std_rules, Some, ℕ, ◌≡◌}
use Rattle.wit_model.proofs.OnePath.{HasPath}
use Rattle.wit_model.specs.{Paths.full_name, Text.Text}
use Rattle.wit_model.specs.declared.model.Resolve.{Resolve}

pub named_in_full : (r : Resolve) (n : ℕ) (path : Text) (h : HasPath r n path) → full_name r n ≡ Some (h.package_.name, h.name)
named_in_full r n path h = search std_rules
