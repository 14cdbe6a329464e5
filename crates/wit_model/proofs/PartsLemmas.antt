-- Owners of types are the same exactly where the test of it passes.
use Rattle.std.proofs.Common.{rules as std_rules, true, ◌≡◌}
use Rattle.wit_model.specs.Parts.{same_owner}
use Rattle.wit_model.specs.declared.model.TypeOwner.{TypeOwner}

pub owner_same : (a b : TypeOwner) → same_owner a b ≡ true → a ≡ b
owner_same x y e = search std_rules

pub owner_itself : (a : TypeOwner) → same_owner a a ≡ true
owner_itself x = search std_rules
