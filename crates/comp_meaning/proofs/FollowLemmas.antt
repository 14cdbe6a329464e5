-- Lemmas on the steps of following.
use Rattle.comp_meaning.specs.Follow.{provided}
use Rattle.std.proofs.Common.{rules as std_rules, Bool, Some, ◌≡◌}

pub provided_is : {A : Type 0} (b : Bool) (x y : A) → provided b x ≡ Some y → x ≡ y
provided_is x y u e = search std_rules
