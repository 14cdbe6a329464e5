-- What text may stand in front of a line.
use Rattle.std.proofs.Common.{rules as std_rules, Bool, IsTrue, List, ℕ}
use Rattle.print_output.specs.OutputCall.{has_no_space_first, may_begin}
use Rattle.print_items.proofs.Driven.{call_made, call_passed}

-- text without a space at its front may stand anywhere
pub front_anywhere : (b : Bool) (text : List ℕ) → IsTrue (has_no_space_first text) → IsTrue (may_begin b text)
front_anywhere x text h = search std_rules

pub ruleset fronts = (front_anywhere, call_made, call_passed)
