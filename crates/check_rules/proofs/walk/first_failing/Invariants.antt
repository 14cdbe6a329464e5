use Rattle.std.proofs.Common.{◌≡◌, ℕ, Bool, drop}
use Rattle.wit_model.specs.Rules.{each_from, Computes}
use Rattle.check_rules.proofs.walk.first_failing.Given as goal

-- what is left to walk decides
abbrev pub invariant-loop-number : goal.invariant-loop-number
invariant-loop-number g l = (test : ℕ → g.row.T.Denot → Bool) → Computes (goal.F-post g) test l.passes → each_from test l.number (drop l.number l.entries) ≡ each_from test 0 l.entries
