use Rattle.std.proofs.Common.{◌≡◌, drop}
use Rattle.comp_read.specs.Causes.{has_deep}
use Rattle.comp_read.proofs.causes.has_deep_type.Given as goal

-- what is left decides
abbrev pub invariant-loop-fact : goal.invariant-loop-fact
invariant-loop-fact l = has_deep (drop l.fact-index l.tables.facts.now) ≡ has_deep l.tables.facts.now
