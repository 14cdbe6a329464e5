use Rattle.std.proofs.Common.{length}
use Rattle.distinct_names.proofs.+few_are_distinct.Given as goal

-- the things that are left
abbrev pub decreases-few_are_distinct : goal.decreases-few_are_distinct
decreases-few_are_distinct g l = length l.items.now
