use Rattle.std.proofs.Common.{◌≡◌, map, take}
use Rattle.read_rules.specs.Tables.{label_of}
use Rattle.plan_parts.proofs.kinds.names_of.Given as goal

-- the names of so many labels
abbrev pub invariant-loop-label : goal.invariant-loop-label
invariant-loop-label l = map (λ n. n.now) l.names.items ≡ map (λ x. x.0) (map label_of (take l.label-index l.labels))
