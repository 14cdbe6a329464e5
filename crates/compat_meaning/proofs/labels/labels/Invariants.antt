use Rattle.std.proofs.Common.{◌≡◌, map, take}
use Rattle.compat_meaning.proofs.labels.labels.Given as goal

-- the names so far
abbrev pub invariant-loop-member : goal.invariant-loop-member
invariant-loop-member g l = map (λ s. s.now) l.labels.items ≡ map g.T.Named.name_of (take l.member-index l.members)
