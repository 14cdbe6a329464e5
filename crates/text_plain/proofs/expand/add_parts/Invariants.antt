use Rattle.std.proofs.Common.{take, ◌++◌}
use Rattle.text_plain.specs.Expanding.{members_at}
use Rattle.text_plain.specs.Merging.{members_seen, Becomes}
use Rattle.text_plain.proofs.expand.add_parts.Given as goal

-- what the world has so far of its own is added
abbrev pub invariant-loop-part : goal.invariant-loop-part
invariant-loop-part l = Becomes l.initial.merged.whole.now l.initial.merged.heading (members_seen l.initial.merged ++ members_at l.scope (take l.part-index l.parts)) l.merged
