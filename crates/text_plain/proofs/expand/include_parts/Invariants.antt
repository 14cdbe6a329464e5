use Rattle.std.proofs.Common.{take}
use Rattle.text_plain.specs.Expanding.{inclusions_at, Takes}
use Rattle.text_plain.proofs.expand.include_parts.Given as goal

-- what is included so far has come
abbrev pub invariant-loop-part : goal.invariant-loop-part
invariant-loop-part l = Takes l.worlds (inclusions_at l.scope (take l.part-index l.parts)) l.initial.merged l.merged
