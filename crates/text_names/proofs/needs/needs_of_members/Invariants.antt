use Rattle.std.proofs.Common.{take}
use Rattle.std.specs.List.{AllZip}
use Rattle.text_names.specs.Paths.{IsNeedOf, paths_of}
use Rattle.text_names.proofs.needs.needs_of_members.Given as goal

-- the needs are those of the members so far
abbrev pub invariant-loop-member : goal.invariant-loop-member
invariant-loop-member l = AllZip (IsNeedOf l.sources l.text l.own) (paths_of (take l.member-index l.members)) l.needs.items
