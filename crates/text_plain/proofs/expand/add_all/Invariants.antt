use Rattle.std.proofs.Common.{take}
use Rattle.text_plain.specs.Merging.{members_seen, Becomes}
use Rattle.text_plain.specs.Plain.{merged}
use Rattle.text_plain.specs.Scopes.{heading_of}
use Rattle.text_plain.proofs.ExpandLaws.{moved_all}
use Rattle.text_plain.proofs.expand.add_all.Given as goal

-- what came so far is added
abbrev pub invariant-loop-it : goal.invariant-loop-it
invariant-loop-it l = Becomes l.initial.merged.whole.now l.initial.merged.heading
    (merged (heading_of l.initial.merged.whole.now l.initial.merged.heading) (members_seen l.initial.merged) (moved_all l.moving (take l.it-index l.its))) l.merged
