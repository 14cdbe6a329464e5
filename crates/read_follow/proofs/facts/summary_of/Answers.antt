use Rattle.std.proofs.Common.{sym, ap, subst, ◌∙◌, ◌+◌, map, take}
use Rattle.read_follow.specs.declared.facts.Summary.{Summary}
use Rattle.plan_meaning.specs.Shapes.{part_tree}
use Rattle.read_follow.specs.Facts.{with_fact, Sums}
use Rattle.read_follow.proofs.FactLaws.{part_summed, none_taken, all_taken}
use Rattle.read_follow.proofs.facts.summary_of.Goals as goal

pub loop-part-init : goal.loop-part-init
loop-part-init c = λ trees holds ranges. none_taken trees c.args.parts.now

pub loop-part-preserved : goal.loop-part-preserved
loop-part-preserved c = λ trees holds ranges. subst (λ (s : Summary). Sums s (λ place. map (part_tree (trees place)) (take (c.loop-part.part-index + 1) c.args.parts.now)))
    (sym (c.with_fact-summary.ensures ∙ ap (with_fact c.loop-part.summary) c.fact_at.ensures))
    (part_summed c.args.facts.now trees holds c.args.parts.now c.loop-part.part-index c.loop-part.summary c.loop-part-test.true ranges (c.loop-part.invariant trees holds ranges))

pub returns : goal.returns
returns c = λ trees holds ranges. all_taken trees c.args.parts.now c.loop-part.part-index c.loop-part.summary c.loop-part-test.false (c.loop-part.invariant trees holds ranges)
