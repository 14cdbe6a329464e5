use Rattle.text_types.proofs.{EachLaws.each_at}
use Rattle.text_types.proofs.declared.enum_cases_of.Goals as goal

pub loop-tree-preserved : goal.loop-tree-preserved
loop-tree-preserved c =
    each_at c.args.trees.now c.loop-tree.tree-index (record { docs = record { start = 0; end = 0 }; name = record { start = 0; end = 0 } })
    c.loop-tree.invariant c.loop-tree-test.true
    (record { name = c.in_ok-string_of.ensures.text; docs = c.in_ok-docs_of.ensures.docs }) c.in_ok-push.ensures.items
