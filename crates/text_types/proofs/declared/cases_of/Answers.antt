use Rattle.text_types.proofs.{Growth.placed, Growth.grows_join, EachLaws.each_more, DeclaredLaws.case_stays}
use Rattle.text_types.proofs.declared.cases_of.Goals as goal

pub lowered_if_given-requires : goal.lowered_if_given-requires
lowered_if_given-requires c = placed c.loop-tree.invariant.grows c.requires

pub loop-tree-preserved : goal.loop-tree-preserved
loop-tree-preserved c = record {
  grows = grows_join c.loop-tree.invariant.grows c.in_ok-ty.ensures.grows;
  each = each_more c.args.trees.now c.loop-tree.tree-index c.tree-item.result (λ tree case k. case_stays c.in_ok-ty.ensures.grows.defs _ _ k)
      c.loop-tree.invariant.each
      c.loop-tree-test.true c.tree-item.is
      (record { name = c.in_ok-string_of.ensures.text; payload = c.in_ok-ty.ensures.is; docs = c.in_ok-docs_of.ensures.docs })
      c.in_ok-push.ensures.items;
}
