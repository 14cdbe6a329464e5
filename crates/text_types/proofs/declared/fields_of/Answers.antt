use Rattle.text_types.proofs.{Growth.placed, Growth.grows_join, EachLaws.each_more, DeclaredLaws.field_stays}
use Rattle.text_types.proofs.declared.fields_of.Goals as goal

pub lowered-requires : goal.lowered-requires
lowered-requires c = placed c.loop-tree.invariant.grows c.requires

pub loop-tree-preserved : goal.loop-tree-preserved
loop-tree-preserved c = record {
  grows = grows_join c.loop-tree.invariant.grows c.in_ok-ty.ensures.grows;
  each = each_more c.args.trees.now c.loop-tree.tree-index c.tree-item.result (λ tree field k. field_stays c.in_ok-ty.ensures.grows.defs _ _ k)
      c.loop-tree.invariant.each
      c.loop-tree-test.true c.tree-item.is
      (record { name = c.in_ok-string_of.ensures.text; ty = c.in_ok-ty.ensures.stands; docs = c.in_ok-docs_of.ensures.docs }) c.in_ok-push.ensures.items;
}
