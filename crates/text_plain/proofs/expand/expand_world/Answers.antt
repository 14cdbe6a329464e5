use Rattle.std.proofs.Common.{subst, List, ◌++◌}
use Rattle.text_trees.specs.declared.tree.WorldPart.{WorldPart}
use Rattle.text_plain.specs.Expanding.{inclusions_at, members_at, Takes}
use Rattle.text_plain.specs.Merging.{members_seen, Becomes}
use Rattle.text_plain.proofs.ExpandLaws.{world_expanded}
use Rattle.text_plain.proofs.expand.expand_world.Goals as goal

pub returns : goal.returns
returns c = world_expanded c.args.worlds.now c.args.world.now c.nothing_merged-merged.result c.add_parts.new.merged c.include_parts.new.merged c.requires.placed c.nothing_merged-merged.ensures
    (subst (λ (l : List WorldPart). Becomes c.nothing_merged-merged.result.whole.now c.nothing_merged-merged.result.heading
    (members_seen c.nothing_merged-merged.result ++ members_at c.args.world.now.scope.now l) c.add_parts.new.merged) c.deref.ensures.value c.in_ok-add_parts.ensures)
    (subst (λ (l : List WorldPart). Takes c.args.worlds.now (inclusions_at c.args.world.now.scope.now l) c.add_parts.new.merged c.include_parts.new.merged) c.deref-2.ensures.value
    c.in_ok-include_parts.ensures)
