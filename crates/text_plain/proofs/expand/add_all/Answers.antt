use Rattle.std.proofs.Common.{◌∙◌, ap, sym, refl}
use Rattle.text_trees.specs.TreesSeen.{world_member_of}
use Rattle.text_plain.specs.Merging.{members_seen}
use Rattle.text_plain.specs.Scopes.{heading_of}
use Rattle.text_plain.proofs.ExpandLaws.{merged_turn}
use Rattle.text_plain.proofs.expand.add_all.Goals as goal

pub loop-it-preserved : goal.loop-it-preserved
loop-it-preserved c = merged_turn c.args.moving.now c.args.merged.now.whole.now c.args.merged.now.heading (heading_of c.args.merged.now.whole.now c.args.merged.now.heading)
    (members_seen c.args.merged.now) c.args.its.now c.loop-it.it-index c.it-item.result c.loop-it.merged c.add_included.new.merged c.in_ok-copy_world_member.field-0 c.loop-it-test.true c.it-item.is
    refl c.loop-it.invariant
    (ap (λ t. world_member_of t c.in_ok-copy_world_member.field-0) (c.loop-it.invariant.whole_is ∙ sym c.requires.whole) ∙ c.in_ok-copy_world_member.ensures)
    c.in_ok-add_included.ensures
