use Rattle.std.proofs.Common.{◌∙◌, ap, refl, arith}
use Rattle.text_trees.specs.TreesSeen.{head_of}
use Rattle.text_plain.proofs.ScopeLaws.{span_copied}
use Rattle.text_plain.proofs.WorldLaws.{world_added}
use Rattle.text_plain.proofs.worlds.add_world.Goals as goal

pub returns : goal.returns
returns c = world_added c.args.worlds.now _ c.requires.index _ c.requires.placed c.key_of-key.result c.in_ok-number.number
    (omega (arith, c.in_ok-number.ensures.ok, c.len.ensures, c.args.worlds.now.worlds.ok)) refl c.in_ok-push.ensures.items c.in_ok-number_first.ensures
    (c.key_of-key.ensures ∙ ap (λ t. record { home = head_of c.args.scope.now.place.whole.now c.args.scope.now.heading.head; name = t })
    (span_copied c.args.scope.now.place _ _ c.moving_at.result c.moving_at.ensures c.args.name c.copy_span-there.result c.copy_span-there.ensures))
