use Rattle.std.proofs.Common.{rules, ◌≡◌, ◌<◌, sym, ap, ◌∙◌, flat_map, get_or, length, take}
use Rattle.std.specs.Option.{option_or}
use Rattle.compat_meaning.specs.Opened.{entries_of_world, label_among}
use Rattle.compat_meaning.proofs.Naming.{label_in_two, worlds_more}
use Rattle.compat_meaning.proofs.names.labels.Goals as goal

pub loop-world-preserved : goal.loop-world-preserved
loop-world-preserved c = λ n.
    let ws = c.args.resolve.now.worlds.items in
    let i = c.loop-world.world-index in
    let w = c.world-item.result in
    let lt : i < length ws = search rules in
    let is : w ≡ get_or ws i w = c.world-item.is ∙ ap (λ xs. get_or xs i w) c.deref-world-items.ensures.value in
    c.in_ok-note_world.ensures n ∙ ap (λ o. option_or o (label_among n (entries_of_world w))) (c.loop-world.invariant n)
    ∙ sym (label_in_two n (flat_map entries_of_world (take i ws)) (entries_of_world w)) ∙ ap (label_among n) (sym (worlds_more ws i w lt is))
