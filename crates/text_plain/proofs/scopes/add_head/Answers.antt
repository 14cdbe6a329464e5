use Rattle.std.proofs.Common.{sym, ap, ◌∙◌, option_map}
use Rattle.text_trees.specs.TextTreesSeen.{documented_head}
use Rattle.text_plain.specs.Places.{placed_of}
use Rattle.text_plain.proofs.MapLaws.{absent}
use Rattle.text_plain.proofs.ScopeLaws.{heads_added, heads_known, heads_without, head_copied}
use Rattle.text_plain.proofs.scopes.add_head.Goals as goal

pub returns-in_ok-insert-in-Some : goal.returns-in_ok-insert-in-Some
returns-in_ok-insert-in-Some c texts held = heads_added c.args.it.now.place.whole.now texts c.args.heads.now.entries held (placed_of c.args.it.now) _ c.copy_head.result c.insert.new.self.entries
    (ap (option_map (documented_head c.args.it.now.place.from.now c.args.it.now.tree.now.docs)) c.in-Some.is)
    (head_copied c.args.it.now.place _ _ c.moving_at.result c.moving_at.ensures c.in-Some.head c.copy_head.result c.copy_head.ensures)
    (absent _ c.contains_key.result c.contains_key.ensures c.if-not-contains_key.true) (λ q. c.in_ok-insert-in-Some.ensures.updates.0 q)

pub returns-else-not-contains_key : goal.returns-else-not-contains_key
returns-else-not-contains_key c texts held = heads_known c.args.it.now.place.whole.now texts c.args.heads.now.entries held (placed_of c.args.it.now)
    (sym c.contains_key.ensures ∙ c.if-not-contains_key.false)

pub returns-in-None : goal.returns-in-None
returns-in-None c texts held = heads_without c.args.it.now.place.whole.now texts c.args.heads.now.entries held (placed_of c.args.it.now)
    (ap (option_map (documented_head c.args.it.now.place.from.now c.args.it.now.tree.now.docs)) c.in-None.is)
