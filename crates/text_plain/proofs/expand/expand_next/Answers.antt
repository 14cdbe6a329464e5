use Rattle.std.proofs.Common.{arith, length, refl}
use Rattle.std.proofs.lemmas.{Option.slice_get_read}
use Rattle.text_plain.proofs.ExpandLaws.{one_expanded}
use Rattle.text_plain.proofs.expand.expand_next.Goals as goal

pub expand_world-requires-clause-placed : goal.expand_world-requires-clause-placed
expand_world-requires-clause-placed c = c.requires.index.placed c.args.number c.index-world.result.now
    (slice_get_read c.args.worlds.now.worlds.items (length c.args.worlds.now.worlds.items) c.args.number c.index-world.result.now refl
    (omega (arith, c.if-at-len.true, c.len.ensures, c.args.worlds.now.worlds.ok)) c.index-world.ensures)

pub returns-in_ok-members : goal.returns-in_ok-members
returns-in_ok-members c = one_expanded c.args.worlds.now c.args.done.now.items _ c.args.number c.in_ok-members.members c.index-world.result.now c.requires.done refl
    (slice_get_read c.args.worlds.now.worlds.items (length c.args.worlds.now.worlds.items) c.args.number c.index-world.result.now refl
    (omega (arith, c.if-at-len.true, c.len.ensures, c.args.worlds.now.worlds.ok)) c.index-world.ensures) c.in_ok-members.ensures
