use Rattle.std.proofs.{Common.rules, Common.refl, lemmas.Option.slice_get_read}
use Rattle.compat_meaning.proofs.Ranges.{has_items}
use Rattle.case_calls.proofs.names.put_worlds.Goals as goal

pub put_world-requires : goal.put_world-requires
put_world-requires c = has_items c.args.resolve.now c.requires c.loop-number.number c.index.result.now
    (slice_get_read c.args.resolve.now.worlds.items _ c.loop-number.number c.index.result.now refl (search rules) c.index.ensures)
