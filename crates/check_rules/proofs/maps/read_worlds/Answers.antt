use Rattle.std.proofs.Common.{rules}
use Rattle.check_rules.proofs.Seen.{WorldKeys, seen_more, seen_all}
use Rattle.check_rules.proofs.maps.read_worlds.Goals as goal

pub loop-entry-preserved : goal.loop-entry-preserved
loop-entry-preserved c = seen_more WorldKeys c.args.resolve.now.worlds.items c.deref-entry-items.result.now c.deref-entry-items.ensures.value c.loop-entry.entry-index c.entry-item.result
    c.loop-entry.invariant (search rules) c.entry-item.is (c.read_entries.ensures, c.read_entries-in-loop-entry.ensures)

pub returns : goal.returns
returns c = seen_all WorldKeys c.args.resolve.now.worlds.items c.loop-entry.entry-index (search rules) c.loop-entry.invariant
