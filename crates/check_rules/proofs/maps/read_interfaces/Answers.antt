use Rattle.std.proofs.Common.{rules}
use Rattle.check_rules.proofs.Seen.{InterfaceKeys, seen_more, seen_all}
use Rattle.check_rules.proofs.maps.read_interfaces.Goals as goal

pub loop-entry-preserved : goal.loop-entry-preserved
loop-entry-preserved c = seen_more InterfaceKeys c.args.resolve.now.interfaces.items c.deref-entry-items.result.now c.deref-entry-items.ensures.value c.loop-entry.entry-index c.entry-item.result
    c.loop-entry.invariant (search rules) c.entry-item.is (c.len-types.ensures.unique, c.len-functions.ensures.unique)

pub returns : goal.returns
returns c = seen_all InterfaceKeys c.args.resolve.now.interfaces.items c.loop-entry.entry-index (search rules) c.loop-entry.invariant
