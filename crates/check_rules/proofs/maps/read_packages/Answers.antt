use Rattle.std.proofs.Common.{rules}
use Rattle.check_rules.proofs.Seen.{PackageKeys, seen_more, seen_all}
use Rattle.check_rules.proofs.maps.read_packages.Goals as goal

pub loop-entry-preserved : goal.loop-entry-preserved
loop-entry-preserved c = seen_more PackageKeys c.args.resolve.now.packages.items c.deref-entry-items.result.now c.deref-entry-items.ensures.value c.loop-entry.entry-index c.entry-item.result
    c.loop-entry.invariant (search rules) c.entry-item.is (c.len-interfaces.ensures.unique, c.len-worlds.ensures.unique)

pub returns : goal.returns
returns c = seen_all PackageKeys c.args.resolve.now.packages.items c.loop-entry.entry-index (search rules) c.loop-entry.invariant
