use Rattle.read_rules.specs.Scopes.{numbered_seen}
use Rattle.read_rules.proofs.WorldLaws.{place_added}
use Rattle.read_rules.proofs.uses.add_item.Goals as goal

pub returns : goal.returns
returns c = place_added c.args.earlier.now.keys c.add_given.new.earlier.keys (numbered_seen c.args.item) c.place_seen.result c.place_seen.ensures c.add_given.result c.add_given.ensures
