use Rattle.wit_model.proofs.Listings.{world_breaks}
use Rattle.check_rules.proofs.Found.{walked}
use Rattle.check_rules.proofs.listings.check_worlds.Goals as goal

pub returns-clause-kept : goal.returns-clause-kept
returns-clause-kept c = search walked

pub returns-then-not-world_keeps-clause-broken : goal.returns-then-not-world_keeps-clause-broken
returns-then-not-world_keeps-clause-broken c = world_breaks c.args.resolve.now c.loop-number.number (search walked)
