use Rattle.wit_model.proofs.Listings.{type_breaks}
use Rattle.check_rules.proofs.Found.{walked}
use Rattle.check_rules.proofs.listings.check_types.Goals as goal

pub returns-clause-kept : goal.returns-clause-kept
returns-clause-kept c = search walked

pub returns-then-not-branch-clause-broken : goal.returns-then-not-branch-clause-broken
returns-then-not-branch-clause-broken c = type_breaks c.args.resolve.now c.loop-number.number (search walked)
