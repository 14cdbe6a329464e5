use Rattle.std.proofs.Common.{rules}
use Rattle.wit_model.specs.Valid.{places}
use Rattle.wit_model.proofs.{Entries.free_passes, Checks.keeps_lists}
use Rattle.check_rules.proofs.places.check.Goals as goal

pub returns-clause-kept : goal.returns-clause-kept
unfolding places
returns-clause-kept c =
    let r = c.args.resolve.now in
    keeps_lists places r (search rules) (search rules) (search rules) (free_passes r 0 r.types.items)
