use Rattle.std.proofs.Common.{rules, refl}
use Rattle.wit_model.specs.Checks.{listings, names_fit}
use Rattle.wit_model.proofs.Checks.{keeps_three, keeps_two}
use Rattle.check_rules.proofs.listings.check.Goals as goal

pub returns-clause-kept : goal.returns-clause-kept
unfolding listings
returns-clause-kept c = keeps_three listings c.args.resolve.now refl (search rules) (search rules) (search rules)

pub returns-clause-fit : goal.returns-clause-fit
unfolding names_fit
returns-clause-fit c = keeps_two names_fit c.args.resolve.now refl refl (search rules) (search rules)

pub check_types-requires : goal.check_types-requires
unfolding names_fit
check_types-requires c = record { distinct = c.requires; fit = keeps_two names_fit c.args.resolve.now refl refl (search rules) (search rules) }
