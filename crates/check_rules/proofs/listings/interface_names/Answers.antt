use Rattle.std.proofs.{Common.refl, Common.sym, lemmas.Option.slice_get_read}
use Rattle.wit_model.specs.Checks.{names_fit}
use Rattle.wit_model.proofs.Listings.{interface_fits, misnamed_in_interface_breaks}
use Rattle.check_rules.proofs.Found.{said}
use Rattle.check_rules.proofs.listings.interface_names.Goals as goal

pub returns-in-Some-clause-broken : goal.returns-in-Some-clause-broken
returns-in-Some-clause-broken c =
    let at = slice_get_read c.args.resolve.now.interfaces.items _ c.args.number c.index.result.now refl c.requires.in_range c.index.ensures in
    misnamed_in_interface_breaks c.args.resolve.now c.args.number c.index.result.now at c.requires.own c.in-Some.number c.in-Some.ensures

pub returns-in-None-clause-kept : goal.returns-in-None-clause-kept
unfolding names_fit
returns-in-None-clause-kept c =
    said (names_fit.interface_ c.args.resolve.now) _ _ _ _ c.requires.in_range c.index.ensures (sym (interface_fits c.args.resolve.now c.index.result.now (sym c.in-None.ensures)))
