use Rattle.std.proofs.Common.{◌≡◌, ◌∙◌, ap, sym, false, true, is_some}
use Rattle.plan_package.proofs.PlacedLaws.{has_number}
use Rattle.plan_package.proofs.numbers.index_of.Goals as goal

pub returns-in-None : goal.returns-in-None
returns-in-None c =
    let wrong : false ≡ true = sym (ap is_some (sym c.get_index_of.ensures.index ∙ c.in-None.is)) ∙ has_number c.args.places.now.keys c.args.place c.requires in absurd cc
