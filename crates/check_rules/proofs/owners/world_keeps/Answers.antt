use Rattle.std.proofs.Common.{ap, ◌∙◌}
use Rattle.std.specs.List.{list_all}
use Rattle.check_rules.specs.Owners.{stays, met_entry}
use Rattle.wit_model.specs.Valid.{owners, as_world, functions_of_world}
use Rattle.check_rules.proofs.{Found.said, OwnerTable.functions_stay}
use Rattle.check_rules.proofs.owners.world_keeps.Goals as goal

pub returns : goal.returns
unfolding owners
returns c =
    let o = as_world c.args.number in
    said (owners.world_ c.args.resolve.now) _ _ _ _ c.requires.in_range c.index.ensures (c.stays_in_world.ensures ∙ (c.met_by_all.ensures o
    ∙ (ap (list_all (λ n. stays (met_entry c.args.table.now n) o)) (c.deref.ensures.value ∙ c.in_ok-numbers.ensures)
    ∙ functions_stay c.args.resolve.now c.args.table.now c.requires.table o (functions_of_world c.index.result.now))))
