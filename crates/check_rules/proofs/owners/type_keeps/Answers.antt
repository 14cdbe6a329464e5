use Rattle.std.proofs.Common.{ap, ◌∙◌, ◌||◌, ◌&&◌, is_some}
use Rattle.std.specs.List.{list_all}
use Rattle.wit_model.specs.{Parts.kind_numbers, Parts.same_owner, Rules.is_use, Valid.owners}
use Rattle.check_rules.specs.Owners.{stays, met_entry}
use Rattle.check_rules.proofs.{Found.said, OwnerTable.numbers_stay}
use Rattle.wit_model.specs.declared.model.TypeOwner.TheVariants as owner
use Rattle.check_rules.proofs.owners.type_keeps.Goals as goal

pub returns : goal.returns
unfolding owners
returns c =
    let r = c.args.resolve.now in
    let table = c.args.table.now in
    let def = c.index-def.result.now in
    let met = c.met_by_all.ensures def.owner ∙ (ap (list_all (λ n. stays (met_entry table n) def.owner)) (c.deref.ensures.value ∙ c.in_ok-numbers.ensures)
    ∙ numbers_stay r table c.requires.table def.owner (kind_numbers def.kind)) in
    said (owners.type_ r) _ _ _ _ c.requires.in_range c.index-def.ensures (c.is_at_home.ensures ∙ ap (λ b. same_owner def.owner owner.None || (b || (is_some def.name && is_use r def))) met)
