use Rattle.std.proofs.{Common.◌≡◌, Common.refl, Common.◌∙◌, Common.◌&&◌, Common.nat_le, Common.option_to_list, lemmas.Option.slice_get_read}
use Rattle.std.specs.List.{list_all}
use Rattle.indexmap.specs.IndexMap.{values}
use Rattle.wit_model.specs.{Uses.interface_used_by, Checks.all_values, Valid.owners, Valid.as_interface, Valid.functions_of_interface}
use Rattle.check_rules.specs.Owners.{stays, met_entry}
use Rattle.wit_model.proofs.Owners.{used_within}
use Rattle.check_rules.proofs.{Found.said, OwnerTable.functions_stay}
use Rattle.check_rules.proofs.owners.interface_keeps.Goals as goal

pub returns : goal.returns
unfolding owners
returns c =
    let r = c.args.resolve.now in
    let table = c.args.table.now in
    let i = c.index-interface.result.now in
    let o = as_interface c.args.number in
    let kept : c.interface_stays.result ≡ (list_all (λ n. stays (met_entry table n) o) (all_values (functions_of_interface i)) && list_all
    (λ id. list_all (λ m. nat_le m c.args.number) (option_to_list (interface_used_by r id.0))) (values i.types)) = cc (c.in_ok-numbers.ensures) in
    let stay = functions_stay r table c.requires.table o (functions_of_interface i) in
    let used = used_within r c.args.number i (slice_get_read r.interfaces.items _ c.args.number i refl c.requires.in_range c.index-interface.ensures) in
    said (owners.interface_ r) _ _ _ _ c.requires.in_range c.index-interface.ensures (kept ∙ (λ j. stay j && used j))
