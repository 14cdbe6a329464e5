use Rattle.std.proofs.Common.{ap, ◌∙◌, [], map}
use Rattle.std.specs.List.{list_any}
use Rattle.plan_meaning.specs.{NumberedMembers.are_interfaces, NumberedMembers.is_named_in, NumberedViews.agree_with_first_in_numbers}
use Rattle.read_rules.specs.{Scopes.numbered_scope, Sights.numbered_sight, Tables.known_in, Tables.numbered_tables}
use Rattle.read_exports.specs.Members.{homes_alone, homes_in}
use Rattle.read_exports.proofs.PackageLaws.{world_decided}
use Rattle.read_exports.proofs.worlds.is_one_world.Goals as goal

pub returns : goal.returns
returns c = λ packages. c.two_hold.ensures ∙ world_decided (numbered_tables c.args.tables.now) (homes_in packages c.args.homes.now) (known_in c.args.tables.now) c.args.package_number c.args.name.now
    (numbered_scope c.args.scope) (map numbered_sight c.in_ok-sights.sights.items) c.in_ok-sights.ensures c.in_ok-do_agree.do_agree c.in_ok-are_shown.are_shown c.is_name_taken-is_taken.result
    (c.in_ok-do_agree.ensures ∙ ap (λ l. agree_with_first_in_numbers [] (map numbered_sight l)) c.deref.ensures.value)
    (c.in_ok-are_shown.ensures ∙ ap (λ l. are_interfaces (numbered_tables c.args.tables.now) (known_in c.args.tables.now) (map numbered_sight l)) c.deref-2.ensures.value)
    (c.is_name_taken-is_taken.ensures ∙ ap (λ l. list_any (λ s. is_named_in (homes_alone c.args.homes.now) c.args.package_number c.args.name.now s.place) (map numbered_sight l))
    c.deref-3.ensures.value)
