use Rattle.std.proofs.Common.{ap, ◌∙◌, [], map}
use Rattle.std.specs.List.{list_all}
use Rattle.plan_meaning.specs.{NumberedMembers.are_interfaces, NumberedViews.agree_with_first_in_numbers}
use Rattle.read_rules.specs.{Sights.numbered_sight, Tables.known_in, Tables.numbered_tables}
use Rattle.read_exports.specs.Members.{homes_alone, homes_in, numbered_members, stands_among}
use Rattle.read_exports.proofs.PackageLaws.{package_decided}
use Rattle.read_exports.proofs.packages.are_package.Goals as goal

pub returns : goal.returns
returns c = λ packages. c.all_hold.ensures ∙ package_decided (homes_in packages c.args.homes.now) c.args.package_number (numbered_members c.args.members.now) c.in_ok-places.places.keys
    c.in_ok-places.ensures (numbered_tables c.args.tables.now) (known_in c.args.tables.now) (map numbered_sight c.in_ok-sights.sights.items) c.in_ok-sights.ensures c.have_package-are_one.result
    c.stand_at_top-are_top.result c.in_ok-do_agree.do_agree c.in_ok-are_shown.are_shown c.have_package-are_one.ensures
    (c.stand_at_top-are_top.ensures ∙ ap (λ l. list_all (stands_among (homes_alone c.args.homes.now) c.args.package_number c.in_ok-places.places.keys) (map numbered_sight l)) c.deref-3.ensures.value)
    (c.in_ok-do_agree.ensures ∙ ap (λ l. agree_with_first_in_numbers [] (map numbered_sight l)) c.deref.ensures.value)
    (c.in_ok-are_shown.ensures ∙ ap (λ l. are_interfaces (numbered_tables c.args.tables.now) (known_in c.args.tables.now) (map numbered_sight l)) c.deref-2.ensures.value)
