use Rattle.std.proofs.Common.{ap, sym, refl, ◌∙◌, [], map, option_map}
use Rattle.std.specs.Option.{option_map_or}
use Rattle.read_homes.specs.Homes.{given_home}
use Rattle.read_exports.specs.Members.{homes_alone}
use Rattle.read_rules.specs.{Sights.numbered_sight, Tables.numbered_tables, Views.numbered_function, Views.numbered_view}
use Rattle.plan_meaning.specs.{NumberedMembers.home_at, NumberedViews.NumberedSight, NumberedViews.first_at}
use Rattle.read_exports.proofs.WalkLaws.{none_left}
use Rattle.plan_package.proofs.InterfaceLaws.{is_there, place_planned}
use Rattle.plan_package.proofs.interfaces.interface_at.Goals as goal

pub unreachable-requires : goal.unreachable-requires
unreachable-requires c = is_there (first_at c.args.place (map numbered_sight c.args.sights.now)) c.requires.seen
    (c.requires.firsts c.args.place c.requires.place ∙ (sym c.first_at.ensures ∙ ap (option_map numbered_sight) (none_left c.first_at.result c.in_default.not-Some)))

pub returns : goal.returns
returns c = place_planned (numbered_tables c.args.tables.now) c.args.kept.now c.args.main (home_at (homes_alone c.args.homes.now)) (map numbered_sight c.args.sights.now) c.args.place
    c.interface_of.result (given_home c.home_of.result) (numbered_view c.in-Some.first.view) (map numbered_function c.view_in-whole.result.functions.now) (numbered_sight c.in-Some.first)
    c.home_of.ensures (c.requires.firsts c.args.place c.requires.place ∙ (sym c.first_at.ensures ∙ ap (option_map numbered_sight) c.in-Some.is)) refl
    (c.view_in-whole.ensures ∙ ap (λ o. option_map_or (λ (s : NumberedSight). s.view.functions) o []) (c.first_at-2.ensures ∙ sym (c.requires.wholes c.args.place c.requires.place_too)))
    c.interface_of.ensures
