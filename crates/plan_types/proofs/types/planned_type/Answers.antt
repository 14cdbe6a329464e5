use Rattle.std.proofs.Common.{ap, sym, ◌∙◌, option_map}
use Rattle.read_exports.proofs.WalkLaws.{none_left}
use Rattle.read_rules.specs.Tables.{name_of, numbered_shape, numbered_tables}
use Rattle.plan_types.specs.{FirstShown.showing_at, PlannedTypes.owner_in, Showings.numbered_showing}
use Rattle.plan_types.proofs.TypeLaws.{is_shown, named_planned, over_form, shown_declares, unnamed_planned}
use Rattle.plan_types.proofs.types.planned_type.Goals as goal

pub unnamed_type-requires : goal.unnamed_type-requires
unnamed_type-requires c = over_form (numbered_tables c.args.tables.now) c.args.kept.now (showing_at c.args.first.now) c.args.number (numbered_shape c.shape_of-shape.result) c.shape_of-shape.ensures
    c.requires (sym c.name_in.ensures ∙ ap (option_map name_of) (none_left c.name_in.result c.in_default.not-Some))

pub returns-in_default : goal.returns-in_default
returns-in_default c = unnamed_planned (numbered_tables c.args.tables.now) c.args.kept.now (showing_at c.args.first.now) c.args.number (numbered_shape c.shape_of-shape.result) c.shape_of-shape.ensures
    (owner_in c.args.places.now.keys c.args.homes.now.keys) c.unnamed_type.result (sym c.name_in.ensures ∙ ap (option_map name_of) (none_left c.name_in.result c.in_default.not-Some))
    c.unnamed_type.ensures.name c.unnamed_type.ensures.owner c.unnamed_type.ensures.id c.unnamed_type.ensures.kind

pub named_type-requires : goal.named_type-requires
named_type-requires c = shown_declares (numbered_tables c.args.tables.now) c.args.kept.now (showing_at c.args.first.now) c.args.number (numbered_shape c.shape_of-shape.result) c.shape_of-shape.ensures
    c.requires c.in-Some.place c.in-Some.name.now (sym c.name_in.ensures ∙ ap (option_map name_of) c.in-Some.is) (numbered_showing c.in-Some-first_of.showing)
    (sym c.first_of.ensures ∙ ap (option_map numbered_showing) c.in-Some-first_of.is)

pub unreachable-requires : goal.unreachable-requires
unreachable-requires c = is_shown (numbered_tables c.args.tables.now) c.args.kept.now (showing_at c.args.first.now) c.args.number (numbered_shape c.shape_of-shape.result) c.shape_of-shape.ensures
    c.requires c.in-Some.place c.in-Some.name.now (sym c.name_in.ensures ∙ ap (option_map name_of) c.in-Some.is) (sym c.first_of.ensures ∙ ap (option_map numbered_showing) c.in-None.is)

pub returns : goal.returns
returns c = named_planned (numbered_tables c.args.tables.now) c.args.kept.now (showing_at c.args.first.now) c.args.number (numbered_shape c.shape_of-shape.result) c.shape_of-shape.ensures
    (owner_in c.args.places.now.keys c.args.homes.now.keys) c.named_type.result c.in-Some.place c.in-Some.name.now (sym c.name_in.ensures ∙ ap (option_map name_of) c.in-Some.is)
    (numbered_showing c.in-Some-first_of.showing) (sym c.first_of.ensures ∙ ap (option_map numbered_showing) c.in-Some-first_of.is) c.in_ok-owner.owner c.in_ok-owner.ensures c.named_type.ensures.name
    c.named_type.ensures.owner c.named_type.ensures.id c.named_type.ensures.kind
