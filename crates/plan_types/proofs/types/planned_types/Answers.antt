use Rattle.std.proofs.Common.{subst, sym}
use Rattle.std.specs.List.{AllByRecursion}
use Rattle.plan_parts.proofs.SightLaws.{each_at}
use Rattle.read_rules.specs.Tables.{numbered_tables}
use Rattle.plan_types.specs.{FirstShown.showing_at, PlannedTypes.owner_in, PlannedTypes.MayBePlanned}
use Rattle.plan_types.proofs.TypeLaws.{type_next}
use Rattle.plan_types.proofs.types.planned_types.Goals as goal

pub planned_type-requires : goal.planned_type-requires
planned_type-requires c = each_at (MayBePlanned (numbered_tables c.args.tables.now) c.args.kept.now (showing_at c.args.first.now)) c.shapes-number-items.result.now c.loop-number.number-index _
    c.loop-number-test.true (subst (AllByRecursion (MayBePlanned (numbered_tables c.args.tables.now) c.args.kept.now (showing_at c.args.first.now))) (sym c.shapes-number-items.ensures) c.requires)

pub loop-number-preserved : goal.loop-number-preserved
loop-number-preserved c = type_next (numbered_tables c.args.tables.now) c.args.kept.now (showing_at c.args.first.now) (owner_in c.args.places.now.keys c.args.homes.now.keys)
    c.shapes-number-items.result.now c.shapes-number-items.ensures c.loop-number.number-index _ c.loop-number-test.true c.loop-number.types.items c.push.new.self.items _ c.in_ok-push.ensures.items
    c.in_ok-planned_type.ensures c.loop-number.invariant
