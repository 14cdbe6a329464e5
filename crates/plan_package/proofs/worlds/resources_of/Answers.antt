use Rattle.std.proofs.Common.{◌∙◌, ap, map, subst, sym}
use Rattle.std.specs.List.{AllByRecursion}
use Rattle.plan_parts.specs.Interfaces.{IsKeptSlot}
use Rattle.read_rules.specs.{Tables.numbered_tables, Views.numbered_type}
use Rattle.plan_package.proofs.WorldLaws.{types_kept}
use Rattle.plan_package.proofs.worlds.resources_of.Goals as goal

pub types_of-requires : goal.types_of-requires
types_of-requires c = subst (AllByRecursion (IsKeptSlot c.args.kept.now)) (sym (ap (map numbered_type) c.deref.ensures.value ∙ c.in_ok-types.ensures))
    (types_kept (numbered_tables c.args.tables.now) c.args.kept.now c.args.imports.now c.requires)
