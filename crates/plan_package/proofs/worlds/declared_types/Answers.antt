use Rattle.std.proofs.Common.{◌++◌, ap, map}
use Rattle.std.specs.List.{flat_map}
use Rattle.read_rules.proofs.SightLaws.{all_added, one_added}
use Rattle.read_rules.specs.Views.{numbered_type}
use Rattle.plan_package.specs.WholeWorlds.{types_seen}
use Rattle.plan_package.proofs.worlds.declared_types.Goals as goal

pub loop-import-init : goal.loop-import-init
loop-import-init c = ap (λ l. map numbered_type l ++ flat_map types_seen c.args.imports.now) c.new-types.ensures.items

pub loop-import-preserved : goal.loop-import-preserved
loop-import-preserved c = one_added types_seen c.args.imports.now c.loop-import.import-index (map numbered_type c.loop-import.types.items) c.loop-import.invariant _ c.loop-import-test.true
    (map numbered_type c.add_type.new.types.items) c.in_ok-add_type.ensures

pub returns : goal.returns
returns c = all_added types_seen c.args.imports.now c.loop-import.import-index (map numbered_type c.loop-import.types.items) c.loop-import.invariant c.loop-import-test.false
