use Rattle.std.proofs.Common.{◌≡◌, ◌++◌, map, drop}
use Rattle.std.specs.List.{flat_map}
use Rattle.read_rules.specs.Views.{numbered_type}
use Rattle.plan_package.specs.WholeWorlds.{types_seen}
use Rattle.plan_package.proofs.worlds.declared_types.Given as goal

-- those that were added, and those of the imports that are left, are all
abbrev pub invariant-loop-import : goal.invariant-loop-import
invariant-loop-import l = map numbered_type l.types.items ++ flat_map types_seen (drop l.import-index l.imports) ≡ flat_map types_seen l.imports
