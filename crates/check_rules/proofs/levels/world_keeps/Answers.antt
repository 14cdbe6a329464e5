use Rattle.std.proofs.Common.{◌∙◌}
use Rattle.wit_model.specs.{Checks.entry_of, Valid.depths, Valid.functions_of_world}
use Rattle.check_rules.proofs.{Found.said, LevelTable.shallow_functions}
use Rattle.check_rules.proofs.levels.world_keeps.Goals as goal

pub returns : goal.returns
unfolding depths
returns c = said (depths.world_ c.args.resolve.now) _ _ _ _ c.requires.in_range c.index.ensures
    (c.are_shallow.ensures ∙ shallow_functions c.args.resolve.now (entry_of c.args.table.now) c.requires.table (functions_of_world c.index.result.now) _
    (c.deref.ensures.value ∙ c.in_ok-numbers.ensures))
