use Rattle.std.proofs.Common.{◌∙◌}
use Rattle.wit_model.specs.{Parts.member_types, Checks.entry_of, Valid.depths}
use Rattle.check_rules.proofs.{Found.said, LevelTable.shallow_types}
use Rattle.check_rules.proofs.levels.type_keeps.Goals as goal

pub returns : goal.returns
unfolding depths
returns c = said (depths.type_ c.args.resolve.now) _ _ _ _ c.requires.in_range c.index.ensures
    (c.are_shallow.ensures ∙ shallow_types c.args.resolve.now (entry_of c.args.table.now) c.requires.table (member_types c.index.result.now.kind) _ (c.deref.ensures.value ∙ c.in_ok-members.ensures))
