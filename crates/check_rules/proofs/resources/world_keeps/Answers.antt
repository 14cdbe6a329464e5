use Rattle.std.proofs.Common.{◌∙◌, ap, not}
use Rattle.std.specs.List.{list_all}
use Rattle.wit_model.specs.{Checks.flags, Valid.handles, Valid.functions_of_world}
use Rattle.wit_model.proofs.Resources.{marked_functions}
use Rattle.check_rules.proofs.Found.{said}
use Rattle.check_rules.proofs.resources.world_keeps.Goals as goal

pub returns : goal.returns
unfolding handles
returns c = said (handles.world_ c.args.resolve.now) _ _ _ _ c.requires.in_range c.index.ensures
    (c.are_unmarked.ensures ∙ (ap (list_all (λ n. not (flags c.args.table.now n))) (c.deref.ensures.value ∙ c.in_ok-numbers.ensures)
    ∙ marked_functions c.args.resolve.now (flags c.args.table.now) c.requires.table (functions_of_world c.index.result.now)))
