use Rattle.std.proofs.Common.{ap, ◌∙◌, nat_lt}
use Rattle.std.specs.List.{list_all}
use Rattle.wit_model.specs.Checks.{references}
use Rattle.check_rules.proofs.Found.{said}
use Rattle.check_rules.proofs.references.refers_below.Goals as goal

pub returns : goal.returns
unfolding references
returns c = said (references.type_ c.args.resolve.now) _ _ _ _ c.requires c.index.ensures
    (c.are_below.ensures ∙ ap (list_all (λ m. nat_lt m c.args.number)) (c.deref.ensures.value ∙ c.in_ok-numbers.ensures))
