use Rattle.plan_types.proofs.types.named_type.Goals as goal

pub returns-clause-kind : goal.returns-clause-kind
returns-clause-kind c = c.in_ok-kind_of_declared.ensures
