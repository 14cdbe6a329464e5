use Rattle.read_follow.proofs.components.see.Goals as goal

pub returns-in-Instance-clause-absent : goal.returns-in-Instance-clause-absent
returns-in-Instance-clause-absent c = rw c.in-Instance.is c.see_instance.ensures.absent
