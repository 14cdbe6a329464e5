use Rattle.std.proofs.Common.{sym, subst, Some}
use Rattle.plan_meaning.specs.Built.{part_of}
use Rattle.plan_parts.specs.Functions.{KeptIfGiven}
use Rattle.plan_parts.proofs.functions.result_of.Goals as goal

pub returns-in-Some : goal.returns-in-Some
returns-in-Some c = subst (λ o. KeptIfGiven c.args.kept.now o (Some (part_of c.part.result))) (sym c.in-Some.is) c.part.ensures
