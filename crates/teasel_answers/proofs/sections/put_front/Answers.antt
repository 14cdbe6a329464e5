use Rattle.std.proofs.Common.{subst, ℕ, List, Option, Bor}
use Rattle.wit_metadata.specs.Modules.{IsFrontData}
use Rattle.teasel_answers.specs.Refusals.{unreadable}
use Rattle.teasel_answers.proofs.sections.put_front.Goals as goal

pub returns-in-Err-clause-refused : goal.returns-in-Err-clause-refused
returns-in-Err-clause-refused c = λ other.
    let why = c.in-Err.ensures other in
    let front = subst (λ (o : Option (Bor (List ℕ))). IsFrontData c.args.rest.now o c.in_ok-carried.behind.now) c.in-Some.is c.in_ok-carried.ensures.ok in
    unreadable c.in-Some.data c.in_ok-carried.behind.now why.0 front why.1 why.2
