use Rattle.std.proofs.Common.{◌∙◌, ap, Option, Some}
use Rattle.wit_model.specs.Tree.{Tree}
use Rattle.comp_bytes.specs.Reading.{◌>>=◌}
use Rattle.comp_meaning.specs.Follow.{given, value_type}
use Rattle.read_follow.specs.Slots.{slots_in}
use Rattle.read_follow.proofs.Refusing.{refused}
use Rattle.read_follow.proofs.slots.given_in.Goals as goal

abbrev some_of : Option Tree → Option (Option Tree)
some_of found = found >>= λ t. Some (Some t)

pub returns-in-Ok-clause-found : goal.returns-in-Ok-clause-found
returns-in-Ok-clause-found c = λ T F. ap (given (value_type (slots_in T F c.args.slots.now))) c.in-Some.is ∙ ap some_of (c.in-Ok.ensures.found T F)

pub returns-in-Err-clause-found : goal.returns-in-Err-clause-found
returns-in-Err-clause-found c = λ T F. refused c.in-Err.refusal (value_type (slots_in T F c.args.slots.now) c.in-Some.v) (given (value_type (slots_in T F c.args.slots.now)) c.args.v)
    (λ none. ap (given (value_type (slots_in T F c.args.slots.now))) c.in-Some.is ∙ ap some_of none) (c.in-Err.ensures.found T F)
