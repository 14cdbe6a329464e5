use Rattle.text_tokens.proofs.OneAnswer.{one_list, one_refusal}
use Rattle.text_tokens.proofs.laws.one_answer.Goals as goal

pub returns-clause-places : goal.returns-clause-places
returns-clause-places c = one_list

pub returns-clause-refusal : goal.returns-clause-refusal
returns-clause-refusal c = one_refusal

pub returns-clause-either : goal.returns-clause-either
returns-clause-either c = λ text xs at has lacks. lacks.none has.found has.spelled
