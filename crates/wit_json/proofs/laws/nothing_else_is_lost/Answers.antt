use Rattle.wit_json.proofs.{Held.valid_are_small, Told.nothing_else, Told.texts_tell}
use Rattle.wit_json.proofs.laws.nothing_else_is_lost.Goals as goal

pub returns-clause-tokens : goal.returns-clause-tokens
returns-clause-tokens c = nothing_else

pub returns-clause-texts : goal.returns-clause-texts
returns-clause-texts c = texts_tell

pub returns-clause-valid : goal.returns-clause-valid
returns-clause-valid c = valid_are_small
