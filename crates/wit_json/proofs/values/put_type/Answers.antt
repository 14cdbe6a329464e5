use Rattle.wit_json.specs.Listed.{type_token}
use Rattle.wit_json.proofs.Adding.{added_by}
use Rattle.wit_json.proofs.values.put_type.Goals as goal

pub returns-in-ErrorContext : goal.returns-in-ErrorContext
unfolding type_token
returns-in-ErrorContext c = rw c.in-ErrorContext.is (added_by _ c.string-in-ErrorContext.ensures)
