use Rattle.text_trees.proofs.Exact.{refusals_stand_at_places, no_file_begins_so}
use Rattle.text_trees.proofs.laws.refusals_stand.Goals as goal

pub returns-clause-places : goal.returns-clause-places
returns-clause-places c = refusals_stand_at_places

pub returns-clause-begins : goal.returns-clause-begins
returns-clause-begins c = no_file_begins_so
