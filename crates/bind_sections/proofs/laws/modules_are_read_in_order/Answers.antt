use Rattle.bind_sections.proofs.Steps as laws
use Rattle.bind_sections.proofs.laws.modules_are_read_in_order.Goals as goal

pub returns-clause-begins : goal.returns-clause-begins
returns-clause-begins c = laws.reading_begins

pub returns-clause-others : goal.returns-clause-others
returns-clause-others c = laws.others_are_passed

pub returns-clause-worlds : goal.returns-clause-worlds
returns-clause-worlds c = laws.worlds_are_bound

pub returns-clause-ends : goal.returns-clause-ends
returns-clause-ends c = laws.reading_ends

pub returns-clause-refusals : goal.returns-clause-refusals
returns-clause-refusals c = laws.refusals_end

pub returns-clause-left : goal.returns-clause-left
returns-clause-left c = laws.left_overs_end
