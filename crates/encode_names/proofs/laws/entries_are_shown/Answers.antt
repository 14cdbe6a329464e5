use Rattle.encode_names.proofs.WorldSteps as lemmas
use Rattle.encode_names.proofs.laws.entries_are_shown.Goals as goal

pub returns-clause-nothing : goal.returns-clause-nothing
returns-clause-nothing c = lemmas.nothing_is_shown

pub returns-clause-slots : goal.returns-clause-slots
returns-clause-slots c = lemmas.slots_leave_entries

pub returns-clause-functions : goal.returns-clause-functions
returns-clause-functions c = lemmas.functions_are_shown

pub returns-clause-types : goal.returns-clause-types
returns-clause-types c = lemmas.types_are_shown

pub returns-clause-interfaces : goal.returns-clause-interfaces
returns-clause-interfaces c = lemmas.interfaces_are_shown

pub returns-clause-whole : goal.returns-clause-whole
returns-clause-whole c = lemmas.worlds_are_shown
