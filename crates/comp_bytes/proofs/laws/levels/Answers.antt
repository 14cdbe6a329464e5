use Rattle.comp_bytes.proofs.LevelLaws.{entry_law, entries_into, entries_out, part_type_law}
use Rattle.comp_bytes.proofs.PieceLaws.{levels_are_sections, pieces_by_frames}
use Rattle.comp_bytes.proofs.laws.levels.Goals as goal

pub returns-clause-entries_read : goal.returns-clause-entries_read
returns-clause-entries_read c = entry_law

pub returns-clause-entries_are : goal.returns-clause-entries_are
returns-clause-entries_are c = λ es text. (entries_into es text, entries_out es text)

pub returns-clause-types_read : goal.returns-clause-types_read
returns-clause-types_read c = part_type_law

pub returns-clause-sections : goal.returns-clause-sections
returns-clause-sections c = levels_are_sections

pub returns-clause-by_frames : goal.returns-clause-by_frames
returns-clause-by_frames c = pieces_by_frames
