-- Marks that are set one after the other. Serves used::mark_functions, used::mark_params, used::mark_parts, used::mark_showings.
pub mod MarkLaws
-- Places that are met one after the other. Serves orders::add_imports, orders::add_instances, orders::add_part, orders::homes_of_members and 1 more; crates above.
pub mod OrderLaws
-- The first showing of each type. Serves declared::note_all.
pub mod ShownLaws
-- What two walks add, one behind the other. Serves showings::add_signatures_of_part.
pub mod SignatureLaws
-- The types of a plan. Serves types::planned_type, types::planned_types.
pub mod TypeLaws
