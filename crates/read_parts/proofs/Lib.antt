-- The parts that are exported make no more types than the input has bytes. Serves laws::parts_fit; crates above.
pub mod CountLaws
-- Items that are made one after the other, each from one of a list. Serves exported::parts_of.
pub mod ExportLaws
-- All parts of an input. Serves following::follow_all, following::follow_parts.
pub mod InputLaws
-- Parts at the top that are followed into tables that grow. Serves following::follow_all, following::follow_each.
pub mod MemberLaws
-- The types of the table are those that the parts declare, part by part. Serves following::follow_each.
pub mod NumberedLaws
-- What the sections mean is what the rules of reading make of what is followed. Serves laws::meaning_by_scopes; crates above.
pub mod ScopeMeaning
-- Types and exports at the top, as they take their indexes. Serves exported::distinct_parts_of, exported::part_of, tops::add_export, tops::number_of and 1 more.
pub mod TopLaws
