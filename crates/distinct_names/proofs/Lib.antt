-- Names, none of which stands twice: as they are put into a table one after the other, and as labels. Serves many_are_distinct; crates above.
pub mod NameLaws
