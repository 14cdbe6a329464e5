-- How what one step appends goes with what the steps before it did. Serves append::append_attribute, append::append_defined_type, append::append_each_case, append::append_each_field and 3 more.
pub mod Appends
-- Laws of readers that do not depend on the form. Serves frames::section_at, name::read_name, number::read_index, number::read_u32; crates above.
pub mod Readers
-- A number that is read is the number that was spelled, and what spells a number is read again. Serves number::read_u32; crates above.
pub mod NumberLaws
-- The laws of the parts that forms are made of. Serves name::read_name; crates above.
pub mod PartLaws
-- Each form that is read is the form that was spelled, and what spells a form is read again. Serves number::read_index; crates above.
pub mod FormLaws
-- The laws of names, descriptions and declarations. Serves ComponentLaws, HeldLaws, LevelLaws, NestedLaws and 1 more; crates above.
pub mod DeclarationLaws
-- The laws of declarations in which others stand. Serves ComponentLaws, HeldLaws, LevelLaws, PieceLaws.
pub mod NestedLaws
-- The laws of types at the top, of sections and of whole components. Serves frames::section_at, laws::one_form; crates above.
pub mod ComponentLaws
-- The shortest bytes of a number, by how many there are. Serves laws::shortest_number, name::append_count, number::write_u32, section::u32_length; crates above.
pub mod Writes
-- A declaration behind the ones that are held. Serves component, component::alias, component::defined, component::export and 11 more; crates above.
pub mod HeldLaws
-- Parts and the sections that they make. Serves BuiltLaws, BuiltSizes.
pub mod PartsLaws
-- A component under construction: what its bytes say, and one more part. Serves builder::custom_section, builder::export, builder::finish, builder::new and 1 more.
pub mod BuiltLaws
-- How long a component under construction is, at least: what doesn't fit makes it too long. Serves builder::custom_section, builder::export, builder::finish, builder::type_component; crates above.
pub mod BuiltSizes
-- What the first byte of a type chooses is what the tests of the byte read. Serves laws::first_bytes; crates above.
pub mod FirstByteLaws
-- A section's frame from an offset on, and where its contents stand. Serves frames::custom_name, frames::front_of, frames::front_section, frames::section_at.
pub mod FrameLaws
-- The bytes in front tell which entry, and which type at the top, is read. Serves laws::first_bytes; crates above.
pub mod FrontLaws
-- The shortest bytes of the index of a type, by how many there are. Serves append::append_value_type, laws::shortest_index, number::write_index; crates above.
pub mod IndexWrites
-- Entries and types at the top are read as they are spelled, and are the raw forms that they stand for. Serves laws::levels; crates above.
pub mod LevelLaws
-- What is written of a name is its shortest spelling. Serves laws::shortest_name.
pub mod NameWrites
-- A name is what stands behind its number, where that is UTF-8. Serves name::name_of.
pub mod NamesRead
-- One item behind the items that a loop has appended. Serves append::append_attribute, append::append_each_case, append::append_each_field, append::append_each_name and 1 more.
pub mod Sequences
-- A name of an import or an export, from what the steps that append it do. Serves append::append_attributed_name, append::append_attributes.
pub mod NamesWritten
-- Reading a number byte by byte, as a loop does. Serves number::unsigned_of.
pub mod Numbers
-- What is read by levels is read as the raw form that it is, and the other way round. Serves laws::bytes_are_taken, laws::levels; crates above.
pub mod PieceLaws
-- Items that are read one behind the other, as a loop reads them: those in front have been read, so many are still to be read. Serves crates above.
pub mod SequenceSteps
