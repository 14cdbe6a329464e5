-- What is kept under keys is a map by their texts. Serves table::at_number, table::at_twice, table::insert, table::search.
pub mod Kept
-- The least key that has two encodings, found one entry after the other; and encodings added to others. Serves table::conflict.
pub mod Conflicts
-- Keys compared part by part. Serves keys::after_interface, keys::after_names, keys::after_path, keys::is_function_key and 9 more.
pub mod KeyTexts
-- The last slash of a text. Serves table::at_last_slash.
pub mod LastSlashes
-- Keys of a table are the same where their whole texts are. Serves table::at, table::at_key, table::at_number, table::numbers_here.
pub mod TableKeys
-- Entries of a table are found and put by the whole texts of their keys. Serves table::at_number, table::at_twice, table::conflict, table::insert and 2 more.
pub mod TableEntries
-- Texts that get numbers, and entries of one table under the numbers of another. Serves table::add, table::at_key, table::number_all, table::numbered.
pub mod TableMeet
-- The pieces of a version's canonical part are its text. Serves versions::after_at_version, versions::after_identifier, versions::push_at_version.
pub mod VersionTexts
