-- What an encoder of interfaces leaves: behind aliases, an instance type, and an import that uses it, it can be used on. Serves encoder::begin, laws::definitions_leave_interfaces.
pub mod Leaving
-- What the calls of an encoder of interfaces leave, and what they add. Serves encoder::encode_instance, encoder::import_all, encoder::import_first.
pub mod Calls
-- Interfaces imported one after the other. Serves encoder::import_all.
pub mod Chain
