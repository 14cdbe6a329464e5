-- The package that texts begin with. Serves packages::main_of, packages::read.
pub mod Mains
-- What stands in the way of a package of texts. Serves packages::encoded, packages::read, packages::texts_of; crates above.
pub mod Troubles
