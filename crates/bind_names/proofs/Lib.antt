-- A copied name is the name, and a table gains the names of packages one by one. Serves named::add_package, named::add_packages.
pub mod Names
