-- The package of a world. Serves worlds::encode, worlds::package_name.
mod Homes
-- A component with a world's wrapper behind a custom section means the world. Serves worlds::encode.
mod Carrying
-- Sections in front of bytes, those behind them, and those that carry no world. Serves modules::carried_in, modules::carries_world, modules::data_of, modules::section_of and 3 more; crates above.
pub mod ModuleLaws
-- What the custom sections of a component say, section by section. Serves laws::encodings_are_read_back, said::last_contents; crates above.
pub mod SaidLaws
-- A component in which a world has no room: the world, carried so, is too heavy. Serves worlds::encode.
mod Weighing
