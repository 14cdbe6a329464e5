-- What a call says, said of what is made of its answer. Serves merged::merged_modules, merged::merged_with_root, sent::carried, sent::replaces_itself.
mod Flows
-- The types of an interface, as they are handed in to be printed. Serves texts::print_types_of.
mod GivenTypes
-- The package of a world that is bound. Serves merged::home_of.
mod Homes
-- Types of an interface of which an instance stands can be encoded, and the encoder can be used on. Serves encoded::imported, encoded::type_of_import.
mod Importing
-- The text of the types of an interface that were printed. Serves texts::text_of_types.
mod Printing
