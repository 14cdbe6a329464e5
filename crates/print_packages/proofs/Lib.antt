-- Functions by the resources that they belong to. Serves types::print_owned_types.
pub mod ByResource
-- The functions of an interface, one after the other. Serves interface::print_functions, interface::print_interface_body, interface::write_function.
pub mod Functions
-- One type that is handed in after the other is printed. Serves declaration::print_declarations, given_types::print_given_types.
pub mod GivenSteps
-- What is shown of worlds and packages, and its calls. Serves file::print_nested_packages, package::print_listed, package::print_listed_interface, package::print_whole_package.
pub mod PackageCalls
-- What is known of an import or an export that can be printed. Serves extern_item::print_labelled, items::print_imported_function, items::print_imported_interface, items::print_item.
pub mod PrintableItems
-- What is shown of a valid `Resolve`'s worlds is well named. Serves items::print_imported_function, items::print_imported_interface; crates above.
pub mod ValidWorlds
-- What is shown of valid packages is well named, and so is read as it stands. Serves ValidPrintable; crates above.
pub mod ValidFiles
-- What validity says of a `Resolve`: its worlds and interfaces can be printed. Serves package::print_whole_package.
pub mod ValidPrintable
