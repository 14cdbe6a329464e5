-- What an iterator gives whose state shows the list of what is left. Serves given_types::print_listed.
pub mod Given
