-- One of a list, by its place. Serves inputs::read_inputs; crates above.
pub mod AnyLaws
-- What is read of one name more. Serves inputs::read_inputs, inputs::read_texts.
mod InputLaws
-- What is told of a list, from a place on. Serves crates above.
pub mod TellLaws
