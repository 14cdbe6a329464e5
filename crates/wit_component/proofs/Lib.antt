-- Bytes that mean a package show an interface or a world. Serves laws::encoding_keeps_that_meaning.
pub mod Nothing
-- What is decoded of the bytes of a package means what the package does. Serves laws::decoding_gives_that_meaning, laws::encoding_keeps_that_meaning.
pub mod ReadBackLaws
-- What a package is refused for where it is encoded without canonical names and decoded. Serves normal::normalized.
pub mod Refusing
-- What the bytes of a section means and says. Serves laws::carried_worlds_are_bound.
mod SectionLaws
