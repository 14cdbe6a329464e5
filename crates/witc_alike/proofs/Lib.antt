-- Sections of a module, read one after the other. Serves carried::section_data.
mod WalkLaws
-- All data of a module, one after the other. Serves carried::sections_data.
mod AllLaws
-- What readings tell. Serves kinds::kinds_of.
mod KindLaws
-- Worlds that have a sense, and what comes of two. Serves likeness::liken.
mod LikeLaws
