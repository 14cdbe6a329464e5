-- What the sections of a module bind has no documentation, and no known stability. Serves modules::decode.
mod Bare
-- What is known of bindings behind each section of a module. Serves modules::bind_carried, modules::bind_front, modules::bind_section, modules::bindings and 3 more.
mod BoundTo
-- Packages that were known by their names are known when a `Resolve` has grown. Serves named::merge_named.
pub mod KnownNames
-- When a list would get too long: where what a section binds is merged, and nowhere else. Serves modules::bind_section, modules::decode.
mod Reached
-- Why the data of a section is refused. Serves sections::decode_section.
mod SectionLaws
