-- A module binds one thing at most, and what binds something isn't refused. Serves laws::bound_once.
pub mod BoundLaws
-- How a module is read, section by section. Serves laws::modules_are_read_in_order; crates above.
pub mod Steps
-- Which section of a module is refused: one at most, and none where all are bound. Serves laws::one_refused_section.
pub mod BlamedLaws
-- What is bound of the data of a section is the binding of the world that it means. Serves laws::sections_bind_their_worlds.
pub mod BoundWorlds
-- What the data of one section binds. Serves laws::one_section_binds.
pub mod SectionWorlds
-- What `decode` knows after each call: of `decode_section`, and of `merge`, at Ok and at a refusal. Serves crates above.
pub mod DecodeSteps
-- What sections bind is what comes of the bindings that their data mean, in each order. Serves laws::any_order.
pub mod Folding
-- Worked examples: what modules bind, or are refused for, and what the data of a section says of its encoding. Serves no function.
mod ModuleExamples
-- Bindings unite or clash, and lists of them are bound exactly where no two clash. Serves laws::any_order.
pub mod Orders
-- What bytes mean as one world, bound, is a binding, and so is what a module binds. Serves laws::bound_are_bindings.
pub mod ReadBindings
