-- What the sections of a component export that was given component types, each with its export. Serves export::export_component_type, laws::types_are_exported; crates above.
pub mod Exports
