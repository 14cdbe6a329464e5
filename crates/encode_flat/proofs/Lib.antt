-- Which declaration a name exports. Serves FlatSteps.
pub mod Exported
-- What one more addition says of the slots of a flat encoder. Serves encoder::define_function_type, encoder::defined_type, encoder::export_resource, encoder::export_type and 1 more.
pub mod FlatSteps
