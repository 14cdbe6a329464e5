-- Modules that are refused. Serves module::module_input, module::strip_input.
mod BindingsLaws
-- What the demo's package means. Serves demo::package, demo::world.
mod DemoLaws
-- What comes of all that a reader gives is what comes of these bytes. Serves compat::compare_input, module::module_input, module::strip_input, print::print_input.
mod InputLaws
-- The demo's package holds a world. Serves demo::demo_hex.
mod MemberLaws
-- What refusals that are passed on say. Serves compat::compare_input, print::print_input.
mod RefusedLaws
-- What the answers of the commands come to. Serves run, run::carry_out.
mod RunLaws
