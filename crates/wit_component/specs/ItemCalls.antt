-- What the calls on items of a world and on functions answer (WIT.md, "Worlds", "Resources").
pub use Rattle.wit_model.specs.Calls.{CanonicalPathsJoin, after_dot, gives_own, implemented, is_constructor_shorthand, is_shorthand, item_name, item_stability, named_interface, own_name_of}
