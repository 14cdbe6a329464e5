-- Tables of names as they grow, and what is declared with them. Serves sources::add_file, sources::add_interface, sources::add_items, sources::add_nested and 10 more.
pub mod TableLaws
-- A walk along needs keeps what is said of it at each step, and comes to its end. Serves order::order_of, order::step.
pub mod WalkLaws
-- What paths mean, by the tables. Serves needs::add_need, needs::needs_of_interfaces, needs::needs_of_members, sources::interface_of and 1 more.
pub mod PathLaws
