-- Lists whose entries belong to each other, as they grow. Serves declared, declared::cases_of, declared::enum_cases_of, declared::fields_of and 5 more; crates above.
pub mod EachLaws
-- Functions that are put into a map, one behind the other. Serves members::add_all, members::add_declared_functions, members::add_functions.
pub mod AddedFunctions
-- What stands by a list of definitions stands by a longer one. Serves declared, declared::cases_of, declared::fields_of, declared::kind_of_declared and 11 more; crates above.
pub mod Growth
-- What names stand for, as types are made. Serves members, scope, scope::add, scope::made and 3 more; crates above.
pub mod ScopeLaws
-- Types that are added to a scope, one behind the other. Serves members::add_types, scope::add_use; crates above.
pub mod AddedLaws
-- What is declared, as definitions grow. Serves declared::add_declared, declared::cases_of, declared::fields_of, declared::kind_of_declared and 1 more; crates above.
pub mod DeclaredLaws
-- What trees of types are, by what is met of them. Serves lowering::kind_of, lowering::lowered_if_given, lowering::types.
pub mod FormLaws
-- What functions are, by their parts, and as definitions grow. Serves functions::constructed, functions::constructor_of, functions::function_of, functions::functions_of_resource and 3 more.
pub mod FunctionLaws
-- What is made of members, as definitions grow and as targets and lookups carry over. Serves scope::make_all; crates above.
pub mod MadeLaws
-- Types of a scope, as they are made one by one. Serves members::add_used, scope::make, scope::make_used; crates above.
pub mod MakingLaws
-- What is made of the members of an interface, or of a world. Serves members::members_of.
pub mod MembersMade
-- What types need, by their places. Serves needs, scope::all_needs, scope::order.
pub mod NeedLaws
-- Types of a scope, made in an order in which each stands once. Serves scope::make_all.
pub mod OrderedTypes
-- Which interface a path means, as its text says it. Serves members::add_used; crates above.
pub mod PathLaws
-- Strings as they are read, byte by byte. Serves strings::characters_of, strings::read_on.
pub mod Quotes
-- The types of a tuple, as a row and as a list. Serves lowering::types.
pub mod Rows
