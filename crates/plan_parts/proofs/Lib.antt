-- Lists that go pair by pair, and functions that are told, added to a set one by one. Serves agreement::add_told, agreement::is_told, agreement::same_functions.
pub mod AgreementLaws
-- The kinds of functions by their names: of one resource alone, as what may stand behind some resources is. Serves functions::function_of, functions::params_of, laws::functions_become,
-- laws::kinds_are_named; crates above.
pub mod FunctionLaws
-- Kinds of types as the plan's types declare them. Serves laws::kinds_are_declared; crates above.
pub mod DeclaredKinds
-- Views that agree with the first of their place agree with each other, in numbers: a number stands for a tree of its own here, so that what is known of trees holds of numbers. Serves
-- laws::first_views_tell; crates above.
pub mod FirstAgreement
-- The types and the functions of an interface, one after the other. Serves interfaces::functions_of, interfaces::note_resource, interfaces::types_of; crates above.
pub mod InterfaceLaws
-- Marked numbers, each with its place among them. Serves kept::counted, kept::number, kept::of.
pub mod KeptLaws
-- Forms over the new numbers of their parts. Serves kinds::cases_of, kinds::fields_of, kinds::given_of, kinds::kind_of_declared and 7 more.
pub mod KindLaws
-- The functions of an interface that obeys the rules, as those of a plan. Serves laws::functions_are_listed.
pub mod ListedFunctions
-- Types that are used: each is marked once the types behind it have been looked at. Serves marks::close.
pub mod MarkLaws
-- Views that are each compared with the first of their place. Serves sights::agree, sights::first_tables; crates above.
pub mod SightLaws
-- The first of each place. Serves views::first_views, views::note_views.
pub mod ViewLaws
