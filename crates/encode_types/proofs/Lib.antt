-- Kinds that are the same declare the same tree. Serves Agree, EqualLists; crates above.
pub mod KindLaws
-- Equal lists are those of equal kinds, and of equal keys of functions. Serves laws::equal_lists; crates above.
pub mod EqualLists
-- Lists, element by element. Serves Aliasing, Ascending, Defining, Learning and 5 more; crates above.
pub mod Lists
-- Ordered maps as lists of entries: what is found, what isn't, and what is added. Serves maps::index_of, maps::index_of_key, maps::index_of_kind, maps::list_of_key and 5 more; crates above.
pub mod Tables
-- Maps that agree with slots, over what a call adds. Serves lend::list_of_key, lend::remember_id, lend::remember_key, lend::remember_kind and 4 more; crates above.
pub mod Agree
-- Aliases that are made in the scope around. Serves Aliasing, Defining; crates above.
pub mod Around
-- The order in which types are defined, made step by step. Serves number_map::reserve, plan, plan::has, plan::order_of and 1 more; crates above.
pub mod Planning
-- The loop that defines what types need, in order. Serves Aliasing, Learning, Rooms; crates above.
pub mod Encoding
-- Lists of which each element stands in a relation with each later one. Serves Rooms; crates above.
pub mod Pairs
-- How much an encoder holds, and what it has no room for, call after call. Serves Aliasing; crates above.
pub mod Rooms
-- Aliases of what is met. Serves crates above.
pub mod Aliasing
-- What a search finds in an ascending list. Serves number_map::get, number_map::insert, number_map::is_above, number_map::reserve and 1 more.
pub mod Ascending
-- Which definition is which, call by call. Serves Defining, Functions, Stopping; crates above.
pub mod Marking
-- What is written with the indexes of the maps stands for its tree. Serves definition, definition::cases_in, definition::fields_in, definition::handle_in and 2 more; crates above.
pub mod Written
-- What is defined, call by call. Serves Functions, Stopping; crates above.
pub mod Defining
-- Types of functions by their keys. Serves crates above.
pub mod Functions
-- A loop that feeds a hasher parameter by parameter. Serves key::eq, key::hash_params.
pub mod KeySteps
-- How much an encoder has written, call after call. Serves Learning; crates above.
pub mod Writing
-- What maps learn, call by call. Serves crates above.
pub mod Learning
-- A type of the place, from what fits the scope. Serves crates above.
pub mod Owning
-- What is left where a call is refused. Serves crates above.
pub mod Stopping
