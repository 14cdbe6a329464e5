-- Tokens added one after another. Serves functions, functions::put_function, functions::put_function_kind, functions::put_functions and 32 more; crates above.
pub mod Adding
-- Tokens from whose front it can be told what they say. Serves KeysTold, Told.
pub mod Codes
-- Parts, and a last token behind them. Serves items::put_world.
mod Ending
-- The numbers of a valid `Resolve` are of 32 bits. Serves laws::nothing_else_is_lost.
pub mod Held
-- What types are, told from their tokens. Serves Told.
pub mod KindsRead
-- Entries, told from their tokens. Serves laws::nothing_else_is_lost.
pub mod Told
-- In a valid `Resolve` the keys of maps are told by what they lead to. Serves laws::valid_listings_keep_keys.
pub mod KeysTold
