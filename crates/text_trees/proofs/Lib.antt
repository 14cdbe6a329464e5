-- What stands among tokens from a place on. Serves front::byte_at, front::token_at.
pub mod Ahead
-- Tokens that pass the test for a mark, a keyword or a word begin with it. Serves Complete, Finding, MarksFound.
pub mod Fronts
-- What follows a thing is shorter than what it stands in front of. Serves Complete, DeclaredComplete, FilesComplete, MarksComplete and 4 more.
pub mod Lengths
-- What is there is found: the steps that readers are made of, and lists. Serves DeclaredComplete, FilesComplete, Going, MarksComplete and 2 more.
pub mod Complete
-- Attributes, gates and what stands in front of items that are there by the grammar are found. Serves DeclaredComplete, Exact, FilesComplete.
pub mod MarksComplete
-- A type or signature that is there by the grammar is found. Serves DeclaredComplete, Exact.
pub mod TypesComplete
-- Paths, uses and declared types that are there by the grammar are found. Serves Exact, FilesComplete, TextsComplete.
pub mod DeclaredComplete
-- What readers find, by the steps that they are made of, and by lists. Serves DeclaredFound, Exact, FilesFound, Fitting and 6 more.
pub mod Finding
-- What readers of attributes, of gates and of what stands in front of items find is there by the grammar. Serves DeclaredFound, Exact, FilesFound, SteadyMarks.
pub mod MarksFound
-- What readers of types and signatures find is there by the grammar. Serves DeclaredFound, Exact, SteadyFiles.
pub mod TypesFound
-- What readers of paths, uses and declared types find is there by the grammar. Serves Exact, FilesFound, SteadyFiles.
pub mod DeclaredFound
-- Each text has room enough for its types. Serves Exact.
pub mod Enough
-- What readers of interfaces, worlds, packages and texts find is there by the grammar. Serves Exact, Extending, Fitting, SteadyFiles and 1 more.
pub mod FilesFound
-- With more room a reader finds the same, and it refuses the same but where a type had too many levels. Serves Exact.
pub mod Extending
-- What interfaces and worlds have by the grammar, and items, are found. Serves Exact, TextsComplete.
pub mod FilesComplete
-- No type that a reader finds has more levels than there is room for. Serves Exact.
pub mod Fitting
-- A reader answers alike for tokens that begin alike: up to the place where it stops, and at the first token there, or at `@` and the token behind it. Serves Exact, SteadyFiles, SteadyLists,
-- SteadyMarks.
pub mod Steady
-- Readers of lists answer alike for tokens that begin alike, where what they read is shorter each time. Serves OneByOne, SteadyFiles.
pub mod SteadyLists
-- Readers of attributes answer alike for tokens that begin alike. Serves SteadyFiles.
pub mod SteadyMarks
-- Readers of types, declared types, interfaces, worlds and texts answer alike for tokens that begin alike. Serves laws::lists_are_read_one_by_one.
pub mod SteadyFiles
-- Documentation makes no difference to where a reader stops, and to what it wants there. Serves Exact.
pub mod Stopping
-- Nested packages and texts that are there by the grammar are found. Serves Exact.
pub mod TextsComplete
-- Readers find exactly what is there. Serves laws::declared_types_are_read, laws::files_are_read, laws::items_are_read, laws::members_are_read and 4 more.
pub mod Exact
-- The gap in front of a place is the one in front of the token there, and its documentation that of the tokens from there on. Serves front::gap_at.
pub mod Gaps
-- Readings that go on, or are refused, as their first steps are. Serves declared, externs, externs::extern_behind_at, externs::extern_other_at and 36 more.
pub mod Going
-- Loops over lists with commas between. Serves lists::listed_at, parts::other_names_at, types.
pub mod Listings
-- Loops over attributes. Serves prefix::marks_at.
pub mod Marking
-- Lists are read thing by thing: how far the number in their definitions counts makes no difference. Serves laws::lists_are_read_one_by_one.
pub mod OneByOne
-- Tokens that stand at places are those that the places say. Serves laws::places_say_tokens.
pub mod Saying
-- The tokens of a text are found to be a file exactly where the text is read as that file, and a text has one reading at most. Serves laws::texts_are_read.
pub mod Texts
-- Reading a text stops at one byte, for one want. Serves laws::one_refusal.
pub mod OneRefusal
-- Loops over things up to what ends them. Serves lists::until_at.
pub mod Untils
-- Loops over the items and nested packages of a text, and what is read of a text in front of them. Serves packages::pieces_at, packages::text_at, packages::text_behind_at.
pub mod Pieces
-- What the grammar of printed text reads is read with documentation too, as the same tree but for the documentation. Serves PrintedTexts.
pub mod Printed
-- What is printed of a tree is found again, but for its documentation. Serves laws::printed_files_are_found, laws::printed_texts_are_read.
pub mod PrintedTexts
-- Worked examples: what is found in front of tokens, and what is wanted where. Serves no function.
mod ReaderExamples
-- The types of a tuple, as a row and as a list. Serves types::tuple_of; crates above.
pub mod Rows
-- A tree that is found is what the text's tokens are by the grammar. Serves read::read_tree, read::tree_of.
pub mod Trees
