-- Tests of every byte of a text. Serves TokenFacts, VersionFacts.
pub mod ByteTests
-- What the worked examples share: the tokens of a text, computed, and small trees. Serves no function, only DeclaredExamples, ReadingExamples, TextExamples.
pub mod Scanned
-- Worked examples: the tokens and the tree of a text with every kind of declared type but a record. Serves no function.
mod DeclaredExamples
-- The text that calls append, from the front on. Serves FileReads, PathReads, PrefixReads, Printing and 2 more.
pub mod TextOf
-- Which token begins a text, and where it ends. Serves DeclaredReads, FileReads, MemberReads, PathReads and 5 more.
pub mod TokenFacts
-- Calls whose text begins with tokens: one call, and then what follows it. Serves DeclaredReads, FileReads, MemberReads, PathReads and 3 more.
pub mod Printing
-- The text of a version is one token. Serves PathReads, PrefixReads, TypeTokens.
pub mod VersionFacts
-- What is printed in front of an item is read as it: documentation, gates. Serves DeclaredReads, FileReads, MemberReads.
pub mod PrefixReads
-- A list of tokens begins with at most one type, where what follows doesn't go on with it. Serves DeclaredReads, GrammarUnique, ListsUnique, PrefixUnique and 1 more.
pub mod TypeTokens
-- What is printed of a signature is read as it: lists with commas between, parameters, results. Serves DeclaredReads, FileReads, MemberReads, PathReads.
pub mod SignatureReads
-- What is printed of a declared type is read as it. Serves FileReads, MemberReads.
pub mod DeclaredReads
-- A list of tokens begins with at most one list, parameter list, result or signature. Serves GrammarUnique, PrefixUnique.
pub mod ListsUnique
-- A list of tokens begins with at most one prefix, path, use or declared type. Serves GrammarUnique.
pub mod PrefixUnique
-- A list of tokens is at most one file, and a text at most one. Serves laws::one_reading.
pub mod GrammarUnique
-- What is printed of a path and of a use is read as it. Serves FileReads, MemberReads.
pub mod PathReads
-- What is printed of what interfaces and worlds have is read as it. Serves FileReads.
pub mod MemberReads
-- What is printed of a file is read as it. Serves laws::well_named_file_reads; crates above.
pub mod FileReads
-- A word is a keyword where it is the text of one. Serves escape::is_keyword.
pub mod Keywords
-- Worked examples: the tokens and the tree of short texts. Serves no function.
mod ReadingExamples
-- Worked examples: the tokens and the trees of texts of every kind: types, strings with escapes, nested packages. Serves no function.
mod TextExamples
