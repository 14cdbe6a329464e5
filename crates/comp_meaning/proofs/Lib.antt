-- Numbers that stand for marks of a list, each once: they are as many as the marks exactly where each mark's number is among them. Serves EntryLaws, FunctionLists, Levelled.
pub mod Marks
-- The tests of Same say whether two meanings are equal. Serves laws::same_is_equal; crates above.
pub mod SameLaws
-- Functions of two lists without a repeated name: where one list has as many as the other and all of its functions stand in the other, both have the same functions, and make one map. Serves
-- laws::functions_agree; crates above.
pub mod FunctionLists
-- Views that agree with the first of their path agree with each other, since to show the same is to show what is equal. Serves laws::first_agrees; crates above.
pub mod AgreementLaws
-- What the worked examples share. Serves no function, only CornerExamples, IndexExamples, PlainExamples, ReadingExamples and 1 more.
pub mod Computing
-- Worked examples: aliases, attributes, unused definitions, resources and levels. Serves no function.
mod CornerExamples
-- What a declaration of a world does to its scope: one more slot, or one more that is seen. Serves EntryLaws; crates above.
pub mod StepLaws
-- The declarations of a world or an interface, followed as entries, stand for the scope that they stand for as raw forms. Serves laws::by_levels; crates above.
pub mod EntryLaws
-- Lemmas on the steps of following. Serves crates above.
pub mod FollowLemmas
-- Worked examples: numbers, indexes and names with attributes. Serves no function.
mod IndexExamples
-- The top of a component, followed by levels, is the top as its raw form is followed. Serves Levelled.
pub mod TopLaws
-- What has a meaning nests no deeper than the levels do, and means the same by levels. Serves laws::by_levels; crates above.
pub mod Levelled
-- What bytes mean is what reading them gives, so they mean one thing at most. Serves laws::one_meaning; crates above.
pub mod MeaningLaws
-- Worked examples: a package of one world with functions. Serves no function.
mod PlainExamples
-- Worked examples: what is read, and what is refused. Serves no function.
mod ReadingExamples
-- Lemmas on names that stand once. Serves crates above.
pub mod RulesLemmas
-- A worked example: two packages. Serves no function.
mod WholeExample
