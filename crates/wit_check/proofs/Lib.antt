-- What an answer of `check` says. Serves ResolveCheck::check.
pub mod Answers
