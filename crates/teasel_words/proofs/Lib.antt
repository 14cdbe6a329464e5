-- Values that are joined to a short name. Serves asked::joined.
mod Joined
-- The words from a place on, and one step over them. Serves asked::follow, asked::next_word.
mod Places
-- What comes of the words behind a first word, and of all words. Serves asked::read_rest, asked::read_words.
mod Reading
