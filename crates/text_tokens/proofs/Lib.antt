-- Blanks and comments at a place of a text. Serves lexer::block_end, lexer::comment_end.
pub mod CommentFacts
-- Runs of a machine over bytes, and what two tests of parts say of them. Serves MarkScans, NumberScans, PartScans, QuoteScans and 2 more.
pub mod Runs
-- A scan of strings is what the grammar says of them. Serves MarkScans, TokenScans.
pub mod QuoteScans
-- A scan of marks is what the grammar says of them. Serves TokenScans.
pub mod MarkScans
-- What stands between two dots of a version, byte by byte: numerals and identifiers. Serves NumberScans, TokenScans.
pub mod PartScans
-- A scan of digits and versions is what the grammar says of them. Serves TokenScans.
pub mod NumberScans
-- A scan of fragments is what the grammar says of them. Serves TokenScans.
pub mod WordScans
-- A scan finds the longest token. Serves CutTexts, EndFacts, PlaceFacts, PrintedTokens.
pub mod TokenScans
-- The loop of a scan: where the longest token ends. Serves state::token_end.
pub mod EndFacts
-- What stands at the front of a text that begins with a byte, by its tests. Serves docs::add_docs, lexer::front_at.
pub mod Fronts
-- Tokens with their places: more of them, and what a text with a place where none begins is. Serves lexer::token_front, lexer::tokens.
pub mod PlaceFacts
-- The tokens up to a place are those of the text that is cut there. Serves lexer::tokens.
pub mod CutTexts
-- Lines that are written with a line feed behind each are the lines of that text, also without the last line feed where the last line has bytes. Serves docs::cut_last, docs::docs_with.
pub mod DocLines
-- What a comment documents: lines with no line feed in them and no carriage return at their end. Serves docs::add_block_docs, docs::add_line_docs, docs::add_lines, docs::without_returns and 1 more.
pub mod DocSteps
-- The documentation in a gap, comment by comment. Serves docs::add_block, docs::add_comment, docs::add_docs, docs::documentation.
pub mod DocGaps
-- The keyword of a word. Serves keyword::keyword_of.
pub mod KeywordFacts
-- What a token is, by its text. Serves keyword::keyword_of, lexer::kind_of, lexer::number_kind, lexer::word_kind.
pub mod KindFacts
-- A text has its tokens at one list of places, and one first byte at most at which none begins. Serves laws::one_answer.
pub mod OneAnswer
-- A text that the grammar of printed text reads as tokens has the same tokens with gaps: no comment in `/* */` stands in it. Serves laws::printed_tokens_stay.
pub mod PrintedTokens
