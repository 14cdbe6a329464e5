-- Places of a text, as lines and columns.
use Rattle.std.specs.Prelude.{◌+◌, ◌==◌, ◌||◌, not, ℕ, Bool, nat_lt, List, take, reverse, count_by, if◌then◌else◌}
use Rattle.std.specs.List.{take_while}

-- whether a byte is a line feed
abbrev pub is_line_feed : ℕ → Bool
is_line_feed b = b == 10

-- whether a character of UTF-8 begins with this byte
abbrev pub begins_character : ℕ → Bool
begins_character b = nat_lt b 128 || not (nat_lt b 192)

-- how many characters have begun since the last line feed, with one byte more
abbrev pub since_line_feed : ℕ → ℕ → ℕ
since_line_feed n b = if is_line_feed b then 0 else (if begins_character b then n + 1 else n)

-- whether a byte is part of a line
abbrev pub is_in_line : ℕ → Bool
is_in_line b = not (is_line_feed b)

-- the bytes of the line of this byte that stand before it, the nearest first
abbrev pub line_before : List ℕ → ℕ → List ℕ
line_before text at = take_while is_in_line (reverse (take at text))

-- the line of this byte: the line feeds before it, and one
abbrev pub line_of : List ℕ → ℕ → ℕ
line_of text at = count_by is_line_feed (take at text) + 1

-- the column of this byte: the characters that begin before it in its line, and one
abbrev pub column_of : List ℕ → ℕ → ℕ
column_of text at = count_by begins_character (line_before text at) + 1
